use Rattle.std.proofs.Common.{◌≡◌, ◌+◌, List, length, get_or, take, refl, sym, ap, subst, ◌∙◌, arith}
use Rattle.std.proofs.lemmas.List.{take_all}
use Rattle.std.proofs.lemmas.Result.{err_from_is_err_and}
use Rattle.media.proofs.Blaming.{no_call, then_more}
use Rattle.media.specs.Objects.{bytes_of}
use Rattle.store_model.specs.declared.object.ObjectName.{ObjectName}
use Rattle.wal_record.specs.declared.analysis.Run.{Run}
use Rattle.log_archive.specs.Items.{Chunk}
use Rattle.log_archive.specs.Merging.{items_in}
use Rattle.log_archive.specs.Run.{IsRun}
use Rattle.log_archive.specs.Shelves.{Shelved, shelf_at}
use Rattle.log_archive.proofs.Filled.{holds_same}
use Rattle.log_archive.proofs.Merged.{bad_part, is_part, items_more, part_at, parts_length}
use Rattle.log_archive.proofs.merging.gather_parts.Goals as goal

pub loop-part-init : goal.loop-part-init
loop-part-init g c = record {
  held = λ tells css are. record { each = λ p. ap (λ (l : List Shelved). shelf_at l p) c.new-shelves.ensures.items; few = omega (arith, ap length c.new-shelves.ensures.items) };
  few = omega (arith, ap length c.new-shelves.ensures.items);
  same = λ tells name. refl;
  later = omega arith;
  blames = no_call g.V.Vault.passes g.V.Vault.refused g.V.Vault.own c.args.vault.now ⊥ (λ x. x);
}

pub loop-part-preserved : goal.loop-part-preserved
loop-part-preserved g c =
    let inv = c.loop-part.invariant in
    record {
      held = λ tells css are.
          let at = part_at (g.V.Vault.told c.args.vault.now) c.args.parts.now css c.loop-part.part-index (record { run = 0; first = 0; last = 0 }) are c.loop-part-test.true in
          let got = c.deref.ensures.value ∙ c.in_ok-bytes.ensures.bytes tells ∙ ap bytes_of (inv.same tells c.run_name.result) ∙ ap (λ (n : ObjectName). bytes_of (g.V.Vault.told c.args.vault.now n)) c.run_name.ensures in
          let is = subst (IsRun _ _ _ at.chunks) (sym got) at.is in
          holds_same _ _ (items_in (take (c.loop-part.part-index + 1) css)) (λ p. items_more css c.loop-part.part-index at.chunks p at.next)
          (c.in_ok-add_run.ensures.added _ _ at.chunks is (items_in (take c.loop-part.part-index css)) (inv.held tells css are));
      few = c.in_ok-add_run.ensures.few inv.few;
      same = λ tells name. c.in_ok-bytes.ensures.same tells name ∙ inv.same tells name;
      later = omega (arith, c.in_ok-bytes.ensures.later, inv.later);
      blames = then_more g.V.Vault.passes g.V.Vault.refused g.V.Vault.own c.args.vault.now c.loop-part.vault c.read_object.new.vault ⊥ ⊥ inv.blames (λ none. none) c.in_ok-bytes.ensures.fuse;
    }

pub returns-clause-held : goal.returns-clause-held
returns-clause-held g c = λ tells css are.
    let all : take c.loop-part.part-index css ≡ css = take_all c.loop-part.part-index css (omega (arith, c.loop-part-test.false, parts_length (g.V.Vault.told c.args.vault.now) c.args.parts.now css are)) in
    holds_same _ _ (items_in css) (λ p. ap (λ (l : List (List Chunk)). items_in l p) all) (c.loop-part.invariant.held tells css are)

pub returns-in_err-add_run-clause-refused : goal.returns-in_err-add_run-clause-refused
returns-in_err-add_run-clause-refused g c =
    let part : Run = get_or c.args.parts.now c.loop-part.part-index (record { run = 0; first = 0; last = 0 }) in
    let p = err_from_is_err_and c.from_residual-in_err-add_run.result c.from_residual-in_err-add_run.ensures.1 in
    rw (p.1, p.2) (bad_part g.V.Vault.tells (g.V.Vault.told c.args.vault.now) c.args.parts.now part c.deref.result.now _ _ _ (is_part c.args.parts.now c.loop-part.part-index (record { run = 0; first = 0; last = 0 }) c.loop-part-test.true)
    (λ tells. c.deref.ensures.value ∙ c.in_ok-bytes.ensures.bytes tells ∙ ap bytes_of (c.loop-part.invariant.same tells c.run_name.result) ∙ ap (λ (n : ObjectName). bytes_of (g.V.Vault.told c.args.vault.now n)) c.run_name.ensures)
    c.in_err-add_run.ensures.refused)
