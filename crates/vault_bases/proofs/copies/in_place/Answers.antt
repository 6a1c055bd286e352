use Rattle.std.proofs.Common.{◌≡◌, take, Option, sym, subst, ◌∙◌}
use Rattle.std.specs.Prelude.{IfSome}
use Rattle.std.proofs.lemmas.Result.{err_from_is_err_and}
use Rattle.segment_restore.proofs.Chains.{open_then, upheld_both}
use Rattle.vault_bases.proofs.Failing.{gives_later}
use Rattle.page_image.specs.Image.{image_bytes}
use Rattle.page_image.specs.declared.sealed.Sealed.{Sealed}
use Rattle.vault_bases.specs.Named.{IsCopyIn}
use Rattle.vault_bases.proofs.Pieces.{copy_in_place, first_bytes}
use Rattle.vault_bases.proofs.copies.in_place.Goals as goal

pub returns-in_err-image-clause-entered : goal.returns-in_err-image-clause-entered
returns-in_err-image-clause-entered g c = upheld_both _ _ _ _ _ _ _ _ _ c.read_named.ensures.entered c.read_named-2.ensures.entered

pub returns-in_err-image-clause-open : goal.returns-in_err-image-clause-open
returns-in_err-image-clause-open g c = open_then _ _ _ c.read_named.ensures.open c.read_named-2.ensures.open

pub returns-in_err-image-clause-refused : goal.returns-in_err-image-clause-refused
returns-in_err-image-clause-refused g c =
    let p = err_from_is_err_and c.from_residual-in_err-image.result c.from_residual-in_err-image.ensures.1 in
    rw (p.1, p.2) (gives_later _ _ _ _ _ _ _ _ c.read_named.ensures.faults c.read_named.ensures.vault c.in_err-image.ensures.refused)

pub returns-in_err-found-clause-entered : goal.returns-in_err-found-clause-entered
returns-in_err-found-clause-entered g c = upheld_both _ _ _ _ _ _ _ _ _ c.read_named.ensures.entered c.read_named-2.ensures.entered

pub returns-in_err-found-clause-open : goal.returns-in_err-found-clause-open
returns-in_err-found-clause-open g c = open_then _ _ _ c.read_named.ensures.open c.read_named-2.ensures.open

pub returns-in_default-clause-entered : goal.returns-in_default-clause-entered
returns-in_default-clause-entered g c = upheld_both _ _ _ _ _ _ _ _ _ c.read_named.ensures.entered c.read_named-2.ensures.entered

pub returns-in_default-clause-open : goal.returns-in_default-clause-open
returns-in_default-clause-open g c = open_then _ _ _ c.read_named.ensures.open c.read_named-2.ensures.open

pub returns-clause-entered : goal.returns-clause-entered
returns-clause-entered g c = upheld_both _ _ _ _ _ _ _ _ _ c.read_named.ensures.entered c.read_named-2.ensures.entered

pub returns-clause-open : goal.returns-clause-open
returns-clause-open g c = open_then _ _ _ c.read_named.ensures.open c.read_named-2.ensures.open

pub returns-clause-copy : goal.returns-clause-copy
returns-clause-copy g c =
    let u = c.read_named.ensures.entered in
    let v = c.read_named-2.ensures.entered in
    let found = copy_in_place g.N.Life.opens c.args.pass.now.log c.read_named.new.pass.log c.read_named-2.new.pass.log (u.gained, sym u.is) (v.gained, sym v.is) c.args.page c.args.backup c.ranges.page.fits c.ranges.backup.fits c.object_of-name.result c.object_of-name.ensures c.image_place-place.result c.image_place-place.ensures
    c.deref.result.now c.deref-2.result.now (λ opening bytes stands n. c.deref.ensures.value ∙ c.in_ok-head.ensures.bytes opening bytes stands n) (λ opening bytes stands n. c.deref-2.ensures.value ∙ c.in_ok-image.ensures.bytes opening bytes stands n)
    c.in_ok-found.found c.in_ok-found.ensures.held c.in_ok-found.ensures.rules in
    record {
      copy = subst (λ (o : Option Sealed). IfSome o (IsCopyIn g.N.Life.opens c.args.pass.now.log c.args.page c.args.backup)) c.in-Some.is found;
      bytes = first_bytes c.first_image.result c.deref-3.result.now _ _ c.first_image.ensures (c.deref-3.ensures.value ∙ sym c.deref-2.ensures.value)
          (subst (λ (o : Option Sealed). IfSome o (λ x. take 4096 c.deref-2.result.now ≡ image_bytes c.args.page x.lsn x.state)) c.in-Some.is c.in_ok-found.ensures.image);
    }
