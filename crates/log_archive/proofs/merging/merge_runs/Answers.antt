use Rattle.std.proofs.Common.{List, sym, subst, ◌∙◌, ℕ, ◌<◌, ◌^◌, length}
use Rattle.log_archive.specs.Items.{chunks_by}
use Rattle.log_archive.specs.Merging.{items_in}
use Rattle.log_archive.specs.Run.{run_bytes, run_name}
use Rattle.log_archive.specs.Shelves.{Holds, Shelved}
use Rattle.log_archive.proofs.Merged.{may_same, stores_same, whatever}
use Rattle.log_archive.proofs.merging.merge_runs.Goals as goal

pub returns-clause-stored : goal.returns-clause-stored
returns-clause-stored g c = λ tells css are.
    let holds = subst (λ (l : List Shelved). Holds l (items_in css)) (sym c.deref.ensures.value) (c.in_ok-shelves.ensures.held tells css are) in
    let spelled = c.deref-2.ensures.value ∙ c.in_ok-bytes.ensures.spelled (items_in css) holds ∙ (λ j. run_bytes c.args.run (c.first_in.ensures j) (c.last_in.ensures j) (chunks_by (items_in css))) in
    stores_same c.store_object.result c.run_name.result (run_name c.args.run) c.deref-2.result.now _ (g.V.Vault.told c.args.vault.now) (g.V.Vault.told c.gather_parts.new.vault) (g.V.Vault.told c.store_object.new.vault)
    (c.store_object.ensures.stored tells) (λ name. c.in_ok-shelves.ensures.same tells name) c.run_name.ensures spelled

pub returns-clause-may_store : goal.returns-clause-may_store
returns-clause-may_store g c = λ tells. (
  c.deref-2.result.now,
  may_same c.run_name.result (run_name c.args.run) c.deref-2.result.now (g.V.Vault.told c.args.vault.now) (g.V.Vault.told c.gather_parts.new.vault) (g.V.Vault.told c.store_object.new.vault)
      (c.store_object.ensures.may_store tells) (λ name. c.in_ok-shelves.ensures.same tells name) c.run_name.ensures,
)

pub returns-clause-short : goal.returns-clause-short
returns-clause-short g c = λ tells css are.
    let holds = subst (λ (l : List Shelved). Holds l (items_in css)) (sym c.deref.ensures.value) (c.in_ok-shelves.ensures.held tells css are) in
    let spelled = c.in_ok-bytes.ensures.spelled (items_in css) holds ∙ (λ j. run_bytes c.args.run (c.first_in.ensures j) (c.last_in.ensures j) (chunks_by (items_in css))) in
    whatever c.store_object.result (subst (λ (l : List ℕ). length l < 2 ^ 32) spelled c.in_ok-bytes.ensures.short)
