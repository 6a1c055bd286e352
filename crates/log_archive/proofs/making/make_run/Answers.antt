use Rattle.std.proofs.Common.{sym, subst}
use Rattle.std.specs.Prelude.{OnOk}
use Rattle.store_model.specs.declared.object.ObjectName.{ObjectName}
use Rattle.vault_objects.specs.Stored.{Stores}
use Rattle.log_archive.specs.Answers.{SpellsRun}
use Rattle.log_archive.proofs.Gathering.{stores_run}
use Rattle.log_archive.proofs.making.make_run.Goals as goal

pub returns-clause-stored : goal.returns-clause-stored
returns-clause-stored g c = λ tells.
    let old = g.V.Vault.told c.args.vault.now in
    let new = g.V.Vault.told c.store_object.new.vault in
    stores_run (g.R.Reads.answers c.args.log.now) c.args.run c.args.first c.args.last c.deref.result.now old new c.store_object.result (subst (SpellsRun (g.R.Reads.answers c.args.log.now) c.args.run c.args.first c.args.last) (sym c.deref.ensures.value) c.in_ok-bytes.ensures.bytes)
    (subst (λ (name : ObjectName). OnOk c.store_object.result (Stores name c.deref.result.now old new)) c.run_name.ensures (c.store_object.ensures.stored tells))
