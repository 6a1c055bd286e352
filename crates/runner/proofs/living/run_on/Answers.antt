use Rattle.std.proofs.Common.{subst, sym, ap, ◌∙◌}
use Rattle.log_manager.specs.Managed.{Managed}
use Rattle.life_commands.specs.declared.status.Status.TheVariants as statuses
use Rattle.life_commands.specs.LogDisk.{IsWhole, seen}
use Rattle.life_commands.specs.Living.{Within}
use Rattle.life_commands.specs.Stores.{stores}
use Rattle.life_commands.specs.Turns.{stage}
use Rattle.runner.specs.Clause.{HandsBack, Headline}
use Rattle.runner.specs.Vault.{WithVault}
use Rattle.runner.proofs.Stores.{are_earlier, are_named}
use Rattle.runner.proofs.Insides.{within_begun}
use Rattle.runner.proofs.Places.{rests_begun}
use Rattle.runner.proofs.Runs.{between_as, ends_here}
use Rattle.runner.proofs.living.run_on.Goals as goal

pub open_life-requires-clause-told : goal.open_life-requires-clause-told
open_life-requires-clause-told g c = λ opening may. ((c.requires.opens opening).0 may).told

pub open_life-requires-clause-images : goal.open_life-requires-clause-images
open_life-requires-clause-images g c = λ _. are_earlier g.N.Life.opens g.D.PageDevice.told c.args.pages (λ opening may. ((c.requires.opens opening).0 may).stores.0)

pub open_life-requires-clause-objects : goal.open_life-requires-clause-objects
open_life-requires-clause-objects g c = λ _. are_named g.N.Life.opens g.V.Vault.told c.args.vault (λ opening may. ((c.requires.opens opening).0 may).stores.1)

pub run_life-requires-clause-told : goal.run_life-requires-clause-told
run_life-requires-clause-told g c = λ opening may. ((c.requires.opens opening).0 may).told

pub returns-in-Ok-clause-turns : goal.returns-in-Ok-clause-turns
returns-in-Ok-clause-turns g c = λ v start left told turns b.
    c.run_life.ensures.turns v start left told turns
    (between_as (WithVault c.args.armed.now (Within (seen g.L.Disk v) g.N.Life.opens c.in-Ok.life)) (record {
      here = within_begun g.L.Disk g.D.PageDevice g.V.Vault v g.N.Life.opens c.args.opened (c.args.pages, c.args.vault) c.into_log-log.result.log c.in-Ok.life (stage start turns) (λ opening begins. (c.requires.opens opening).1 begins) c.into_log-log.ensures.is.0 c.in-Ok.ensures.begins b.holds.here;
      vault = b.holds.vault;
    }) b)

pub returns-in-Err-clause-turns : goal.returns-in-Err-clause-turns
returns-in-Err-clause-turns g c = λ v start left told turns b.
    let B = stores g.D.PageDevice g.V.Vault in
    let ended = λ (d : g.row.L.Denot) (e : g.row.D.Denot) (f : g.row.V.Denot). Headline (IsWhole v) start (HandsBack g.L.Disk.tells (seen g.L.Disk v) B d (e, f)) left c.args.input.now.pending (g.S.Source.left c.args.source.now) told (g.K.Sink.told c.args.sink.now) statuses.Memory in
    let refused = c.in-Err.ensures.refused in
    let log = ap (λ r. r.log) refused ∙ ap (λ (m : Managed g.row.L.Denot). m.log.device) c.into_log-log.ensures.is.0 in
    let device = ap (λ r. r.device) refused in
    let vault = ap (λ r. r.vault) refused in
    subst (λ (d : g.row.L.Denot). ended d c.in-Err.refused.device c.in-Err.refused.vault) (sym log) (subst (λ (e : g.row.D.Denot). ended c.args.opened.log.log.device e c.in-Err.refused.vault) (sym device)
    (subst (λ (f : g.row.V.Denot). ended c.args.opened.log.log.device c.args.pages f) (sym vault)
    (ends_here g.L.Disk.tells (seen g.L.Disk v) B 0 c.args.opened.log.log.device (c.args.pages, c.args.vault) b (rests_begun g.L.Disk.tells (seen g.L.Disk v) B (c.args.pages, c.args.vault) c.args.opened (stage start turns) b.holds.here))))
