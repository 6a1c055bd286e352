use Rattle.std.proofs.Common.{subst, sym}
use Rattle.life_commands.specs.declared.status.Status.TheVariants as statuses
use Rattle.life_commands.specs.LogDisk.{IsWhole, seen}
use Rattle.life_commands.specs.Stores.{stores}
use Rattle.life_commands.specs.Turns.{stage}
use Rattle.runner.specs.declared.at.At.TheVariants.{Inside, Outside}
use Rattle.runner.specs.Clause.{HandsBack, Headline}
use Rattle.runner.specs.Machine.{Begun}
use Rattle.runner.proofs.Places.{rests_begun}
use Rattle.runner.proofs.Runs.{between_at, ends_here}
use Rattle.runner.proofs.living.run_from.Goals as goal

pub returns-in-Outside-clause-turns : goal.returns-in-Outside-clause-turns
returns-in-Outside-clause-turns g c = λ v start left told turns b.
    (turns, between_at g.L.Disk.tells (seen g.L.Disk v) (Begun g.L.Disk.tells (seen g.L.Disk v)) c.args.armed.now c.args.at (Outside c.in-Outside.disk) c.in-Outside.is b)

pub run_named-requires-clause-opens : goal.run_named-requires-clause-opens
run_named-requires-clause-opens g c = λ opening. ((λ begins. begins), (λ begins. begins))

pub returns-in-Ok-clause-turns : goal.returns-in-Ok-clause-turns
returns-in-Ok-clause-turns g c = λ v start left told turns b.
    c.run_named.ensures.turns v start left told turns (between_at g.L.Disk.tells (seen g.L.Disk v) (Begun g.L.Disk.tells (seen g.L.Disk v)) c.args.armed.now c.args.at (Inside c.in-Inside.life) c.in-Inside.is b)

pub returns-in-Err-clause-turns : goal.returns-in-Err-clause-turns
returns-in-Err-clause-turns g c = λ v start left told turns b.
    let at = between_at g.L.Disk.tells (seen g.L.Disk v) (Begun g.L.Disk.tells (seen g.L.Disk v)) c.args.armed.now c.args.at (Inside c.in-Inside.life) c.in-Inside.is b in
    subst (λ (d : g.row.L.Denot). Headline (IsWhole v) start (HandsBack g.L.Disk.tells (seen g.L.Disk v) (stores g.D.PageDevice g.V.Vault) d (c.args.pages, c.args.vault)) left c.args.input.now.pending (g.S.Source.left c.args.source.now) told (g.K.Sink.told c.args.sink.now) statuses.Memory) (sym c.into_device.ensures)
    (ends_here g.L.Disk.tells (seen g.L.Disk v) (stores g.D.PageDevice g.V.Vault) 0 c.in-Inside.life.log.log.device (c.args.pages, c.args.vault) at (rests_begun g.L.Disk.tells (seen g.L.Disk v) (stores g.D.PageDevice g.V.Vault) (c.args.pages, c.args.vault) c.in-Inside.life (stage start turns) at.holds.here))
