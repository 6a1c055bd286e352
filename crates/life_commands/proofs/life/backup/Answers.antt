use Rattle.std.proofs.Common.{refl, sym}
use Rattle.script.specs.declared.command.Command.TheVariants as commands
use Rattle.life_commands.proofs.Ends.{ended_before, lacks_memory, may_look}
use Rattle.life_commands.proofs.Faults.{by_memory}
use Rattle.life_commands.proofs.life.backup.Goals as goal

pub returns-in_err-upkeep_ended-in-Some-clause-err : goal.returns-in_err-upkeep_ended-in-Some-clause-err
returns-in_err-upkeep_ended-in-Some-clause-err g c = by_memory c.from_residual.result _ c.from_residual.ensures.1 (λ line. lacks_memory g.L.Disk g.N.Life.opens c.args.life.now c.args.life.now refl commands.Backup line)

pub returns-in_ok-upkeep_ended-in-Some-clause-ok : goal.returns-in_ok-upkeep_ended-in-Some-clause-ok
returns-in_ok-upkeep_ended-in-Some-clause-ok g c = λ v s same h. ended_before g.L.Disk g.N.Life.opens c.args.life.now commands.Backup c.in-Some.at c.in_ok-upkeep_ended-in-Some.field-0.items (sym c.in-Some.ensures.end)
    (may_look g.L.Disk g.N.Life.opens c.args.life.now) tt tt c.in_ok-upkeep_ended-in-Some.ensures v s h
