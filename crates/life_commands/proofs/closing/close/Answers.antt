use Rattle.std.proofs.Common.{refl, rules, sym}
use Rattle.script.specs.declared.command.Command.TheVariants as commands
use Rattle.life_commands.proofs.Closes.{closes_ended, named_close, no_names}
use Rattle.life_commands.proofs.Ends.{bad_line, lacks_memory}
use Rattle.life_commands.proofs.Faults.{by_memory}
use Rattle.life_commands.proofs.closing.close.Goals as goal

pub returns-then-active-gt0-clause-err : goal.returns-then-active-gt0-clause-err
returns-then-active-gt0-clause-err g c = bad_line g.L.Disk g.N.Life.opens c.args.life.now commands.Close c.args.line (named_close g.L.Disk g.N.Life.opens c.args.life.now (search rules))

pub returns-in_err-upkeep_ended-in-Some-clause-err : goal.returns-in_err-upkeep_ended-in-Some-clause-err
returns-in_err-upkeep_ended-in-Some-clause-err g c = by_memory c.from_residual.result _ c.from_residual.ensures.1 (lacks_memory g.L.Disk g.N.Life.opens c.args.life.now c.args.life.now refl commands.Close c.args.line)

pub returns-in_ok-upkeep_ended-in-Some-clause-ok : goal.returns-in_ok-upkeep_ended-in-Some-clause-ok
returns-in_ok-upkeep_ended-in-Some-clause-ok g c = closes_ended g.L.Disk g.N.Life.opens c.args.life.now (no_names c.args.life.now.active (search rules)) g.D.PageDevice g.V.Vault c.in-Some.at (sym c.in-Some.ensures.end)
    c.in_ok-upkeep_ended-in-Some.field-0.items c.in_ok-upkeep_ended-in-Some.ensures
