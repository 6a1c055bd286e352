use Rattle.std.proofs.Common.{ap, ◌∙◌}
use Rattle.script.specs.declared.command.Command.TheVariants as commands
use Rattle.transcript.specs.Lines.{stat_line}
use Rattle.life_commands.proofs.Ends.{lacks_memory, stat_line_is}
use Rattle.life_commands.proofs.Faults.{by_memory}
use Rattle.life_commands.proofs.upkeep.stat_open.Goals as goal

pub returns-in_err-stat_line-in-Ok-clause-err : goal.returns-in_err-stat_line-in-Ok-clause-err
returns-in_err-stat_line-in-Ok-clause-err g c = by_memory c.from_residual.result _ c.from_residual.ensures.1 (λ line. lacks_memory g.L.Disk g.N.Life.opens c.args.life.now c.survey-known.new.self c.in-Ok.ensures.same.0 commands.Stat line)

pub returns-in_ok-stat_line-in-Ok-clause-ok : goal.returns-in_ok-stat_line-in-Ok-clause-ok
returns-in_ok-stat_line-in-Ok-clause-ok g c = stat_line_is g.L.Disk g.N.Life.opens c.args.life.now c.survey-known.new.self c.requires c.in-Ok.ensures.same.1 c.in-Ok.ensures.same.0 c.in-Ok.ensures.goes c.in-Ok.known c.in-Ok.ensures.survey
    c.in_ok-stat_line-in-Ok.field-0.items (c.in_ok-stat_line-in-Ok.ensures ∙ ap stat_line c.counts_of.ensures)

pub returns-in-Err-clause-err : goal.returns-in-Err-clause-err
returns-in-Err-clause-err g c = λ line. lacks_memory g.L.Disk g.N.Life.opens c.args.life.now c.survey-known.new.self c.in-Err.ensures.same.0 commands.Stat line
