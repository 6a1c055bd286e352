use Rattle.std.proofs.Common.{refl, rules, sym}
use Rattle.script.specs.declared.command.Command.TheVariants as commands
use Rattle.life_commands.proofs.Ends.{bad_line, ended_before, lacks_memory, named_is}
use Rattle.life_commands.proofs.Faults.{by_memory}
use Rattle.life_commands.proofs.life.ask.Goals as goal

pub returns-then-not-is_active-clause-err : goal.returns-then-not-is_active-clause-err
returns-then-not-is_active-clause-err g c = bad_line g.L.Disk g.N.Life.opens c.args.life.now (commands.Ask c.args.name.now c.args.request.now) c.args.line (named_is g.L.Disk g.N.Life.opens c.args.life.now c.args.name.now _ (search rules))

pub returns-in_err-request_ended-in-Some-clause-err : goal.returns-in_err-request_ended-in-Some-clause-err
returns-in_err-request_ended-in-Some-clause-err g c = by_memory c.from_residual.result _ c.from_residual.ensures.1 (lacks_memory g.L.Disk g.N.Life.opens c.args.life.now c.args.life.now refl (commands.Ask c.args.name.now c.args.request.now) c.args.line)

pub returns-in_ok-request_ended-in-Some-clause-ok : goal.returns-in_ok-request_ended-in-Some-clause-ok
returns-in_ok-request_ended-in-Some-clause-ok g c = λ v s same h. ended_before g.L.Disk g.N.Life.opens c.args.life.now (commands.Ask c.args.name.now c.args.request.now) c.in-Some.at c.in_ok-request_ended-in-Some.field-0.items (sym c.in-Some.ensures.end)
    (named_is g.L.Disk g.N.Life.opens c.args.life.now c.args.name.now _ (search rules)) tt tt c.in_ok-request_ended-in-Some.ensures v s h
