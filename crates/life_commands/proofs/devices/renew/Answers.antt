use Rattle.std.proofs.Common.{refl}
use Rattle.script.specs.declared.command.Command.TheVariants as commands
use Rattle.life_commands.proofs.Ends.{lacks_memory, renews}
use Rattle.life_commands.proofs.Faults.{by_memory}
use Rattle.life_commands.proofs.devices.renew.Goals as goal

pub returns-in_err-out-clause-err : goal.returns-in_err-out-clause-err
returns-in_err-out-clause-err g c = by_memory c.from_residual.result _ c.from_residual.ensures.1 (λ line. lacks_memory g.L.Disk g.N.Life.opens c.args.life.now c.args.life.now refl (commands.Renew c.args.device) line)

pub returns-clause-ok : goal.returns-clause-ok
returns-clause-ok g c = renews g.L.Disk g.N.Life.opens c.args.life.now c.arm.new.life c.arm.ensures.same c.args.device c.arm.ensures.other c.arm.ensures.log c.in_ok-out.out.items c.in_ok-out.ensures
