use Rattle.std.proofs.Common.{refl}
use Rattle.script.specs.declared.command.Command.TheVariants as commands
use Rattle.life_commands.proofs.Ends.{fuses, lacks_memory}
use Rattle.life_commands.proofs.Faults.{by_memory}
use Rattle.life_commands.proofs.devices.fuse.Goals as goal

pub returns-in_err-out-clause-err : goal.returns-in_err-out-clause-err
returns-in_err-out-clause-err g c = by_memory c.from_residual.result _ c.from_residual.ensures.1 (λ line. lacks_memory g.L.Disk g.N.Life.opens c.args.life.now c.args.life.now refl (commands.Fuse c.args.device c.args.calls) line)

pub returns-clause-ok : goal.returns-clause-ok
returns-clause-ok g c = fuses g.L.Disk g.N.Life.opens c.args.life.now c.arm.new.life c.arm.ensures.same c.args.device c.arm.ensures.other c.args.calls c.arm.ensures.log c.in_ok-out.out.items c.in_ok-out.ensures
