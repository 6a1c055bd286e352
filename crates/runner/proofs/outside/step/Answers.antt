use Rattle.std.proofs.Common.{sym, subst}
use Rattle.script.specs.declared.command.Command.{Command}
use Rattle.life_commands.specs.LogDisk.{IsWhole, seen}
use Rattle.life_commands.specs.Living.{Adds}
use Rattle.life_commands.specs.Living.{Out}
use Rattle.runner.specs.Machine.{Begun, Steps}
use Rattle.runner.proofs.Places.{safe_out}
use Rattle.runner.proofs.Without.{out_nothing}
use Rattle.runner.proofs.outside.step.Goals as goal

pub returns-in-Nothing-clause-turns : goal.returns-in-Nothing-clause-turns
returns-in-Nothing-clause-turns g c = λ v s h. subst (λ (x : Command). Adds (IsWhole v) (Out g.L.Disk.tells (seen g.L.Disk v) c.args.disk) s x c.new.result.items) (sym c.in-Nothing.is) (out_nothing g.L.Disk.tells (seen g.L.Disk v) (Begun g.L.Disk.tells (seen g.L.Disk v)) c.args.disk s h c.new.result.items c.new.ensures.items)

pub returns-in-Open-clause-turns : goal.returns-in-Open-clause-turns
returns-in-Open-clause-turns g c = λ v s h. subst (λ (x : Command). Steps g.L.Disk.tells (seen g.L.Disk v) (Begun g.L.Disk.tells (seen g.L.Disk v)) s x c.args.line c.opens.result) (sym c.in-Open.is) (c.opens.ensures.turns v s c.args.line h)

pub returns-in-Ok-clause-turns : goal.returns-in-Ok-clause-turns
returns-in-Ok-clause-turns g c = λ v s h. subst (λ (x : Command). Adds (IsWhole v) (Out g.L.Disk.tells (seen g.L.Disk v) c.in-Ok.disk) s x c.in-Ok.lines.items) (sym c.in-Stop.is) (c.in-Ok.ensures.turns v s 0 (safe_out (seen g.L.Disk v) g.L.Disk.tells 0 c.args.disk s h))

pub returns-in-Damage-clause-turns : goal.returns-in-Damage-clause-turns
returns-in-Damage-clause-turns g c = λ v s h. subst (λ (x : Command). Steps g.L.Disk.tells (seen g.L.Disk v) (Begun g.L.Disk.tells (seen g.L.Disk v)) s x c.args.line c.damage.result) (sym c.in-Damage.is) (c.damage.ensures.turns v s c.args.line h)

pub returns-in-Fuse-clause-turns : goal.returns-in-Fuse-clause-turns
returns-in-Fuse-clause-turns g c = λ v s h. subst (λ (x : Command). Steps g.L.Disk.tells (seen g.L.Disk v) (Begun g.L.Disk.tells (seen g.L.Disk v)) s x c.args.line c.fuse-in-Fuse.result) (sym c.in-Fuse.is) (c.fuse-in-Fuse.ensures.turns v s c.args.line h)

pub returns-in-Renew-clause-turns : goal.returns-in-Renew-clause-turns
returns-in-Renew-clause-turns g c = λ v s h. subst (λ (x : Command). Steps g.L.Disk.tells (seen g.L.Disk v) (Begun g.L.Disk.tells (seen g.L.Disk v)) s x c.args.line c.renew.result) (sym c.in-Renew.is) (c.renew.ensures.turns v s c.args.line h)
