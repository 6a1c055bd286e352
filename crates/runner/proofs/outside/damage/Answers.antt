use Rattle.life_commands.specs.LogDisk.{seen}
use Rattle.runner.specs.Machine.{Begun}
use Rattle.runner.proofs.Without.{did_damage}
use Rattle.runner.proofs.outside.damage.Goals as goal

pub returns-in-Ok-clause-turns : goal.returns-in-Ok-clause-turns
returns-in-Ok-clause-turns g c = λ v s line h. did_damage g.L.Disk.tells (seen g.L.Disk v) (Begun g.L.Disk.tells (seen g.L.Disk v)) c.args.disk s h c.args.page c.in-Ok.lines.items c.in-Ok.ensures
