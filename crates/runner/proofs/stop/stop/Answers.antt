use Rattle.life_commands.specs.LogDisk.{seen}
use Rattle.store_log.proofs.Known.{known_behind}
use Rattle.life_commands.proofs.Lives.{tells_of}
use Rattle.runner.proofs.Without.{did_stop}
use Rattle.runner.proofs.stop.stop.Goals as goal

pub returns-in-Ok-clause-turns : goal.returns-in-Ok-clause-turns
returns-in-Ok-clause-turns g c = λ v s kept h. did_stop g.L.Disk.tells (seen g.L.Disk v) kept c.args.disk c.cycled.result s h (known_behind g.L.Disk.tells g.L.Disk c.args.disk c.cycled.result c.cycled.ensures.left c.cycled.ensures.durable) c.args.keep c.in-Ok.lines.items (λ t. c.cycled.ensures.left (tells_of v t)) (λ t. c.cycled.ensures.durable (tells_of v t)) c.cycled.ensures.fuse c.in-Ok.ensures
