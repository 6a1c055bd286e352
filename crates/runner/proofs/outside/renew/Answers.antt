use Rattle.std.proofs.Common.{false}
use Rattle.life_commands.specs.LogDisk.{seen}
use Rattle.runner.specs.Machine.{Begun}
use Rattle.store_log.proofs.Known.{known_by}
use Rattle.life_commands.proofs.Lives.{tells_of}
use Rattle.runner.proofs.Without.{did_renew, fused_seen}
use Rattle.runner.proofs.outside.renew.Goals as goal

pub returns-in-Ok-clause-turns : goal.returns-in-Ok-clause-turns
returns-in-Ok-clause-turns g c = λ v s line h. did_renew g.L.Disk.tells (seen g.L.Disk v) (Begun g.L.Disk.tells (seen g.L.Disk v)) c.args.disk s h c.arm.new.disk (λ t. c.arm.ensures.told (tells_of v t)) c.arm.ensures.crash (known_by g.L.Disk.tells g.L.Disk c.args.disk c.arm.new.disk c.arm.ensures.told c.arm.ensures.crash) c.args.device c.in-Ok.lines.items
    (fused_seen g.L.Disk v c.args.disk c.arm.new.disk c.args.device false s.armed (c.arm.ensures.fused s.armed) h.fused) c.in-Ok.ensures
