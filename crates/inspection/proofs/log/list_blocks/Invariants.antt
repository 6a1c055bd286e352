use Rattle.std.proofs.Common.{◌≡◌}
use Rattle.inspection.proofs.log.list_blocks.Given as goal

abbrev pub invariant-loop : goal.invariant-loop
invariant-loop g l = g.L.Disk.tells → g.L.Disk.told l.disk ≡ g.L.Disk.told l.fn.disk
