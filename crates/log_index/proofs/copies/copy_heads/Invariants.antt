use Rattle.std.proofs.Common.{◌≡◌, take}
use Rattle.log_index.proofs.copies.copy_heads.Given as goal

abbrev pub invariant-loop-head : goal.invariant-loop-head
invariant-loop-head l = l.made.items ≡ take l.head-index l.heads
