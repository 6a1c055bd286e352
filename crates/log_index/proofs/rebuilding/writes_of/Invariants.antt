use Rattle.std.proofs.Common.{◌≡◌, take}
use Rattle.listing_laws.specs.Summary.{writes_of}
use Rattle.log_index.proofs.rebuilding.writes_of.Given as goal

abbrev pub invariant-loop-i : goal.invariant-loop-i
invariant-loop-i l = l.made.items ≡ take l.i (writes_of l.lsns l.keys)
