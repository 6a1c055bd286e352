use Rattle.std.proofs.Common.{ℕ, List, [], ap}
use Rattle.std.specs.Prelude.{unwrap_or}
use Rattle.std.specs.Map.{lookup}
use Rattle.std.specs.Ordering.{nat_cmp}
use Rattle.std.specs.BTreeMap.{is_at}
use Rattle.wal_record.specs.Locks.{Held}
use Rattle.lock_judge.specs.Taken.{AreTaken, held_in}
use Rattle.lock_judge.proofs.Taking.{has_none}
use Rattle.lock_judge.proofs.taken.TakenLocks.new.Goals as goal

pub returns : goal.returns
unfolding AreTaken
returns c = has_none (held_in c.new.result) (λ t. ap (λ (es : List (ℕ × List Held)). unwrap_or (lookup (is_at (nat_cmp t)) es) []) c.new.ensures.empty)
