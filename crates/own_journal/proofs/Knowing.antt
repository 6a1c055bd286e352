-- What a thread knows of its journal's end.
use Rattle.std.proofs.Common.{◌≡◌}
use Rattle.page_ops.specs.Seeing.{Account}
use Rattle.journal.specs.State.{JournalState, KnowsEnd, LearnsEnd}
use Rattle.journal.proofs.Calls.{end_same, ended_is, knows_later}

pub knows_same : (a0 a1 : Account) (j0 j1 : JournalState) → KnowsEnd a0 j0 → j1 ≡ j0 → LearnsEnd a0 a1 j1.ended → KnowsEnd a1 j1
knows_same a0 a1 j0 j1 knows same learns = knows_later a0 a1 j0 j1 knows (end_same j0.ended j1.ended (ended_is j1 j0 same)) learns
