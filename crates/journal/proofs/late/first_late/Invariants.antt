use Rattle.std.proofs.Common.{take}
use Rattle.journal.proofs.Lateness.{AreTimely}
use Rattle.journal.proofs.late.first_late.Given as goal

abbrev pub invariant-loop-rec : goal.invariant-loop-rec
invariant-loop-rec l = AreTimely l.listing l.places l.losers l.recs (take l.rec-index l.recs)
