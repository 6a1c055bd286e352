use Rattle.std.proofs.Common.{arith}
use Rattle.journal.proofs.Lateness.{no_loser_undone, still_timely, undone_late}
use Rattle.journal.proofs.late.undone_first.Goals as goal

pub returns-in-Some-clause-late : goal.returns-in-Some-clause-late
returns-in-Some-clause-late c opening h places k =
    undone_late opening h c.args.listing.now places c.args.losers.now k c.args.undo.now c.undo_next.result c.in-Some.loser c.in-Some.ensures (c.undo_next.ensures _ k.listing k.lawful) (omega (arith, c.if-undo_next-undo.true))

pub returns-in_default-clause-none : goal.returns-in_default-clause-none
returns-in_default-clause-none c opening h places k was =
    still_timely opening h c.args.listing.now places c.args.losers.now k c.args.undo.now c.undo_next.result (c.undo_next.ensures _ k.listing k.lawful) (omega (arith, c.if-undo_next-undo.false)) was

pub returns-in_default-2-clause-none : goal.returns-in_default-2-clause-none
returns-in_default-2-clause-none c opening h places k was = no_loser_undone opening h c.args.listing.now places c.args.losers.now k c.args.undo.now c.in_default.ensures
