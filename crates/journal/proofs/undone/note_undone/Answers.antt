use Rattle.std.proofs.Common.{◌++◌, ◌∷◌, [], arith, length-append}
use Rattle.wal_record.specs.declared.entry.Entry.TheVariants as entries
use Rattle.journal.proofs.Losing.{group_empty, group_one, group_two}
use Rattle.journal.proofs.undone.note_undone.Goals as goal

pub returns-in-empty-clause-more : goal.returns-in-empty-clause-more
returns-in-empty-clause-more c h lsn said k at = group_empty h lsn c.args.recs.now said c.args.losers.now (omega (arith, c.in-empty.len_below)) k

pub returns-in-len1-clause-more : goal.returns-in-len1-clause-more
returns-in-len1-clause-more c h lsn said k at =
    group_one h lsn c.args.recs.now c.one-item.result _ said c.note.new.losers (omega (arith, c.in-len1.len_at_least)) (omega (arith, c.in-len1.len_below)) c.one-item.is (c.note.ensures.more h lsn k (omega (arith, at)))

pub returns-in-len2-clause-more : goal.returns-in-len2-clause-more
returns-in-len2-clause-more c h lsn said k at =
    let one = c.one-item-then-recs-lt3.result in
    let first = c.note-in-len2.ensures.more h lsn k (omega (arith, at)) in
    group_two h lsn c.args.recs.now one c.two-item.result _ _ said c.note-in-len2-2.new.losers (omega (arith, c.in-len2.len_at_least)) (omega (arith, c.in-len2.len_below)) c.one-item-then-recs-lt3.is c.two-item.is
    (c.note-in-len2-2.ensures.more (h ++ entries.Rec lsn one ∷ []) _ first (omega (arith, at, length-append h (entries.Rec lsn one ∷ []))))
