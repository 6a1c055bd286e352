use Rattle.std.proofs.Common.{◌++◌, ◌∷◌, [], ap, sym, ◌∙◌, subst}
use Rattle.loser_laws.specs.Losers.{IsDone, txs_of}
use Rattle.loser_laws.proofs.Tables.{undone_txs}
use Rattle.page_ops.specs.Groups.{Each}
use Rattle.wal_record.specs.declared.entry.Entry.TheVariants as entries
use Rattle.journal.proofs.Losing.{none_here, undone_here}
use Rattle.journal.proofs.undone.note.Goals as goal

pub returns-in-Some-clause-txs : goal.returns-in-Some-clause-txs
returns-in-Some-clause-txs c = ap txs_of c.undone.ensures ∙ undone_txs c.in-Some.tx c.args.place c.args.losers.now

pub returns-in-Some-clause-more : goal.returns-in-Some-clause-more
returns-in-Some-clause-more c h lsn k at =
    subst (Each (IsDone (h ++ entries.Rec lsn c.args.rec.now ∷ []))) (sym c.undone.ensures) (undone_here h lsn c.args.place c.in-Some.tx c.args.rec.now c.args.losers.now c.in-Some.ensures at k)

pub returns-in-None-clause-more : goal.returns-in-None-clause-more
returns-in-None-clause-more c h lsn k at = none_here h lsn c.args.rec.now c.args.losers.now c.requires c.in-None.ensures k
