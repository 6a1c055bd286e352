use Rattle.std.proofs.Common.{List, sym, subst}
use Rattle.page_ops.specs.Asking.{HasNumbers, MayFollow}
use Rattle.wal_record.specs.declared.entry.Entry.{Entry}
use Rattle.journal.proofs.Calls.{history_is}
use Rattle.journal.proofs.journal.Journal.write.Goals as goal

pub fill_in-entered-requires-clause-follows : goal.fill_in-entered-requires-clause-follows
fill_in-entered-requires-clause-follows g c opening stands =
    subst (λ (h : List Entry). HasNumbers opening h → MayFollow opening h c.args.group.now) (sym (history_is _ _ c.in_ok-new.ensures.same))
    (λ numbers. (c.requires.askable opening stands).follows (c.requires.timely opening stands) (c.requires.room opening stands) numbers)
