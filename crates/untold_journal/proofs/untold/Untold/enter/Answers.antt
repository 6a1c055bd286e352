use Rattle.std.proofs.Common.{List, [], ◌∷◌, ◌++◌, ap, sym, ◌∙◌}
use Rattle.wal_record.specs.declared.entry.Entry.{Entry}
use Rattle.untold_journal.proofs.Upkeep.{enters_one}
use Rattle.untold_journal.proofs.untold.Untold.enter.Goals as goal

pub returns-clause-entered : goal.returns-clause-entered
returns-clause-entered g c =
    let first = c.see.ensures in
    let then = c.see-2.ensures in
    enters_one g.N.Life.opens g.N.Life.entries g.N.Life.session_entries _ _ _ _ _ _ _ _ _ _ c.args.entry.now c.requires.upkeep first.counts first.rights c.push.ensures.counts first.seen then.seen then.counts then.rights
    (then.pass ∙ c.push.ensures.history ∙ ap (λ (h : List Entry). h ++ c.args.entry.now ∷ []) (first.same ∙ sym first.pass))
