use Rattle.std.proofs.Common.{List, Option, ℕ, ◌≤◌, length, refl, sym, subst}
use Rattle.std.specs.Prelude.{IsSome, IsTrue}
use Rattle.std.specs.List.{All}
use Rattle.group_filling.specs.Fitting.{AreInRange}
use Rattle.log_manager.specs.Payload.{bytes_of}
use Rattle.page_ops.specs.Groups.{Each}
use Rattle.wal_record.specs.Rules.{HasSpelling}
use Rattle.wal_record.specs.State.{is_child}
use Rattle.wal_record.specs.declared.record.Record.{Record}
use Rattle.journal.specs.Groups.{GroupFollows, EntersFilled, IsNewRight}
use Rattle.journal.proofs.Entering.{enters_now}
use Rattle.journal.proofs.Grouping.{filled_follows, known_at, few_pages, spelled_asked, child_numbered, new_right_is}
use Rattle.journal.proofs.Calls.{history_is}
use Rattle.journal.proofs.journal.Journal.fill_in.Goals as goal

pub enter_filled-requires-clause-spelled : goal.enter_filled-requires-clause-spelled
enter_filled-requires-clause-spelled g c = subst (λ (l : List Record). Each AreInRange l → All HasSpelling l × (length (bytes_of l) ≤ 4194304)) (sym c.as_slice-recs.ensures)
    (spelled_asked c.args.group.now _ _ c.requires.group c.fill-before.ensures.filled c.fill-before.ensures.joins.0)

pub enter_filled-requires-clause-follows : goal.enter_filled-requires-clause-follows
enter_filled-requires-clause-follows g c lsn next =
    subst (λ (l : List Record). GroupFollows g.N.Life.opens c.args.self.now.history lsn l c.args.group.now.said) (sym c.as_slice-recs.ensures)
    (filled_follows g.N.Life.opens c.args.self.now.history c.requires.consistent c.args.group.now c.requires.group c.args.made c.args.new.now c.child_of-child.result lsn _ c.requires.made c.requires.some c.requires.page c.child_of-child.ensures c.fill-before.ensures.filled c.requires.follows
    (λ opening stands runs.
    let at =
    known_at g.N.Life.opens g.L.Disk.tells g.L.Disk.told g.L.Disk.may_leave c.self.inside.history c.args.self.now.history c.self.inside.log.log c.self.inside.log.listing _ _ c.self.invariant.1.life.records (history_is _ _ c.self.view_is) c.listing.ensures c.last-last.ensures.length opening stands in
    c.fill-before.ensures.told _ _ at.0 at.1 (few_pages g.N.Life.opens c.args.self.now.history c.requires.consistent opening stands) runs)
    next)

pub returns-in-Ok-clause-entered : goal.returns-in-Ok-clause-entered
returns-in-Ok-clause-entered g c =
    enters_now c.args.group.now _ _ _ _ _ _ _ c.child_of-child.result c.args.new.now c.fill-before.ensures.filled refl (subst (λ (l : List Record). EntersFilled l c.args.group.now.said c.args.new.now c.args.rights.now c.enter_filled.new.rights c.args.counts.now c.enter_filled.new.counts c.args.self.now.history c.enter_filled.new.self.history c.in-Ok.lsn) c.as_slice-recs.ensures c.in-Ok.ensures.entered)
    (subst (λ (o : Option ℕ). IsNewRight o c.child_of-child.result c.args.new.now) c.requires.made (new_right_is g.N.Life.opens c.args.self.now.history c.args.made c.args.new.now c.child_of-child.result c.requires.some c.requires.page c.child_of-child.ensures c.requires.none))
    (subst (λ (o : Option ℕ). IsSome o → IsTrue (is_child c.child_of-child.result)) c.requires.made (child_numbered g.N.Life.opens c.args.self.now.history c.args.made c.args.new.now c.child_of-child.result c.requires.some c.requires.page c.child_of-child.ensures))
