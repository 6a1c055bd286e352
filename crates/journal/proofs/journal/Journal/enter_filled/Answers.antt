use Rattle.std.proofs.Common.{List, Option, ◌++◌, refl, sym, ap, ◌∙◌, subst, arith}
use Rattle.std.specs.Prelude.{◌≡◌, ◌+◌, IfOk, IfSome}
use Rattle.books.specs.Rights.{PageClaim}
use Rattle.life_history.specs.Groups.{own_entries, raised}
use Rattle.page_ops.specs.Claims.{PageAgrees}
use Rattle.page_ops.specs.Groups.{group_entries}
use Rattle.page_ops.specs.Seeing.{IsConsistent, of_sessions}
use Rattle.log_manager.specs.Managed.{Managed}
use Rattle.page_ops.specs.declared.group.Said.{Said}
use Rattle.wal_record.specs.declared.record.Record.{Record}
use Rattle.wal_record.specs.History.{life_log}
use Rattle.wal_record.specs.Sound.{AreLawful}
use Rattle.wal_record.specs.declared.entry.Entry.{Entry}
use Rattle.journal.specs.Groups.{EntersFilled, GroupFollows, IsNext}
use Rattle.journal.proofs.Entering.{enters_filled}
use Rattle.journal.proofs.Living.{kept_group, kept_refused}
use Rattle.journal.proofs.Grouping.{next_of, page_agrees}
use Rattle.journal.proofs.Losing.{losers_group}
use Rattle.journal.proofs.Restoring.{restored_kept, restored_same}
use Rattle.journal.proofs.Stopping.{group_safe, still_safe}
use Rattle.journal.proofs.Calls.{durable_same, history_is}
use Rattle.journal.proofs.journal.Journal.enter_filled.Goals as goal

pub enter_group-requires-clause-fresh : goal.enter_group-requires-clause-fresh
enter_group-requires-clause-fresh g c =
    subst (λ (z : List Entry × Option PageClaim). IfSome z.1 (PageAgrees g.N.Life.opens z.0)) (λ i. (sym (history_is _ _ c.self.view_is) i, sym c.take.ensures.value i)) (page_agrees g.N.Life.opens c.args.self.now.history c.requires.consistent c.args.new.now c.requires.page)

pub invariant_of-self : goal.invariant_of-self
invariant_of-self g c = (c.self.invariant.0, c.self.invariant.1, restored_kept c.self.inside.history c.self.inside.restored c.prepare_group.new.places c.self.invariant.2 c.prepare_group.ensures.same, c.self.invariant.3, c.self.invariant.4, c.self.invariant.5)

pub invariant_of-self-in_err-lsn : goal.invariant_of-self-in_err-lsn
invariant_of-self-in_err-lsn g c =
    let done = c.append_all.ensures in (
      c.self.invariant.0,
      kept_refused _ _ _ _ _ _ c.self.inside.log.log c.append_all.new.log.log c.self.inside.log.listing c.append_all.new.log.listing c.self.inside.locks c.self.inside.locks _ c.self.inside.faults.total c.self.inside.faults.total c.self.invariant.1 refl refl done.spare done.disk.0 done.disk.1
          (λ opening stands. c.in_err-lsn.ensures.same _ _ (c.self.invariant.1.life.records opening stands)),
      restored_kept c.self.inside.history c.self.inside.restored c.prepare_group.new.places c.self.invariant.2 c.prepare_group.ensures.same,
      c.self.invariant.3,
      still_safe g.N.Life.opens g.L.Disk.told g.L.Disk.may_leave c.self.inside.history _ c.self.inside.log.log.log c.append_all.new.log.log.log c.self.invariant.4 refl (ap (λ (m : Managed _). m.log) c.in_err-lsn.ensures.kept),
      durable_same c.self.inside.log.log.log c.append_all.new.log.log.log c.self.invariant.5 done.disk.0 done.disk.1,
    )

pub invariant_of-self-2 : goal.invariant_of-self-2
invariant_of-self-2 g c =
    let k = c.self.invariant.1 in
    let done = c.in_ok-lsn.ensures in
    let lsn = c.in_ok-lsn.lsn in
    let next = next_of g.N.Life.opens g.L.Disk.tells g.L.Disk.told g.L.Disk.may_leave c.self.inside.history c.self.inside.log.log c.self.inside.log.listing _ _ k.life.records c.last-last.ensures.next (omega (arith, c.if-last-ge-MOST_ENTRIES.false)) done.lsn in
    let follows = c.requires.follows lsn (subst (λ (h : List Entry). IsNext g.N.Life.opens h lsn) (history_is _ _ c.self.view_is) next) in (
      c.self.invariant.0,
      kept_group _ _ _ _ _ _ c.self.inside.log.log _ c.self.inside.log.listing _ c.self.inside.locks c.self.inside.locks _ c.self.inside.faults.total c.self.inside.faults.total k refl lsn c.args.recs.now c.args.said.now c.enter_group.ensures.history (c.is_fit.ensures c.if-not-is_fit.false).still c.requires.few done.disk.1 done.disk.0 done.spare c.enter_group.ensures.live next
          (λ opening stands.
          let at = next opening stands in
          done.more _ (life_log opening c.self.inside.history) (k.life.records opening stands)
          (subst (λ (h : List Entry). AreLawful (life_log opening h ++ c.args.recs.now)) (sym (history_is _ _ c.self.view_is)) (follows.lawful opening stands)) (omega (arith, at.0, at.1))),
      restored_same _ _ c.note_group.new.places (c.note_group.ensures c.self.inside.history lsn c.args.said.now (restored_kept c.self.inside.history c.self.inside.restored c.prepare_group.new.places c.self.invariant.2 c.prepare_group.ensures.same) c.length-before.ensures) c.enter_group.ensures.history,
      losers_group g.N.Life.opens c.self.inside.history _ c.self.inside.losers c.note_undone.new.losers c.self.invariant.3 lsn c.args.recs.now c.args.said.now c.enter_group.ensures.history c.note_undone.ensures.txs
          (λ done. c.note_undone.ensures.more c.self.inside.history lsn c.args.said.now done c.length-before.ensures),
      group_safe g.N.Life.opens g.L.Disk.tells g.L.Disk.told g.L.Disk.may_leave c.self.inside.history c.enter_group.new.self c.self.inside.log.log c.append_all.new.log.log c.self.inside.log.listing k.life.records k.life.telling c.self.invariant.4 lsn c.args.recs.now c.args.said.now c.enter_group.ensures.history
          (subst (λ (h : List Entry). IsConsistent g.N.Life.opens (h ++ group_entries lsn c.args.recs.now c.args.said.now)) (sym (history_is _ _ c.self.view_is)) follows.consistent) done.device done.disk.0 done.disk.1 done.groups,
      durable_same c.self.inside.log.log.log c.append_all.new.log.log.log c.self.invariant.5 done.disk.0 done.disk.1,
    )

pub note_undone-requires-clause-still : goal.note_undone-requires-clause-still
note_undone-requires-clause-still g c = (c.is_fit.ensures c.if-not-is_fit.false).still

pub enter_end-requires-clause-follows : goal.enter_end-requires-clause-follows
enter_end-requires-clause-follows g c lsn next =
    let is = c.in-Some.ensures in
    subst (λ (z : List Record × Option Said). GroupFollows g.N.Life.opens c.args.self.now.history lsn z.0 z.1) (λ i. (is.0 i, is.1 i)) (c.requires.follows lsn next)

pub returns-in-Some-clause-entered : goal.returns-in-Some-clause-entered
returns-in-Some-clause-entered g c =
    let is = c.in-Some.ensures in
    subst (λ (z : List Record × Option Said). IfOk c.enter_end.result (EntersFilled z.0 z.1 c.args.new.now c.args.rights.now c.enter_end.new.rights c.args.counts.now c.enter_end.new.counts c.args.self.now.history c.enter_end.new.self.history)) (λ i. (sym is.0 i, sym is.1 i)) c.enter_end.ensures.entered

pub returns-clause-entered : goal.returns-clause-entered
returns-clause-entered g c =
    let lsn = c.in_ok-lsn.lsn in
    let own = c.enter_group.ensures in
    let mine = own_entries c.args.rights.now.s c.args.recs.now c.args.said.now in
    enters_filled c.args.recs.now c.args.said.now c.args.new.now c.args.rights.now c.enter_group.new.rights c.args.counts.now c.enter_group.new.counts c.args.self.now.history c.enter_group.new.self lsn
    (own.history ∙ ap (λ (h : List Entry). h ++ group_entries lsn c.args.recs.now c.args.said.now) (history_is _ _ c.self.view_is))
    (subst (λ (o : Option PageClaim). c.enter_group.new.rights ≡ raised c.args.rights.now o lsn c.args.recs.now c.args.said.now) c.take.ensures.value own.rights) own.counts
    (own.counted ∙ ap (λ (h : List Entry). of_sessions h + mine) (history_is _ _ c.self.view_is))
