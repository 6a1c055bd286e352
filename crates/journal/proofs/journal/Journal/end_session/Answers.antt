use Rattle.log_manager.specs.Managed.{Managed}
use Rattle.std.specs.Prelude.{None}
use Rattle.wal_record.specs.declared.record.Record.TheVariants as kinds
use Rattle.std.proofs.Common.{◌≡◌, ◌<◌, ◌+◌, ◌++◌, ◌∷◌, [], ℕ, List, refl, sym, ap, ◌∙◌, subst, arith, is_some}
use Rattle.life_history.specs.Kept.{end_entry}
use Rattle.page_ops.specs.Claims.{SessionAgrees}
use Rattle.wal_record.specs.declared.entry.Entry.{Entry}
use Rattle.journal.proofs.Living.{kept_end, kept_refused}
use Rattle.journal.proofs.Locking.{live_of}
use Rattle.journal.proofs.Losing.{losers_end}
use Rattle.journal.proofs.Overs.{goes_on, over_consistent, over_records}
use Rattle.journal.proofs.Restoring.{restored_entry}
use Rattle.journal.proofs.Stopping.{group_safe, still_safe}
use Rattle.journal.proofs.Calls.{durable_same, history_is}
use Rattle.journal.proofs.journal.Journal.end_session.Goals as goal

pub enter_end-requires-clause-live : goal.enter_end-requires-clause-live
enter_end-requires-clause-live g c =
    let some : 0 < c.args.s.now.tx = omega (arith, c.if-over-eq0.false, c.if-tx-over.false, c.tx.ensures) in
    let runs = goes_on c.self.inside.log.log.log.ended (ap is_some (sym c.ended.ensures) ∙ sym c.is_some.ensures ∙ c.if-is_some.false) in
    live_of c.self.inside.history c.args.s.now (subst (λ (h : List Entry). SessionAgrees h c.args.s.now) (sym (history_is _ _ c.self.view_is)) c.requires.agrees) some (c.self.invariant.1.ends.acknowledged runs)

pub enter_end-requires-clause-consistent : goal.enter_end-requires-clause-consistent
enter_end-requires-clause-consistent g c =
    let same : c.args.end.tx ≡ c.args.s.now.tx = omega (arith, c.if-tx-over.false, c.tx.ensures) in
    over_consistent g.N.Life.opens g.L.Disk.tells g.L.Disk.told g.L.Disk.may_leave c.self.inside.history c.args.self.now.history (history_is _ _ c.self.view_is) c.self.inside.log.log c.append_all.new.log.log c.self.inside.log.listing c.append_all.new.log.listing c.last-last.result c.in_ok-lsn.lsn c.self.invariant.1.life.records c.last-last.ensures.next (omega (arith, c.if-last-ge-MOST_ENTRIES.false)) c.in_ok-lsn.ensures.lsn c.args.end c.requires.follows c.args.s.now.tx same

pub invariant_of-self : goal.invariant_of-self
invariant_of-self g c =
    let done = c.append_all.ensures in (
      c.self.invariant.0,
      kept_refused g.N.Life.opens g.L.Disk.tells g.L.Disk.told g.L.Disk.may_leave c.self.inside.history c.self.inside.history c.self.inside.log.log c.append_all.new.log.log c.self.inside.log.listing c.append_all.new.log.listing c.self.inside.locks c.self.inside.locks c.self.inside.marked c.self.inside.faults.total c.self.inside.faults.total c.self.invariant.1 refl refl done.spare done.disk.0 done.disk.1
          (λ opening stands. c.in_err-lsn.ensures.same _ _ (c.self.invariant.1.life.records opening stands)),
      c.self.invariant.2,
      c.self.invariant.3,
      still_safe g.N.Life.opens g.L.Disk.told g.L.Disk.may_leave c.self.inside.history _ c.self.inside.log.log.log c.append_all.new.log.log.log c.self.invariant.4 refl (ap (λ (m : Managed _). m.log) c.in_err-lsn.ensures.kept),
      durable_same c.self.inside.log.log.log c.append_all.new.log.log.log c.self.invariant.5 done.disk.0 done.disk.1,
    )

pub invariant_of-self-2 : goal.invariant_of-self-2
invariant_of-self-2 g c =
    let same : c.args.s.now.tx ≡ c.args.end.tx = omega (arith, c.if-tx-over.false, c.tx.ensures) in
    let done = c.append_all.ensures in
    let lsn = c.in_ok-lsn.lsn in
    let now = c.enter_end.ensures.history ∙ ap (λ (n : ℕ). c.self.inside.history ++ end_entry lsn n c.args.end.prev ∷ []) same in (
      c.self.invariant.0,
      kept_end _ _ _ _ c.self.inside.history c.enter_end.new.self c.self.inside.log.log c.append_all.new.log.log c.self.inside.log.listing c.append_all.new.log.listing c.self.inside.locks c.release_all.new.self _ c.self.inside.faults.total c.self.inside.faults.total c.self.invariant.1 refl lsn c.args.end now
          c.release_all.ensures.released c.enter_end.ensures.live done.spare done.disk.0 done.disk.1 (over_records g.N.Life.opens g.L.Disk.tells g.L.Disk.told g.L.Disk.may_leave c.self.inside.history c.args.self.now.history (history_is _ _ c.self.view_is) c.self.inside.log.log c.append_all.new.log.log c.self.inside.log.listing c.append_all.new.log.listing c.last-last.result c.in_ok-lsn.lsn c.self.invariant.1.life.records c.last-last.ensures.next (omega (arith, c.if-last-ge-MOST_ENTRIES.false)) c.in_ok-lsn.ensures.lsn c.args.end c.requires.follows c.in_ok-lsn.ensures.more),
      restored_entry c.self.inside.history _ c.self.inside.restored (end_entry lsn c.args.end.tx c.args.end.prev) c.self.invariant.2 now (λ s. refl),
      losers_end g.N.Life.opens c.self.inside.history c.enter_end.new.self c.self.inside.losers c.ended-2.new.self c.self.invariant.3 lsn (c.length-before.result + 1) c.args.end.tx c.args.end.prev now c.ended-2.ensures (omega (arith, c.length-before.ensures)),
      group_safe g.N.Life.opens g.L.Disk.tells g.L.Disk.told g.L.Disk.may_leave c.self.inside.history c.enter_end.new.self c.self.inside.log.log c.append_all.new.log.log c.self.inside.log.listing c.self.invariant.1.life.records c.self.invariant.1.life.telling c.self.invariant.4 lsn (kinds.End c.args.end ∷ []) None now
          (over_consistent g.N.Life.opens g.L.Disk.tells g.L.Disk.told g.L.Disk.may_leave c.self.inside.history c.args.self.now.history (history_is _ _ c.self.view_is) c.self.inside.log.log c.append_all.new.log.log c.self.inside.log.listing c.append_all.new.log.listing c.last-last.result c.in_ok-lsn.lsn c.self.invariant.1.life.records c.last-last.ensures.next (omega (arith, c.if-last-ge-MOST_ENTRIES.false)) c.in_ok-lsn.ensures.lsn c.args.end c.requires.follows c.args.end.tx refl) done.device done.disk.0 done.disk.1 c.in_ok-lsn.ensures.groups,
      durable_same c.self.inside.log.log.log c.append_all.new.log.log.log c.self.invariant.5 done.disk.0 done.disk.1,
    )
