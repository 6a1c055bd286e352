use Rattle.std.proofs.Common.{◌++◌, ◌∷◌, [], ◌≡◌, ◌≤◌, ◌^◌, ℕ, List, length, refl, sym, ap, ◌∙◌, subst, arith, inl, inr}
use Rattle.journal.specs.State.{calls_of}
use Rattle.std.proofs.lemmas.Result.{err_from_is_err_and}
use Rattle.life_history.specs.Kept.{commit_entry}
use Rattle.log_index.specs.Listing.{IsListingOf}
use Rattle.page_ops.specs.Causes.{IsOpen}
use Rattle.page_ops.specs.Seeing.{Account, IsConsistent}
use Rattle.wal_record.specs.History.{live_count}
use Rattle.wal_record.specs.declared.entry.Entry.{Entry}
use Rattle.wal_record.specs.declared.entry.Entry.TheVariants as entries
use Rattle.journal.proofs.Commits.{acknowledged_safe, failed_safe, flush_ended, on_ok, consistent_then, kept_failed, kept_acknowledged, number_is, waits, may_commit, commits_then, all_stable, rises_since}
use Rattle.journal.proofs.Committing.{one_live}
use Rattle.journal.proofs.KeptBlocks.{keeps_flushed}
use Rattle.journal.proofs.Ending.{told_stops, stopped_ends}
use Rattle.journal.proofs.Entering.{looked}
use Rattle.journal.proofs.Losing.{losers_commit, losers_entry}
use Rattle.journal.proofs.Restoring.{restored_entry}
use Rattle.journal.proofs.Calls.{blames_since, blocks_is, calls_is, durable_flush, end_fresh, ended_is, fault_blames, fine_blames, no_calls, told_quiet}
use Rattle.journal.proofs.journal.Journal.commit.Goals as goal

pub returns-in_err-check_open-clause-ends : goal.returns-in_err-check_open-clause-ends
returns-in_err-check_open-clause-ends g c =
    let p = err_from_is_err_and c.from_residual.result c.from_residual.ensures.1 in
    rw (p.1, p.2) (stopped_ends _ g.N.Life.log_faults _ _ _ _ _ _ c.watch_session.ensures.counts (told_stops g.N.Life.log_faults _ _ _ c.in_err-check_open.ensures.ended))

pub commit-lsn-requires-clause-spare : goal.commit-lsn-requires-clause-spare
commit-lsn-requires-clause-spare g c =
    let watch = c.watch_session.ensures in
    let k = c.self.invariant.1 in
    let h = c.watch_session.new.self in
    let runs = c.in_ok-check_open.ensures.open.0 in
    let l = looked _ _ _ _ _ _ _ _ _ _ h watch.seen watch.pass watch.same (k.ends.acknowledged runs) watch.right c.requires.active in
    let one = one_live h c.watch_session.new.s l.agrees l.some l.live in
    let room = k.life.places.commits in
    omega (arith, one, room, ap live_count watch.same)

pub enter_commit-requires-clause-live : goal.enter_commit-requires-clause-live
enter_commit-requires-clause-live g c =
    let watch = c.watch_session.ensures in
    let k = c.self.invariant.1 in
    let h = c.watch_session.new.self in
    let runs = c.in_ok-check_open.ensures.open.0 in
    let l = looked _ _ _ _ _ _ _ _ _ _ h watch.seen watch.pass watch.same (k.ends.acknowledged runs) watch.right c.requires.active in
    l.live

pub enter_commit-requires-clause-consistent : goal.enter_commit-requires-clause-consistent
enter_commit-requires-clause-consistent g c =
    let watch = c.watch_session.ensures in
    let k = c.self.invariant.1 in
    let h = c.watch_session.new.self in
    let runs = c.in_ok-check_open.ensures.open.0 in
    let l = looked _ _ _ _ _ _ _ _ _ _ h watch.seen watch.pass watch.same (k.ends.acknowledged runs) watch.right c.requires.active in
    consistent_then g.N.Life.opens g.L.Disk.tells g.L.Disk.told g.L.Disk.may_leave c.self.inside.history h c.self.inside.log.log c.self.inside.log.log c.self.inside.log.log c.self.inside.log.listing c.self.inside.log.listing c.self.inside.log.listing c.self.inside.locks c.self.inside.marked k.life watch.same c.watch_session.new.s l c.tx-tx.result c.in_range-prev.result c.commit-lsn.result c.last_of.result c.tx-tx.ensures (subst (λ (n : ℕ). n ≤ 2 ^ 62) (sym (ap (λ x. x.tx) watch.right)) (watch.number c.requires.active)) c.in_range-prev.ensures.low c.last_of.ensures c.in_range-prev.ensures.same c.commit-lsn.ensures.lsn

pub flush_to-requires : goal.flush_to-requires
flush_to-requires g c = omega (arith, c.commit-lsn.ensures.lsn, c.commit-lsn.ensures.next)

pub invariant_of-self-then-is_err : goal.invariant_of-self-then-is_err
invariant_of-self-then-is_err g c =
    let watch = c.watch_session.ensures in
    let k = c.self.invariant.1 in
    let h = c.watch_session.new.self in
    let runs = c.in_ok-check_open.ensures.open.0 in
    let l = looked _ _ _ _ _ _ _ _ _ _ h watch.seen watch.pass watch.same (k.ends.acknowledged runs) watch.right c.requires.active in
    let over = flush_ended g.L.Disk.faults c.commit-lsn.new.self.log.log c.flush_to.new.self.log.log c.flush_to.result (sym c.is_err.ensures.value ∙ c.if-is_err.true) c.flush_to.ensures.refused (c.commit-lsn.ensures.disk.2 ∙ runs) in
    (c.self.invariant.0, kept_failed g.N.Life.opens g.L.Disk.tells g.L.Disk.told g.L.Disk.may_leave c.self.inside.history h c.self.inside.log.log c.commit-lsn.new.self.log c.flush_to.new.self.log c.self.inside.log.listing c.commit-lsn.new.self.listing c.flush_to.new.self.listing c.self.inside.locks c.self.inside.marked k.life watch.same c.watch_session.new.s l c.tx-tx.result c.in_range-prev.result c.commit-lsn.result c.last_of.result c.tx-tx.ensures (subst (λ (n : ℕ). n ≤ 2 ^ 62) (sym (ap (λ x. x.tx) watch.right)) (watch.number c.requires.active)) c.in_range-prev.ensures.low c.last_of.ensures c.in_range-prev.ensures.same c.commit-lsn.ensures.lsn c.commit-lsn.ensures.more c.commit-lsn.ensures.spare c.commit-lsn.ensures.disk.1 c.commit-lsn.ensures.disk.2 c.release_all.new.self c.release_all.ensures.released c.enter_commit.new.self c.enter_commit.ensures.history c.enter_commit.ensures.live runs c.flush_to.ensures.same c.flush_to.ensures.spare c.flush_to.ensures.rises c.note_fault.new.faults.total c.check_open.new.faults.total over c.note_fault.ensures.total c.look.new.self c.look.ensures.same, restored_entry c.self.inside.history _ c.self.inside.restored (commit_entry c.commit-lsn.result c.watch_session.new.s.tx c.in_range-prev.result) c.self.invariant.2 (c.look.ensures.same ∙ c.enter_commit.ensures.history ∙ ap (λ (l : List Entry). l ++ commit_entry c.commit-lsn.result c.watch_session.new.s.tx c.in_range-prev.result ∷ []) watch.same) (λ s. refl), losers_commit g.N.Life.opens c.self.inside.history _ c.self.inside.losers c.self.inside.losers c.self.invariant.3 h c.commit-lsn.result c.watch_session.new.s.tx c.in_range-prev.result watch.same l.consistent l.live (c.look.ensures.same ∙ c.enter_commit.ensures.history), failed_safe g.N.Life.opens g.L.Disk.tells g.L.Disk.told g.L.Disk.may_leave c.self.inside.history h c.self.inside.log.log c.commit-lsn.new.self.log c.flush_to.new.self.log c.self.inside.log.listing c.commit-lsn.new.self.listing c.flush_to.new.self.listing c.self.inside.locks c.self.inside.marked k.life watch.same c.watch_session.new.s l c.tx-tx.result c.in_range-prev.result c.commit-lsn.result c.last_of.result c.tx-tx.ensures (subst (λ (n : ℕ). n ≤ 2 ^ 62) (sym (ap (λ x. x.tx) watch.right)) (watch.number c.requires.active)) c.in_range-prev.ensures.low c.last_of.ensures c.in_range-prev.ensures.same c.commit-lsn.ensures.lsn c.commit-lsn.ensures.more c.commit-lsn.ensures.spare c.commit-lsn.ensures.disk.1 c.commit-lsn.ensures.disk.2 c.release_all.new.self c.release_all.ensures.released c.enter_commit.new.self c.enter_commit.ensures.history c.enter_commit.ensures.live runs c.flush_to.ensures.same c.flush_to.ensures.spare c.flush_to.ensures.rises c.self.invariant.4 c.commit-lsn.ensures.disk.0 c.commit-lsn.ensures.groups c.flush_to.ensures.left c.look.new.self c.look.ensures.same, durable_flush g.L.Disk.faults c.commit-lsn.new.self.log.log c.flush_to.new.self.log.log c.flush_to.result (c.commit-lsn.ensures.disk.2 ∙ runs) c.flush_to.ensures.live c.flush_to.ensures.refused)

pub returns-then-is_err-clause-entered : goal.returns-then-is_err-clause-entered
returns-then-is_err-clause-entered g c =
    let watch = c.watch_session.ensures in
    let k = c.self.invariant.1 in
    let h = c.watch_session.new.self in
    let runs = c.in_ok-check_open.ensures.open.0 in
    let l = looked _ _ _ _ _ _ _ _ _ _ h watch.seen watch.pass watch.same (k.ends.acknowledged runs) watch.right c.requires.active in
    let first : c.enter_commit.new.self ≡ h ++ commit_entry c.commit-lsn.result c.args.s.now.tx c.in_range-prev.result ∷ [] = c.enter_commit.ensures.history ∙ (λ i. h ++ commit_entry c.commit-lsn.result (watch.right i).tx c.in_range-prev.result ∷ []) in
    let whole = subst (λ (n : ℕ). IsConsistent g.N.Life.opens (h ++ commit_entry c.commit-lsn.result n c.in_range-prev.result ∷ [])) (ap (λ x. x.tx) watch.right) (consistent_then g.N.Life.opens g.L.Disk.tells g.L.Disk.told g.L.Disk.may_leave c.self.inside.history h c.self.inside.log.log c.self.inside.log.log c.self.inside.log.log c.self.inside.log.listing c.self.inside.log.listing c.self.inside.log.listing c.self.inside.locks c.self.inside.marked k.life watch.same c.watch_session.new.s l c.tx-tx.result c.in_range-prev.result c.commit-lsn.result c.last_of.result c.tx-tx.ensures (subst (λ (n : ℕ). n ≤ 2 ^ 62) (sym (ap (λ x. x.tx) watch.right)) (watch.number c.requires.active)) c.in_range-prev.ensures.low c.last_of.ensures c.in_range-prev.ensures.same c.commit-lsn.ensures.lsn) in
    may_commit g.N.Life.opens g.N.Life.entries g.N.Life.session_entries g.N.Life.log_faults _ _ _ c.enter_commit.new.counts _ _ _ _ _ h c.enter_commit.new.self c.commit-lsn.result c.in_range-prev.result watch.seen watch.counts c.in_ok-check_open.ensures.open.1 watch.right (watch.pass ∙ sym watch.same)
    first c.enter_commit.ensures.counts c.enter_commit.ensures.counted whole c.enter_commit.ensures.agrees _ c.note_fault.new.counts _ c.look.ensures.pass c.look.ensures.durable
    (subst IsOpen watch.counts c.in_ok-check_open.ensures.open.2) c.note_fault.ensures.failed c.look.ensures.counts

pub acknowledge-requires-clause-committed : goal.acknowledge-requires-clause-committed
acknowledge-requires-clause-committed g c = waits c.watch_session.new.self c.enter_commit.new.self c.commit-lsn.result c.watch_session.new.s.tx c.in_range-prev.result c.enter_commit.new.s.tx c.enter_commit.ensures.history (ap (λ x. x.tx) c.enter_commit.ensures.right)

pub invariant_of-self-2 : goal.invariant_of-self-2
invariant_of-self-2 g c =
    let watch = c.watch_session.ensures in
    let k = c.self.invariant.1 in
    let h = c.watch_session.new.self in
    let runs = c.in_ok-check_open.ensures.open.0 in
    let l = looked _ _ _ _ _ _ _ _ _ _ h watch.seen watch.pass watch.same (k.ends.acknowledged runs) watch.right c.requires.active in
    let done = c.acknowledge.ensures in
    let last = c.look-2.ensures in
    let fine = sym c.is_err.ensures.value ∙ c.if-is_err.false in
    let acked = last.same ∙ done.history ∙ (λ i. c.enter_commit.new.self ++ entries.Acked (c.enter_commit.ensures.right i).session (c.enter_commit.ensures.right i).tx ∷ []) in (
      c.tell_durable.ensures.same,
      kept_acknowledged g.N.Life.opens g.L.Disk.tells g.L.Disk.told g.L.Disk.may_leave c.self.inside.history h c.self.inside.log.log c.commit-lsn.new.self.log c.flush_to.new.self.log c.self.inside.log.listing c.commit-lsn.new.self.listing c.flush_to.new.self.listing c.self.inside.locks c.self.inside.marked k.life watch.same c.watch_session.new.s l c.tx-tx.result c.in_range-prev.result c.commit-lsn.result c.last_of.result c.tx-tx.ensures (subst (λ (n : ℕ). n ≤ 2 ^ 62) (sym (ap (λ x. x.tx) watch.right)) (watch.number c.requires.active)) c.in_range-prev.ensures.low c.last_of.ensures c.in_range-prev.ensures.same c.commit-lsn.ensures.lsn c.commit-lsn.ensures.more c.commit-lsn.ensures.spare c.commit-lsn.ensures.disk.1 c.commit-lsn.ensures.disk.2 c.release_all.new.self c.release_all.ensures.released c.enter_commit.new.self c.enter_commit.ensures.history c.enter_commit.ensures.live runs c.flush_to.ensures.same c.flush_to.ensures.spare c.flush_to.ensures.rises c.self.inside.faults.total c.check_open.new.faults.total c.tell_durable.new.marked c.durable.result c.watch_session.new.s.session k.ends c.check_open.ensures.total
          (on_ok c.flush_to.result fine c.flush_to.ensures.live).1 c.durable.ensures c.tell_durable.ensures.number c.look-2.new.self acked (ap live_count last.same ∙ done.live),
      restored_entry c.enter_commit.new.self _ c.self.inside.restored (entries.Acked c.watch_session.new.s.session c.watch_session.new.s.tx) (restored_entry c.self.inside.history _ c.self.inside.restored (commit_entry c.commit-lsn.result c.watch_session.new.s.tx c.in_range-prev.result) c.self.invariant.2 (c.enter_commit.ensures.history ∙ ap (λ (l : List Entry). l ++ commit_entry c.commit-lsn.result c.watch_session.new.s.tx c.in_range-prev.result ∷ []) watch.same) (λ s. refl)) acked (λ s. refl),
      losers_entry g.N.Life.opens c.enter_commit.new.self _ c.self.inside.losers c.self.inside.losers (losers_commit g.N.Life.opens c.self.inside.history _ c.self.inside.losers c.self.inside.losers c.self.invariant.3 h c.commit-lsn.result c.watch_session.new.s.tx c.in_range-prev.result watch.same l.consistent l.live c.enter_commit.ensures.history) (entries.Acked c.watch_session.new.s.session c.watch_session.new.s.tx) acked refl (λ t. refl),
      acknowledged_safe g.N.Life.opens g.L.Disk.tells g.L.Disk.told g.L.Disk.may_leave c.self.inside.history h c.self.inside.log.log c.commit-lsn.new.self.log c.flush_to.new.self.log c.self.inside.log.listing c.commit-lsn.new.self.listing c.flush_to.new.self.listing c.self.inside.locks c.self.inside.marked k.life watch.same c.watch_session.new.s l c.tx-tx.result c.in_range-prev.result c.commit-lsn.result c.last_of.result c.tx-tx.ensures (subst (λ (n : ℕ). n ≤ 2 ^ 62) (sym (ap (λ x. x.tx) watch.right)) (watch.number c.requires.active)) c.in_range-prev.ensures.low c.last_of.ensures c.in_range-prev.ensures.same c.commit-lsn.ensures.lsn c.commit-lsn.ensures.more c.commit-lsn.ensures.spare c.commit-lsn.ensures.disk.1 c.commit-lsn.ensures.disk.2 c.release_all.new.self c.release_all.ensures.released c.enter_commit.new.self c.enter_commit.ensures.history c.enter_commit.ensures.live runs c.flush_to.ensures.same c.flush_to.ensures.spare c.flush_to.ensures.rises c.self.invariant.4 c.commit-lsn.ensures.disk.0 c.commit-lsn.ensures.groups c.flush_to.ensures.left c.watch_session.new.s.session (on_ok c.flush_to.result fine c.flush_to.ensures.live).1 (on_ok c.flush_to.result fine c.flush_to.ensures.durable) c.look-2.new.self acked,
      durable_flush g.L.Disk.faults c.commit-lsn.new.self.log.log c.flush_to.new.self.log.log c.flush_to.result (c.commit-lsn.ensures.disk.2 ∙ runs) c.flush_to.ensures.live c.flush_to.ensures.refused,
    )

pub returns-clause-entered : goal.returns-clause-entered
returns-clause-entered g c =
    let watch = c.watch_session.ensures in
    let k = c.self.invariant.1 in
    let h = c.watch_session.new.self in
    let runs = c.in_ok-check_open.ensures.open.0 in
    let l = looked _ _ _ _ _ _ _ _ _ _ h watch.seen watch.pass watch.same (k.ends.acknowledged runs) watch.right c.requires.active in
    let first : c.enter_commit.new.self ≡ h ++ commit_entry c.commit-lsn.result c.args.s.now.tx c.in_range-prev.result ∷ [] = c.enter_commit.ensures.history ∙ (λ i. h ++ commit_entry c.commit-lsn.result (watch.right i).tx c.in_range-prev.result ∷ []) in
    let whole = subst (λ (n : ℕ). IsConsistent g.N.Life.opens (h ++ commit_entry c.commit-lsn.result n c.in_range-prev.result ∷ [])) (ap (λ x. x.tx) watch.right) (consistent_then g.N.Life.opens g.L.Disk.tells g.L.Disk.told g.L.Disk.may_leave c.self.inside.history h c.self.inside.log.log c.self.inside.log.log c.self.inside.log.log c.self.inside.log.listing c.self.inside.log.listing c.self.inside.log.listing c.self.inside.locks c.self.inside.marked k.life watch.same c.watch_session.new.s l c.tx-tx.result c.in_range-prev.result c.commit-lsn.result c.last_of.result c.tx-tx.ensures (subst (λ (n : ℕ). n ≤ 2 ^ 62) (sym (ap (λ x. x.tx) watch.right)) (watch.number c.requires.active)) c.in_range-prev.ensures.low c.last_of.ensures c.in_range-prev.ensures.same c.commit-lsn.ensures.lsn) in
    let done = c.acknowledge.ensures in
    let last = c.look-2.ensures in
    let tell = c.tell_durable.ensures in
    let fine = sym c.is_err.ensures.value ∙ c.if-is_err.false in
    let acked = done.history ∙ (λ i. c.enter_commit.new.self ++ entries.Acked (c.enter_commit.ensures.right i).session (c.enter_commit.ensures.right i).tx ∷ []) ∙ (λ i. c.enter_commit.new.self ++ entries.Acked (watch.right i).session (watch.right i).tx ∷ []) in
    let least = on_ok c.flush_to.result fine c.flush_to.ensures.durable in
    let number = number_is g.N.Life.opens g.L.Disk.tells g.L.Disk.told g.L.Disk.may_leave c.self.inside.history h c.self.inside.log.log c.commit-lsn.new.self.log c.flush_to.new.self.log c.self.inside.log.listing c.commit-lsn.new.self.listing c.flush_to.new.self.listing c.self.inside.locks c.self.inside.marked k.life watch.same c.watch_session.new.s l c.tx-tx.result c.in_range-prev.result c.commit-lsn.result c.last_of.result c.tx-tx.ensures (subst (λ (n : ℕ). n ≤ 2 ^ 62) (sym (ap (λ x. x.tx) watch.right)) (watch.number c.requires.active)) c.in_range-prev.ensures.low c.last_of.ensures c.in_range-prev.ensures.same c.commit-lsn.ensures.lsn c.commit-lsn.ensures.more c.commit-lsn.ensures.spare c.commit-lsn.ensures.disk.1 c.commit-lsn.ensures.disk.2 c.release_all.new.self c.release_all.ensures.released c.enter_commit.new.self c.enter_commit.ensures.history c.enter_commit.ensures.live runs c.flush_to.ensures.same c.flush_to.ensures.spare c.flush_to.ensures.rises c.commits.result (λ goes rs has. c.commits.ensures rs (subst (IsListingOf rs) (sym c.listing.ensures) has.listing)) in
    commits_then g.N.Life.opens g.N.Life.entries g.N.Life.session_entries g.N.Life.log_faults _ _ _ c.enter_commit.new.counts _ _ _ _ _ h c.enter_commit.new.self c.commit-lsn.result c.in_range-prev.result watch.seen watch.counts c.in_ok-check_open.ensures.open.1 watch.right (watch.pass ∙ sym watch.same)
    first c.enter_commit.ensures.counts c.enter_commit.ensures.counted whole c.enter_commit.ensures.agrees c.acknowledge.new.counts _ c.look-2.new.pass _ _ c.acknowledge.new.self _ acked done.counts last.counts done.consistent done.agrees (tell.log ∙ last.pass)
    (omega (arith, last.durable, tell.before)) (c.length.ensures ∙ ap (λ (y : List Entry). length y) last.same) number (omega (arith, least, c.durable.ensures, tell.told))

-- ---- the log disk

pub returns-in_err-check_open-clause-calls : goal.returns-in_err-check_open-clause-calls
returns-in_err-check_open-clause-calls g c =
    let p = err_from_is_err_and c.from_residual.result c.from_residual.ensures.1 in
    rw (p.1, p.2) (no_calls _ _ _ (sym (calls_is _ _ c.self.view_is)) (told_quiet g.N.Life.log_faults _ _ _ c.in_err-check_open.ensures.ended))

pub returns-then-is_err-clause-end : goal.returns-then-is_err-clause-end
returns-then-is_err-clause-end g c = end_fresh _ _ (sym (ended_is _ _ c.self.view_is) ∙ c.in_ok-check_open.ensures.open.0)

pub returns-clause-end : goal.returns-clause-end
returns-clause-end g c = end_fresh _ _ (sym (ended_is _ _ c.self.view_is) ∙ c.in_ok-check_open.ensures.open.0)

pub returns-then-is_err-clause-learns : goal.returns-then-is_err-clause-learns
returns-then-is_err-clause-learns g c = inr (ap (λ (a : Account). a.ended) c.look.ensures.counts ∙ c.note_fault.ensures.end)

pub returns-clause-learns : goal.returns-clause-learns
returns-clause-learns g c =
    let before = c.in_ok-check_open.ensures.open.1 ∙ c.watch_session.ensures.counts in
    inl (ap (λ (a : Account). a.ended) c.look-2.ensures.counts ∙ ap (λ (a : Account). a.ended) c.acknowledge.ensures.counts ∙ ap (λ (a : Account). a.ended) c.enter_commit.ensures.counts ∙ ap (λ (a : Account). a.ended) before)

pub returns-then-is_err-clause-calls : goal.returns-then-is_err-clause-calls
returns-then-is_err-clause-calls g c =
    let added = c.commit-lsn.ensures.disk in
    let flush = c.flush_to.ensures in
    let failed = fault_blames g.L.Disk.passes g.L.Disk.refused g.L.Disk.own g.L.Disk.faults c.commit-lsn.new.self.log.log c.flush_to.new.self.log.log c.flush_to.result (sym c.is_err.ensures.value ∙ c.if-is_err.true) flush.refused (added.2 ∙ c.in_ok-check_open.ensures.open.0) flush.fuse in
    blames_since g.L.Disk.passes g.L.Disk.refused g.L.Disk.own _ _ _ (ap (calls_of g.L.Disk.passes g.L.Disk.refused g.L.Disk.own) added.0 ∙ calls_is _ _ c.self.view_is) _ failed

pub returns-clause-calls : goal.returns-clause-calls
returns-clause-calls g c =
    let fine = fine_blames g.L.Disk.passes g.L.Disk.refused g.L.Disk.own g.L.Disk.faults c.commit-lsn.new.self.log.log c.flush_to.new.self.log.log c.flush_to.result (sym c.is_err.ensures.value ∙ c.if-is_err.false) c.flush_to.ensures.fuse in
    blames_since g.L.Disk.passes g.L.Disk.refused g.L.Disk.own _ _ _ (ap (calls_of g.L.Disk.passes g.L.Disk.refused g.L.Disk.own) c.commit-lsn.ensures.disk.0 ∙ calls_is _ _ c.self.view_is) _ fine

-- ---- the durable blocks

pub returns-then-is_err-clause-blocks : goal.returns-then-is_err-clause-blocks
returns-then-is_err-clause-blocks g c =
    let watch = c.watch_session.ensures in
    let k = c.self.invariant.1 in
    let h = c.watch_session.new.self in
    let runs = c.in_ok-check_open.ensures.open.0 in
    let l = looked _ _ _ _ _ _ _ _ _ _ h watch.seen watch.pass watch.same (k.ends.acknowledged runs) watch.right c.requires.active in
    keeps_flushed g.N.Life.opens _ _ _ (c.commit-lsn.ensures.disk.1 ∙ blocks_is _ _ c.self.view_is) c.flush_to.ensures.begins
    (rises_since g.N.Life.opens g.L.Disk.tells g.L.Disk.told g.L.Disk.may_leave c.self.inside.history h c.self.inside.log.log c.commit-lsn.new.self.log c.flush_to.new.self.log c.self.inside.log.listing c.commit-lsn.new.self.listing c.flush_to.new.self.listing c.self.inside.locks c.self.inside.marked k.life watch.same c.watch_session.new.s l c.tx-tx.result c.in_range-prev.result c.commit-lsn.result c.last_of.result c.tx-tx.ensures (subst (λ (n : ℕ). n ≤ 2 ^ 62) (sym (ap (λ x. x.tx) watch.right)) (watch.number c.requires.active)) c.in_range-prev.ensures.low c.last_of.ensures c.in_range-prev.ensures.same c.commit-lsn.ensures.lsn c.commit-lsn.ensures.more c.commit-lsn.ensures.spare c.commit-lsn.ensures.disk.1 c.commit-lsn.ensures.disk.2 c.release_all.new.self c.release_all.ensures.released c.enter_commit.new.self c.enter_commit.ensures.history c.enter_commit.ensures.live runs c.flush_to.ensures.same c.flush_to.ensures.spare c.flush_to.ensures.rises)

pub returns-clause-blocks : goal.returns-clause-blocks
returns-clause-blocks g c =
    let watch = c.watch_session.ensures in
    let k = c.self.invariant.1 in
    let h = c.watch_session.new.self in
    let runs = c.in_ok-check_open.ensures.open.0 in
    let l = looked _ _ _ _ _ _ _ _ _ _ h watch.seen watch.pass watch.same (k.ends.acknowledged runs) watch.right c.requires.active in
    keeps_flushed g.N.Life.opens _ _ _ (c.commit-lsn.ensures.disk.1 ∙ blocks_is _ _ c.self.view_is) c.flush_to.ensures.begins
    (rises_since g.N.Life.opens g.L.Disk.tells g.L.Disk.told g.L.Disk.may_leave c.self.inside.history h c.self.inside.log.log c.commit-lsn.new.self.log c.flush_to.new.self.log c.self.inside.log.listing c.commit-lsn.new.self.listing c.flush_to.new.self.listing c.self.inside.locks c.self.inside.marked k.life watch.same c.watch_session.new.s l c.tx-tx.result c.in_range-prev.result c.commit-lsn.result c.last_of.result c.tx-tx.ensures (subst (λ (n : ℕ). n ≤ 2 ^ 62) (sym (ap (λ x. x.tx) watch.right)) (watch.number c.requires.active)) c.in_range-prev.ensures.low c.last_of.ensures c.in_range-prev.ensures.same c.commit-lsn.ensures.lsn c.commit-lsn.ensures.more c.commit-lsn.ensures.spare c.commit-lsn.ensures.disk.1 c.commit-lsn.ensures.disk.2 c.release_all.new.self c.release_all.ensures.released c.enter_commit.new.self c.enter_commit.ensures.history c.enter_commit.ensures.live runs c.flush_to.ensures.same c.flush_to.ensures.spare c.flush_to.ensures.rises)

pub returns-clause-stable : goal.returns-clause-stable
returns-clause-stable g c =
    let watch = c.watch_session.ensures in
    let k = c.self.invariant.1 in
    let h = c.watch_session.new.self in
    let runs = c.in_ok-check_open.ensures.open.0 in
    let l = looked _ _ _ _ _ _ _ _ _ _ h watch.seen watch.pass watch.same (k.ends.acknowledged runs) watch.right c.requires.active in
    let fine = sym c.is_err.ensures.value ∙ c.if-is_err.false in
    let acked = c.tell_durable.ensures.log ∙ c.look-2.ensures.pass ∙ c.acknowledge.ensures.history ∙ (λ i. c.enter_commit.new.self ++ entries.Acked (c.enter_commit.ensures.right i).session (c.enter_commit.ensures.right i).tx ∷ []) in
    all_stable g.N.Life.opens g.L.Disk.tells g.L.Disk.told g.L.Disk.may_leave c.self.inside.history h c.self.inside.log.log c.commit-lsn.new.self.log c.flush_to.new.self.log c.self.inside.log.listing c.commit-lsn.new.self.listing c.flush_to.new.self.listing c.self.inside.locks c.self.inside.marked k.life watch.same c.watch_session.new.s l c.tx-tx.result c.in_range-prev.result c.commit-lsn.result c.last_of.result c.tx-tx.ensures (subst (λ (n : ℕ). n ≤ 2 ^ 62) (sym (ap (λ x. x.tx) watch.right)) (watch.number c.requires.active)) c.in_range-prev.ensures.low c.last_of.ensures c.in_range-prev.ensures.same c.commit-lsn.ensures.lsn c.commit-lsn.ensures.more c.commit-lsn.ensures.spare c.commit-lsn.ensures.disk.1 c.commit-lsn.ensures.disk.2 c.release_all.new.self c.release_all.ensures.released c.enter_commit.new.self c.enter_commit.ensures.history c.enter_commit.ensures.live runs c.flush_to.ensures.same c.flush_to.ensures.spare c.flush_to.ensures.rises c.watch_session.new.s.session (on_ok c.flush_to.result fine c.flush_to.ensures.durable) c.tell_durable.new.pass.log acked
