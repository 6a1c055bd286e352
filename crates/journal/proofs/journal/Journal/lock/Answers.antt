use Rattle.std.proofs.Common.{◌++◌, ◌∷◌, [], ◌≡◌, ℕ, List, length, false, sym, ap, ◌∙◌, refl, subst}
use Rattle.std.proofs.lemmas.Result.{err_from_is_err_and}
use Rattle.page_ops.specs.Outcomes.{IsFirstConflict, IsLeastLoser}
use Rattle.page_ops.specs.Seeing.{IsConsistent}
use Rattle.range_lock.specs.Held as table
use Rattle.range_lock.specs.Lock.{Lock, conflict}
use Rattle.range_lock.specs.Nearest.{IsFirstInConflict}
use Rattle.range_lock.specs.declared.rival.Rival.{Rival}
use Rattle.wal_record.specs.History.{live_count}
use Rattle.wal_record.specs.Legal.{held}
use Rattle.wal_record.specs.Locks.{locks}
use Rattle.wal_record.specs.declared.entry.Entry.{Entry}
use Rattle.wal_record.specs.declared.entry.Entry.TheVariants as entries
use Rattle.journal.specs.Locks.{AreHeld, IsFree}
use Rattle.journal.proofs.Ending.{told_stops, stopped_ends}
use Rattle.journal.proofs.Entering.{looked, entered_entry}
use Rattle.journal.proofs.Living.{kept_entry, kept_locks}
use Rattle.journal.proofs.Locking.{lock_consistent, refused_consistent, conflict_told, held_more, held_refused}
use Rattle.journal.proofs.Losing.{losers_entry, losers_same}
use Rattle.journal.proofs.Restoring.{restored_entry, restored_same}
use Rattle.journal.proofs.Waiting.{loser_seen, none_seen}
use Rattle.journal.proofs.Stopping.{entry_safe, still_safe}
use Rattle.journal.proofs.journal.Journal.lock.Goals as goal

pub returns-in_err-check_open-clause-ends : goal.returns-in_err-check_open-clause-ends
returns-in_err-check_open-clause-ends g c =
    let p = err_from_is_err_and c.from_residual.result c.from_residual.ensures.1 in
    rw (p.1, p.2) (stopped_ends _ g.N.Life.log_faults _ _ _ _ _ _ c.watch_session.ensures.counts (told_stops g.N.Life.log_faults _ _ _ c.in_err-check_open.ensures.ended))

pub enter_lock-requires-clause-consistent : goal.enter_lock-requires-clause-consistent
enter_lock-requires-clause-consistent g c =
    let watch = c.watch_session.ensures in
    let h = c.watch_session.new.self in
    let t = c.self.inside.locks in
    let k = c.self.invariant.1 in
    let l = looked _ _ _ _ _ _ _ _ _ _ h watch.seen watch.pass watch.same (k.ends.acknowledged c.in_ok-check_open.ensures.open.0) watch.right c.requires.active in
    let a : Lock = record { tx = c.watch_session.new.s.tx; range = c.args.range.now; mode = c.args.mode } in
    let tx : c.tx-tx.result ≡ a.tx = c.tx-tx.ensures in
    let here = subst (λ (x : List Entry). AreHeld x t) (sym watch.same) k.life.locks in
    let free_here : IsFree t a = λ x has. subst (λ (n : ℕ). conflict (record { tx = n; range = c.args.range.now; mode = c.args.mode }) x ≡ false) tx (c.in-Ok.ensures.free x has) in
    let none = none_seen g.N.Life.opens h c.self.inside.history t a c.self.inside.log.log c.self.inside.log.listing _ c.self.inside.losers _ watch.same l.consistent k.life.records c.self.invariant.3 c.listing-listing.ensures c.all-losers.ensures c.tx-tx.result tx c.in-Ok.ensures.free (rw c.in_default.is at c.in_ok-loser.ensures.none) in
    lock_consistent g.N.Life.opens h l.consistent t here a l.live none free_here

pub invariant_of-self-in-Ok : goal.invariant_of-self-in-Ok
invariant_of-self-in-Ok g c =
    let watch = c.watch_session.ensures in
    let own = c.enter_lock.ensures in
    let k = c.self.invariant.1 in
    let a : Lock = record { tx = c.watch_session.new.s.tx; range = c.args.range.now; mode = c.args.mode } in
    let e : Entry = entries.Lock a.tx a.range a.mode in
    let gains = subst (λ (n : ℕ). table.Gains c.self.inside.locks c.acquire.new.self (record { tx = n; range = c.args.range.now; mode = c.args.mode })) c.tx-tx.ensures c.in-Ok.ensures.ok in (
      c.self.invariant.0,
      kept_entry _ _ _ _ _ _ c.self.inside.log.log c.self.inside.log.log c.self.inside.log.listing c.self.inside.log.listing c.self.inside.locks c.acquire.new.self _ _ _ k c.check_open.ensures.total e
          (own.history ∙ ap (λ (l : List Entry). l ++ e ∷ []) watch.same) refl (held_more c.self.inside.history c.self.inside.locks k.life.locks c.acquire.new.self a gains) (own.live.0 ∙ ap live_count watch.same) (λ t p waits. waits),
      restored_entry c.self.inside.history _ c.self.inside.restored e c.self.invariant.2 (own.history ∙ ap (λ (l : List Entry). l ++ e ∷ []) watch.same) (λ s. refl),
      losers_entry g.N.Life.opens c.self.inside.history _ c.self.inside.losers c.self.inside.losers c.self.invariant.3 e (own.history ∙ ap (λ (l : List Entry). l ++ e ∷ []) watch.same) refl (λ t. refl),
      entry_safe g.N.Life.opens g.L.Disk.told g.L.Disk.may_leave c.self.inside.history _ c.self.inside.log.log.log c.self.inside.log.log.log c.self.invariant.4 e (own.history ∙ ap (λ (l : List Entry). l ++ e ∷ []) watch.same) refl (λ t. refl) refl,
      c.self.invariant.5,
    )

pub returns-in-Ok-clause-entered : goal.returns-in-Ok-clause-entered
returns-in-Ok-clause-entered g c =
    let watch = c.watch_session.ensures in
    let h = c.watch_session.new.self in
    let t = c.self.inside.locks in
    let k = c.self.invariant.1 in
    let l = looked _ _ _ _ _ _ _ _ _ _ h watch.seen watch.pass watch.same (k.ends.acknowledged c.in_ok-check_open.ensures.open.0) watch.right c.requires.active in
    let a : Lock = record { tx = c.watch_session.new.s.tx; range = c.args.range.now; mode = c.args.mode } in
    let tx : c.tx-tx.result ≡ a.tx = c.tx-tx.ensures in
    let here = subst (λ (x : List Entry). AreHeld x t) (sym watch.same) k.life.locks in
    let own = c.enter_lock.ensures in
    let claim : a.tx ≡ c.args.s.now.tx = ap (λ x. x.tx) watch.right in
    let free_here : IsFree t a = λ x has. subst (λ (n : ℕ). conflict (record { tx = n; range = c.args.range.now; mode = c.args.mode }) x ≡ false) tx (c.in-Ok.ensures.free x has) in
    let none = none_seen g.N.Life.opens h c.self.inside.history t a c.self.inside.log.log c.self.inside.log.listing _ c.self.inside.losers _ watch.same l.consistent k.life.records c.self.invariant.3 c.listing-listing.ensures c.all-losers.ensures c.tx-tx.result tx c.in-Ok.ensures.free (rw c.in_default.is at c.in_ok-loser.ensures.none) in
    entered_entry _ _ _ _ _ _ _ _ _ _ _ _ _ h _ (entries.Lock c.args.s.now.tx c.args.range.now c.args.mode) watch.seen watch.counts c.in_ok-check_open.ensures.open.1 watch.right (watch.pass ∙ sym watch.same)
    (own.history ∙ (λ i. h ++ entries.Lock (claim i) c.args.range.now c.args.mode ∷ [])) own.seen own.durable own.counts own.counted
    (subst (λ (n : ℕ). IsConsistent g.N.Life.opens (h ++ entries.Lock n c.args.range.now c.args.mode ∷ [])) claim (lock_consistent g.N.Life.opens h l.consistent t here a l.live none free_here))
    own.agrees

-- ---- refused

pub enter_refused-requires-clause-consistent : goal.enter_refused-requires-clause-consistent
enter_refused-requires-clause-consistent g c =
    let watch = c.watch_session.ensures in
    let h = c.watch_session.new.self in
    let t = c.self.inside.locks in
    let k = c.self.invariant.1 in
    let l = looked _ _ _ _ _ _ _ _ _ _ h watch.seen watch.pass watch.same (k.ends.acknowledged c.in_ok-check_open.ensures.open.0) watch.right c.requires.active in
    let a : Lock = record { tx = c.watch_session.new.s.tx; range = c.args.range.now; mode = c.args.mode } in
    let tx : c.tx-tx.result ≡ a.tx = c.tx-tx.ensures in
    let here = subst (λ (x : List Entry). AreHeld x t) (sym watch.same) k.life.locks in
    let r : Rival = record { holder = c.in-Err-Overlap.holder; range = c.in-Err-Overlap.first } in
    let first = rw c.in-Err-Overlap.field-0-is at c.in-Err-Overlap.ensures.refused in
    let f : IsFirstInConflict a (table.held t) r = subst (λ (n : ℕ). IsFirstInConflict (record { tx = n; range = c.args.range.now; mode = c.args.mode }) (table.held t) r) tx first in
    refused_consistent g.N.Life.opens h l.consistent t here a l.live r f

pub invariant_of-self-in-Err-Overlap : goal.invariant_of-self-in-Err-Overlap
invariant_of-self-in-Err-Overlap g c =
    let watch = c.watch_session.ensures in
    let own = c.enter_refused.ensures in
    let k = c.self.invariant.1 in
    let a : Lock = record { tx = c.watch_session.new.s.tx; range = c.args.range.now; mode = c.args.mode } in
    let e : Entry = entries.Refused a.tx a.range a.mode c.in-Err-Overlap.holder in (
      c.self.invariant.0,
      kept_entry _ _ _ _ _ _ c.self.inside.log.log c.self.inside.log.log c.self.inside.log.listing c.self.inside.log.listing c.self.inside.locks c.acquire.new.self _ _ _ k c.check_open.ensures.total e
          (own.history ∙ ap (λ (l : List Entry). l ++ e ∷ []) watch.same) refl (held_refused c.self.inside.history c.self.inside.locks k.life.locks c.acquire.new.self a c.in-Err-Overlap.holder c.in-Err-Overlap.ensures.err) (own.live.0 ∙ ap live_count watch.same) (λ t p waits. waits),
      restored_entry c.self.inside.history _ c.self.inside.restored e c.self.invariant.2 (own.history ∙ ap (λ (l : List Entry). l ++ e ∷ []) watch.same) (λ s. refl),
      losers_entry g.N.Life.opens c.self.inside.history _ c.self.inside.losers c.self.inside.losers c.self.invariant.3 e (own.history ∙ ap (λ (l : List Entry). l ++ e ∷ []) watch.same) refl (λ t. refl),
      entry_safe g.N.Life.opens g.L.Disk.told g.L.Disk.may_leave c.self.inside.history _ c.self.inside.log.log.log c.self.inside.log.log.log c.self.invariant.4 e (own.history ∙ ap (λ (l : List Entry). l ++ e ∷ []) watch.same) refl (λ t. refl) refl,
      c.self.invariant.5,
    )

pub returns-in-Err-Overlap-clause-entered : goal.returns-in-Err-Overlap-clause-entered
returns-in-Err-Overlap-clause-entered g c =
    let watch = c.watch_session.ensures in
    let h = c.watch_session.new.self in
    let t = c.self.inside.locks in
    let k = c.self.invariant.1 in
    let l = looked _ _ _ _ _ _ _ _ _ _ h watch.seen watch.pass watch.same (k.ends.acknowledged c.in_ok-check_open.ensures.open.0) watch.right c.requires.active in
    let a : Lock = record { tx = c.watch_session.new.s.tx; range = c.args.range.now; mode = c.args.mode } in
    let tx : c.tx-tx.result ≡ a.tx = c.tx-tx.ensures in
    let here = subst (λ (x : List Entry). AreHeld x t) (sym watch.same) k.life.locks in
    let r : Rival = record { holder = c.in-Err-Overlap.holder; range = c.in-Err-Overlap.first } in
    let first = rw c.in-Err-Overlap.field-0-is at c.in-Err-Overlap.ensures.refused in
    let f : IsFirstInConflict a (table.held t) r = subst (λ (n : ℕ). IsFirstInConflict (record { tx = n; range = c.args.range.now; mode = c.args.mode }) (table.held t) r) tx first in
    let own = c.enter_refused.ensures in
    let claim : a.tx ≡ c.args.s.now.tx = ap (λ x. x.tx) watch.right in
    entered_entry _ _ _ _ _ _ _ _ _ _ _ _ _ h _ (entries.Refused c.args.s.now.tx c.args.range.now c.args.mode c.in-Err-Overlap.holder) watch.seen watch.counts c.in_ok-check_open.ensures.open.1 watch.right (watch.pass ∙ sym watch.same)
    (own.history ∙ (λ i. h ++ entries.Refused (claim i) c.args.range.now c.args.mode c.in-Err-Overlap.holder ∷ [])) own.seen own.durable own.counts own.counted
    (subst (λ (n : ℕ). IsConsistent g.N.Life.opens (h ++ entries.Refused n c.args.range.now c.args.mode c.in-Err-Overlap.holder ∷ [])) claim (refused_consistent g.N.Life.opens h l.consistent t here a l.live r f))
    own.agrees

pub returns-in-Err-Overlap-clause-conflict : goal.returns-in-Err-Overlap-clause-conflict
returns-in-Err-Overlap-clause-conflict g c =
    let watch = c.watch_session.ensures in
    let h = c.watch_session.new.self in
    let t = c.self.inside.locks in
    let k = c.self.invariant.1 in
    let l = looked _ _ _ _ _ _ _ _ _ _ h watch.seen watch.pass watch.same (k.ends.acknowledged c.in_ok-check_open.ensures.open.0) watch.right c.requires.active in
    let a : Lock = record { tx = c.watch_session.new.s.tx; range = c.args.range.now; mode = c.args.mode } in
    let tx : c.tx-tx.result ≡ a.tx = c.tx-tx.ensures in
    let here = subst (λ (x : List Entry). AreHeld x t) (sym watch.same) k.life.locks in
    let r : Rival = record { holder = c.in-Err-Overlap.holder; range = c.in-Err-Overlap.first } in
    let first = rw c.in-Err-Overlap.field-0-is at c.in-Err-Overlap.ensures.refused in
    let f : IsFirstInConflict a (table.held t) r = subst (λ (n : ℕ). IsFirstInConflict (record { tx = n; range = c.args.range.now; mode = c.args.mode }) (table.held t) r) tx first in
    let own = c.enter_refused.ensures in
    let now = own.seen ∙ own.history in (
      c.length-in-Err-Overlap.ensures ∙ ap (λ (l : List Entry). length l) (sym own.seen),
      λ opening stands. subst (λ (x : List Entry). IsFirstConflict (locks opening x c.in-Err-Overlap.holder) (held c.args.range.now c.args.mode) c.in-Err-Overlap.first) (sym now)
          (conflict_told g.N.Life.opens h l.consistent t here a l.live r f opening stands),
    )

pub invariant_of-self-in-Err-Memory : goal.invariant_of-self-in-Err-Memory
invariant_of-self-in-Err-Memory g c =
    (c.self.invariant.0, kept_locks _ _ _ _ _ _ c.self.inside.log.log c.self.inside.log.log c.self.inside.log.listing c.self.inside.log.listing c.self.inside.locks c.acquire.new.self _ _ _ c.self.invariant.1 c.check_open.ensures.total c.watch_session.ensures.same c.in-Err-Memory.ensures.err, restored_same c.self.inside.history _ c.self.inside.restored c.self.invariant.2 c.watch_session.ensures.same, losers_same g.N.Life.opens c.self.inside.history _ c.self.inside.losers c.self.inside.losers c.self.invariant.3 c.watch_session.ensures.same, still_safe g.N.Life.opens g.L.Disk.told g.L.Disk.may_leave c.self.inside.history _ c.self.inside.log.log.log c.self.inside.log.log.log c.self.invariant.4 c.watch_session.ensures.same refl, c.self.invariant.5)

-- ---- a loser

pub returns-in-Some-clause-grant : goal.returns-in-Some-clause-grant
returns-in-Some-clause-grant g c =
    let watch = c.watch_session.ensures in
    let h = c.watch_session.new.self in
    let t = c.self.inside.locks in
    let k = c.self.invariant.1 in
    let l = looked _ _ _ _ _ _ _ _ _ _ h watch.seen watch.pass watch.same (k.ends.acknowledged c.in_ok-check_open.ensures.open.0) watch.right c.requires.active in
    let a : Lock = record { tx = c.watch_session.new.s.tx; range = c.args.range.now; mode = c.args.mode } in
    let tx : c.tx-tx.result ≡ a.tx = c.tx-tx.ensures in
    let here = subst (λ (x : List Entry). AreHeld x t) (sym watch.same) k.life.locks in
    let some = rw c.in-Some.is at c.in_ok-loser.ensures.some in
    let seen : h ≡ c.watch_session.new.pass.log = sym (watch.pass ∙ sym watch.same) in
    let claim : a.tx ≡ c.args.s.now.tx = ap (λ x. x.tx) watch.right in
    let least = loser_seen g.N.Life.opens h c.self.inside.history t a c.self.inside.log.log c.self.inside.log.listing _ c.self.inside.losers _ watch.same l.consistent k.life.records c.self.invariant.3 c.listing-listing.ensures c.all-losers.ensures here c.tx-tx.result tx some.1 c.in-Some.loser some.2 in (
      some.0,
      λ opening stands. subst (λ (z : List Entry × ℕ). IsLeastLoser opening z.0 z.1 (held c.args.range.now c.args.mode) c.in-Some.loser) (λ i. (seen i, claim i)) (least opening stands),
    )
