-- A turn of locking: the lock is granted, refused, or a loser in its way is undone.
use Rattle.std.proofs.Common.{◌≡◌, ℕ, ◌+◌, ◌<◌, List, [], length, Result, Ok, Err, refl, sym, ap, subst, ◌∙◌}
use mathlib.Core.List.{IsPrefix}
use Rattle.books.specs.Rights.{SessionClaim}
use Rattle.front.specs.Seen.{PassSeen}
use Rattle.front.proofs.Keeping.{prefix_trans}
use Rattle.store_model.specs.Range.{Interval}
use Rattle.store_model.specs.declared.fault.Fault.{Fault}
use Rattle.store_model.specs.declared.fault.Fault.TheVariants as faults
use Rattle.store_model.specs.declared.range.Mode.{Mode}
use Rattle.wal_record.specs.Legal.{held}
use Rattle.wal_record.specs.declared.record.Record.{Record}
use Rattle.wal_record.specs.declared.entry.Entry.{Entry}
use Rattle.page_ops.specs.Causes.{Ends, FailsToBring, FailsToEnter, MeetsNoEnd, OrConflict}
use Rattle.page_ops.specs.Claims.{session_alone}
use Rattle.page_ops.specs.Desks.{Desk}
use Rattle.page_ops.specs.Names.{LedgerName}
use Rattle.page_ops.specs.Outcomes.{IsGrant, locked}
use Rattle.page_ops.specs.Seeing.{Account, Enters, known}
use Rattle.page_ops.specs.declared.outcome.Grant.{Grant}
use Rattle.page_ops.specs.declared.outcome.Grant.TheVariants as grants
use Rattle.page_ops.proofs.Composing.{done_meets_none}
use Rattle.page_ops.proofs.Gaining.{keeps_then}
use Rattle.rollback.specs.Endings.{RollsOver}
use Rattle.rollback.specs.Rolls.{standing}
use Rattle.rollback.proofs.Failing.{none_then}
use Rattle.engine.specs.Answers.{FailsToAsk, HasLocked, Locks, lock_answer}
use Rattle.engine.specs.Sittings.{IsOwned}
use Rattle.engine.proofs.Failing.{ask_fault, ask_then, lock_fault}
use Rattle.engine.proofs.LockAsked.{has_locked, is_in_way, locked_err, right_same}
use Rattle.engine.proofs.Owned.{owned_later, owned_locked, owned_refused}
use Rattle.engine.proofs.Serving.{Clears, answered_lock, cleared_then, refused_lock}

module _ (opens : List Record → Type 0) (ledger sessions log_faults made : LedgerName) (range : Interval) (mode : Mode) (d0 d : Desk) (a0 a a1 : Account) (s0 s s1 : PassSeen Entry) (c0 c c1 : SessionClaim) (same : c ≡ c0)
    (clears : Clears opens ledger sessions (held range mode) (standing d0 a0 s0) (standing d a s)) (none : MeetsNoEnd a0 a) (result : Result Grant Fault)
    (entered : Enters opens ledger sessions (known a s (session_alone c)) (locked c.tx range mode result) (known a1 s1 (session_alone c1)))
    (right : c1 ≡ record { session = c.session; entries = c.entries + length (locked c.tx range mode result); tx = c.tx }) where
  tx_is : c.tx ≡ c0.tx
  tx_is = ap (λ (x : SessionClaim). x.tx) same

  -- with the claim of the first moment
  by_result : (r : Result Grant Fault) → result ≡ r → Enters opens ledger sessions (known a s (session_alone c)) (locked c0.tx range mode r) (known a1 s1 (session_alone c1))
  by_result r is = subst (λ (es : List Entry). Enters opens ledger sessions (known a s (session_alone c)) es (known a1 s1 (session_alone c1))) (λ i. locked (tx_is i) range mode (is i)) entered

  right_by : (r : Result Grant Fault) → result ≡ r → c1 ≡ record { session = c0.session; entries = c0.entries + length (locked c0.tx range mode r); tx = c0.tx }
  right_by r is = right ∙ (λ i. record { session = (same i).session; entries = (same i).entries + length (locked ((same i).tx) range mode (is i)); tx = (same i).tx })

  -- granted
  module _ (pos : ℕ) (is : result ≡ Ok (grants.Held pos)) where
    pub locks_ok : Locks opens ledger sessions c0.tx (held range mode) (Ok pos) (standing d0 a0 s0) (standing d a1 s1)
    locks_ok = answered_lock opens ledger sessions c0.tx (held range mode) (Ok pos) (standing d0 a0 s0) (standing d a s) a1 s1 (session_alone c) (session_alone c1) clears (by_result (Ok (grants.Held pos)) is)

    pub right_ok : c1 ≡ record { session = c0.session; entries = c0.entries + length (lock_answer c0.tx (held range mode) (Ok pos)); tx = c0.tx }
    right_ok = right_by (Ok (grants.Held pos)) is

    pub locked_ok : 0 < c0.tx → HasLocked opens s1.log (held range mode) c1
    locked_ok some = has_locked opens ledger sessions (known a s (session_alone c)) a1 s1 c0 c1 range mode some (ap (λ (x : SessionClaim). x.tx) right_ok) (by_result (Ok (grants.Held pos)) is)

    pub live_ok : 0 < c0.tx → IsOwned opens s1.log c1
    live_ok some = owned_locked opens s1.log (held range mode) c1 (locked_ok some)

    pub open_ok : Ends opens log_faults made a a1 s1.log result → MeetsNoEnd a0 a1
    open_ok ends = none_then a0 a a1 none (done_meets_none opens log_faults made a a1 s1.log (grants.Held pos) (subst (Ends opens log_faults made a a1 s1.log) is ends))

  -- refused
  module _ (f : Fault) (is : result ≡ Err f) where
    told : Enters opens ledger sessions (known a s (session_alone c)) (lock_answer c0.tx (held range mode) (Err f)) (known a1 s1 (session_alone c1))
    told = subst (λ (es : List Entry). Enters opens ledger sessions (known a s (session_alone c)) es (known a1 s1 (session_alone c1))) (locked_err c0.tx range mode f) (by_result (Err f) is)

    pub locks_err : Locks opens ledger sessions c0.tx (held range mode) (Err f) (standing d0 a0 s0) (standing d a1 s1)
    locks_err = answered_lock opens ledger sessions c0.tx (held range mode) (Err f) (standing d0 a0 s0) (standing d a s) a1 s1 (session_alone c) (session_alone c1) clears told

    pub right_err : c1 ≡ record { session = c0.session; entries = c0.entries + length (lock_answer c0.tx (held range mode) (Err f)); tx = c0.tx }
    right_err = right_by (Err f) is ∙ ap (λ (es : List Entry). record { session = c0.session; entries = c0.entries + length es; tx = c0.tx }) (locked_err c0.tx range mode f)

    pub live_err : IsOwned opens s0.log c0 → IsOwned opens s1.log c1
    live_err owned = by f told right_err
      where
        longer : IsPrefix s0.log s1.log
        longer = prefix_trans s0.log s.log s1.log (clears.went.gained, sym clears.went.is) entered.now.begins

        kept : c1 ≡ c0 → IsOwned opens s1.log c1
        kept e = subst (IsOwned opens s1.log) (sym e) (owned_later opens s0.log s1.log c0 longer owned)

        by : (f : Fault) → Enters opens ledger sessions (known a s (session_alone c)) (lock_answer c0.tx (held range mode) (Err f)) (known a1 s1 (session_alone c1)) → c1 ≡ record { session = c0.session; entries = c0.entries + length (lock_answer c0.tx (held range mode) (Err f)); tx = c0.tx }
            → IsOwned opens s1.log c1
        by (faults.Conflict holder other at) e r = owned_refused opens ledger sessions (known a s (session_alone c)) a1 s1 c0 c1 range mode holder (ap (λ (x : SessionClaim). x.tx) r) e
        by _ e r = kept (right_same c0 c1 0 refl r)

    pub refused_err : FailsToEnter OrConflict f → Ends opens log_faults made a a1 s1.log result → FailsToAsk OrConflict opens log_faults made d0.faults d.faults a0 a1 s1.log f
    refused_err may ends = ask_then OrConflict opens log_faults made a0 a a1 s1.log none clears.went.keeps d0.faults d.faults d.faults f clears.faults (lock_fault opens log_faults made a a1 s1.log d.faults f may (subst (Ends opens log_faults made a a1 s1.log) is ends))

  -- a loser is in the way
  module _ (t : ℕ) (is : result ≡ Ok (grants.Loser t)) (grant : IsGrant opens s1.log c.tx (held range mode) (grants.Loser t)) where
    pub right_kept : c1 ≡ c0
    right_kept = right_same c0 c1 0 refl (right_by (Ok (grants.Loser t)) is)

    looked : Enters opens ledger sessions (known a s (session_alone c)) [] (known a1 s1 (session_alone c1))
    looked = by_result (Ok (grants.Loser t)) is

    pub none_looked : Ends opens log_faults made a a1 s1.log result → MeetsNoEnd a0 a1
    none_looked ends = none_then a0 a a1 none (done_meets_none opens log_faults made a a1 s1.log (grants.Loser t) (subst (Ends opens log_faults made a a1 s1.log) is ends))

    module _ (d2 : Desk) (a2 : Account) (s2 : PassSeen Entry) (rolls : RollsOver opens ledger sessions t (standing d a1 s1) (standing d2 a2 s2)) where
      pub clears_then : Clears opens ledger sessions (held range mode) (standing d0 a0 s0) (standing d2 a2 s2)
      clears_then = cleared_then opens ledger sessions (held range mode) (standing d0 a0 s0) (standing d a s) a1 s1 (standing d2 a2 s2) (session_alone c) (session_alone c1) t clears looked (is_in_way opens s1.log c.tx range mode t grant) rolls

      begins : IsPrefix s0.log s2.log
      begins = (clears_then.went.gained, sym clears_then.went.is)

      -- its undo was refused
      module _ (f : Fault) (why : FailsToBring opens log_faults made d.faults d2.faults a1 a2 s2.log f) where
        no_lock : lock_answer c0.tx (held range mode) (Err f) ≡ []
        no_lock = by f why
          where
            by : (f : Fault) → FailsToBring opens log_faults made d.faults d2.faults a1 a2 s2.log f → lock_answer c0.tx (held range mode) (Err f) ≡ []
            by (faults.Conflict holder other at) w = absurd w
            by _ w = refl

        pub locks_undo : Locks opens ledger sessions c0.tx (held range mode) (Err f) (standing d0 a0 s0) (standing d2 a2 s2)
        locks_undo = refused_lock opens ledger sessions (held range mode) (standing d0 a0 s0) (standing d a s) a1 s1 (standing d2 a2 s2) (session_alone c) (session_alone c1) t clears looked (is_in_way opens s1.log c.tx range mode t grant) rolls c0.tx f no_lock

        pub live_undo : IsOwned opens s0.log c0 → IsOwned opens s2.log c1
        live_undo owned = subst (IsOwned opens s2.log) (sym right_kept) (owned_later opens s0.log s2.log c0 begins owned)

        pub refused_undo : Ends opens log_faults made a a1 s1.log result → FailsToAsk OrConflict opens log_faults made d0.faults d2.faults a0 a2 s2.log f
        refused_undo ends = ask_then OrConflict opens log_faults made a0 a1 a2 s2.log (none_looked ends) (keeps_then a0 a a1 clears.went.keeps looked.keeps) d0.faults d.faults d2.faults f clears.faults (ask_fault OrConflict opens log_faults made d.faults d2.faults a1 a2 s2.log f why)
