-- The number of the session's transaction, behind a commit.
use Rattle.std.proofs.Common.{◌≡◌, ℕ, ◌<◌, Bool, true, false, cond, List, [], ◌∷◌, ◌++◌, Option, Some, None, Result, Ok, Err, refl, sym, ap, subst, ◌∙◌, append-nil, arith, inl, inr}
use Rattle.std.specs.Prelude.{OnOk, is_err}
use Rattle.books.specs.Rights.{SessionClaim}
use Rattle.front.specs.Seen.{PassSeen}
use Rattle.store_model.specs.declared.fault.Fault.{Fault}
use Rattle.store_model.specs.declared.fault.Fault.TheVariants as faults
use Rattle.wal_record.specs.Books.{session_transaction, unless_over}
use Rattle.wal_record.specs.History.{is_over, last_begun, phase}
use Rattle.wal_record.specs.Rules.{is_number}
use Rattle.wal_record.specs.declared.record.Record.{Record}
use Rattle.wal_record.specs.declared.record.Record.TheVariants as kinds
use Rattle.wal_record.specs.declared.entry.Entry.{Entry}
use Rattle.wal_record.specs.declared.entry.Entry.TheVariants as entries
use Rattle.wal_record.proofs.Pushes.{last_begun_push}
use Rattle.page_ops.specs.Claims.{session_alone}
use Rattle.page_ops.specs.Names.{LedgerName}
use Rattle.page_ops.specs.Outcomes.{CommitsOr, MayCommit}
use Rattle.page_ops.specs.Seeing.{Account, Enters, known}
use Rattle.page_ops.specs.declared.outcome.Committed.{Committed}
use Rattle.engine.specs.Sittings.{HasNumber, IsSeated}

-- a transaction that isn't over is the one that was begun
above : (b : Bool) (u n : ℕ) → n ≡ cond b 0 u → 0 < n → n ≡ u
above true u n is some = absurd (omega (arith, is, some))
above false u n is some = is

-- a record leaves the session its transaction, or none
after_record : (h : List Entry) (lsn : ℕ) (r : Record) (session t t' : ℕ) → t ≡ session_transaction h session → 0 < t → t' ≡ session_transaction (h ++ entries.Rec lsn r ∷ []) session → 0 < t' → t' ≡ t
after_record h lsn r session t t' was some now some' = go (last_begun h session) was (now ∙ ap (unless_over (h ++ entries.Rec lsn r ∷ [])) (last_begun_push h (entries.Rec lsn r) session))
  where
    go : (o : Option ℕ) → t ≡ unless_over h o → t' ≡ unless_over (h ++ entries.Rec lsn r ∷ []) o → t' ≡ t
    go None w n = absurd (omega (arith, w, some))
    go (Some u) w n = above (is_over (phase (h ++ entries.Rec lsn r ∷ []) u)) u t' n some' ∙ sym (above (is_over (phase h u)) u t w some)

module _ (opens : List Record → Type 0) (ledger sessions : LedgerName) (s s' : SessionClaim) (session : s'.session ≡ s.session) (some : 0 < s.tx) (number : HasNumber s) where
  by_same : (0 < s'.tx → s'.tx ≡ s.tx) → HasNumber s'
  by_same same some' = subst (λ (t : ℕ). is_number t ≡ true) (sym (same some')) (number some)

  none_entered : (a a' : Account) (t t' : PassSeen Entry) → Enters opens ledger sessions (known a t (session_alone s)) [] (known a' t' (session_alone s')) → HasNumber s'
  none_entered a a' t t' e = by_same (λ some'. e.now.rights.s.tx ∙ (λ i. session_transaction ((e.is ∙ append-nil e.moment) i) (session i)) ∙ sym e.found.rights.s.tx)

  one_entered : (a a' : Account) (t t' : PassSeen Entry) (lsn : ℕ) (r : Record) → Enters opens ledger sessions (known a t (session_alone s)) (entries.Rec lsn r ∷ []) (known a' t' (session_alone s')) → HasNumber s'
  one_entered a a' t t' lsn r e = by_same (λ some'. after_record e.moment lsn r s.session s.tx s'.tx e.found.rights.s.tx some (e.now.rights.s.tx ∙ (λ i. session_transaction (e.is i) (session i))) some')

  may_entered : (a a' : Account) (t t' : PassSeen Entry) → MayCommit opens ledger sessions s (known a t (session_alone s)) (known a' t' (session_alone s')) → HasNumber s'
  may_entered a a' t t' m = elim m.may [
    | inl e ↦ none_entered a a' t t' e
    | inr e ↦ one_entered a a' t t' m.lsn (kinds.Commit (record { tx = s.tx; prev = m.prev })) e.1
  ]

  number_refused : (f : Fault) (a a' : Account) (t t' : PassSeen Entry) → CommitsOr opens ledger sessions s (Err f) (known a t (session_alone s)) (known a' t' (session_alone s')) → HasNumber s'
  number_refused faults.LogFault a a' t t' e = may_entered a a' t t' e
  number_refused (faults.Ended at) a a' t t' e = may_entered a a' t t' e
  number_refused _ a a' t t' e = none_entered a a' t t' e

  -- the session, which remembers whether the commit was refused
  pub seated_committed : (result : Result Committed Fault) (a a' : Account) (t t' : PassSeen Entry) → CommitsOr opens ledger sessions s result (known a t (session_alone s)) (known a' t' (session_alone s')) → OnOk result (s'.tx ≡ 0) → IsSeated opens (Some s') t'.log (is_err result)
  seated_committed (Ok c) a a' t t' e none = record { there = refl; number = λ some'. absurd (omega (arith, none, some')); owned = λ decided some'. absurd (omega (arith, none, some')) }
  seated_committed (Err f) a a' t t' e none = record { there = refl; number = number_refused f a a' t t' e; owned = λ decided. absurd (cc decided) }

pub right_none : (result : Result Committed Fault) (s' : SessionClaim) (session n : ℕ) → OnOk result (s' ≡ record { session = session; entries = n; tx = 0 }) → OnOk result (s'.tx ≡ 0)
right_none (Ok c) s' session n is = ap (λ (s : SessionClaim). s.tx) is
right_none (Err f) s' session n is = tt
