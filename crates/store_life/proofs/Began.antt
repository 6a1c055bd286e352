-- A transaction begins where nobody else enters anything.
use Rattle.std.proofs.Common.{◌≡◌, ℕ, ◌+◌, ◌<◌, true, List, [], ◌∷◌, ◌++◌, None, Result, Ok, Err, sym, ap, subst, ◌∙◌, append-nil, arith}
use Rattle.std.specs.Prelude.{IfOk, IsTrue, nat_le}
use Rattle.std.proofs.lemmas.Bool.Decides.{nat_tests}
use Rattle.books.specs.Rights.{SessionClaim}
use Rattle.front.specs.Seen.{PassSeen}
use Rattle.front.proofs.Keeping.{prefix_self}
use Rattle.store_model.proofs.Bools.{both_true}
use Rattle.store_model.specs.declared.fault.Fault.{Fault}
use Rattle.store_model.specs.declared.fault.Fault.TheVariants as faults
use Rattle.store_model.specs.declared.limits.TheConstants.{HIGHEST}
use Rattle.wal_record.specs.History.{last_begun}
use Rattle.wal_record.specs.Rules.{is_number}
use Rattle.wal_record.specs.declared.record.Record.{Record}
use Rattle.wal_record.specs.declared.entry.Entry.{Entry}
use Rattle.wal_record.specs.declared.entry.Entry.TheVariants.{Began}
use Rattle.page_ops.specs.Causes.{Ends, EndsBy, FailsToEnter, NoOther}
use Rattle.page_ops.specs.Claims.{SessionAgrees, no_claims}
use Rattle.page_ops.specs.Names.{LedgerName}
use Rattle.page_ops.specs.Outcomes.{IsCrowd, begun}
use Rattle.page_ops.specs.Seeing.{Account, Counted, Enters, Keeps, Looks, known}
use Rattle.page_ops.proofs.Composing.{done_meets_none, ends_by_then}
use Rattle.page_ops.proofs.Gaining.{gains_of, keeps_then}
use Rattle.command_laws.specs.Alone.{IsAlone}
use Rattle.command_laws.proofs.Alone.{entered, still_alone}
use Rattle.command_laws.proofs.Sessions.{has_begun_none}
use Rattle.engine.specs.Sittings.{Sitting, known_by}
use Rattle.store_life.specs.Turns.{HasBegun}

number_some : (tx : ℕ) → is_number tx ≡ true → 0 < tx
number_some tx is = let low = (both_true (nat_le 1 tx) (nat_le tx HIGHEST) is).0 in grind (arith, nat_tests)

module _ (opens : List Record → Type 0) (ledger sessions : LedgerName) (a a' : Account) (s s' : Sitting) (h : List Entry) (alone : IsAlone opens ledger a h) (seen : s.seen.log ≡ h) (none : s.claim.entries ≡ 0) (agrees : SessionAgrees s.seen.log s.claim) where
  has_begun : (result : Result ℕ Fault) → IfOk result (λ tx. IsTrue (is_number tx)) → IfOk result (λ tx. s'.claim ≡ record { session = s.claim.session; entries = s.claim.entries + 1; tx = tx })
      → s'.seen.log ≡ h ++ begun s.claim.session result → HasBegun result s'.claim h s'.seen.log
  has_begun (Ok tx) number right is =
      let same = ap (λ (c : SessionClaim). c.session) right in
      let first : last_begun h s.claim.session ≡ None = subst (λ (l : List Entry). last_begun l s.claim.session ≡ None) seen (has_begun_none s.claim.session s.seen.log (sym agrees.entries ∙ none)) in (
        ap (λ (c : SessionClaim). c.tx) right,
        number_some tx number,
        Began s.claim.session tx ∷ [],
        (ap (last_begun h) same ∙ first, ap (λ (n : ℕ). Began n tx ∷ []) (sym same)),
        is,
      )
  has_begun (Err fault) number right is = is ∙ append-nil h

  module _ (result : Result ℕ Fault) (e : Enters opens ledger sessions (known_by a s) (begun s.claim.session result) (known_by a' s')) where
    pub begun_alone : IsAlone opens ledger a' s'.seen.log
    begun_alone = still_alone opens ledger sessions h (begun s.claim.session result) (known_by a s) (known_by a' s') alone ([], append-nil h ∙ sym seen) (gains_of opens ledger sessions (begun s.claim.session result) (known_by a s) (known_by a' s') e)

    pub begun_now : IfOk result (λ tx. IsTrue (is_number tx)) → IfOk result (λ tx. s'.claim ≡ record { session = s.claim.session; entries = s.claim.entries + 1; tx = tx }) → HasBegun result s'.claim h s'.seen.log
    begun_now number right = has_begun result number right (entered opens ledger sessions h (begun s.claim.session result) (known_by a s) (known_by a' s') alone ([], append-nil h ∙ sym seen) (gains_of opens ledger sessions (begun s.claim.session result) (known_by a s) (known_by a' s') e))

-- ---- behind a new session

-- how many were made is no matter
abbrev pub with_made : Account → Counted → Account
with_made a made = record a { made = made }

module _ (opens : List Record → Type 0) (ledger sessions : LedgerName) (a a1 : Account) (t t1 : PassSeen Entry) (alone : IsAlone opens ledger a t.log) (looks : Looks opens ledger sessions (record a { made = a1.made }) t a1 t1) where
  made_alone : IsAlone opens ledger (with_made a a1.made) t.log
  made_alone = record { parts = alone.parts; counted = alone.counted; consistent = alone.consistent }

  pub new_alone : IsAlone opens ledger a1 t1.log
  new_alone = still_alone opens ledger sessions t.log [] (known (with_made a a1.made) t no_claims) (known a1 t1 no_claims) made_alone (prefix_self t.log) (gains_of opens ledger sessions [] (known (with_made a a1.made) t no_claims) (known a1 t1 no_claims) looks)

  pub new_same : t1.log ≡ t.log
  new_same = entered opens ledger sessions t.log [] (known (with_made a a1.made) t no_claims) (known a1 t1 no_claims) made_alone (prefix_self t.log) (gains_of opens ledger sessions [] (known (with_made a a1.made) t no_claims) (known a1 t1 no_claims) looks) ∙ append-nil t.log

  pub begun_from : (result : Result ℕ Fault) (s : SessionClaim) (h' : List Entry) → HasBegun result s t1.log h' → HasBegun result s t.log h'
  begun_from result s h' = subst (λ (h : List Entry). HasBegun result s h h') new_same

  pub keeps_from : (a2 : Account) → Keeps a1 a2 → Keeps (with_made a a2.made) a2
  keeps_from a2 k = subst (λ (m : Counted). Keeps (with_made a m) a2) (sym k.made) (keeps_then (with_made a a1.made) a1 a2 looks.keeps k)

  module _ (log_faults made : LedgerName) (a2 : Account) (h : List Entry) (made_same : a2.made ≡ a1.made) where
    -- the causes of a begin, behind a new session
    pub ends_from : {S : Type 0} (x : S) (h1 : List Entry) → Ends opens log_faults made a a1 h1 (Ok x) → (f : Fault) → EndsBy opens log_faults made a1 a2 h f → EndsBy opens log_faults made (record a { made = a2.made }) a2 h f
    ends_from x h1 done f e =
        let first = record a { made = a1.made } in
        subst (λ (m : Counted). EndsBy opens log_faults made (record a { made = m }) a2 h f) (sym made_same)
        (ends_by_then opens log_faults made first a1 a2 h (done_meets_none opens log_faults made first a1 h1 x done) looks.keeps f e)

-- ---- refusals

pub uncrowded : (h : List Entry) (f : Fault) → FailsToEnter NoOther f → IsCrowd h f
uncrowded h faults.TooManyActive e = absurd e
uncrowded h _ e = tt
