-- A growth behind a look, and pages that are put back then.
use Rattle.std.proofs.Common.{◌≡◌, ℕ, List, Option, None, Result, Ok, Err, true, false, subst, ◌∙◌}
use Rattle.std.specs.Prelude.{IfErr, IfOk, IfNone}
use Rattle.front.specs.Seen.{PassSeen}
use Rattle.store_model.specs.declared.fault.Fault.{Fault}
use Rattle.wal_record.specs.History.{life_log}
use Rattle.wal_record.specs.declared.record.Record.{Record}
use Rattle.wal_record.specs.declared.entry.Entry.{Entry}
use Rattle.wal_record.specs.declared.entry.Entry.TheVariants.{Rec}
use Rattle.foster_laws.specs.Tidy.{IsFull}
use Rattle.page_ops.specs.Causes.{Ends, FailsToEnter, MeetsNoEnd, NoOther}
use Rattle.page_ops.specs.Claims.{Claims, no_claims}
use Rattle.page_ops.specs.Desks.{Desk}
use Rattle.page_ops.specs.Hands.{Hand}
use Rattle.page_ops.specs.Names.{LedgerName}
use Rattle.page_ops.specs.Seeing.{Account, Upholds, is_of_session, is_upkeep, known}
use Rattle.smo.specs.Splits.{EntersMade, desk_after}
use Rattle.adoption.specs.Descents.{BeginsTidy, Fails, GoesOn, keeps_up, standing}
use Rattle.adoption.proofs.Composing.{fails_then, faults_self, on_then, on_upheld}
use Rattle.adoption.proofs.PutBack.{after_faults}
use Rattle.adoption.proofs.TidySteps.{begins_full}
use Rattle.adoption.proofs.TreeCalls.{made_fails, made_goes}

-- where no page could be made
pub none_made : (P : Type 0) (r : Result (Option ℕ) Fault) → r ≡ Ok None → IfOk r (λ (made : Option ℕ). IfNone made P) → P
none_made P r is h = subst (λ (q : Result (Option ℕ) Fault). IfOk q (λ (made : Option ℕ). IfNone made P)) is h

pub full_begins : (opens : List Record → Type 0) (log : List Entry) (x : Hand) (r : Result (Option ℕ) Fault) → r ≡ Ok None → IfOk r (λ (made : Option ℕ). IfNone made ((opening : List Record) → opens opening → IsFull (life_log opening log))) → BeginsTidy opens log x
full_begins opens log x r is room opening stands key here = begins_full (life_log opening log) key x.state (none_made ((opening : List Record) → opens opening → IsFull (life_log opening log)) r is room opening stands)

module _ (opens : List Record → Type 0) (ledger sessions log_faults made : LedgerName) (d d1 : Desk) (a0 a1 a2 : Account) (s0 s1 s2 : PassSeen Entry) (see : Upholds opens ledger sessions is_upkeep (known a0 s0 no_claims) (known a1 s1 no_claims)) (none : MeetsNoEnd a0 a1)
    (x x' : Claims) (r : ℕ → ℕ → Record) (kind : (prev child lsn : ℕ) → keeps_up (Rec lsn (r prev child)) ≡ true) (quiet : (prev child lsn : ℕ) (h : List Entry) → is_of_session h (Rec lsn (r prev child)) ≡ false) (result : Result (Option ℕ) Fault)
    (entered : EntersMade opens ledger sessions r result (known a1 s1 x) (known a2 s2 x')) (ends : Ends opens log_faults made a1 a2 s2.log result) (desk : d1 ≡ desk_after d result) where
  seen : GoesOn (standing d a0 s0) (standing d a1 s1)
  seen = on_upheld opens ledger sessions (standing d a0 s0) (standing d a1 s1) see none (faults_self d.faults)

  pub made_behind : (d2 : Desk) (done : Option ℕ) → result ≡ Ok done → d2.faults ≡ d1.faults → GoesOn (standing d a0 s0) (standing d2 a2 s2)
  made_behind d2 done is same =
      on_then (standing d a0 s0) (standing d a1 s1) (standing d2 a2 s2) seen
      (made_goes opens ledger sessions log_faults made a1 a2 s1 s2 x x' r kind quiet d d2 result done is entered ends (same ∙ after_faults d d1 result desk))

  pub refused_behind : (d2 : Desk) (f : Fault) → result ≡ Err f → IfErr result (FailsToEnter NoOther) → d2.faults ≡ d1.faults → d2.out ≡ 0 → Fails opens ledger sessions log_faults made (standing d a0 s0) (standing d2 a2 s2) f
  refused_behind d2 f is may same out =
      fails_then opens ledger sessions log_faults made (standing d a0 s0) (standing d a1 s1) (standing d2 a2 s2) f seen
      (made_fails opens ledger sessions log_faults made a1 a2 s1 s2 x x' r kind quiet d d2 result f is entered may ends (same ∙ after_faults d d1 result desk) out)
