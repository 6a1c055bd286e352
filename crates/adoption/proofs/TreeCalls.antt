-- What growths, splits and adoptions leave of what was known, and why they are refused.
use Rattle.std.proofs.Common.{◌≡◌, ℕ, ◌<◌, ◌≤◌, true, false, List, Option, Some, None, Result, Ok, Err, refl, sym, ap, subst, ◌∙◌, arith, append-nil}
use Rattle.std.specs.Prelude.{IfErr, IfSome, is_some, nat_le}
use Rattle.std.proofs.lemmas.Bool.Decides.{nat_tests}
use Rattle.front.specs.Seen.{PassSeen}
use Rattle.store_model.specs.declared.fault.Fault.{Fault}
use Rattle.wal_record.specs.State.{KeepsState, branch_rows, free_bytes}
use Rattle.wal_record.specs.History.{life_log}
use Rattle.wal_record.specs.Images.{image}
use Rattle.wal_record.specs.declared.page.PageState.{PageState}
use Rattle.wal_record.specs.declared.page.Foster.{Foster}
use Rattle.wal_record.specs.declared.page.Rows.TheVariants.{Branch}
use Rattle.wal_record.specs.declared.record.Record.{Record}
use Rattle.wal_record.specs.declared.record.Record.TheVariants as kinds
use Rattle.wal_record.specs.declared.entry.Entry.{Entry}
use Rattle.wal_record.specs.declared.entry.Entry.TheVariants.{Rec}
use Rattle.foster_laws.specs.Paths.{TidyTo}
use Rattle.foster_laws.specs.Tidy.{IsFull}
use Rattle.page_ops.specs.Causes.{Ends, FailsToEnter, NoOther}
use Rattle.page_ops.specs.Claims.{Claims, no_claims}
use Rattle.page_ops.specs.Desks.{Desk}
use Rattle.page_ops.specs.Hands.{Hand}
use Rattle.page_ops.specs.Names.{LedgerName}
use Rattle.page_ops.specs.Seeing.{Account, Upholds, is_of_session, known}
use Rattle.page_ops.proofs.Composing.{done_meets_none}
use Rattle.page_ops.proofs.Gaining.{goes_self}
use Rattle.smo.specs.Splits.{EntersMade, desk_after, split_by}
use Rattle.foster_tree.specs.Ways.{IsToChild}
use Rattle.adoption.specs.Adoptions.{EntersAdoption, adopt_of, row_bytes}
use Rattle.adoption.specs.Descents.{Fails, GoesOn, IsAlone, keeps_up, standing}
use Rattle.adoption.proofs.Alone.{own_alone}
use Rattle.adoption.proofs.Composing.{faults_same, fails_asked, on_kept, upheld_none, upheld_one}
use Rattle.adoption.proofs.TidyAdoptions.{above_leaves}
use Rattle.adoption.proofs.TidySteps.{goes_on_crowded}

at_least_one : (n : ℕ) → 1 ≤ n → nat_le 1 n ≡ true
at_least_one n h = grind (arith, nat_tests)

-- the split of a branch keeps the tree up
pub branch_kept : (page prev child lsn : ℕ) (s : PageState) → KeepsState s → s.rows ≡ Branch (branch_rows s.rows) → keeps_up (Rec lsn (split_by page s prev child)) ≡ true
branch_kept page prev child lsn s keeps branch = at_least_one s.level (above_leaves s keeps branch)

-- the desk's faults stay
pub made_desk : (d : Desk) (r : Result (Option ℕ) Fault) → (desk_after d r).faults ≡ d.faults
made_desk d (Ok (Some child)) = refl
made_desk d (Ok None) = refl
made_desk d (Err f) = refl

module _ (opens : List Record → Type 0) (ledger sessions log_faults made : LedgerName) (a a' : Account) (s s' : PassSeen Entry) (x x' : Claims) where
  module _ (r : ℕ → ℕ → Record) (kind : (prev child lsn : ℕ) → keeps_up (Rec lsn (r prev child)) ≡ true) (quiet : (prev child lsn : ℕ) (h : List Entry) → is_of_session h (Rec lsn (r prev child)) ≡ false) where
    made_upheld : (result : Result (Option ℕ) Fault) → EntersMade opens ledger sessions r result (known a s x) (known a' s' x') → Upholds opens ledger sessions keeps_up (known a s no_claims) (known a' s' no_claims)
    made_upheld (Ok (Some child)) e = upheld_one opens ledger sessions keeps_up (Rec e.lsn (r e.prev child)) a a' s s' x x' (kind e.prev child e.lsn) (quiet e.prev child e.lsn) e.enters
    made_upheld (Ok None) e = upheld_none opens ledger sessions keeps_up a a' s s' x x' e.enters
    made_upheld (Err f) e = upheld_none opens ledger sessions keeps_up a a' s s' x x' e.enters

    -- it was done
    pub made_goes : (d d' : Desk) (result : Result (Option ℕ) Fault) (done : Option ℕ) → result ≡ Ok done → EntersMade opens ledger sessions r result (known a s x) (known a' s' x') → Ends opens log_faults made a a' s'.log result → d'.faults ≡ d.faults
        → GoesOn (standing d a s) (standing d' a' s')
    made_goes d d' result done is e ends same =
        on_kept opens ledger sessions (standing d a s) (standing d' a' s') (made_upheld result e) (done_meets_none opens log_faults made a a' s'.log done (subst (Ends opens log_faults made a a' s'.log) is ends)) (faults_same d d' same)

    -- it was refused, and the pages in hand were put back
    pub made_fails : (d d' : Desk) (result : Result (Option ℕ) Fault) (f : Fault) → result ≡ Err f → EntersMade opens ledger sessions r result (known a s x) (known a' s' x') → IfErr result (FailsToEnter NoOther) → Ends opens log_faults made a a' s'.log result
        → d'.faults ≡ d.faults → d'.out ≡ 0 → Fails opens ledger sessions log_faults made (standing d a s) (standing d' a' s') f
    made_fails d d' result f is e may ends same out =
        let e' = subst (λ (q : Result (Option ℕ) Fault). EntersMade opens ledger sessions r q (known a s x) (known a' s' x')) is e in
        fails_asked opens ledger sessions log_faults made d d' a a' s s' x x' f e'.enters (subst (λ (q : Result (Option ℕ) Fault). IfErr q (FailsToEnter NoOther)) is may) (subst (Ends opens log_faults made a a' s'.log) is ends) same out

  -- ---- adoptions

  module _ (parent fosterer : ℕ) (f : Foster) {T : Type 0} where
    adoption_upheld : (result : Result T Fault) → EntersAdoption opens ledger sessions parent fosterer f result (known a s x) (known a' s' x') → Upholds opens ledger sessions keeps_up (known a s no_claims) (known a' s' no_claims)
    adoption_upheld (Ok done) e = upheld_one opens ledger sessions keeps_up (Rec e.lsn (kinds.Adopt (adopt_of parent e.prev fosterer e.prev' f))) a a' s s' x x' refl (λ h. refl) e.enters
    adoption_upheld (Err fault) e = upheld_none opens ledger sessions keeps_up a a' s s' x x' e.enters

    pub adoption_goes : (d d' : Desk) (result : Result T Fault) (done : T) → result ≡ Ok done → EntersAdoption opens ledger sessions parent fosterer f result (known a s x) (known a' s' x') → Ends opens log_faults made a a' s'.log result → d'.faults ≡ d.faults
        → GoesOn (standing d a s) (standing d' a' s')
    adoption_goes d d' result done is e ends same =
        on_kept opens ledger sessions (standing d a s) (standing d' a' s') (adoption_upheld result e) (done_meets_none opens log_faults made a a' s'.log done (subst (Ends opens log_faults made a a' s'.log) is ends)) (faults_same d d' same)

    pub adoption_fails : (d d' : Desk) (result : Result T Fault) (fault : Fault) → result ≡ Err fault → EntersAdoption opens ledger sessions parent fosterer f result (known a s x) (known a' s' x') → IfErr result (FailsToEnter NoOther) → Ends opens log_faults made a a' s'.log result
        → d'.faults ≡ d.faults → d'.out ≡ 0 → Fails opens ledger sessions log_faults made (standing d a s) (standing d' a' s') fault
    adoption_fails d d' result fault is e may ends same out =
        let e' = subst (λ (q : Result T Fault). EntersAdoption opens ledger sessions parent fosterer f q (known a s x) (known a' s' x')) is e in
        fails_asked opens ledger sessions log_faults made d d' a a' s s' x x' fault e'.enters (subst (λ (q : Result T Fault). IfErr q (FailsToEnter NoOther)) is may) (subst (Ends opens log_faults made a a' s'.log) is ends) same out

  -- ---- no room

  -- the parent isn't split, and keeps the foster child from being adopted
  pub crowded_tidy : (r : ℕ → ℕ → Record) (result : Result (Option ℕ) Fault) → result ≡ Ok None → EntersMade opens ledger sessions r result (known a s x) (known a' s' x') → IsAlone ledger (known a s no_claims)
      → (opening : List Record) → opens opening → (key : List ℕ) (parent next : Hand) → IsToChild key parent.state next.page → IfSome next.state.foster (λ (f : Foster). free_bytes parent.state < row_bytes f) → is_some next.state.foster ≡ true → IsFull (life_log opening s'.log)
      → image (life_log opening s.log) parent.page ≡ Some parent.state → TidyTo (life_log opening s.log) key parent.page → image (life_log opening s'.log) next.page ≡ Some next.state → TidyTo (life_log opening s'.log) key next.page
  crowded_tidy r result is e only opening stands key parent next way crowds some full here tidy there = by next.state.foster refl crowds some
    where
      e' : EntersMade opens ledger sessions r (Ok None) (known a s x) (known a' s' x')
      e' = subst (λ (q : Result (Option ℕ) Fault). EntersMade opens ledger sessions r q (known a s x) (known a' s' x')) is e

      same : s'.log ≡ s.log
      same =
          own_alone ledger keeps_up (known a s no_claims) (known a s no_claims) only (goes_self keeps_up a s no_claims) opens sessions keeps_up (known a' s' no_claims) (upheld_none opens ledger sessions keeps_up a a' s s' x x' e'.enters)
          ∙ append-nil s.log

      log_is : life_log opening s'.log ≡ life_log opening s.log
      log_is = ap (life_log opening) same

      by : (o : Option Foster) → next.state.foster ≡ o → IfSome o (λ (f : Foster). free_bytes parent.state < row_bytes f) → is_some o ≡ true → TidyTo (life_log opening s'.log) key next.page
      by None is crowds some = absurd cc
      by (Some f) is crowds some =
          goes_on_crowded (life_log opening s'.log) key parent.page next.page parent.state next.state f way (ap (λ (l : List Record). image l parent.page) log_is ∙ here)
          (subst (λ (l : List Record). TidyTo l key parent.page) (sym log_is) tidy) there is full crowds
