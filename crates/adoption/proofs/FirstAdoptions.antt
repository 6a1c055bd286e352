-- A look at the page with a foster child, and what its parent answers then.
use Rattle.std.proofs.Common.{◌≡◌, ℕ, List, Option, Some, None, Result, Ok, Err, true, refl, sym, ap, subst, ◌∙◌}
use Rattle.std.specs.Prelude.{IfErr, IfOk, IfSome, if◌then◌else◌, is_some, ◌<◌}
use Rattle.front.specs.Seen.{PassSeen}
use Rattle.store_model.specs.declared.fault.Fault.{Fault}
use Rattle.wal_record.specs.State.{KeepsState, free_bytes, has_within}
use Rattle.wal_record.specs.History.{life_log}
use Rattle.wal_record.specs.Images.{image}
use Rattle.wal_record.specs.declared.page.PageState.{PageState}
use Rattle.wal_record.specs.declared.page.Foster.{Foster}
use Rattle.wal_record.specs.declared.record.Record.{Record}
use Rattle.wal_record.specs.declared.entry.Entry.{Entry}
use Rattle.foster_laws.specs.Paths.{TidyTo}
use Rattle.page_ops.specs.Causes.{Ends, FailsToEnter, MeetsNoEnd, NoOther}
use Rattle.page_ops.specs.Claims.{Claims, no_claims}
use Rattle.page_ops.specs.Desks.{Desk}
use Rattle.page_ops.specs.Hands.{Hand}
use Rattle.page_ops.specs.Names.{LedgerName}
use Rattle.page_ops.specs.Seeing.{Account, Known, Upholds, is_upkeep, known}
use Rattle.page_ops.proofs.Gaining.{goes_of, goes_self}
use Rattle.smo.specs.Settled.{IsSettled}
use Rattle.foster_tree.specs.Nows.{IsNow}
use Rattle.foster_tree.specs.Ways.{IsToChild}
use Rattle.adoption.specs.Adoptions.{EntersAdoption, EntersByAnswer, IsAnswerOf, Leads, OnAdopted, OnAsked, row_bytes, with_row_for, without_child}
use Rattle.adoption.specs.Descents.{Fails, GoesOn, IsAlone, StaysTidy, StaysTidyBy, standing}
use Rattle.adoption.specs.declared.outcome.Adoption.{Adoption}
use Rattle.adoption.specs.declared.outcome.Adoption.TheVariants as adoptions
use Rattle.adoption.proofs.Alone.{alone_then, same_images, tidy_looked}
use Rattle.adoption.proofs.Composing.{fails_then, faults_self, on_then, on_upheld}
use Rattle.adoption.proofs.TidyAdoptions.{nearer_tidy, nearer_within}
use Rattle.adoption.proofs.TreeCalls.{adoption_fails, adoption_goes}

module _ (opens : List Record → Type 0) (ledger sessions : LedgerName) (parent fosterer : ℕ) (old new : Known) where
  by_adopted : (o : Option Foster) → EntersByAnswer opens ledger sessions parent fosterer o (Ok adoptions.Adopted) old new → (f : Foster) × (o ≡ Some f) × EntersAdoption {T = Adoption} opens ledger sessions parent fosterer f (Ok adoptions.Adopted) old new
  by_adopted None e = absurd e
  by_adopted (Some f) e = (f, refl, e)

  by_fault : (o : Option Foster) (fault : Fault) → EntersByAnswer opens ledger sessions parent fosterer o (Err fault) old new → (f : Foster) × EntersAdoption {T = Adoption} opens ledger sessions parent fosterer f (Err fault) old new
  by_fault None fault e = absurd e
  by_fault (Some f) fault e = (f, e)

some_of : (o : Option Foster) (f : Foster) (P : Foster → Type 0) → o ≡ Some f → IfSome o P → P f
some_of o f P is h = subst (λ (x : Option Foster). IfSome x P) is h

-- there is a foster child
pub not_nothing : (s t : PageState) (result : Result Adoption Fault) → result ≡ Ok adoptions.NothingToAdopt → IfOk result (IsAnswerOf s t) → is_some t.foster ≡ true → ⊥
not_nothing s t result is answer some = none_some t.foster (subst (λ (r : Result Adoption Fault). IfOk r (IsAnswerOf s t)) is answer) some
  where
    none_some : (o : Option Foster) → o ≡ None → is_some o ≡ true → ⊥
    none_some None e h = cc
    none_some (Some f) e h = cc

-- it doesn't fit
pub crowds_of : (s t : PageState) (result : Result Adoption Fault) (free needed : ℕ) → result ≡ Ok (adoptions.NoRoom free needed) → IfOk result (IsAnswerOf s t) → IfSome t.foster (λ (f : Foster). free_bytes s < row_bytes f)
crowds_of s t result free needed is answer =
    let lacks = subst (λ (r : Result Adoption Fault). IfOk r (IsAnswerOf s t)) is answer in
    let less : free_bytes s < row_bytes lacks.foster = subst (λ (q : ℕ × ℕ). q.0 < q.1) (λ i. (lacks.free_is i, lacks.needed_is i)) lacks.less in
    subst (λ (o : Option Foster). IfSome o (λ (f : Foster). free_bytes s < row_bytes f)) (sym lacks.is) less

module _ (opens : List Record → Type 0) (ledger sessions log_faults made : LedgerName) (d : Desk) (parent fosterer : Hand) (a0 a1 a2 : Account) (s0 s1 s2 : PassSeen Entry)
    (see : Upholds opens ledger sessions is_upkeep (known a0 s0 no_claims) (known a1 s1 no_claims)) (none : MeetsNoEnd a0 a1) (x x' : Claims) (result : Result Adoption Fault)
    (entered : EntersByAnswer opens ledger sessions parent.page fosterer.page fosterer.state.foster result (known a1 s1 x) (known a2 s2 x')) (ends : OnAsked result (Ends opens log_faults made a1 a2 s2.log result)) where
  seen : GoesOn (standing d a0 s0) (standing d a1 s1)
  seen = on_upheld opens ledger sessions (standing d a0 s0) (standing d a1 s1) see none (faults_self d.faults)

  -- it was refused
  pub adoption_refused : (d' : Desk) (fault : Fault) → result ≡ Err fault → IfErr result (FailsToEnter NoOther) → d'.faults ≡ d.faults → d'.out ≡ 0 → Fails opens ledger sessions log_faults made (standing d a0 s0) (standing d' a2 s2) fault
  adoption_refused d' fault is may same out =
      let e = by_fault opens ledger sessions parent.page fosterer.page (known a1 s1 x) (known a2 s2 x') fosterer.state.foster fault
      (subst (λ (r : Result Adoption Fault). EntersByAnswer opens ledger sessions parent.page fosterer.page fosterer.state.foster r (known a1 s1 x) (known a2 s2 x')) is entered) in
      fails_then opens ledger sessions log_faults made (standing d a0 s0) (standing d a1 s1) (standing d' a2 s2) fault seen
      (adoption_fails opens ledger sessions log_faults made a1 a2 s1 s2 x x' parent.page fosterer.page e.0 {T = Adoption} d d' (Err fault) fault refl e.1 (subst (λ (r : Result Adoption Fault). IfErr r (FailsToEnter NoOther)) is may)
      (subst (λ (r : Result Adoption Fault). OnAsked r (Ends opens log_faults made a1 a2 s2.log r)) is ends) same out)

  -- it was done
  module _ (is : result ≡ Ok adoptions.Adopted) where
    found : (f : Foster) × (fosterer.state.foster ≡ Some f) × EntersAdoption {T = Adoption} opens ledger sessions parent.page fosterer.page f (Ok adoptions.Adopted) (known a1 s1 x) (known a2 s2 x')
    found = by_adopted opens ledger sessions parent.page fosterer.page (known a1 s1 x) (known a2 s2 x') fosterer.state.foster
        (subst (λ (r : Result Adoption Fault). EntersByAnswer opens ledger sessions parent.page fosterer.page fosterer.state.foster r (known a1 s1 x) (known a2 s2 x')) is entered)

    pub adoption_done : (d' : Desk) → d'.faults ≡ d.faults → GoesOn (standing d a0 s0) (standing d' a2 s2)
    adoption_done d' same =
        on_then (standing d a0 s0) (standing d a1 s1) (standing d' a2 s2) seen
        (adoption_goes opens ledger sessions log_faults made a1 a2 s1 s2 x x' parent.page fosterer.page found.0 {T = Adoption} d d' (Ok adoptions.Adopted) adoptions.Adopted refl found.2
        (subst (λ (r : Result Adoption Fault). OnAsked r (Ends opens log_faults made a1 a2 s2.log r)) is ends) same)

    module _ (key : List ℕ) (parent' fosterer' next : Hand) (taken : OnAdopted result (IfSome fosterer.state.foster (λ (f : Foster). IsSettled (with_row_for f parent.state) s2 parent parent')))
        (given : OnAdopted result (IfSome fosterer.state.foster (λ (f : Foster). IsSettled (without_child f fosterer.state) s2 fosterer fosterer'))) (near : next ≡ (if has_within fosterer'.state key then fosterer' else parent')) where
      parent_settled : IsSettled (with_row_for found.0 parent.state) s2 parent parent'
      parent_settled = some_of fosterer.state.foster found.0 (λ (f : Foster). IsSettled (with_row_for f parent.state) s2 parent parent') found.1
          (subst (λ (r : Result Adoption Fault). OnAdopted r (IfSome fosterer.state.foster (λ (f : Foster). IsSettled (with_row_for f parent.state) s2 parent parent'))) is taken)

      fosterer_settled : IsSettled (without_child found.0 fosterer.state) s2 fosterer fosterer'
      fosterer_settled = some_of fosterer.state.foster found.0 (λ (f : Foster). IsSettled (without_child f fosterer.state) s2 fosterer fosterer') found.1
          (subst (λ (r : Result Adoption Fault). OnAdopted r (IfSome fosterer.state.foster (λ (f : Foster). IsSettled (without_child f fosterer.state) s2 fosterer fosterer'))) is given)

      pub adoption_within : has_within parent.state key ≡ true → has_within next.state key ≡ true
      adoption_within within = nearer_within key parent.state fosterer.state found.0 s2 parent parent' fosterer fosterer' next within parent_settled near

      pub adoption_tidy : KeepsState parent.state → IsToChild key parent.state fosterer.page → Leads parent.state fosterer.page fosterer.state → IsNow opens s0.log parent → IsNow opens s1.log fosterer → StaysTidy opens ledger (known a0 s0 no_claims) s2.log key parent.page next
      adoption_tidy keeps way leads now now' only opening stands tidy there =
          nearer_tidy opens ledger sessions key parent fosterer found.0 keeps way leads found.1 a0 a1 a2 s0 s1 s2 now see now' x x' found.2.lsn found.2.prev found.2.prev' found.2.enters only opening stands tidy parent' fosterer' next parent_settled fosterer_settled near

  -- there was no room, and the journal wasn't asked
  module _ (free needed : ℕ) (is : result ≡ Ok (adoptions.NoRoom free needed)) where
    unasked : known a2 s2 x' ≡ known a1 s1 x
    unasked = subst (λ (r : Result Adoption Fault). EntersByAnswer opens ledger sessions parent.page fosterer.page fosterer.state.foster r (known a1 s1 x) (known a2 s2 x')) is entered

    same_account : a2 ≡ a1
    same_account = ap (λ (k : Known). k.account) unasked

    pub same_seen : s2 ≡ s1
    same_seen = λ i. record { log = (unasked i).log; durable = (unasked i).durable }

    seen_then : GoesOn (standing d a0 s0) (standing d a2 s2)
    seen_then = subst (λ (q : Account × PassSeen Entry). GoesOn (standing d a0 s0) (standing d q.0 q.1)) (λ i. (sym same_account i, sym same_seen i)) seen

    pub crowded_goes : (d' : Desk) (a3 : Account) (s3 : PassSeen Entry) → GoesOn (standing d a2 s2) (standing d' a3 s3) → GoesOn (standing d a0 s0) (standing d' a3 s3)
    crowded_goes d' a3 s3 on = on_then (standing d a0 s0) (standing d a2 s2) (standing d' a3 s3) seen_then on

    pub crowded_fails : (d' : Desk) (a3 : Account) (s3 : PassSeen Entry) (fault : Fault) → Fails opens ledger sessions log_faults made (standing d a2 s2) (standing d' a3 s3) fault → Fails opens ledger sessions log_faults made (standing d a0 s0) (standing d' a3 s3) fault
    crowded_fails d' a3 s3 fault on = fails_then opens ledger sessions log_faults made (standing d a0 s0) (standing d a2 s2) (standing d' a3 s3) fault seen_then on

    -- the parent is as before
    pub crowded_stays : (key : List ℕ) (log : List Entry) (next : Hand) → IsNow opens s0.log parent → StaysTidyBy opens ledger (known a2 s2 no_claims) log key parent next → StaysTidy opens ledger (known a0 s0 no_claims) log key parent.page next
    crowded_stays key log next now by only opening stands tidy there =
        let e : s1.log ≡ s2.log = ap (λ (s : PassSeen Entry). s.log) (sym same_seen) in
        let goes = goes_of is_upkeep opens ledger sessions (known a0 s0 no_claims) (known a1 s1 no_claims) see in
        let only' = subst (λ (q : Account × PassSeen Entry). IsAlone ledger (known q.0 q.1 no_claims)) (λ i. (sym same_account i, sym same_seen i)) (alone_then ledger is_upkeep (known a0 s0 no_claims) (known a1 s1 no_claims) only goes) in
        let here = same_images opens ledger sessions is_upkeep (known a0 s0 no_claims) (known a0 s0 no_claims) (known a1 s1 no_claims) only (goes_self is_upkeep a0 s0 no_claims) see opening parent.page ∙ now.image opening stands in
        let tidy' = tidy_looked opens ledger sessions is_upkeep (known a0 s0 no_claims) (known a0 s0 no_claims) (known a1 s1 no_claims) only (goes_self is_upkeep a0 s0 no_claims) see opening key parent.page parent.state (now.image opening stands) tidy in
        by only' opening stands (ap (λ (l : List Entry). image (life_log opening l) parent.page) (sym e) ∙ here) (subst (λ (l : List Entry). TidyTo (life_log opening l) key parent.page) e tidy') there
