-- A request that is declined last of all, since its operator gives no value.
use Rattle.std.proofs.Common.{◌≡◌, ℕ, ◌+◌, true, List, [], ◌∷◌, ◌++◌, length, Option, Some, Result, Ok, Err, refl, sym, ap, subst, ◌∙◌, append-nil}
use Rattle.std.specs.Prelude.{IfSome}
use Rattle.std.specs.Option.{option_map}
use Rattle.books.specs.Rights.{SessionClaim}
use Rattle.front.specs.Seen.{PassSeen}
use Rattle.store_model.specs.declared.fault.Fault.{Fault}
use Rattle.store_model.specs.declared.fault.Fault.TheVariants as faults
use Rattle.store_model.specs.declared.reply.Outcome.TheVariants as outcomes
use Rattle.store_model.specs.declared.request.Request.{Request}
use Rattle.store_model.specs.declared.request.Request.TheVariants as requests
use Rattle.wal_record.specs.Contents.{current}
use Rattle.wal_record.specs.History.{Live, life_log, phase}
use Rattle.wal_record.specs.Legal.{HasNoMeaning, IsAllowed, IsLegal}
use Rattle.wal_record.specs.declared.record.Record.{Record}
use Rattle.wal_record.specs.declared.entry.Entry.{Entry}
use Rattle.wal_record.specs.declared.entry.Entry.TheVariants as entries
use Rattle.wal_record.proofs.Pushes.{legal_front, log_same, phase_push}
use Rattle.page_ops.specs.Causes.{FailsToBring, FailsToEnter, NoOther}
use Rattle.page_ops.specs.Claims.{session_alone}
use Rattle.page_ops.specs.Desks.{Desk, Faults}
use Rattle.page_ops.specs.Names.{LedgerName}
use Rattle.page_ops.specs.Outcomes.{refused}
use Rattle.page_ops.specs.Seeing.{Account, Enters, known}
use Rattle.rollback.specs.Rolls.{standing}
use Rattle.engine.specs.Answers.{AreLast, FailsToAsk}
use Rattle.engine.specs.Applies.{GivesNone, OrDeclined, OrNone}
use Rattle.engine.specs.Completes.{CompletesFor}
use Rattle.engine.specs.Requests.{IsRefusal}
use Rattle.engine.specs.Saying.{IsSameHolder, MaySpeak}
use Rattle.engine.specs.Sittings.{IsOwned}
use Rattle.engine.specs.declared.answered.Answered.{Answered}
use Rattle.engine.proofs.Alone.{completes, live_then, plain_none}
use Rattle.engine.proofs.Owned.{owned_now}

-- ---- the call

module _ (opens : List Record → Type 0) (ledger sessions : LedgerName) (request : Request) (a a' : Account) (t t' : PassSeen Entry) (owner owner' : Option SessionClaim) (s s' : SessionClaim) (is : owner ≡ Some s) (is' : owner' ≡ Some s') (speaks : MaySpeak opens t.log owner) (result : Result ℕ Fault)
    (e : Enters opens ledger sessions (known a t (session_alone s)) (refused s.session s.tx request result) (known a' t' (session_alone s'))) (right : s' ≡ record { session = s.session; entries = s.entries + length (refused s.session s.tx request result); tx = s.tx }) where
  same_session : s'.session ≡ s.session
  same_session = ap (λ (c : SessionClaim). c.session) right

  same_tx : s'.tx ≡ s.tx
  same_tx = ap (λ (c : SessionClaim). c.tx) right

  pub same_holder : IsSameHolder owner owner'
  same_holder = record {
    session = ap (option_map (λ (c : SessionClaim). c.session)) is' ∙ ap Some same_session ∙ sym (ap (option_map (λ (c : SessionClaim). c.session)) is);
    tx = ap (option_map (λ (c : SessionClaim). c.tx)) is' ∙ ap Some same_tx ∙ sym (ap (option_map (λ (c : SessionClaim). c.tx)) is);
  }

  live_before : (opening : List Record) → opens opening → phase e.moment s.tx ≡ Live
  live_before opening stands = live_then opens t.log e.moment s (subst (MaySpeak opens t.log) is speaks) e.found.begins e.found.consistent e.found.rights.s opening stands

  owned : ((opening : List Record) → opens opening → phase t'.log s.tx ≡ Live) → IfSome owner' (IsOwned opens t'.log)
  owned live = subst (λ (o : Option SessionClaim). IfSome o (IsOwned opens t'.log)) (sym is') (owned_now opens t'.log s' e.now.rights.s (λ opening stands. ap (phase t'.log) same_tx ∙ live opening stands))

  whole : (d : Desk) (answer : Result Answered Fault) (last : List Entry) → AreLast s request answer true last → Enters opens ledger sessions (known a t (session_alone s)) last (known a' t' (session_alone s')) → CompletesFor opens ledger sessions owner request answer (standing d a t) (standing d a' t')
  whole d answer last by entered = subst (λ (o : Option SessionClaim). CompletesFor opens ledger sessions o request answer (standing d a t) (standing d a' t')) (sym is)
      (completes opens ledger sessions s request a a' t t' (session_alone s) (session_alone s') d answer last by entered)

  -- it was entered
  module _ (pos : ℕ) (ok : result ≡ Ok pos) where
    abbrev one : Entry
    one = entries.Declined s.session s.tx request outcomes.OpRefused

    entered : Enters opens ledger sessions (known a t (session_alone s)) (one ∷ []) (known a' t' (session_alone s'))
    entered = subst (λ (r : Result ℕ Fault). Enters opens ledger sessions (known a t (session_alone s)) (refused s.session s.tx request r) (known a' t' (session_alone s'))) ok e

    allowed : (opening : List Record) → opens opening → IsAllowed opening entered.moment one
    allowed opening stands = (legal_front opening entered.moment one (subst (IsLegal opening) entered.is (entered.now.consistent.legal opening stands))).1

    pub declined_answers : (d : Desk) → CompletesFor opens ledger sessions owner request (Err (faults.OpRefused pos)) (standing d a t) (standing d a' t')
    declined_answers d = whole d (Err (faults.OpRefused pos)) (one ∷ []) (refl, refl) entered

    pub declined_none : pos ≡ length t'.log → GivesNone opens request t'.log (faults.OpRefused pos)
    declined_none place = (place, λ opening stands. subst (λ (log : List Record). HasNoMeaning (current log) request) (sym (ap (life_log opening) entered.is ∙ log_same opening entered.moment one refl)) (allowed opening stands).rule.cause)

    pub declined_live : IfSome owner' (IsOwned opens t'.log)
    declined_live = owned (λ opening stands. ap (λ (l : List Entry). phase l s.tx) entered.is ∙ phase_push entered.moment one s.tx ∙ (allowed opening stands).rule.live)

  -- it wasn't
  module _ (f : Fault) (err : result ≡ Err f) where
    nothing : Enters opens ledger sessions (known a t (session_alone s)) [] (known a' t' (session_alone s'))
    nothing = subst (λ (r : Result ℕ Fault). Enters opens ledger sessions (known a t (session_alone s)) (refused s.session s.tx request r) (known a' t' (session_alone s'))) err e

    pub failed_answers : FailsToEnter NoOther f → (d : Desk) → CompletesFor opens ledger sessions owner request (Err f) (standing d a t) (standing d a' t')
    failed_answers may d = whole d (Err f) [] (plain_none s request f may) nothing

    pub failed_live : IfSome owner' (IsOwned opens t'.log)
    failed_live = owned (λ opening stands. ap (λ (l : List Entry). phase l s.tx) (e.is ∙ ap (λ (r : Result ℕ Fault). e.moment ++ refused s.session s.tx request r) err ∙ append-nil e.moment) ∙ live_before opening stands)

-- ---- causes

pub plain_gives : (opens : List Record → Type 0) (request : Request) (h : List Entry) (f : Fault) → FailsToEnter NoOther f → GivesNone opens request h f
plain_gives opens request h (faults.OpRefused at) may = absurd may
plain_gives opens request h _ may = tt

pub plain_or_none : (f : Fault) → FailsToEnter NoOther f → FailsToEnter OrNone f
plain_or_none faults.Memory may = tt
plain_or_none (faults.Ended at) may = tt
plain_or_none _ may = absurd may

-- where no operator is refused
pub gives_by : (may : Fault → Type 0) → ((at : ℕ) → may (faults.OpRefused at) → ⊥) → (opens : List Record → Type 0) (log_faults made : LedgerName) (own own' : Faults) (old new : Account) (request : Request) (h : List Entry) (f : Fault) → FailsToAsk may opens log_faults made own own' old new h f
    → GivesNone opens request h f
gives_by may not opens log_faults made own own' old new request h (faults.OpRefused at) why = absurd (not at why.0)
gives_by may not opens log_faults made own own' old new request h _ why = tt

-- nor where a page is brought
pub brought_gives : (opens : List Record → Type 0) (log_faults made : LedgerName) (own own' : Faults) (old new : Account) (request : Request) (h : List Entry) (f : Fault) → FailsToBring opens log_faults made own own' old new h f → GivesNone opens request h f
brought_gives opens log_faults made own own' old new request h (faults.OpRefused at) why = absurd why
brought_gives opens log_faults made own own' old new request h _ why = tt

pub declined_may : (operator : ℕ) (key argument : List ℕ) (f : Fault) → OrDeclined f → IsRefusal (requests.Apply operator key argument) f
declined_may operator key argument (faults.OpRefused at) may = tt
declined_may operator key argument (faults.Full p q at) may = tt
declined_may operator key argument _ may = absurd may
