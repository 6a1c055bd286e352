-- An object put, synced, named and flushed.
use Rattle.std.proofs.Common.{◌≡◌, ℕ, suc, ◌≤◌, cond, List, [], ◌∷◌, ◌++◌, length, refl, sym, ap, subst, ◌∙◌, arith, append-nil, length-append, inl, inr}
use Rattle.std.specs.Prelude.{min, Bool, false, Result, Ok, Err, IfErr}
use Rattle.front.specs.Seen.{PassSeen}
use Rattle.store_model.specs.declared.fault.Fault.{Fault}
use Rattle.store_model.specs.declared.fault.Fault.TheVariants as faults
use Rattle.wal_record.specs.History.{life_log, log_of}
use Rattle.wal_record.specs.Legal.{IsLegal}
use Rattle.wal_record.specs.declared.record.Record.{Record}
use Rattle.wal_record.specs.declared.entry.Entry.{Entry}
use Rattle.wal_record.specs.declared.entry.Entry.TheVariants.{Rec}
use Rattle.wal_record.proofs.Along.{along_push}
use Rattle.wal_record.proofs.Pushes.{legal_front, log_more}
use Rattle.page_ops.specs.Causes.{EndsBy, FailsToEnter, FailsToFlush, MeetsNoEnd, NoOther}
use Rattle.page_ops.specs.Claims.{no_claims}
use Rattle.page_ops.specs.Gains.{Gains}
use Rattle.page_ops.specs.Names.{LedgerName}
use Rattle.page_ops.specs.Seeing.{Account, Enters, Keeps, Looks, is_of_session, known, of_sessions}
use Rattle.page_ops.proofs.Composing.{ends_by_then}
use Rattle.page_ops.proofs.Gaining.{gains_of, gains_then}
use Rattle.page_ops.proofs.Staying.{longer_log}
use Rattle.named_objects.specs.Named.{record_of}
use Rattle.named_objects.specs.Drafts.{FailsToName, NamesOne, naming_entries}
use Rattle.named_objects.specs.declared.draft.Done.{Done}
use Rattle.named_objects.specs.declared.draft.Done.TheVariants as dones
use Rattle.named_objects.specs.declared.naming.Naming.{Naming}
use Rattle.named_objects.specs.declared.naming.Naming.TheVariants as namings

abbrev pub one : ℕ → Naming → List Entry
one lsn n = Rec lsn (record_of n) ∷ []

-- ---- what is entered belongs to no session

of_none : (n : Naming) (h : List Entry) (lsn : ℕ) → is_of_session h (Rec lsn (record_of n)) ≡ false
of_none (namings.Backup b) h lsn = refl
of_none (namings.Run d) h lsn = refl

of_sessions_push : (h : List Entry) (e : Entry) → of_sessions (h ++ e ∷ []) ≡ cond (is_of_session h e) (suc (of_sessions h)) (of_sessions h)
unfolding of_sessions
of_sessions_push h e = along_push _ _ h e

module _ (opens : List Record → Type 0) (entries sessions : LedgerName) (n : Naming) (lsn : ℕ) (a b : Account) (p q : PassSeen Entry) (e : Enters opens entries sessions (known a p no_claims) (one lsn n) (known b q no_claims)) where
  pub no_session : b.session_entries.amount ≡ a.session_entries.amount
  no_session =
      let same : of_sessions q.log ≡ of_sessions e.moment =
      ap of_sessions e.is ∙ of_sessions_push e.moment (Rec lsn (record_of n)) ∙ ap (λ (b : Bool). cond b (suc (of_sessions e.moment)) (of_sessions e.moment)) (of_none n e.moment lsn) in
      omega (arith, same, e.sessions_counted)

  -- its LSN is that of the last record of the log then
  pub placed : (opening : List Record) → opens opening → lsn ≤ length (life_log opening q.log)
  placed opening stands =
      let m = e.moment in
      let r = record_of n in
      let legal = subst (IsLegal opening) e.is (e.now.consistent.legal opening stands) in
      let place = (legal_front opening m (Rec lsn r) legal).1.rule.place in
      let log : life_log opening q.log ≡ life_log opening m ++ r ∷ [] = ap (life_log opening) e.is ∙ log_more opening m lsn r in
      let l = length-append (life_log opening m) (r ∷ []) in
      let k = ap length log in
      omega (arith, place, l, k)

-- ---- the same by the answer of the call that enters it

module _ (opens : List Record → Type 0) (entries sessions : LedgerName) (n : Naming) (a b : Account) (p q : PassSeen Entry) (lsn : ℕ) (result : Result Done Fault) (at : result ≡ Ok (dones.At lsn)) (e : Enters opens entries sessions (known a p no_claims) (naming_entries n result) (known b q no_claims)) where
  entered : Enters opens entries sessions (known a p no_claims) (one lsn n) (known b q no_claims)
  entered = subst (λ (r : Result Done Fault). Enters opens entries sessions (known a p no_claims) (naming_entries n r) (known b q no_claims)) at e

  pub gained_at : Gains opens entries sessions (one lsn n) (known a p no_claims) (known b q no_claims)
  gained_at = gains_of opens entries sessions (one lsn n) (known a p no_claims) (known b q no_claims) entered

  pub session_at : b.session_entries.amount ≡ a.session_entries.amount
  session_at = no_session opens entries sessions n lsn a b p q entered

  pub placed_at : (opening : List Record) → opens opening → lsn ≤ length (life_log opening q.log)
  placed_at = placed opens entries sessions n lsn a b p q entered

-- ---- calls that look, before and behind

pub calm_sessions : (opens : List Record → Type 0) (entries sessions : LedgerName) (a b : Account) (p q : PassSeen Entry) → Looks opens entries sessions a p b q → b.session_entries.amount ≡ a.session_entries.amount
calm_sessions opens entries sessions a b p q e =
    let same : of_sessions q.log ≡ of_sessions e.moment = ap of_sessions (e.is ∙ append-nil e.moment) in
    omega (arith, same, e.sessions_counted)

pub looks : (opens : List Record → Type 0) (entries sessions : LedgerName) (a b : Account) (p q : PassSeen Entry) → Looks opens entries sessions a p b q → Gains opens entries sessions [] (known a p no_claims) (known b q no_claims)
looks opens entries sessions a b p q e = gains_of opens entries sessions [] (known a p no_claims) (known b q no_claims) e

module _ (opens : List Record → Type 0) (entries sessions : LedgerName) (n : Naming) (a b c : Account) (p q r : PassSeen Entry) where
  -- what was entered by the first of two calls
  pub gained_then : (lsn : ℕ) → Gains opens entries sessions (one lsn n) (known a p no_claims) (known b q no_claims) → Looks opens entries sessions b q c r → Gains opens entries sessions (one lsn n) (known a p no_claims) (known c r no_claims)
  gained_then lsn g l = gains_then opens entries sessions (one lsn n) [] (known a p no_claims) (known b q no_claims) (known c r no_claims) g (looks opens entries sessions b c q r l)

  pub refused_flush : (lsn : ℕ) (f : Fault) → FailsToFlush f → Gains opens entries sessions (one lsn n) (known a p no_claims) (known b q no_claims) → Looks opens entries sessions b q c r
      → NamesOne opens entries sessions n (Err f) (known a p no_claims) (known c r no_claims)
  refused_flush lsn faults.LogFault may g l = (lsn, gained_then lsn g l)
  refused_flush lsn (faults.Ended at) may g l = inr (lsn, gained_then lsn g l)
  refused_flush lsn _ may g l = absurd may

  -- and by the second
  pub names_then : Looks opens entries sessions a p b q → (result : Result ℕ Fault) → NamesOne opens entries sessions n result (known b q no_claims) (known c r no_claims) → NamesOne opens entries sessions n result (known a p no_claims) (known c r no_claims)
  names_then l (Ok lsn) g = gains_then opens entries sessions [] (one lsn n) (known a p no_claims) (known b q no_claims) (known c r no_claims) (looks opens entries sessions a b p q l) g
  names_then l (Err faults.LogFault) g = (g.0, gains_then opens entries sessions [] (one g.0 n) (known a p no_claims) (known b q no_claims) (known c r no_claims) (looks opens entries sessions a b p q l) g.1)
  names_then l (Err (faults.Ended at)) g = elim g [
    | inl none ↦ inl (gains_then opens entries sessions [] [] (known a p no_claims) (known b q no_claims) (known c r no_claims) (looks opens entries sessions a b p q l) none)
    | inr some ↦ inr (some.0, gains_then opens entries sessions [] (one some.0 n) (known a p no_claims) (known b q no_claims) (known c r no_claims) (looks opens entries sessions a b p q l) some.1)
  ]
  names_then l (Err _) g = gains_then opens entries sessions [] [] (known a p no_claims) (known b q no_claims) (known c r no_claims) (looks opens entries sessions a b p q l) g

pub refused_entry : (opens : List Record → Type 0) (entries sessions : LedgerName) (n : Naming) (a b : Account) (p q : PassSeen Entry) (f : Fault) → FailsToEnter NoOther f → Looks opens entries sessions a p b q → NamesOne opens entries sessions n (Err f) (known a p no_claims) (known b q no_claims)
refused_entry opens entries sessions n a b p q faults.Memory may l = looks opens entries sessions a b p q l
refused_entry opens entries sessions n a b p q (faults.Ended at) may l = inl (looks opens entries sessions a b p q l)
refused_entry opens entries sessions n a b p q _ may l = absurd may

-- what was in the log then still is
pub still_placed : (opens : List Record → Type 0) (entries sessions : LedgerName) (a b : Account) (p q : PassSeen Entry) → Looks opens entries sessions a p b q → (lsn : ℕ) (opening : List Record)
    → lsn ≤ length (life_log opening p.log) → min lsn (length (life_log opening q.log)) ≤ q.durable → lsn ≤ q.durable
still_placed opens entries sessions a b p q looked lsn opening within durable =
    let begins = looked.now.begins in
    let log : life_log opening q.log ≡ life_log opening p.log ++ log_of begins.0 = ap (life_log opening) (sym begins.1) ∙ longer_log opening p.log begins.0 in
    let l = length-append (life_log opening p.log) (log_of begins.0) in
    let k = ap length log in
    least (omega (arith, within, l, k)) durable
  where
    least : {a b c : ℕ} → a ≤ b → min a b ≤ c → a ≤ c
    least h k = grind (arith, h, k)

-- ---- why it is refused

module _ (opens : List Record → Type 0) (log_faults made : LedgerName) where
  pub enter_fails : (v w : ℕ) (a b : Account) (h : List Entry) (f : Fault) → FailsToEnter NoOther f → EndsBy opens log_faults made a b h f → FailsToName opens log_faults made v w a b h f
  enter_fails v w a b h faults.Memory may why = why
  enter_fails v w a b h (faults.Ended at) may why = why
  enter_fails v w a b h _ may why = absurd may

  pub flush_fails : (v w : ℕ) (a b : Account) (h : List Entry) (f : Fault) → FailsToFlush f → EndsBy opens log_faults made a b h f → FailsToName opens log_faults made v w a b h f
  flush_fails v w a b h faults.LogFault may why = why
  flush_fails v w a b h (faults.Ended at) may why = why
  flush_fails v w a b h _ may why = absurd may

  -- behind calls that met no end
  pub name_fails : (v w x : ℕ) (a b c : Account) (h : List Entry) (f : Fault) → MeetsNoEnd a b → Keeps a b → v ≤ w → FailsToName opens log_faults made w x b c h f → FailsToName opens log_faults made v x a c h f
  name_fails v w x a b c h faults.VaultFault none keeps up why = (record { ended = why.0.ended ∙ none.ended; amount = why.0.amount ∙ none.amount }, let rose = why.1 in omega (arith, up, rose))
  name_fails v w x a b c h faults.Memory none keeps up why = ends_by_then opens log_faults made a b c h none keeps faults.Memory why
  name_fails v w x a b c h faults.LogFault none keeps up why = ends_by_then opens log_faults made a b c h none keeps faults.LogFault why
  name_fails v w x a b c h (faults.Ended at) none keeps up why = ends_by_then opens log_faults made a b c h none keeps (faults.Ended at) why
  name_fails v w x a b c h _ none keeps up why = absurd why

  pub names_fail : (v w x : ℕ) (a b c : Account) (h : List Entry) (result : Result ℕ Fault) → MeetsNoEnd a b → Keeps a b → v ≤ w → IfErr result (FailsToName opens log_faults made w x b c h) → IfErr result (FailsToName opens log_faults made v x a c h)
  names_fail v w x a b c h (Ok lsn) none keeps up why = tt
  names_fail v w x a b c h (Err f) none keeps up why = name_fails v w x a b c h f none keeps up why
