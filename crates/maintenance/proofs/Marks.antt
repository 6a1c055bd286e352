-- A record that is asked for alone, and what it enters.
use Rattle.std.proofs.Common.{◌≡◌, ℕ, ◌≤◌, List, [], ◌∷◌, ◌++◌, length, None, ap, subst, ◌∙◌, arith, length-append, inr}
use Rattle.std.specs.Prelude.{min, Result, Ok, Err, false}
use Rattle.front.specs.Seen.{PassSeen}
use Rattle.store_model.specs.declared.fault.Fault.{Fault}
use Rattle.store_model.specs.declared.fault.Fault.TheVariants as faults
use Rattle.wal_record.specs.History.{life_log, log_of}
use Rattle.wal_record.specs.declared.record.Record.{Record}
use Rattle.wal_record.specs.declared.entry.Entry.{Entry}
use Rattle.wal_record.specs.declared.entry.Entry.TheVariants as entries
use Rattle.wal_record.specs.Legal.{IsLegal}
use Rattle.wal_record.proofs.Pushes.{legal_front, log_more}
use Rattle.page_ops.specs.Causes.{FailsToFlush}
use Rattle.page_ops.specs.Claims.{Claims, no_claims}
use Rattle.page_ops.specs.Groups.{AreFilled}
use Rattle.page_ops.specs.Names.{LedgerName}
use Rattle.page_ops.specs.Outcomes.{EntersGroup, IsFilledIn, OnEntered, answered}
use Rattle.page_ops.specs.Gains.{Gains}
use Rattle.page_ops.specs.Seeing.{Account, Enters, Looks, known}
use Rattle.page_ops.specs.declared.group.Group.{Group}
use Rattle.page_ops.specs.declared.outcome.Entered.{Entered}
use Rattle.page_ops.specs.declared.outcome.Entered.TheVariants as entereds
use Rattle.page_ops.proofs.Gaining.{gains_of, gains_then}
use Rattle.page_ops.proofs.Staying.{longer_log}
use Rattle.maintenance.specs.Marks.{GainsMark, TakesMark}

-- ---- what was entered

regain : (opens : List Record → Type 0) (ledger sessions : LedgerName) (own : List Entry) (a b : Account) (p q : PassSeen Entry) (x y z w : Claims) → Gains opens ledger sessions own (known a p x) (known b q y) → Gains opens ledger sessions own (known a p z) (known b q w)
regain opens ledger sessions own a b p q x y z w e = record { gained = e.gained; is = e.is; among = e.among; consistent = e.consistent; durable = e.durable; keeps = e.keeps; counted = e.counted; totals = e.totals }

-- a record that the group asks for alone
abbrev pub alone : Record → Group
alone r = record { recs = r ∷ []; said = None; room = false; lsn = 0 }

-- what the journal makes of it is of the same kind
abbrev pub StaysOfKind : (A : Type 0) → (A → Record) → Record → Type 0
StaysOfKind A mark r = (new : ℕ) (xs : List Record) → AreFilled new (r ∷ []) xs → (a : A) × (xs ≡ mark a ∷ [])

module _ (A : Type 0) (mark : A → Record) (r : Record) (stays : StaysOfKind A mark r) (opens : List Record → Type 0) (ledger sessions : LedgerName) (g now : Group) (is : g ≡ alone r) (a b : Account) (p q : PassSeen Entry) (x y : Claims) where
  of_group : (result : Result Entered Fault) → EntersGroup opens ledger sessions g now result (known a p x) (known b q y) → Enters opens ledger sessions (known a p x) (answered now.lsn now.recs None result) (known b q y)
  of_group result e = subst (λ (z : Group). Enters opens ledger sessions (known a p x) (answered now.lsn now.recs z.said result) (known b q y)) is e.enters

  module _ (pos : ℕ) (result : Result Entered Fault) (at : result ≡ Ok (entereds.At pos)) (e : EntersGroup opens ledger sessions g now result (known a p x) (known b q y)) (f : OnEntered result (IsFilledIn g now x y)) where
    filling : IsFilledIn g now x y
    filling = subst (λ (o : Result Entered Fault). OnEntered o (IsFilledIn g now x y)) at f

    the_record : (k : A) × (now.recs ≡ mark k ∷ [])
    the_record = stays filling.child now.recs (subst (λ (z : Group). AreFilled filling.child z.recs now.recs) is filling.recs)

    whole : Enters opens ledger sessions (known a p x) (entries.Rec now.lsn (mark the_record.0) ∷ []) (known b q y)
    whole =
        subst (λ (rs : List Record). Enters opens ledger sessions (known a p x) (answered now.lsn rs None (Ok (entereds.At pos))) (known b q y)) the_record.1
        (subst (λ (o : Result Entered Fault). Enters opens ledger sessions (known a p x) (answered now.lsn now.recs None o) (known b q y)) at (of_group result e))

    pub entered_at : GainsMark A mark opens ledger sessions now.lsn (known a p no_claims) (known b q no_claims)
    entered_at = (the_record.0, regain opens ledger sessions _ a b p q x y no_claims no_claims (gains_of opens ledger sessions _ (known a p x) (known b q y) whole))

    -- its LSN is that of the last record of the log then
    pub placed_at : (opening : List Record) → opens opening → now.lsn ≤ length (life_log opening q.log)
    placed_at opening stands =
        let m = whole.moment in
        let k = mark the_record.0 in
        let legal = subst (IsLegal opening) whole.is (whole.now.consistent.legal opening stands) in
        let place = (legal_front opening m (entries.Rec now.lsn k) legal).1.rule.place in
        let log : life_log opening q.log ≡ life_log opening m ++ k ∷ [] = ap (life_log opening) whole.is ∙ log_more opening m now.lsn k in
        let l = length-append (life_log opening m) (k ∷ []) in
        let n = ap length log in
        omega (arith, place, l, n)

-- ---- and flushed

module _ (A : Type 0) (mark : A → Record) (opens : List Record → Type 0) (ledger sessions : LedgerName) (a b c : Account) (p q r : PassSeen Entry) (looked : Looks opens ledger sessions b q c r) where
  look : Gains opens ledger sessions [] (known b q no_claims) (known c r no_claims)
  look = gains_of opens ledger sessions [] (known b q no_claims) (known c r no_claims) looked

  pub behind : (lsn : ℕ) → GainsMark A mark opens ledger sessions lsn (known a p no_claims) (known b q no_claims) → GainsMark A mark opens ledger sessions lsn (known a p no_claims) (known c r no_claims)
  behind lsn g = (g.0, gains_then opens ledger sessions (entries.Rec lsn (mark g.0) ∷ []) [] (known a p no_claims) (known b q no_claims) (known c r no_claims) g.1 look)

  pub behind_refused : (lsn : ℕ) (f : Fault) → FailsToFlush f → GainsMark A mark opens ledger sessions lsn (known a p no_claims) (known b q no_claims) → TakesMark A mark opens ledger sessions (Err f) (known a p no_claims) (known c r no_claims)
  behind_refused lsn faults.LogFault h g = (lsn, behind lsn g)
  behind_refused lsn (faults.Ended at) h g = inr (lsn, behind lsn g)
  behind_refused lsn _ h g = absurd h

  -- what was in the log then still is
  pub still_placed : (lsn : ℕ) (opening : List Record) → lsn ≤ length (life_log opening q.log) → min lsn (length (life_log opening r.log)) ≤ r.durable → lsn ≤ r.durable
  still_placed lsn opening placed durable =
      let log : life_log opening r.log ≡ life_log opening q.log ++ log_of look.gained = ap (life_log opening) look.is ∙ longer_log opening q.log look.gained in
      let l = length-append (life_log opening q.log) (log_of look.gained) in
      let n = ap length log in
      least (omega (arith, placed, l, n)) durable
    where
      least : {a b c : ℕ} → a ≤ b → min a b ≤ c → a ≤ c
      least h k = grind (arith, h, k)
