-- A committed transaction has no step after its commit.
use Rattle.std.proofs.Common.{◌≡◌, ℕ, Bool, true, false, cond, eqb, List, [], ◌∷◌, ◌++◌, refl, sym, ap, subst, ◌∙◌, arith, inl, inr}
use Rattle.std.specs.Prelude.{◌<◌}
use Rattle.std.proofs.Math.Nat.{le-max_left, le-max_right}
use Rattle.std.proofs.lemmas.Bool.{eqb-true}
use Rattle.std.proofs.lemmas.List.{append-nil}
use Rattle.store_model.proofs.Bools.{not_both}
use Rattle.wal_record.specs.declared.record.Record.{Record}
use Rattle.wal_record.specs.declared.record.Record.TheVariants as kinds
use Rattle.wal_record.specs.declared.entry.Entry.{Entry}
use Rattle.wal_record.specs.declared.entry.Entry.TheVariants.{Rec, Said, Acked, Began}
use Rattle.store_model.specs.Along.{along}
use Rattle.wal_record.specs.Chains.{greatest}
use Rattle.wal_record.specs.OpenWrites.{is_loser}
use Rattle.wal_record.specs.Sound.{AreLawful}
use Rattle.wal_record.specs.History.{Phase, Idle, Live, Committed, Acknowledged, Ended, phase_step, phase, greatest_begun}
use Rattle.wal_record.specs.Steps.{Step, Asked, Back, step_of, steps, Finished, finished_step, committed_transactions}
use Rattle.wal_record.specs.Legal.{untold, MayUndo, IsAllowed, IsLegal}
use Rattle.wal_record.proofs.Along.{by_pushes}
use Rattle.wal_record.proofs.Pushes.{phase_push, steps_push, transactions_push, legal_front}
use Rattle.log_laws.specs.Phases.{EachHas, StepsLaw}
use Rattle.log_laws.proofs.Central.{eqb_self}
use Rattle.log_laws.proofs.Serial.{At, no_loser, owner_new, said_live, after_legal}

abbrev is_past : Phase → Bool
is_past Idle = false
is_past Live = false
is_past _ = true

not_past : (p q : Phase) → p ≡ q → is_past q ≡ false → is_past p ≡ true → ⊥
not_past p q e f h = not_both (is_past p) h (ap is_past e ∙ f)

module _ (opening : List Record) (h : List Entry) (legal : IsLegal opening h) (told : At opening h) where
  unless_its : (tx t : ℕ) (s : Step) → (tx ≡ t → ⊥) → cond (eqb tx t) (s ∷ []) [] ≡ []
  unless_its tx t s other = by (eqb tx t) refl
    where
      by : (b : Bool) → eqb tx t ≡ b → cond b (s ∷ []) [] ≡ []
      by true e = absurd (other (eqb-true tx t e))
      by false e = refl

  no_undo : (u t : ℕ) → MayUndo opening h u → is_past (phase h t) ≡ true → greatest opening < t → u ≡ t → ⊥
  no_undo u t may past new same = elim may [
    | inl live ↦ not_past (phase h t) Live (sym (ap (phase h) same) ∙ live) refl past
    | inr loser ↦ not_both (is_loser opening t) (sym (ap (is_loser opening) same) ∙ loser) (no_loser opening t new)
  ]

  no_step : (e : Entry) → IsAllowed opening h e → (t : ℕ) → is_past (phase h t) ≡ true → greatest opening < t → step_of t e ≡ []
  no_step (Said session tx request reply) ok t past new = unless_its tx t (Asked request reply) (λ same.
      not_past (phase h t) Live (sym (ap (phase h) same) ∙ said_live opening h told session tx request reply (untold h) refl (owner_new opening h legal session tx ok.rule.owner) ok.rule.answer) refl past)
  no_step (Rec lsn (kinds.Undo u)) ok t past new = unless_its u.tx t Back (no_undo u.tx t ok.rule.rule past new)
  no_step _ ok t past new = refl

  still_past : (p q : Phase) (b : Bool) → is_past q ≡ true → is_past p ≡ true → is_past (cond b q p) ≡ true
  still_past p q true h g = h
  still_past p q false h g = g

  past_step : (e : Entry) → IsAllowed opening h e → (t : ℕ) → is_past (phase h t) ≡ true → is_past (phase_step t (phase h t) e) ≡ true
  past_step (Began session tx) ok t past = by (eqb tx t) refl
    where
      fresh : phase h tx ≡ Idle
      fresh =
          let l = le-max_left (greatest opening) (greatest_begun h) in
          let r = le-max_right (greatest opening) (greatest_begun h) in
          let n = ok.rule.number in
          (told.fresh tx (omega (arith, l, n)) (omega (arith, r, n))).0

      by : (b : Bool) → eqb tx t ≡ b → is_past (cond b Live (phase h t)) ≡ true
      by true e = absurd (not_past (phase h t) Idle (sym (ap (phase h) (eqb-true tx t e)) ∙ fresh) refl past)
      by false e = past
  past_step (Acked session tx) ok t past = still_past (phase h t) Acknowledged (eqb tx t) refl past
  past_step (Rec lsn (kinds.Commit c)) ok t past = still_past (phase h t) Committed (eqb c.tx t) refl past
  past_step (Rec lsn (kinds.End x)) ok t past = still_past (phase h t) Ended (eqb x.tx t) refl past
  past_step _ ok t past = past

-- each has all its steps, is over, and is of this life
abbrev Past : List Record → List Entry → List Finished → Type 0
Past opening h [] = Unit {0}
Past opening h (f ∷ fs) = ((f.steps ≡ steps h f.tx) × (is_past (phase h f.tx) ≡ true) × (greatest opening < f.tx)) × Past opening h fs

past_more : (opening : List Record) (h : List Entry) (e : Entry) → IsLegal opening h → At opening h → IsAllowed opening h e → (fs : List Finished) → Past opening h fs → Past opening (h ++ e ∷ []) fs
past_more opening h e legal told ok [] p = tt
past_more opening h e legal told ok (f ∷ fs) p = (
  (
    p.0.0 ∙ sym (steps_push h e f.tx ∙ ap (λ (ss : List Step). steps h f.tx ++ ss) (no_step opening h legal told e ok f.tx p.0.1 p.0.2) ∙ append-nil (steps h f.tx)),
    ap is_past (phase_push h e f.tx) ∙ past_step opening h legal told e ok f.tx p.0.1,
    p.0.2,
  ),
  past_more opening h e legal told ok fs p.1,
)

past_append : (opening : List Record) (h : List Entry) (fs : List Finished) (f : Finished) → Past opening h fs → (f.steps ≡ steps h f.tx) × (is_past (phase h f.tx) ≡ true) × (greatest opening < f.tx) → Past opening h (fs ++ f ∷ [])
past_append opening h [] f p q = (q, tt)
past_append opening h (x ∷ fs) f p q = (p.0, past_append opening h fs f p.1 q)

past_step_all : (opening : List Record) (h : List Entry) (e : Entry) → IsLegal opening h → At opening h → IsAllowed opening h e → Past opening h (committed_transactions h) → Past opening (h ++ e ∷ []) (finished_step h (committed_transactions h) e)
past_step_all opening h (Rec lsn (kinds.Commit c)) legal told ok p =
    past_append opening (h ++ Rec lsn (kinds.Commit c) ∷ []) (committed_transactions h) (record { tx = c.tx; steps = steps h c.tx }) (past_more opening h (Rec lsn (kinds.Commit c)) legal told ok (committed_transactions h) p) (
      sym (steps_push h (Rec lsn (kinds.Commit c)) c.tx ∙ append-nil (steps h c.tx)),
      ap is_past (phase_push h (Rec lsn (kinds.Commit c)) c.tx) ∙ ap (λ (b : Bool). is_past (cond b Committed (phase h c.tx))) (eqb_self c.tx),
      told.new c.tx ok.rule.rule,
    )
past_step_all opening h e legal told ok p = past_more opening h e legal told ok (committed_transactions h) p

none_committed : (opening : List Record) → Past opening [] (committed_transactions [])
unfolding committed_transactions along
none_committed opening = tt

past_all : (opening : List Record) → AreLawful opening → (h : List Entry) → IsLegal opening h → Past opening h (committed_transactions h)
past_all opening sound = by_pushes (λ (h : List Entry). IsLegal opening h → Past opening h (committed_transactions h)) (λ _. none_committed opening)
    (λ h e before legal.
    let parts = legal_front opening h e legal in
    subst (Past opening (h ++ e ∷ [])) (sym (transactions_push h e)) (past_step_all opening h e parts.0 (after_legal opening sound h parts.0).0 parts.1 (before parts.0)))

each_has : (opening : List Record) (h : List Entry) (fs : List Finished) → Past opening h fs → EachHas h fs
each_has opening h [] p = tt
each_has opening h (f ∷ fs) p = (p.0.0, each_has opening h fs p.1)

pub steps_law : (opening : List Record) (h : List Entry) → StepsLaw opening h
steps_law opening h = record { all = λ sound legal. each_has opening h (committed_transactions h) (past_all opening sound h legal) }
