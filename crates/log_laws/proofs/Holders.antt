-- Who holds a lock.
use Rattle.std.proofs.Common.{◌≡◌, ℕ, Bool, true, false, cond, eqb, List, [], ◌∷◌, ◌++◌, refl, sym, subst, ◌∙◌, inl, inr}
use Rattle.std.specs.List.{list_any}
use Rattle.std.proofs.lemmas.Bool.{eqb-true, or_cases}
use Rattle.std.proofs.lemmas.List.Folds.{list_any-append}
use Rattle.store_model.specs.Along.{along}
use Rattle.wal_record.specs.declared.record.Record.{Record}
use Rattle.wal_record.specs.declared.record.Record.TheVariants as kinds
use Rattle.wal_record.specs.declared.entry.Entry.{Entry}
use Rattle.wal_record.specs.declared.entry.Entry.TheVariants.{Rec, Lock, Acked, Began}
use Rattle.wal_record.specs.OpenWrites.{open_writes, is_loser}
use Rattle.wal_record.specs.History.{life_log, Phase, Live, Committed, Acknowledged, Ended, phase_step, phase}
use Rattle.wal_record.specs.Locks.{Held, locks_step, taken_locks, loser_locks, locks}
use Rattle.wal_record.specs.Legal.{held, IsAllowed, IsLegal}
use Rattle.wal_record.proofs.Along.{by_pushes}
use Rattle.wal_record.proofs.Pushes.{phase_push, taken_push, legal_front}
use Rattle.log_laws.specs.Locks.{HoldersLaw}

-- a transaction with these locks has this phase, or none of them passes a test
abbrev AreOfLive : List Held → Phase → Type 0
AreOfLive ls p = (q : Held → Bool) → list_any q ls ≡ true → p ≡ Live

not_live : (p : Phase) → p ≡ Committed → p ≡ Live → ⊥
not_live p c l = let e : Committed ≡ Live = sym c ∙ l in absurd cc

module _ (opening : List Record) (h : List Entry) (t : ℕ) (before : AreOfLive (taken_locks h t) (phase h t)) where
  locked : (tx : ℕ) (l : Held) → phase h tx ≡ Live → (b : Bool) → eqb tx t ≡ b → AreOfLive (cond b (l ∷ taken_locks h t) (taken_locks h t)) (phase h t)
  locked tx l live true e = λ q g. subst (λ (u : ℕ). phase h u ≡ Live) (eqb-true tx t e) live
  locked tx l live false e = before

  begun : (b : Bool) → AreOfLive (taken_locks h t) (cond b Live (phase h t))
  begun true = λ q g. refl
  begun false = before

  acknowledged : (tx : ℕ) → phase h tx ≡ Committed → (b : Bool) → eqb tx t ≡ b → AreOfLive (taken_locks h t) (cond b Acknowledged (phase h t))
  acknowledged tx done true e = λ q g. absurd (not_live (phase h t) (subst (λ (u : ℕ). phase h u ≡ Committed) (eqb-true tx t e) done) (before q g))
  acknowledged tx done false e = before

  over : (p : Phase) (b : Bool) → AreOfLive (cond b [] (taken_locks h t)) (cond b p (phase h t))
  over p true = λ q g. absurd cc
  over p false = before

  step : (e : Entry) → IsAllowed opening h e → AreOfLive (locks_step t (taken_locks h t) e) (phase_step t (phase h t) e)
  step (Began session tx) ok = begun (eqb tx t)
  step (Lock tx range mode) ok = locked tx (held range mode) ok.rule.live (eqb tx t) refl
  step (Acked session tx) ok = acknowledged tx ok.rule.committed (eqb tx t) refl
  step (Rec lsn (kinds.Commit c)) ok = over Committed (eqb c.tx t)
  step (Rec lsn (kinds.End x)) ok = over Ended (eqb x.tx t)
  step _ ok = before

none : (t : ℕ) → AreOfLive (taken_locks [] t) (phase [] t)
unfolding taken_locks phase along
none t = λ q g. absurd cc

taken_live : (opening : List Record) (t : ℕ) (h : List Entry) → IsLegal opening h → AreOfLive (taken_locks h t) (phase h t)
taken_live opening t = by_pushes (λ (h : List Entry). IsLegal opening h → AreOfLive (taken_locks h t) (phase h t)) (λ _. none t) (λ h e before legal.
    let parts = legal_front opening h e legal in
    subst (λ (ls : List Held). AreOfLive ls (phase (h ++ e ∷ []) t)) (sym (taken_push h e t))
    (subst (AreOfLive (locks_step t (taken_locks h t) e)) (sym (phase_push h e t)) (step opening h t (before parts.0) e parts.1)))

of_loser : (b : Bool) (ws : List Record) (q : Held → Bool) → list_any q (loser_locks b ws) ≡ true → b ≡ true
of_loser true ws q g = refl
of_loser false ws q g = absurd cc

pub holders : (opening : List Record) (h : List Entry) → HoldersLaw opening h
unfolding locks
holders opening h = record {
  holder = λ legal t q g. elim (or_cases _ _ (sym (list_any-append q (taken_locks h t) (loser_locks (is_loser opening t) (open_writes (life_log opening h) t))) ∙ g)) [
    | inl a ↦ inl (taken_live opening t h legal q a)
    | inr b ↦ inr (of_loser (is_loser opening t) (open_writes (life_log opening h) t) q b)
  ];
}
