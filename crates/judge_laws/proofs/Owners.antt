-- Who was begun by a session is no loser of the opening log.
use Rattle.std.proofs.Common.{◌≡◌, ℕ, eqb, ◌<◌, List, [], ◌∷◌, ◌++◌, Bool, true, false, refl, sym, ap, ◌∙◌, arith, inl, inr, append-nil}
use Rattle.std.specs.Prelude.{◌&&◌, ◌||◌, ◌⊎◌}
use Rattle.std.specs.List.{list_any}
use Rattle.std.proofs.lemmas.Bool.{eqb-true}
use Rattle.std.proofs.lemmas.List.Folds.{list_any-append}
use Rattle.store_model.proofs.Bools.{both_true}
use Rattle.wal_record.specs.Chains.{greatest}
use Rattle.wal_record.specs.History.{Beginning, beginnings, is_owner, life_log}
use Rattle.wal_record.specs.Legal.{IsAllowed, IsLegal}
use Rattle.wal_record.specs.Locks.{locks, loser_locks, taken_locks}
use Rattle.wal_record.specs.OpenWrites.{is_loser, open_writes}
use Rattle.wal_record.specs.declared.entry.Entry.{Entry}
use Rattle.wal_record.specs.declared.entry.Entry.TheVariants.{Began}
use Rattle.wal_record.specs.declared.record.Record.{Record}
use Rattle.wal_record.proofs.Along.{by_pushes}
use Rattle.wal_record.proofs.Pushes.{beginnings_push, legal_front}
use Rattle.log_laws.proofs.Serial.{no_loser}
use Rattle.loser_laws.proofs.Ways.{ways}
use Rattle.judge_laws.specs.Locks.{OwnLaw}

either : (a b : Bool) → (a || b) ≡ true → (a ≡ true) ⊎ (b ≡ true)
either true b e = inl refl
either false b e = inr e

begun_above : (opening : List Record) (h : List Entry) (e : Entry) → IsAllowed opening h e → (s t : ℕ) → list_any (λ (b : Beginning). eqb b.session s && eqb b.tx t) (beginnings (e ∷ [])) ≡ true → greatest opening < t
begun_above opening h (Began session tx) ok s t is = elim (either (eqb session s && eqb tx t) false is) [
  | inl here ↦ (let same = eqb-true tx t (both_true (eqb session s) (eqb tx t) here).1 in let number = ok.rule.number in omega (arith, same, number))
  | inr none ↦ absurd (cc none)
]
begun_above opening h e ok s t is = absurd (cc is)

pub above : (opening : List Record) (h : List Entry) → IsLegal opening h → (s t : ℕ) → is_owner h s t ≡ true → greatest opening < t
above opening = by_pushes (λ (h : List Entry). IsLegal opening h → (s t : ℕ) → is_owner h s t ≡ true → greatest opening < t)
    (λ _ s t is. absurd (cc is))
    (λ h e before legal s t is.
    let parts = legal_front opening h e legal in
    let test = λ (b : Beginning). eqb b.session s && eqb b.tx t in
    elim (either (list_any test (beginnings h)) (list_any test (beginnings (e ∷ []))) (sym (ap (list_any test) (beginnings_push h e) ∙ list_any-append test (beginnings h) (beginnings (e ∷ []))) ∙ is)) [
      | inl old ↦ before parts.0 s t old
      | inr new ↦ begun_above opening h e parts.1 s t new
    ])

own_locks : (opening : List Record) (h : List Entry) (t : ℕ) → is_loser opening t ≡ false → locks opening h t ≡ taken_locks h t
unfolding locks
own_locks opening h t none = ap (λ (b : Bool). taken_locks h t ++ loser_locks b (open_writes (life_log opening h) t)) none ∙ append-nil (taken_locks h t)

pub own : (opening : List Record) (h : List Entry) → OwnLaw opening h
own opening h = record {
  begun = λ legal session tx is. own_locks opening h tx (no_loser opening tx (above opening h legal session tx is));
  live = λ sound legal tx live. own_locks opening h tx ((ways opening h).live sound legal tx live);
}
