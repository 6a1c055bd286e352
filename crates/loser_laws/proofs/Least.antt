-- The first loser of which a test holds is the least.
use Rattle.std.proofs.Common.{◌≡◌, ℕ, zero, suc, ◌+◌, ◌<◌, ◌≤◌, cond, List, ◌∷◌, Option, Some, None, Bool, true, false, refl, ap, subst, arith, inl, inr}
use Rattle.std.specs.Prelude.{◌-◌, filter}
use Rattle.std.specs.List.{find, range_with_len}
use Rattle.std.proofs.lemmas.Bool.{cases_eq}
use Rattle.wal_record.specs.Chains.{greatest}
use Rattle.wal_record.specs.OpenWrites.{has_items, is_loser}
use Rattle.wal_record.specs.Sound.{AreLawful}
use Rattle.wal_record.specs.declared.record.Record.{Record}
use Rattle.listing_laws.proofs.Transactions.{none_of_zero}
use Rattle.log_laws.proofs.Serial.{no_loser}
use Rattle.store_model.proofs.Bools.{not_both}
use Rattle.loser_laws.specs.Ways.{LeastLaw}

module _ (p q : ℕ → Bool) where
  -- the first one of the chosen numbers
  abbrev first : ℕ → ℕ → Option ℕ
  first a n = find p (filter q (range_with_len a n))

  none_of : (a n : ℕ) → first a n ≡ None → (t : ℕ) → a ≤ t → t < a + n → q t ≡ true → p t ≡ false
  none_of a zero none t low high is = absurd (omega (arith, low, high))
  none_of a (suc n) none t low high is = by (λ rest apart. none_of (a + 1) n rest t (omega (arith, low, apart)) (omega (arith, high)) is) (q a) refl none
    where
      here : (first (a + 1) n ≡ None → (a ≡ t → ⊥) → p t ≡ false) → (b : Bool) → p a ≡ b → cond b (Some a) (first (a + 1) n) ≡ None → p t ≡ false
      here more true pa e = absurd (cc e)
      here more false pa e = elim (cases_eq a t) [
        | inl same ↦ subst (λ (u : ℕ). p u ≡ false) same pa
        | inr apart ↦ more e apart
      ]

      by : (first (a + 1) n ≡ None → (a ≡ t → ⊥) → p t ≡ false) → (b : Bool) → q a ≡ b → find p (cond b (a ∷ filter q (range_with_len (a + 1) n)) (filter q (range_with_len (a + 1) n))) ≡ None → p t ≡ false
      by more true qa e = here more (p a) refl e
      by more false qa e = more e (λ same. not_both (q t) is (subst (λ (u : ℕ). q u ≡ false) same qa))

  found : (a n t : ℕ) → first a n ≡ Some t → (q t ≡ true) × (p t ≡ true)
  found a zero t e = absurd (cc e)
  found a (suc n) t e = by (found (a + 1) n t) (q a) refl e
    where
      here : (first (a + 1) n ≡ Some t → (q t ≡ true) × (p t ≡ true)) → (b : Bool) → p a ≡ b → q a ≡ true → cond b (Some a) (first (a + 1) n) ≡ Some t → (q t ≡ true) × (p t ≡ true)
      here more true pa qa e = let same : a ≡ t = cc e in subst (λ (u : ℕ). (q u ≡ true) × (p u ≡ true)) same (qa, pa)
      here more false pa qa e = more e

      by : (first (a + 1) n ≡ Some t → (q t ≡ true) × (p t ≡ true)) → (b : Bool) → q a ≡ b → find p (cond b (a ∷ filter q (range_with_len (a + 1) n)) (filter q (range_with_len (a + 1) n))) ≡ Some t → (q t ≡ true) × (p t ≡ true)
      by more true qa e = here more (p a) refl qa e
      by more false qa e = more e

  none_before : (a n t : ℕ) → first a n ≡ Some t → (u : ℕ) → a ≤ u → u < t → q u ≡ true → p u ≡ false
  none_before a zero t e u low less is = absurd (cc e)
  none_before a (suc n) t e u low less is = by (λ rest apart. none_before (a + 1) n t rest u (omega (arith, low, apart)) less is) (q a) refl e
    where
      here : (first (a + 1) n ≡ Some t → (a ≡ u → ⊥) → p u ≡ false) → (b : Bool) → p a ≡ b → cond b (Some a) (first (a + 1) n) ≡ Some t → p u ≡ false
      here more true pa e = let same : a ≡ t = cc e in absurd (omega (arith, same, low, less))
      here more false pa e = elim (cases_eq a u) [
        | inl same ↦ subst (λ (x : ℕ). p x ≡ false) same pa
        | inr apart ↦ more e apart
      ]

      by : (first (a + 1) n ≡ Some t → (a ≡ u → ⊥) → p u ≡ false) → (b : Bool) → q a ≡ b → find p (cond b (a ∷ filter q (range_with_len (a + 1) n)) (filter q (range_with_len (a + 1) n))) ≡ Some t → p u ≡ false
      by more true qa e = here more (p a) refl e
      by more false qa e = more e (λ same. not_both (q u) is (subst (λ (x : ℕ). q x ≡ false) same qa))

-- a loser has a number from 1 to the greatest of the log
low : (log : List Record) → AreLawful log → (t : ℕ) → is_loser log t ≡ true → 1 ≤ t
low log lawful zero is = absurd (not_both (is_loser log 0) is (ap has_items (none_of_zero log lawful)))
low log lawful (suc t) is = omega arith

high : (log : List Record) (t : ℕ) → is_loser log t ≡ true → t ≤ greatest log
high log t is = elim (cases_eq (t - greatest log) 0) [
  | inl within ↦ omega (arith, within)
  | inr above ↦ absurd (not_both (is_loser log t) is (no_loser log t (omega (arith, above))))
]

pub least : (log : List Record) (p : ℕ → Bool) → LeastLaw log p
least log p = record {
  none = λ lawful e t is. none_of p (is_loser log) 1 (greatest log) e t (low log lawful t is) (let most = high log t is in omega (arith, most)) is;
  some = λ t e. found p (is_loser log) 1 (greatest log) t e;
  least = λ lawful t e u less is. none_before p (is_loser log) 1 (greatest log) t e u (low log lawful u is) less is;
}
