-- The name of the first active transaction with a number.
use Rattle.std.proofs.Common.{◌≡◌, ℕ, zero, suc, ◌<◌, ◌≤◌, Bool, true, false, cond, List, [], ◌∷◌, length, get_or, Some, None, refl, sym, ap, ◌∙◌, arith}
use Rattle.std.specs.Prelude.{◌==◌, position, slice_index_or}
use Rattle.std.specs.List.{find, position_or_len}
use Rattle.std.specs.Option.{option_map}
use Rattle.std.proofs.lemmas.Grind.{common_steps}
use Rattle.std.proofs.lemmas.List.Quantifiers.{position-Some}
use Rattle.std.proofs.lemmas.List.Sums.{fails_before_first}
use Rattle.command_laws.specs.Names.{Active}
use Rattle.store_life.specs.SoFar.{active_by, actives}
use Rattle.store_life.specs.declared.life.Named.{Named}
use Rattle.own_life.specs.State.{name_by}

module _ {N : Type 0} (tx : ℕ) where
  abbrev pub has_number : Named N → Bool
  has_number named = named.session.claim.tx == tx

  by_first : (xs : List (Named N)) (i : ℕ) (d : Named N) → i < length xs → has_number (get_or xs i d) ≡ true → ((k : ℕ) → k < i → has_number (get_or xs k d) ≡ false) → name_by tx (actives xs) ≡ Some (get_or xs i d).name
  by_first [] i d low is before = absurd (omega (arith, low))
  by_first (x ∷ xs) zero d low is before = ap (λ (b : Bool). option_map (λ (a : Active). a.name) (cond b (Some (active_by x)) (find (λ (a : Active). a.tx == tx) (actives xs)))) is
  by_first (x ∷ xs) (suc i) d low is before =
      ap (λ (b : Bool). option_map (λ (a : Active). a.name) (cond b (Some (active_by x)) (find (λ (a : Active). a.tx == tx) (actives xs)))) (before 0 (omega arith))
      ∙ by_first xs i d (omega (arith, low)) is (λ k less. before (suc k) (omega (arith, less)))

  by_none : (xs : List (Named N)) → ((k : ℕ) (d : Named N) → k < length xs → has_number (get_or xs k d) ≡ false) → name_by tx (actives xs) ≡ None
  by_none [] all = refl
  by_none (x ∷ xs) all =
      ap (λ (b : Bool). option_map (λ (a : Active). a.name) (cond b (Some (active_by x)) (find (λ (a : Active). a.tx == tx) (actives xs)))) (all 0 x (omega arith))
      ∙ by_none xs (λ k d less. all (suc k) d (omega (arith, less)))

  pub within : (xs : List (Named N)) (i : ℕ) → position has_number xs ≡ Some i → i < length xs
  within [] i at = absurd (cc at)
  within (x ∷ xs) i at = (position-Some has_number (x ∷ xs) i x at).0

  pub found : (xs : List (Named N)) (i : ℕ) (x : Named N) → position has_number xs ≡ Some i → x ≡ slice_index_or xs i x → name_by tx (actives xs) ≡ Some x.name
  found xs i x at is =
      let first = position-Some has_number xs i x at in
      by_first xs i x first.0 first.1 first.2 ∙ ap (λ (y : Named N). Some y.name) (sym is)

  pub unknown : (xs : List (Named N)) → position has_number xs ≡ None → name_by tx (actives xs) ≡ None
  unknown xs none = by_none xs (λ k d less. fails_before_first has_number xs k d (let n : length xs ≤ position_or_len has_number xs = grind (arith, common_steps) in omega (arith, n, less)))
