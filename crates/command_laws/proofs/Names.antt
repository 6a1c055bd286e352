-- The place of a name in a list.
use Rattle.std.proofs.Common.{◌≡◌, ℕ, zero, suc, ◌<◌, ◌≤◌, Bool, true, false, cond, List, [], ◌∷◌, length, get_or, map, Option, Some, None, refl, sym, ap, ◌∙◌, arith}
use Rattle.std.specs.Prelude.{is_some, position, remove, slice_get, slice_set}
use Rattle.std.specs.List.{position_or_len}
use Rattle.std.proofs.lemmas.Grind.{common_steps}
use Rattle.std.proofs.lemmas.List.Quantifiers.{position-Some}
use Rattle.std.proofs.lemmas.List.Sums.{fails_before_first}
use Rattle.std.proofs.lemmas.Option.{get_or_from_slice_get}
use Rattle.script.specs.Word.{same_text}
use Rattle.command_laws.specs.Names.{Active, active_of, is_active, without}

module _ {X : Type 0} (by : X → Active) (name : List ℕ) where
  abbrev pub is_named : X → Bool
  is_named x = same_text name (by x).name

  by_first : (xs : List X) (i : ℕ) (d : X) → i < length xs → is_named (get_or xs i d) ≡ true → ((k : ℕ) → k < i → is_named (get_or xs k d) ≡ false) → active_of (map by xs) name ≡ Some (by (get_or xs i d))
  by_first [] i d low is before = absurd (omega (arith, low))
  by_first (x ∷ xs) zero d low is before = ap (λ (b : Bool). cond b (Some (by x)) (active_of (map by xs) name)) is
  by_first (x ∷ xs) (suc i) d low is before =
      ap (λ (b : Bool). cond b (Some (by x)) (active_of (map by xs) name)) (before 0 (omega arith)) ∙ by_first xs i d (omega (arith, low)) is (λ k less. before (suc k) (omega (arith, less)))

  others : (xs : List X) (i : ℕ) (d : X) → i < length xs → is_named (get_or xs i d) ≡ true → ((k : ℕ) → k < i → is_named (get_or xs k d) ≡ false) → without (map by xs) name ≡ map by (remove xs i)
  others [] i d low is before = absurd (omega (arith, low))
  others (x ∷ xs) zero d low is before = ap (λ (b : Bool). cond b (map by xs) (by x ∷ without (map by xs) name)) is
  others (x ∷ xs) (suc i) d low is before =
      ap (λ (b : Bool). cond b (map by xs) (by x ∷ without (map by xs) name)) (before 0 (omega arith)) ∙ ap (λ (ys : List Active). by x ∷ ys) (others xs i d (omega (arith, low)) is (λ k less. before (suc k) (omega (arith, less))))

  by_none : (xs : List X) → ((k : ℕ) (d : X) → k < length xs → is_named (get_or xs k d) ≡ false) → active_of (map by xs) name ≡ None
  by_none [] all = refl
  by_none (x ∷ xs) all = ap (λ (b : Bool). cond b (Some (by x)) (active_of (map by xs) name)) (all 0 x (omega arith)) ∙ by_none xs (λ k d less. all (suc k) d (omega (arith, less)))

  -- the item at the place of a name
  pub found : (xs : List X) (i : ℕ) (x : X) → position is_named xs ≡ Some i → slice_get xs i ≡ Some x → active_of (map by xs) name ≡ Some (by x)
  found xs i x at is =
      let first = position-Some is_named xs i x at in
      by_first xs i x first.0 first.1 first.2 ∙ ap (λ (y : X). Some (by y)) (get_or_from_slice_get xs i x x is)

  pub known : (xs : List X) (i : ℕ) → position is_named xs ≡ Some i → is_active (map by xs) name ≡ true
  known [] i at = absurd (cc at)
  known (x ∷ xs) i at = let first = position-Some is_named (x ∷ xs) i x at in ap (λ (o : Option Active). is_some o) (by_first (x ∷ xs) i x first.0 first.1 first.2)

  -- without it the others are left
  pub removed : (xs : List X) (i : ℕ) (x : X) → position is_named xs ≡ Some i → slice_get xs i ≡ Some x → without (map by xs) name ≡ map by (remove xs i)
  removed xs i x at is = let first = position-Some is_named xs i x at in others xs i x first.0 first.1 first.2

  pub unknown : (xs : List X) → position is_named xs ≡ None → active_of (map by xs) name ≡ None
  unknown xs none = by_none xs (λ k d less. fails_before_first is_named xs k d (let n : length xs ≤ position_or_len is_named xs = grind (arith, common_steps) in omega (arith, n, less)))

-- an item that stands for the same, in its place
pub kept : {X : Type 0} (by : X → Active) (xs : List X) (i : ℕ) (x y : X) → slice_get xs i ≡ Some x → by y ≡ by x → map by (slice_set xs i y) ≡ map by xs
kept by [] i x y is same = refl
kept by (z ∷ xs) zero x y is same = let e : z ≡ x = cc in ap (λ (a : Active). a ∷ map by xs) (same ∙ ap by (sym e))
kept by (z ∷ xs) (suc i) x y is same = ap (λ (ys : List Active). by z ∷ ys) (kept by xs i x y is same)
