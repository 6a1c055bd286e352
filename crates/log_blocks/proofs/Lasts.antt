-- The last of a list of numbers.
use Rattle.std.proofs.Common.{true, false, true≢false, ◌≡◌, ℕ, zero, suc, ◌-◌, ◌<◌, List, [], ◌∷◌, ◌++◌, length, get_or, refl, sym, ◌∙◌, ap, arith}
use Rattle.std.specs.Prelude.{map}
use Rattle.log_blocks.specs.LogState.{last_or}

pub last_of : {X : Type 0} (f : X → ℕ) (xs : List X) (x : X) (n : ℕ) → 0 < length xs → x ≡ get_or xs (length xs - 1) x → last_or n (map f xs) ≡ f x
last_of f [] x n some is = absurd (omega (arith, some))
last_of f (y ∷ []) x n some is = sym (ap f is)
last_of f (y ∷ z ∷ zs) x n some is =
    let same : length (y ∷ z ∷ zs) - 1 ≡ suc (length (z ∷ zs) - 1) = omega arith in
    last_of f (z ∷ zs) x (f y) (omega arith) (is ∙ ap (λ i. get_or (y ∷ z ∷ zs) i x) same)

pub map-append : {X : Type 0} (f : X → ℕ) (xs ys : List X) → map f (xs ++ ys) ≡ map f xs ++ map f ys
map-append f [] ys = refl
map-append f (x ∷ xs) ys = ap (λ (l : List ℕ). f x ∷ l) (map-append f xs ys)

pub last_or-append : (n : ℕ) (xs ys : List ℕ) → last_or n (xs ++ ys) ≡ last_or (last_or n xs) ys
last_or-append n [] ys = refl
last_or-append n (x ∷ xs) ys = last_or-append x xs ys

-- the last of two lists stands in the second, where that has one
pub last_behind : {X : Type 0} (f : X → ℕ) (xs ys : List X) (y : X) (n : ℕ) → 0 < length ys → y ≡ get_or ys (length ys - 1) y → last_or n (map f (xs ++ ys)) ≡ f y
last_behind f xs ys y n some is = ap (last_or n) (map-append f xs ys) ∙ last_or-append n (map f xs) (map f ys) ∙ last_of f ys y (last_or n (map f xs)) some is

pub none_is : (n : ℕ) → (0 < n → false ≡ true) → n ≡ 0
none_is zero some = refl
none_is (suc n) some = absurd (true≢false (sym (some (omega arith))))
