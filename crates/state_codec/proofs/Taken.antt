-- The bytes that rows take, one row on.
use Rattle.std.proofs.Common.{◌≡◌, ℕ, ◌+◌, List, [], ◌∷◌, ◌++◌, refl, arith}
use Rattle.std.specs.List.{sum_by, fold}

fold_more : {A : Type 0} (size : A → ℕ) (a : ℕ) (xs : List A) (x : A) → fold (λ n y. n + size y) a (xs ++ x ∷ []) ≡ fold (λ n y. n + size y) a xs + size x
fold_more size a [] x = refl
fold_more size a (y ∷ xs) x = fold_more size (a + size y) xs x

pub one_more : {A : Type 0} (size : A → ℕ) (xs : List A) (x : A) (taken used : ℕ) → taken ≡ used + sum_by size xs → taken + size x ≡ used + sum_by size (xs ++ x ∷ [])
one_more size xs x taken used e = omega (arith, fold_more size 0 xs x)
