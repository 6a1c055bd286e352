-- What holds of both items of a pair holds of each.
use Rattle.std.proofs.Common.{◌≡◌, ◌≤◌, ◌<◌, List, [], ◌∷◌, length, slice_index_or, subst, arith}
use Rattle.page_ops.specs.Groups.{Each}

pub each_two : {A : Type 0} (P : A → Type 0) (xs : List A) (a b d e : A) → 2 ≤ length xs → length xs < 3 → a ≡ slice_index_or xs 0 d → b ≡ slice_index_or xs 1 e → P a → P b → Each P xs
each_two P [] a b d e least below first second p q = absurd (omega (arith, least))
each_two P (x ∷ []) a b d e least below first second p q = absurd (omega (arith, least))
each_two P (x ∷ y ∷ []) a b d e least below first second p q = (subst P first p, (subst P second q, tt))
each_two P (x ∷ y ∷ z ∷ xs) a b d e least below first second p q = absurd (omega (arith, below))
