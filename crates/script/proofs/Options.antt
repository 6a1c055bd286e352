-- Options that are there.
use Rattle.std.proofs.Common.{◌≡◌, ℕ, List, Some, None, ap}
use Rattle.std.specs.Prelude.{Option, IsSome, IfSome}
use Rattle.store_model.specs.Range.{Interval}

-- what is there, and is this text where it is there
pub is_some : (r : Option (List ℕ)) (t : List ℕ) → IsSome r → IfSome r (λ k. k ≡ t) → r ≡ Some t
is_some None t h e = absurd cc
is_some (Some k) t h e = ap Some e

pub is_bound : (r : Option (Option (List ℕ))) (b : Option (List ℕ)) → IsSome r → IfSome r (λ k. k ≡ b) → r ≡ Some b
is_bound None b h e = absurd cc
is_bound (Some k) b h e = ap Some e

pub is_range : (r : Option Interval) (i : Interval) → IsSome r → IfSome r (λ k. k ≡ i) → r ≡ Some i
is_range None i h e = absurd cc
is_range (Some k) i h e = ap Some e
