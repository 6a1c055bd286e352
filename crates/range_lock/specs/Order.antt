-- The order in which a conflict is named: by holder, then by low bound, then by high bound. The top is above all texts.
use Rattle.std.specs.Prelude.{ℕ, List, [], Option, Some, None}
use Rattle.std.specs.declared.cmp.Ordering.{Ordering}
use Rattle.std.specs.Ordering.{nat_cmp, on, then_cmp}
use Rattle.std.specs.Cmp.Lexicographic.{slice_cmp}
use Rattle.store_model.specs.Range.{Interval}
use Rattle.range_lock.specs.declared.rival.Rival.{Rival}

abbrev pub is_top : Option (List ℕ) → ℕ
is_top None = 1
is_top (Some text) = 0

abbrev pub text_of : Option (List ℕ) → List ℕ
text_of None = []
text_of (Some text) = text

abbrev pub bound_cmp : Option (List ℕ) → Option (List ℕ) → Ordering
bound_cmp = then_cmp (on is_top nat_cmp) (on text_of (slice_cmp nat_cmp))

abbrev pub range_cmp : Interval → Interval → Ordering
range_cmp = then_cmp (on (λ (r : Interval). r.low) bound_cmp) (on (λ (r : Interval). r.high) bound_cmp)

abbrev pub rival_cmp : Rival → Rival → Ordering
rival_cmp = then_cmp (on (λ (r : Rival). r.holder) nat_cmp) (on (λ (r : Rival). r.range) range_cmp)
