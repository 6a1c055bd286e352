-- Worked examples of page states: live values, split points, sizes, and the rules of a state.
use Rattle.std.proofs.Common.{◌≡◌, ℕ, true, false, List, [], ◌∷◌, Some, None, refl, arith, replicate}
use Rattle.wal_record.specs.State.{live, put_row, row_of, child_at, split_point, state_size, free_bytes, has_own, rises, leaf_below, KeepsState}
use Rattle.wal_record.specs.Images.{first_page}
use Rattle.wal_record.specs.declared.page.PageState.{PageState}
use Rattle.wal_record.specs.declared.page.Rows.TheVariants.{Leaf, Branch}

abbrev a : List ℕ
a = 97 ∷ []

abbrev b : List ℕ
b = 98 ∷ []

abbrev m : List ℕ
m = 109 ∷ []

abbrev one : List ℕ
one = 49 ∷ []

-- ten equal rows are halved; of rows of 1, 1 and 10 bytes the first two have less than half
half_of_ten : split_point (replicate 10 7) ≡ 5
half_of_ten = refl

half_of_three : split_point (1 ∷ 1 ∷ 10 ∷ []) ≡ 3
half_of_three = refl

half_exactly : split_point (5 ∷ 5 ∷ []) ≡ 1
half_exactly = refl

-- an empty leaf without fence keys and foster child has 4,045 bytes for rows
empty_leaf : free_bytes first_page ≡ 4045
empty_leaf = refl

-- an absent key and a tombstone have no live value
live_value_of_a : live (row_of a (Some one) ∷ row_of b None ∷ []) a ≡ Some one
live_value_of_a = refl

tombstone_of_b : live (row_of a (Some one) ∷ row_of b None ∷ []) b ≡ None
tombstone_of_b = refl

absent : live (row_of a (Some one) ∷ row_of b None ∷ []) m ≡ None
absent = refl

-- a row takes the place of the one with its key, or its own place between them
replaced : put_row (row_of a None) (row_of a (Some one) ∷ row_of m (Some one) ∷ []) ≡ row_of a None ∷ row_of m (Some one) ∷ []
replaced = refl

added : put_row (row_of b (Some one)) (row_of a (Some one) ∷ row_of m (Some one) ∷ []) ≡ row_of a (Some one) ∷ row_of b (Some one) ∷ row_of m (Some one) ∷ []
added = refl

-- the separators of a branch: keys below m go to page 2, m and those above it to page 3
below_m : child_at b (record { low = Some []; child = 2 } ∷ record { low = Some m; child = 3 } ∷ []) ≡ Some 2
below_m = refl

at_m : child_at m (record { low = Some []; child = 2 } ∷ record { low = Some m; child = 3 } ∷ []) ≡ Some 3
at_m = refl

-- behind its foster key a page has no key of its own
abbrev fosterer : PageState
fosterer = record { level = 0; low = Some []; high = None; foster = Some (record { key = m; child = 2 }); rows = Leaf (row_of a (Some one) ∷ []) }

own_below : has_own fosterer b ≡ true
own_below = refl

not_own_at : has_own fosterer m ≡ false
not_own_at = refl

-- it keeps the rules, and has 6 bytes of fixed fields, 6 more of the foster pointer, and a row of 6
fosterer_keeps : KeepsState fosterer
fosterer_keeps = record { level = refl; fences = refl; texts = refl; foster = refl; rows = (refl, refl, refl); size = omega arith }

fosterer_size : state_size fosterer ≡ 18
fosterer_size = refl

-- keys that don't rise break them
not_rising : rises leaf_below (row_of m (Some one) ∷ row_of a (Some one) ∷ []) ≡ false
not_rising = refl

twice : rises leaf_below (row_of a (Some one) ∷ row_of a None ∷ []) ≡ false
twice = refl

-- a leaf of another level, and a branch without rows, break them
leaf_of_level_one : KeepsState (record first_page { level = 1 }) → ⊥
leaf_of_level_one h = let e : ◌≡◌ {A = ℕ} 1 0 = h.rows.0 in absurd cc

branch_without_rows : KeepsState (record first_page { level = 1; rows = Branch [] }) → ⊥
branch_without_rows h = absurd h.rows.1
