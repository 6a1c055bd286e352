-- Pages to which the laws apply.
use Rattle.std.proofs.Common.{◌≡◌, ℕ, zero, suc, ◌+◌, false, List, [], ◌∷◌, Some, None, refl, arith}
use Rattle.std.specs.Prelude.{replicate}
use Rattle.wal_record.specs.State.{KeepsState, split_point, row_sizes, state_size}
use Rattle.wal_record.specs.Legal.{Overflows}
use Rattle.wal_record.specs.declared.page.PageState.{PageState}
use Rattle.wal_record.specs.declared.page.LeafRow.{LeafRow}
use Rattle.wal_record.specs.declared.page.BranchRow.{BranchRow}
use Rattle.wal_record.specs.declared.page.Rows.TheVariants.{Leaf, Branch}
use Rattle.wal_record.specs.declared.record.Adopt.{Adopt}
use Rattle.wal_record.specs.declared.record.Grow.{Grow}
use Rattle.wal_record.specs.declared.record.Split.{Split}
use Rattle.foster_laws.specs.Adopts.{Adopted}
use Rattle.foster_laws.specs.Grows.{Grown}
use Rattle.foster_laws.specs.Splits.{upper_half, LeafHalves, BranchHalves}
use Rattle.foster_laws.proofs.Adopting.{adopt}
use Rattle.foster_laws.proofs.Growing.{grow}
use Rattle.foster_laws.proofs.Splitting.{split}

abbrev long_value : List ℕ
long_value = replicate 256 7

abbrev rows_from : ℕ → ℕ → List LeafRow
rows_from zero i = []
rows_from (suc n) i = record { key = i ∷ []; tombstone = false; value = long_value } ∷ rows_from n (suc i)

-- a leaf with 15 long rows, into which a 16th doesn't fit
abbrev full_leaf : PageState
full_leaf = record { level = 0; low = Some []; high = None; foster = None; rows = Leaf (rows_from 15 1) }

full_size : state_size full_leaf ≡ 3921
full_size = refl

full_keeps : KeepsState full_leaf
full_keeps = record { level = refl; fences = refl; texts = refl; foster = refl; rows = (refl, refl, refl); size = omega (arith, full_size) }

overflows : Overflows full_leaf (16 ∷ []) (Some long_value)
overflows = record { own = refl; full = refl }

cut_at_eight : split_point (row_sizes full_leaf.rows) ≡ 8
cut_at_eight = refl

abbrev leaf_split : Split
leaf_split = record { page = 1; page_prev = 0; child = 2; child_state = upper_half full_leaf }

leaf_split_halves : LeafHalves leaf_split full_leaf
leaf_split_halves = (split full_leaf leaf_split).leaf full_keeps refl refl (16 ∷ []) (Some long_value) refl refl overflows refl refl

-- a branch with 57 long separators
abbrev separators : ℕ → ℕ → List BranchRow
separators zero i = []
separators (suc n) i = record { low = Some (i ∷ replicate 63 0); child = 2 + i } ∷ separators n (suc i)

abbrev full_branch : PageState
full_branch = record { level = 1; low = Some []; high = None; foster = None; rows = Branch (record { low = Some []; child = 2 } ∷ separators 58 1) }

branch_size : state_size full_branch ≡ 4013
branch_size = refl

branch_keeps : KeepsState full_branch
branch_keeps = record { level = refl; fences = refl; texts = refl; foster = refl; rows = (omega arith, refl, refl, refl); size = omega (arith, branch_size) }

abbrev branch_split : Split
branch_split = record { page = 1; page_prev = 0; child = 99; child_state = upper_half full_branch }

branch_split_halves : BranchHalves branch_split full_branch
branch_split_halves = (split full_branch branch_split).branch branch_keeps refl (let e = branch_size in omega (arith, e)) refl refl

-- a root with a foster child grows
abbrev tall : PageState
tall = record { level = 0; low = Some []; high = None; foster = Some (record { key = 9 ∷ []; child = 2 }); rows = Leaf (rows_from 8 1) }

tall_size : state_size tall ≡ 2100
tall_size = refl

tall_keeps : KeepsState tall
tall_keeps = record { level = refl; fences = refl; texts = refl; foster = refl; rows = (refl, refl, refl); size = omega (arith, tall_size) }

abbrev growth : Grow
growth = record { page_prev = 0; child = 3; child_state = tall }

grows : Grown growth tall
grows = (grow tall growth).root tall_keeps refl refl refl (omega arith) refl refl

-- and adopts that child
abbrev root : PageState
root = record { level = 1; low = Some []; high = None; foster = None; rows = Branch (record { low = Some []; child = 3 } ∷ []) }

abbrev adoption : Adopt
adoption = record { parent = 1; parent_prev = 0; fosterer = 3; fosterer_prev = 0; child = 2; key = 9 ∷ [] }

adopts : Adopted adoption root tall 0
adopts = (adopt adoption root tall 0).parent grows.keeps refl tall_keeps refl refl
