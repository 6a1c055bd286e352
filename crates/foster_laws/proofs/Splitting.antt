-- The split law.
use Rattle.std.proofs.Common.{◌≡◌, ℕ, ◌<◌, ◌≤◌, true, false, List, Option, Some, refl, sym, subst, arith}
use Rattle.std.specs.List.{list_any}
use Rattle.wal_record.specs.Rules.{is_maybe_value}
use Rattle.wal_record.specs.State.{KeepsState, KeepsRows, own_end, own_part, leaf_rows, branch_rows, rows_size, state_size, page_room, free_bytes, is_child, is_key}
use Rattle.wal_record.specs.Images.{lower_half, lower_rows, upper_rows}
use Rattle.wal_record.specs.Legal.{Overflows, IsCrowded}
use Rattle.wal_record.specs.declared.page.PageState.{PageState}
use Rattle.wal_record.specs.declared.page.LeafRow.{LeafRow}
use Rattle.wal_record.specs.declared.page.BranchRow.{BranchRow}
use Rattle.wal_record.specs.declared.page.Rows.{Rows}
use Rattle.wal_record.specs.declared.page.Rows.TheVariants.{Leaf, Branch}
use Rattle.wal_record.specs.declared.record.Split.{Split}
use Rattle.tree_laws.proofs.BranchLaws.{no_leaf, leaf_lower, leaf_upper}
use Rattle.foster_laws.specs.Splits.{upper_half, LeafHalves, BranchHalves, SplitLaw}
use Rattle.foster_laws.proofs.Parts.{Parts, leaf_parts, branch_parts}
use Rattle.foster_laws.proofs.Sizes.{frame_most, room_for_row, many_rows}
use Rattle.foster_laws.proofs.Halves.{part_split, low_size, up_size, part_halves, is_part, values_lower, values_upper}

-- ---- rows of either kind

parts_of_leaf : (level : ℕ) (s : PageState) (rows : Rows) → rows ≡ Leaf (leaf_rows rows) → KeepsRows level (own_part s) rows → 648 ≤ rows_size rows → Parts 324 level (own_end s) rows
parts_of_leaf level s (Leaf rows) e k long = leaf_parts level (own_part s) rows k long
parts_of_leaf level s (Branch rows) e k long = no_leaf _ _ e

pub no_branch : {A : Type 0} → (xs : List LeafRow) (ys : List BranchRow) → Leaf xs ≡ Branch ys → A
no_branch xs ys e = no_leaf ys xs (sym e)

parts_of_branch : (level : ℕ) (s : PageState) (rows : Rows) → rows ≡ Branch (branch_rows rows) → KeepsRows level (own_part s) rows → 138 ≤ rows_size rows → Parts 69 level (own_end s) rows
parts_of_branch level s (Leaf rows) e k long = no_branch _ _ e
parts_of_branch level s (Branch rows) e k long = branch_parts level (own_part s) rows k long

crowded_leaf : (s : PageState) (rows : Rows) → rows ≡ Leaf (leaf_rows rows) → list_any (λ (row : LeafRow). row.tombstone) (leaf_rows rows) ≡ false → IsCrowded rows s
crowded_leaf s (Leaf rows) e h = h
crowded_leaf s (Branch rows) e h = no_leaf _ _ e

crowded_branch : (s : PageState) (rows : Rows) → rows ≡ Branch (branch_rows rows) → free_bytes s < 69 → IsCrowded rows s
crowded_branch s (Leaf rows) e h = no_branch _ _ e
crowded_branch s (Branch rows) e h = h

branch_lower : (at : Option (List ℕ)) (rows : Rows) → rows ≡ Branch (branch_rows rows) → lower_rows at rows ≡ Branch (branch_rows (lower_rows at rows))
branch_lower at (Leaf rows) e = no_branch _ _ e
branch_lower at (Branch rows) e = refl

branch_upper : (at : Option (List ℕ)) (rows : Rows) → rows ≡ Branch (branch_rows rows) → upper_rows at rows ≡ Branch (branch_rows (upper_rows at rows))
branch_upper at (Leaf rows) e = no_branch _ _ e
branch_upper at (Branch rows) e = refl

-- ---- the law

module _ (s : PageState) (keeps : KeepsState s) (page prev child : ℕ) (number : is_child child ≡ true) where
  leaf_halves : (parts : Parts 324 s.level (own_end s) s.rows) → IsCrowded s.rows s → s.rows ≡ Leaf (leaf_rows s.rows) → LeafHalves (part_split 324 s keeps parts page prev child number (omega arith)) s
  leaf_halves parts crowded leaf =
      let low = low_size 324 s keeps parts page prev child number (omega arith) in
      let up = up_size 324 s keeps parts page prev child number (omega arith) in
      record {
        halves = part_halves 324 s keeps parts page prev child number (omega arith) crowded;
        lower_leaf = leaf_lower (Some parts.key) s.rows leaf;
        upper_leaf = leaf_upper (Some parts.key) s.rows leaf;
        lower_room = room_for_row (lower_half (part_split 324 s keeps parts page prev child number (omega arith)) s) (omega (arith, low));
        upper_room = room_for_row (part_split 324 s keeps parts page prev child number (omega arith)).child_state (omega (arith, up));
        lower_values = values_lower (Some parts.key) s.rows;
        upper_values = values_upper (Some parts.key) s.rows;
      }

  branch_halves : (parts : Parts 69 s.level (own_end s) s.rows) → IsCrowded s.rows s → s.rows ≡ Branch (branch_rows s.rows) → BranchHalves (part_split 69 s keeps parts page prev child number (omega arith)) s
  branch_halves parts crowded branch =
      let low = low_size 69 s keeps parts page prev child number (omega arith) in
      let up = up_size 69 s keeps parts page prev child number (omega arith) in
      record {
        halves = part_halves 69 s keeps parts page prev child number (omega arith) crowded;
        lower_branch = branch_lower (Some parts.key) s.rows branch;
        upper_branch = branch_upper (Some parts.key) s.rows branch;
        lower_room = omega (arith, low);
        upper_room = omega (arith, up);
      }

module _ (s : PageState) (keeps : KeepsState s) (x : Split) (is : x.child_state ≡ upper_half s) (number : is_child x.child ≡ true) where
  of_leaf : s.rows ≡ Leaf (leaf_rows s.rows) → list_any (λ (row : LeafRow). row.tombstone) (leaf_rows s.rows) ≡ false
      → (key : List ℕ) (value : Option (List ℕ)) → is_key key ≡ true → is_maybe_value value ≡ true → Overflows s key value → LeafHalves x s
  of_leaf leaf none key value k v over =
      let parts = parts_of_leaf s.level s s.rows leaf keeps.rows (many_rows s keeps key value k v over.full) in
      subst (λ (y : Split). LeafHalves y s) (sym (is_part 324 s keeps parts x.page x.page_prev x.child number (omega arith) x refl refl refl is))
      (leaf_halves s keeps x.page x.page_prev x.child number parts (crowded_leaf s s.rows leaf none) leaf)

  long_branch : free_bytes s < 69 → 138 ≤ rows_size s.rows
  long_branch full = let f = frame_most s keeps in let k : state_size s ≤ page_room = keeps.size in omega (arith, full, f, k)

  of_branch : s.rows ≡ Branch (branch_rows s.rows) → free_bytes s < 69 → BranchHalves x s
  of_branch branch full =
      let parts = parts_of_branch s.level s s.rows branch keeps.rows (long_branch full) in
      subst (λ (y : Split). BranchHalves y s) (sym (is_part 69 s keeps parts x.page x.page_prev x.child number (omega arith) x refl refl refl is))
      (branch_halves s keeps x.page x.page_prev x.child number parts (crowded_branch s s.rows branch full) branch)

pub split : (s : PageState) (x : Split) → SplitLaw s x
split s x = record {
  leaf = λ keeps leaf none key value k v over is number. of_leaf s keeps x is number leaf none key value k v over;
  branch = λ keeps branch full is number. of_branch s keeps x is number branch full;
}
