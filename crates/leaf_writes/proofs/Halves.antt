-- The halves of a leaf that a new value doesn't fit into: they keep the rules, and the value fits into the one of its key.
use Rattle.std.proofs.Common.{◌≡◌, ℕ, ◌<◌, ◌≤◌, List, length, Option, Some, Bool, true, false, cond, leb, sym, ap, ◌∙◌, refl, arith}
use Rattle.std.proofs.lemmas.Bool.Decides.{nat_tests}
use Rattle.store_model.specs.Range.{is_below}
use Rattle.wal_record.specs.State.{KeepsState, is_child, is_key, own_end, own_part, page_room, row_sizes, split_point, state_size, text_of}
use Rattle.wal_record.specs.Images.{IsLeafOf, with_value}
use Rattle.wal_record.specs.Legal.{Overflows, split_key}
use Rattle.wal_record.specs.Rules.{is_maybe_value}
use Rattle.wal_record.specs.declared.page.PageState.{PageState}
use Rattle.tree_laws.proofs.Keys.{in_parts, in_from}
use Rattle.tree_laws.proofs.BranchLaws.{low_some}
use Rattle.foster_laws.specs.Purges.{has_tombstone}
use Rattle.foster_laws.specs.Splits.{LeafHalves, upper_half}
use Rattle.foster_laws.proofs.HalfSizes.{le_true}
use Rattle.foster_laws.proofs.Splitting as laws
use Rattle.page_halves.specs.Parts.{lower_with, split_of}
use Rattle.page_rows.proofs.Keeping.{value_keeps}
use Rattle.leaf_writes.specs.Changes.{goes_low}
use Rattle.leaf_writes.specs.Halves.{lower_written, upper_written}

not_fits : (n : ℕ) → 4051 < n → leb n 4051 ≡ false
not_fits n h = grind (arith, nat_tests)

module _ (s : PageState) (keeps : KeepsState s) (key : List ℕ) (at : IsLeafOf key s) (whole : has_tombstone s ≡ false) (new : Option (List ℕ)) (key_ok : is_key key ≡ true) (new_ok : is_maybe_value new ≡ true) (full : page_room < state_size (with_value key new s)) where
  pub overflows : Overflows s key new
  overflows = record { own = at.own; full = not_fits (state_size (with_value key new s)) full }

  pub halves : (page prev child : ℕ) → is_child child ≡ true → LeafHalves (split_of page prev child s) s
  halves page prev child number = (laws.split s (split_of page prev child s)).leaf keeps at.leaf whole key new key_ok new_ok overflows refl number

  pub stays : 1 ≤ split_point (row_sizes s.rows)
  stays = (halves 0 0 2 refl).halves.some

  pub goes : split_point (row_sizes s.rows) < length (row_sizes s.rows)
  goes = (halves 0 0 2 refl).halves.less

  inside : (is_below (Some key) s.low ≡ false) × (is_below (Some key) (own_end s) ≡ true)
  inside = in_parts (own_part s) key at.own

  low_is : split_key s.rows ≡ Some (text_of (split_key s.rows))
  low_is = low_some (split_key s.rows) s.high (halves 0 0 2 refl).halves.upper.fences

  pub at_lower : (child : ℕ) → goes_low key s ≡ true → IsLeafOf key (lower_with child s)
  at_lower child e = record { leaf = (halves 0 0 2 refl).lower_leaf; own = in_from (own_part (lower_with child s)) key inside.0 (ap (is_below (Some key)) (sym low_is) ∙ e) }

  pub at_upper : goes_low key s ≡ false → IsLeafOf key (upper_half s)
  at_upper e = record { leaf = (halves 0 0 2 refl).upper_leaf; own = in_from (own_part (upper_half s)) key e inside.1 }

  pub upper_keeps_rules : KeepsState (upper_half s)
  upper_keeps_rules = (halves 0 0 2 refl).halves.upper

  pub lower_keeps_rules : (child : ℕ) → is_child child ≡ true → KeepsState (lower_with child s)
  lower_keeps_rules child number = (halves 0 0 child number).halves.lower

  pub lower_keeps : (child : ℕ) → is_child child ≡ true → KeepsState (lower_written child key new s)
  lower_keeps child number = by (goes_low key s) refl
    where
      by : (b : Bool) → goes_low key s ≡ b → KeepsState (cond b (with_value key new (lower_with child s)) (lower_with child s))
      by true e = value_keeps key new key_ok new_ok (lower_with child s) (at_lower child e) (lower_keeps_rules child number) (le_true (state_size (with_value key new (lower_with child s))) page_room ((halves 0 0 child number).lower_room key new key_ok new_ok))
      by false e = lower_keeps_rules child number

  pub upper_keeps : KeepsState (upper_written key new s)
  upper_keeps = by (goes_low key s) refl
    where
      by : (b : Bool) → goes_low key s ≡ b → KeepsState (cond b (upper_half s) (with_value key new (upper_half s)))
      by true e = upper_keeps_rules
      by false e = value_keeps key new key_ok new_ok (upper_half s) (at_upper e) upper_keeps_rules (le_true (state_size (with_value key new (upper_half s))) page_room ((halves 0 0 2 refl).upper_room key new key_ok new_ok))
