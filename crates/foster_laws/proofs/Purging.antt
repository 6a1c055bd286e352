-- The purge law.
use Rattle.std.proofs.Common.{◌≡◌, ◌+◌, ◌≤◌, Bool, true, false, cond, List, [], ◌∷◌, refl, ap, subst, ◌∙◌, arith}
use Rattle.std.specs.Prelude.{filter, not, ◌||◌}
use Rattle.std.specs.List.{list_any, sum_by}
use Rattle.std.proofs.lemmas.List.Sums.{sum_by-cons}
use Rattle.wal_record.specs.State.{KeepsState, KeepsRows, own_part, leaf_rows, leaf_row_size, leaf_row_fits, rows_size, state_size, page_room}
use Rattle.wal_record.specs.Images.{purged, is_live_row}
use Rattle.wal_record.specs.declared.page.PageState.{PageState}
use Rattle.wal_record.specs.declared.page.LeafRow.{LeafRow}
use Rattle.wal_record.specs.declared.page.Rows.TheVariants.{Leaf}
use Rattle.tree_laws.proofs.RowLaws.{all_kept, rises_kept, live_purged}
use Rattle.foster_laws.specs.Purges.{is_tombstone, Purged, PurgeLaw}

none_left : (rows : List LeafRow) → list_any is_tombstone (filter is_live_row rows) ≡ false
none_left [] = refl
none_left (row ∷ rows) = by row.tombstone refl (none_left rows)
  where
    by : (b : Bool) → row.tombstone ≡ b → list_any is_tombstone (filter is_live_row rows) ≡ false → list_any is_tombstone (cond (not b) (row ∷ filter is_live_row rows) (filter is_live_row rows)) ≡ false
    by true e rest = rest
    by false e rest = ap (λ (b : Bool). b || list_any is_tombstone (filter is_live_row rows)) e ∙ rest

freed : (rows : List LeafRow) → sum_by leaf_row_size (filter is_live_row rows) + sum_by leaf_row_size (filter is_tombstone rows) ≡ sum_by leaf_row_size rows
freed [] = refl
freed (row ∷ rows) = by row.tombstone (freed rows)
  where
    by : (b : Bool) → sum_by leaf_row_size (filter is_live_row rows) + sum_by leaf_row_size (filter is_tombstone rows) ≡ sum_by leaf_row_size rows
        → sum_by leaf_row_size (cond (not b) (row ∷ filter is_live_row rows) (filter is_live_row rows)) + sum_by leaf_row_size (cond b (row ∷ filter is_tombstone rows) (filter is_tombstone rows)) ≡ sum_by leaf_row_size (row ∷ rows)
    by true rest = omega (arith, rest, sum_by-cons leaf_row_size row rows, sum_by-cons leaf_row_size row (filter is_tombstone rows))
    by false rest = omega (arith, rest, sum_by-cons leaf_row_size row rows, sum_by-cons leaf_row_size row (filter is_live_row rows))

some_freed : (rows : List LeafRow) → list_any is_tombstone rows ≡ true → 1 ≤ sum_by leaf_row_size (filter is_tombstone rows)
some_freed [] h = absurd cc
some_freed (row ∷ rows) h = by row.tombstone h (some_freed rows)
  where
    by : (b : Bool) → (b || list_any is_tombstone rows) ≡ true → (list_any is_tombstone rows ≡ true → 1 ≤ sum_by leaf_row_size (filter is_tombstone rows)) → 1 ≤ sum_by leaf_row_size (cond b (row ∷ filter is_tombstone rows) (filter is_tombstone rows))
    by true g rest = omega (arith, sum_by-cons leaf_row_size row (filter is_tombstone rows))
    by false g rest = rest g

module _ (s : PageState) (keeps : KeepsState s) (leaf : s.rows ≡ Leaf (leaf_rows s.rows)) where
  rules : KeepsRows s.level (own_part s) (Leaf (leaf_rows s.rows))
  rules = subst (KeepsRows s.level (own_part s)) leaf keeps.rows

  same_size : rows_size s.rows ≡ sum_by leaf_row_size (leaf_rows s.rows)
  same_size = ap rows_size leaf

  frees : state_size (purged s) + sum_by leaf_row_size (filter is_tombstone (leaf_rows s.rows)) ≡ state_size s
  frees = let e = same_size in let f = freed (leaf_rows s.rows) in omega (arith, e, f)

  purged_state : Purged s
  purged_state = record {
    can = λ h. record { leaf = leaf; some = h };
    keeps = record {
      level = keeps.level;
      fences = keeps.fences;
      texts = keeps.texts;
      foster = keeps.foster;
      rows = (rules.0, rises_kept _ is_live_row (leaf_rows s.rows) rules.1, all_kept (leaf_row_fits (own_part s)) is_live_row (leaf_rows s.rows) rules.2);
      size = let f = frees in let k : state_size s ≤ page_room = keeps.size in omega (arith, f, k);
    };
    leaf = refl;
    none = none_left (leaf_rows s.rows);
    frees = frees;
    less = λ h. let f = frees in let g = some_freed (leaf_rows s.rows) h in omega (arith, f, g);
    own = refl;
    values = λ key. live_purged (leaf_rows s.rows) key rules.1;
  }

pub purge : (s : PageState) → PurgeLaw s
purge s = record { leaf = λ keeps leaf. purged_state s keeps leaf }
