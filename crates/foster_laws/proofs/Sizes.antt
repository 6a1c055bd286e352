-- How many bytes the parts of a state have, and that a row fits.
use Rattle.std.proofs.Common.{◌≡◌, ℕ, ◌+◌, ◌≤◌, true, false, leb, List, [], ◌∷◌, length, Option, Some, None, arith, Ordering, Less, Equal, Greater}
use Rattle.std.specs.Prelude.{◌&&◌}
use Rattle.std.specs.List.{sum_by}
use Rattle.std.specs.Ordering.{nat_cmp, match_ordering}
use Rattle.std.specs.Cmp.Lexicographic.{slice_cmp}
use Rattle.std.proofs.lemmas.Bool.{and_parts}
use Rattle.std.proofs.lemmas.List.Sums.{sum_by-cons}
use Rattle.store_model.specs.Range.{is_below}
use Rattle.wal_record.specs.Rules.{is_maybe_value}
use Rattle.wal_record.specs.State.{KeepsState, foster_fits, is_text, is_key, is_child, text_of, leaf_rows, put_row, row_of, leaf_row_size, rows_size, high_size, foster_size, state_size, page_room, fits}
use Rattle.wal_record.specs.Images.{with_value}
use Rattle.wal_record.specs.declared.page.PageState.{PageState}
use Rattle.wal_record.specs.declared.page.LeafRow.{LeafRow}
use Rattle.wal_record.specs.declared.page.Foster.{Foster}
use Rattle.wal_record.specs.declared.page.Rows.{Rows}
use Rattle.wal_record.specs.declared.page.Rows.TheVariants.{Leaf, Branch}
use Rattle.foster_laws.specs.Splits.{HasRoomForRow}
use Rattle.foster_laws.proofs.HalfSizes.{le_true, lt_false, true_le}

-- ---- what is beside the rows

pub high_most : (high : Option (List ℕ)) → is_text (text_of high) ≡ true → high_size high ≤ 66
high_most None h = omega arith
high_most (Some t) h = let p : length t ≤ 64 = le_true (length t) 64 h in omega (arith, p)

pub foster_most : (low high : Option (List ℕ)) (foster : Option Foster) → foster_fits low high foster ≡ true → foster_size foster ≤ 70
foster_most low high None h = omega arith
foster_most low high (Some f) h =
    let p : length f.key ≤ 64 = le_true (length f.key) 64 (and_parts (is_text f.key) (is_child f.child) (and_parts (is_below low (Some f.key) && is_below (Some f.key) high) _ h).1).0 in
    omega (arith, p)

-- low and high fence, and the foster pointer
abbrev pub frame_size : PageState → ℕ
frame_size s = 4 + length (text_of s.low) + high_size s.high + foster_size s.foster

pub frame_bound : (s : PageState) → (is_text (text_of s.low) && is_text (text_of s.high)) ≡ true → foster_fits s.low s.high s.foster ≡ true → frame_size s ≤ 204
frame_bound s texts foster =
    let t = and_parts (is_text (text_of s.low)) (is_text (text_of s.high)) texts in
    let a : length (text_of s.low) ≤ 64 = le_true (length (text_of s.low)) 64 t.0 in
    let b : high_size s.high ≤ 66 = high_most s.high t.1 in
    let c : foster_size s.foster ≤ 70 = foster_most s.low s.high s.foster foster in
    omega (arith, a, b, c)

pub frame_most : (s : PageState) → KeepsState s → frame_size s ≤ 204
frame_most s k = frame_bound s k.texts k.foster

-- ---- rows

pub put_size : (r : LeafRow) (rows : List LeafRow) → sum_by leaf_row_size (put_row r rows) ≤ sum_by leaf_row_size rows + leaf_row_size r
put_size r [] = omega (arith, sum_by-cons leaf_row_size r [])
put_size r (row ∷ rows) = by (slice_cmp nat_cmp r.key row.key) (put_size r rows)
  where
    by : (o : Ordering) → sum_by leaf_row_size (put_row r rows) ≤ sum_by leaf_row_size rows + leaf_row_size r
        → sum_by leaf_row_size (match_ordering o (r ∷ row ∷ rows) (r ∷ rows) (row ∷ put_row r rows)) ≤ sum_by leaf_row_size (row ∷ rows) + leaf_row_size r
    by Less rest = omega (arith, sum_by-cons leaf_row_size r (row ∷ rows), sum_by-cons leaf_row_size row rows)
    by Equal rest = omega (arith, sum_by-cons leaf_row_size r rows, sum_by-cons leaf_row_size row rows)
    by Greater rest = omega (arith, rest, sum_by-cons leaf_row_size row (put_row r rows), sum_by-cons leaf_row_size row rows)

key_most : (key : List ℕ) → is_key key ≡ true → length key ≤ 64
key_most key h = le_true (length key) 64 (and_parts (leb 1 (length key)) (leb (length key) 64) h).1

pub row_most : (key : List ℕ) (value : Option (List ℕ)) → is_key key ≡ true → is_maybe_value value ≡ true → leaf_row_size (row_of key value) ≤ 324
row_most key None k v = let p = key_most key k in omega (arith, p)
row_most key (Some x) k v = let p = key_most key k in let q : length x ≤ 256 = le_true (length x) 256 v in omega (arith, p, q)

leaf_size : (rows : Rows) → sum_by leaf_row_size (leaf_rows rows) ≤ rows_size rows
leaf_size (Leaf rows) = omega arith
leaf_size (Branch rows) = omega arith

-- the state with the value is at most so much longer
pub value_size : (s : PageState) (key : List ℕ) (value : Option (List ℕ)) → is_key key ≡ true → is_maybe_value value ≡ true → state_size (with_value key value s) ≤ state_size s + 324
value_size s key value k v =
    let a = put_size (row_of key value) (leaf_rows s.rows) in
    let b = row_most key value k v in
    let c = leaf_size s.rows in
    omega (arith, a, b, c)

pub room_for_row : (s : PageState) → state_size s ≤ 3727 → HasRoomForRow s
room_for_row s h key value k v =
    let a = value_size s key value k v in
    true_le (state_size (with_value key value s)) page_room (omega (arith, a, h))

-- a state into which a value doesn't fit has many rows
pub many_rows : (s : PageState) → KeepsState s → (key : List ℕ) (value : Option (List ℕ)) → is_key key ≡ true → is_maybe_value value ≡ true → fits (with_value key value s) ≡ false → 648 ≤ rows_size s.rows
many_rows s keeps key value k v over =
    let a = value_size s key value k v in
    let b = lt_false (state_size (with_value key value s)) page_room over in
    let c = frame_most s keeps in
    omega (arith, a, b, c)
