-- Whether a row fits at the spot of its key.
use Rattle.std.proofs.Common.{◌≡◌, ℕ, ◌+◌, ◌-◌, ◌≤◌, leb, List, length, get_or, Option, ap, subst, ◌∙◌, arith}
use Rattle.std.specs.Prelude.{slice_get, slice_set}
use Rattle.std.specs.Option.{option_map_or}
use Rattle.std.specs.List.{sum_by}
use Rattle.std.proofs.lemmas.Bool.Decides.{nat_tests}
use Rattle.std.proofs.lemmas.List.Sums.{sum_by-set, sum_by-insert, get_or-le-sum_by}
use Rattle.std.proofs.lemmas.Option.{get_or_from_slice_get}
use Rattle.wal_record.specs.State.{KeepsState, leaf_rows, leaf_row_size, row_of, rows_size, state_size, page_room, free_bytes, fits}
use Rattle.wal_record.specs.Images.{IsLeafOf, with_value}
use Rattle.wal_record.specs.declared.page.PageState.{PageState}
use Rattle.wal_record.specs.declared.page.LeafRow.{LeafRow}
use Rattle.wal_record.specs.declared.page.Rows.{Rows}
use Rattle.page_rows.specs.Rows.{IsSpot, IsSpotIn, IsWithin, leaf_at}
use Rattle.page_rows.specs.Redo.{placed, with_row}
use Rattle.page_rows.specs.declared.spot.Spot.{Spot}
use Rattle.page_rows.specs.declared.spot.Spot.TheVariants.{Here, Gap}
use Rattle.page_rows.proofs.Changes.{placed_is}
use Rattle.foster_laws.proofs.CutRows.{at_place}
use Rattle.page_halves.specs.Parts.{bytes_at}

pub spot_within : (key : List ℕ) (rows : List LeafRow) (spot : Spot) → IsSpotIn leaf_at key rows spot → IsWithin spot (length rows)
spot_within key rows (Here i) h = omega (arith, h.0)
spot_within key rows (Gap i) h = h.0

placed_size : (row : LeafRow) (spot : Spot) (rows : List LeafRow) → IsWithin spot (length rows) → sum_by leaf_row_size (placed row spot rows) + bytes_at rows spot ≡ sum_by leaf_row_size rows + leaf_row_size row
placed_size row (Here i) rows h =
    let x = at_place rows i h in
    let a : sum_by leaf_row_size (slice_set rows i row) + leaf_row_size (get_or rows i x.0) ≡ sum_by leaf_row_size rows + leaf_row_size row = sum_by-set leaf_row_size rows i row x.0 h in
    let b : leaf_row_size (get_or rows i x.0) ≡ leaf_row_size x.0 = ap leaf_row_size (get_or_from_slice_get rows i x.0 x.0 x.1) in
    let c : option_map_or leaf_row_size (slice_get rows i) 0 ≡ leaf_row_size x.0 = ap (λ (o : Option LeafRow). option_map_or leaf_row_size o 0) x.1 in
    omega (arith, a, b, c)
placed_size row (Gap i) rows h = omega (arith, sum_by-insert leaf_row_size rows i row)

bytes_most : (spot : Spot) (rows : List LeafRow) → IsWithin spot (length rows) → bytes_at rows spot ≤ sum_by leaf_row_size rows
bytes_most (Here i) rows h =
    let x = at_place rows i h in
    let a : leaf_row_size (get_or rows i x.0) ≤ sum_by leaf_row_size rows = get_or-le-sum_by leaf_row_size rows i x.0 h in
    let b : leaf_row_size (get_or rows i x.0) ≡ leaf_row_size x.0 = ap leaf_row_size (get_or_from_slice_get rows i x.0 x.0 x.1) in
    let c : option_map_or leaf_row_size (slice_get rows i) 0 ≡ leaf_row_size x.0 = ap (λ (o : Option LeafRow). option_map_or leaf_row_size o 0) x.1 in
    omega (arith, a, b, c)
bytes_most (Gap i) rows h = omega arith

same_fit : (n t b w : ℕ) → n ≤ 4051 → t + b ≡ n + w → b ≤ n → leb w (4051 - n + b) ≡ leb t 4051
same_fit n t b w h e l = grind (arith, nat_tests)

module _ (key : List ℕ) (value : Option (List ℕ)) (s : PageState) (keeps : KeepsState s) (at : IsLeafOf key s) where
  pub fits_is : (spot : Spot) → IsSpot key s.rows spot → leb (leaf_row_size (row_of key value)) (free_bytes s + bytes_at (leaf_rows s.rows) spot) ≡ fits (with_value key value s)
  fits_is spot h =
      let here : IsSpotIn leaf_at key (leaf_rows s.rows) spot = subst (λ (rows : Rows). IsSpot key rows spot) at.leaf h in
      let within = spot_within key (leaf_rows s.rows) spot here in
      let a = placed_size (row_of key value) spot (leaf_rows s.rows) within in
      let m = bytes_most spot (leaf_rows s.rows) within in
      let e : rows_size s.rows ≡ sum_by leaf_row_size (leaf_rows s.rows) = ap rows_size at.leaf in
      let k : state_size s ≤ page_room = keeps.size in
      let sum : state_size (with_row (row_of key value) spot s) + bytes_at (leaf_rows s.rows) spot ≡ state_size s + leaf_row_size (row_of key value) = omega (arith, a, e) in
      same_fit (state_size s) (state_size (with_row (row_of key value) spot s)) (bytes_at (leaf_rows s.rows) spot) (leaf_row_size (row_of key value)) k sum (omega (arith, m, e))
      ∙ ap fits (placed_is key s at keeps value spot h)
