-- The rows of a parent with one for a child that it takes.
use Rattle.std.proofs.Common.{◌≡◌, ◌≤◌, List, length, ap, subst, ◌∙◌, arith, refl}
use Rattle.std.specs.Prelude.{Some, insert}
use Rattle.store_model.proofs.Bools.{not_both}
use Rattle.wal_record.specs.State.{branch_rows}
use Rattle.wal_record.specs.Images.{CanTakeChild}
use Rattle.wal_record.specs.declared.page.PageState.{PageState}
use Rattle.wal_record.specs.declared.page.BranchRow.{BranchRow}
use Rattle.wal_record.specs.declared.page.Foster.{Foster}
use Rattle.wal_record.specs.declared.page.Rows.{Rows}
use Rattle.wal_record.specs.declared.page.Rows.TheVariants.{Branch}
use Rattle.page_rows.specs.Rows.{IsSpot}
use Rattle.page_rows.specs.declared.spot.Spot.{Spot}
use Rattle.page_rows.specs.declared.spot.Spot.TheVariants.{Here, Gap}
use Rattle.page_rows.proofs.Changes.{child_is}
use Rattle.page_rows.proofs.Puts.{taken_at_row}
use Rattle.adoption.specs.Adoptions.{adopt_of, with_row_for}

module _ (f : Foster) (s : PageState) (takes : CanTakeChild (adopt_of 0 0 0 0 f) s) where
  among : (spot : Spot) → IsSpot f.key s.rows spot → IsSpot f.key (Branch (branch_rows s.rows)) spot
  among spot found = subst (λ (rows : Rows). IsSpot f.key rows spot) takes.branch found

  -- the key is no separator of the parent yet
  pub no_row : (i : _) → IsSpot f.key s.rows (Here i) → ⊥
  no_row i found = let here = among (Here i) found in not_both _ (taken_at_row f.key (branch_rows s.rows) i here.1 (let n = here.0 in omega (arith, n))) takes.fresh

  pub place_within : (i : _) → IsSpot f.key s.rows (Gap i) → i ≤ length (branch_rows s.rows)
  place_within i found = (among (Gap i) found).0

  pub row_placed : (i : _) (rows : List BranchRow) → IsSpot f.key s.rows (Gap i) → rows ≡ insert (branch_rows s.rows) i (record { low = Some f.key; child = f.child }) → ◌≡◌ {A = PageState} (record s { rows = Branch rows }) (with_row_for f s)
  row_placed i rows found is =
      let here = among (Gap i) found in
      ap (λ (rs : List BranchRow). record s { rows = Branch rs }) is ∙ child_is (adopt_of 0 0 0 0 f) s (record { low = Some f.key; child = f.child }) i refl here.1 here.0
