-- The row in a slot.
use Rattle.std.proofs.Common.{◌≡◌, ℕ, zero, suc, ◌-◌, ◌<◌, ◌≤◌, true, List, [], ◌∷◌, length, Option, Some, ap, subst, arith}
use Rattle.std.specs.Prelude.{slice_get}
use Rattle.std.specs.Option.{option_map}
use Rattle.wal_record.specs.State.{KeepsState, branch_rows, has_own}
use Rattle.wal_record.specs.Tree.{Pointer, row_pointers}
use Rattle.wal_record.specs.declared.page.PageState.{PageState}
use Rattle.wal_record.specs.declared.page.BranchRow.{BranchRow}
use Rattle.wal_record.specs.declared.page.Rows.{Rows}
use Rattle.wal_record.specs.declared.page.Rows.TheVariants.{Branch}
use Rattle.page_rows.specs.Rows.{IsSpot, IsSpotIn, branch_at}
use Rattle.page_rows.specs.declared.spot.Spot.TheVariants.{Here, Gap}
use Rattle.foster_laws.specs.Descents.{CoversAt}
use Rattle.foster_laws.proofs.Searching.{search_law}

pub slot_in : (l : ℕ) (end : Option (List ℕ)) (rows : List BranchRow) (i : ℕ) (x : Pointer) → slice_get (row_pointers l end rows) i ≡ Some x → i < length rows
slot_in l end [] i x e = absurd cc
slot_in l end (row ∷ rows) zero x e = omega arith
slot_in l end (row ∷ rows) (suc i) x e = let r = slot_in l end rows i x e in omega (arith, r)

pub slot_child : (l : ℕ) (end : Option (List ℕ)) (rows : List BranchRow) (i : ℕ) (x : Pointer) → slice_get (row_pointers l end rows) i ≡ Some x → option_map (λ (row : BranchRow). row.child) (slice_get rows i) ≡ Some x.child
slot_child l end [] i x e = absurd cc
slot_child l end (row ∷ rows) zero x e = ap (option_map (λ (p : Pointer). p.child)) e
slot_child l end (row ∷ rows) (suc i) x e = slot_child l end rows i x e

module _ (s : PageState) (key : List ℕ) (keeps : KeepsState s) (branch : s.rows ≡ Branch (branch_rows s.rows)) (own : has_own s key ≡ true) where
  pub at_here : (i : ℕ) → IsSpot key s.rows (Here i) → CoversAt s key i
  at_here i h =
      let spot : IsSpotIn branch_at key (branch_rows s.rows) (Here i) = subst (λ (rows : Rows). IsSpot key rows (Here i)) branch h in
      (search_law s key).here keeps branch own i (omega (arith, spot.0)) spot.1

  pub at_gap : (i : ℕ) → IsSpot key s.rows (Gap i) → (1 ≤ i) × CoversAt s key (i - 1)
  at_gap i h =
      let spot : IsSpotIn branch_at key (branch_rows s.rows) (Gap i) = subst (λ (rows : Rows). IsSpot key rows (Gap i)) branch h in
      (search_law s key).gap keeps branch own i spot.0 spot.1
