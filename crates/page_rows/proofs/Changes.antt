-- Changes of the rows of a state, each as the definition of its record says.
use Rattle.std.proofs.Common.{◌≡◌, ℕ, ◌<◌, ◌≤◌, zero, suc, Bool, true, false, cond, List, [], ◌∷◌, length, Option, Some, None, Result, Ok, Err, IfOk, refl, sym, ap, subst, ◌∙◌, arith}
use Rattle.std.specs.Prelude.{IsTrue, ◌||◌, filter, option_and_then, not}
use Rattle.std.specs.List.{sum_by, list_any}
use Rattle.std.proofs.lemmas.List.Sums.{sum_by-cons}
use Rattle.std.proofs.lemmas.Option.{slice_get-get_or}
use Rattle.store_model.specs.declared.fault.Memory.{Memory}
use Rattle.store_model.proofs.Bools.{not_both}
use Rattle.wal_record.specs.State.{leaf_rows, branch_rows, live, live_value, row_of, rises, leaf_below, leaf_row_size, has_own, own_part, KeepsRows, KeepsState, state_size, page_room}
use Rattle.wal_record.specs.Images.{is_live_row, with_value, with_child, purged, IsLeafOf, CanTakeChild, CanPurge}
use Rattle.wal_record.specs.declared.page.PageState.{PageState}
use Rattle.wal_record.specs.declared.page.LeafRow.{LeafRow}
use Rattle.wal_record.specs.declared.page.BranchRow.{BranchRow}
use Rattle.wal_record.specs.declared.page.Rows.{Rows}
use Rattle.wal_record.specs.declared.page.Rows.TheVariants.{Leaf, Branch}
use Rattle.wal_record.specs.declared.record.Adopt.{Adopt}
use Rattle.page_rows.specs.Rows.{IsSpot, IsSpotIn, leaf_at, branch_at, BranchGap}
use Rattle.page_rows.specs.Redo.{Changed, Always, with_row, with_branch_row, live_in, is_tombstone}
use Rattle.page_rows.specs.declared.spot.Spot.{Spot}
use Rattle.page_rows.specs.declared.spot.Spot.TheVariants.{Here, Gap}
use Rattle.page_rows.proofs.Puts.{live_in_gap, put_in_gap, live_at_row, put_at_row, fresh_in_gap, taken_at_row, covered_in_gap, put_branch_in_gap, not_zero}

-- ---- changes

module _ (May : PageState → Type 0) (one two : PageState → PageState) (s t : PageState) where
  -- a change that may be made, and is the same by another name
  changed_as : May s → one s ≡ two s → (b : Bool) → Changed Always one s t b → Changed May two s t b
  changed_as may e true h = (may, subst (λ (x : PageState). state_size x ≤ page_room) e h.1, h.2 ∙ e)
  changed_as may e false h = (λ _. subst (λ (x : PageState). page_room < state_size x) e (h.0 tt), h.1)

  pub changed_ok : May s → one s ≡ two s → (r : Result Bool Memory) → IfOk r (Changed Always one s t) → IfOk r (Changed May two s t)
  changed_ok may e (Ok b) h = changed_as may e b h
  changed_ok may e (Err x) h = tt

pub changed_never : (May : PageState → Type 0) (change : PageState → PageState) (s : PageState) → (May s → ⊥) → Changed May change s s false
changed_never May change s never = (λ may. absurd (never may), refl)

-- ---- leaves

row_key : (key : List ℕ) (v : Option (List ℕ)) → (row_of key v).key ≡ key
row_key key None = refl
row_key key (Some x) = refl

module _ (key : List ℕ) (s : PageState) (at : IsLeafOf key s) (keeps : KeepsState s) where
  rise : rises leaf_below (leaf_rows s.rows) ≡ true
  rise = (subst (KeepsRows s.level (own_part s)) at.leaf keeps.rows).1

  -- a row of the key at its spot is the key's value
  pub placed_is : (v : Option (List ℕ)) (spot : Spot) → IsSpot key s.rows spot → with_row (row_of key v) spot s ≡ with_value key v s
  placed_is v (Here i) h =
      let spot : IsSpotIn leaf_at key (leaf_rows s.rows) (Here i) = subst (λ (rows : Rows). IsSpot key rows (Here i)) at.leaf h in
      ap (λ (rows : List LeafRow). record s { rows = Leaf rows }) (sym (put_at_row key (row_of key v) (leaf_rows s.rows) i (row_key key v) rise spot.1 (omega (arith, spot.0))))
  placed_is v (Gap i) h =
      let spot : IsSpotIn leaf_at key (leaf_rows s.rows) (Gap i) = subst (λ (rows : Rows). IsSpot key rows (Gap i)) at.leaf h in
      ap (λ (rows : List LeafRow). record s { rows = Leaf rows }) (sym (put_in_gap key (row_of key v) (leaf_rows s.rows) i (row_key key v) spot.1 spot.0))

  -- the live value at the spot is that of the key
  pub live_is : (spot : Spot) → IsSpot key s.rows spot → live_in s.rows spot ≡ live (leaf_rows s.rows) key
  live_is (Here i) h =
      let spot : IsSpotIn leaf_at key (leaf_rows s.rows) (Here i) = subst (λ (rows : Rows). IsSpot key rows (Here i)) at.leaf h in
      let some : LeafRow = record { key = []; tombstone = false; value = [] } in
      ap (λ (rows : Rows). live_in rows (Here i)) at.leaf
      ∙ ap (λ (row : Option LeafRow). option_and_then live_value row) (slice_get-get_or (leaf_rows s.rows) i some (omega (arith, spot.0)))
      ∙ sym (live_at_row key (leaf_rows s.rows) i some rise spot.1 (omega (arith, spot.0)))
  live_is (Gap i) h =
      let spot : IsSpotIn leaf_at key (leaf_rows s.rows) (Gap i) = subst (λ (rows : Rows). IsSpot key rows (Gap i)) at.leaf h in
      ap (λ (rows : Rows). live_in rows (Gap i)) at.leaf ∙ sym (live_in_gap key (leaf_rows s.rows) i spot.1 spot.0)

-- ---- a purge

pub none_buried : (rows : List LeafRow) → list_any is_tombstone rows ≡ false → rows ≡ filter is_live_row rows
none_buried [] h = refl
none_buried (row ∷ rows) h = by (none_buried rows) row.tombstone refl
  where
    rest : (t : Bool) → row.tombstone ≡ t → t ≡ false → list_any is_tombstone rows ≡ false
    rest t e f = sym (ap (λ (b : Bool). b || list_any is_tombstone rows) (e ∙ f)) ∙ h

    by : (list_any is_tombstone rows ≡ false → rows ≡ filter is_live_row rows) → (t : Bool) → row.tombstone ≡ t → row ∷ rows ≡ filter is_live_row (row ∷ rows)
    by more true e = absurd (not_both true refl (sym (ap (λ (b : Bool). b || list_any is_tombstone rows) e) ∙ h))
    by more false e = ap (λ (rs : List LeafRow). row ∷ rs) (more (rest false e refl)) ∙ sym (ap (λ (b : Bool). cond (not b) (row ∷ filter is_live_row rows) (filter is_live_row rows)) e)

fewer : (rows : List LeafRow) → sum_by leaf_row_size (filter is_live_row rows) ≤ sum_by leaf_row_size rows
fewer [] = omega arith
fewer (row ∷ rows) = by row.tombstone refl (fewer rows)
  where
    by : (t : Bool) → row.tombstone ≡ t → sum_by leaf_row_size (filter is_live_row rows) ≤ sum_by leaf_row_size rows → sum_by leaf_row_size (filter is_live_row (row ∷ rows)) ≤ sum_by leaf_row_size (row ∷ rows)
    by true e le = rw e (omega (arith, le, sum_by-cons leaf_row_size row rows))
    by false e le = rw e (omega (arith, le, sum_by-cons leaf_row_size row rows, sum_by-cons leaf_row_size row (filter is_live_row rows)))

pub purge_changed : (s : PageState) (rows new : List LeafRow) (b : Bool) → s.rows ≡ Leaf rows → KeepsState s → b ≡ list_any is_tombstone rows → new ≡ filter is_live_row rows → Changed CanPurge purged s (record s { rows = Leaf new }) b
purge_changed s rows new true is keeps any e =
    let leaf : s.rows ≡ Leaf (leaf_rows s.rows) = is ∙ ap (λ (r : Rows). Leaf (leaf_rows r)) (sym is) in
    let less = fewer (leaf_rows s.rows) in
    let whole : state_size (record s { rows = Leaf (leaf_rows s.rows) }) ≤ page_room = subst (λ (r : Rows). state_size (record s { rows = r }) ≤ page_room) leaf keeps.size in (
      record { leaf = leaf; some = ap (λ (r : Rows). list_any is_tombstone (leaf_rows r)) is ∙ sym any },
      omega (arith, less, whole),
      ap (λ (r : List LeafRow). record s { rows = Leaf r }) (e ∙ ap (λ (r : Rows). filter is_live_row (leaf_rows r)) (sym is)),
    )
purge_changed s rows new false is keeps any e = (
  λ can. absurd (not_both _ (ap (λ (r : Rows). list_any is_tombstone (leaf_rows r)) (sym is) ∙ can.some) (sym any)),
  ap (λ (r : List LeafRow). record s { rows = Leaf r }) (e ∙ sym (none_buried rows (sym any))) ∙ ap (λ (r : Rows). record s { rows = r }) (sym is),
)

-- ---- an adoption

module _ (a : Adopt) (s : PageState) (rows : List BranchRow) (is : s.rows ≡ Branch rows) where
  there : s.rows ≡ Branch (branch_rows s.rows)
  there = is ∙ ap (λ (r : Rows). Branch (branch_rows r)) (sym is)

  same_rows : rows ≡ branch_rows s.rows
  same_rows = ap branch_rows (sym is)

  pub may_take : (i : ℕ) → KeepsState s → IsTrue (has_own s a.key) → IsSpotIn branch_at a.key rows (Gap i) → 0 < i → CanTakeChild a s × BranchGap a.key (branch_rows s.rows) i × (i ≤ length (branch_rows s.rows))
  may_take i keeps own h some =
      let spot : IsSpotIn branch_at a.key (branch_rows s.rows) (Gap i) = subst (λ (r : List BranchRow). IsSpotIn branch_at a.key r (Gap i)) same_rows h in (
        record {
          branch = there;
          level = (subst (KeepsRows s.level (own_part s)) there keeps.rows).0;
          own = own;
          fresh = fresh_in_gap a.key (branch_rows s.rows) i spot.1 spot.0;
          before = covered_in_gap a.key (branch_rows s.rows) i spot.1 spot.0 ∙ positive i some;
        },
        spot.1,
        spot.0,
      )
    where
      positive : (i : ℕ) → 0 < i → not_zero i ≡ true
      positive zero lt = absurd (omega (arith, lt))
      positive (suc i) lt = refl

  pub no_take_first : (i : ℕ) → IsSpotIn branch_at a.key rows (Gap i) → i ≤ 0 → CanTakeChild a s → ⊥
  no_take_first i h none can =
      let spot : IsSpotIn branch_at a.key (branch_rows s.rows) (Gap i) = subst (λ (r : List BranchRow). IsSpotIn branch_at a.key r (Gap i)) same_rows h in
      not_both _ can.before (covered_in_gap a.key (branch_rows s.rows) i spot.1 spot.0 ∙ none_is i none)
    where
      none_is : (i : ℕ) → i ≤ 0 → not_zero i ≡ false
      none_is zero le = refl
      none_is (suc i) le = absurd (omega (arith, le))

  pub no_take_twice : (i : ℕ) → IsSpotIn branch_at a.key rows (Here i) → CanTakeChild a s → ⊥
  no_take_twice i h can =
      let spot : IsSpotIn branch_at a.key (branch_rows s.rows) (Here i) = subst (λ (r : List BranchRow). IsSpotIn branch_at a.key r (Here i)) same_rows h in
      not_both _ (taken_at_row a.key (branch_rows s.rows) i spot.1 (omega (arith, spot.0))) can.fresh

pub child_is : (a : Adopt) (s : PageState) (row : BranchRow) (i : ℕ) → row ≡ record { low = Some a.key; child = a.child } → BranchGap a.key (branch_rows s.rows) i → i ≤ length (branch_rows s.rows) → with_branch_row row i s ≡ with_child a s
child_is a s row i e gap le =
    ap (λ (r : BranchRow). with_branch_row r i s) e
    ∙ ap (λ (rows : List BranchRow). record s { rows = Branch rows }) (sym (put_branch_in_gap a.key (record { low = Some a.key; child = a.child }) (branch_rows s.rows) i refl gap le))
