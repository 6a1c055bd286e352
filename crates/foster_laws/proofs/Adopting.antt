-- The adopt law.
use Rattle.std.proofs.Common.{◌≡◌, ℕ, zero, suc, ◌+◌, ◌-◌, ◌≤◌, Bool, true, false, cond, leb, List, [], ◌∷◌, length, Option, Some, None, refl, sym, ap, subst, ◌∙◌, arith}
use Rattle.std.specs.Prelude.{not, slice_get, is_some, ◌&&◌, ◌||◌}
use Rattle.std.specs.List.{list_all, list_any, sum_by}
use Rattle.std.proofs.lemmas.Bool.{and_parts, and_from}
use Rattle.std.proofs.lemmas.Bool.Decides.{nat_tests}
use Rattle.std.proofs.lemmas.List.Sums.{sum_by-cons}
use Rattle.store_model.specs.Range.{is_below}
use Rattle.store_model.proofs.Bools.{not_both}
use Rattle.wal_record.specs.State.{KeepsState, KeepsRows, IsFirst, rises, branch_below, branch_row_fits, own_end, own_part, end_by, has_own, branch_rows, child_at, or_child, separates, put_branch_row, branch_row_size, rows_size, state_size, page_room, high_size, foster_size, foster_fits, free_bytes, fits, is_text, is_child, text_of}
use Rattle.wal_record.specs.Tree.{Pointer, fence_of, first_low, row_pointers}
use Rattle.wal_record.specs.Images.{with_child, without_foster}
use Rattle.wal_record.specs.declared.page.PageState.{PageState}
use Rattle.wal_record.specs.declared.page.BranchRow.{BranchRow}
use Rattle.wal_record.specs.declared.page.Foster.{Foster}
use Rattle.wal_record.specs.declared.page.Rows.TheVariants.{Branch}
use Rattle.wal_record.specs.declared.record.Adopt.{Adopt}
use Rattle.log_laws.proofs.Locked.{below_trans}
use Rattle.tree_laws.proofs.Keys.{in_from}
use Rattle.tree_laws.proofs.Counts.{inside_some}
use Rattle.tree_laws.proofs.AdoptRows.{to_page, row_to, all_put_branch, rises_put_branch, is_first_put}
use Rattle.tree_laws.specs.Descent.{slot_pointer}
use Rattle.foster_laws.specs.Adopts.{Adopted, AdoptLaw}
use Rattle.foster_laws.proofs.CutRows.{one_way}
use Rattle.foster_laws.proofs.HalfSizes.{true_le}

-- ---- rows, one of which leads to a page

none_beneath : (o : Option (List ℕ)) → is_below o (Some []) ≡ false
none_beneath None = refl
none_beneath (Some []) = refl
none_beneath (Some (b ∷ t)) = refl

not_empty : (low : Option (List ℕ)) (key : List ℕ) → is_below low (Some key) ≡ true → leb 1 (length key) ≡ true
not_empty low [] h = absurd (not_both _ h (none_beneath low))
not_empty low (b ∷ t) h = true_le 1 (suc (length t)) (omega arith)

-- a row that begins below the key, or above it, isn't the key's
beside_low : (key : List ℕ) (row : BranchRow) → is_below row.low (Some key) ≡ true → separates key row ≡ false
beside_low key row h = ap (λ (b : Bool). not (b || is_below (Some key) row.low)) h

beside_high : (key : List ℕ) (row : BranchRow) → is_below (Some key) row.low ≡ true → separates key row ≡ false
beside_high key row h = by (is_below row.low (Some key)) h
  where
    by : (b : Bool) → is_below (Some key) row.low ≡ true → not (b || is_below (Some key) row.low) ≡ false
    by true g = refl
    by false g = ap not g

-- a key before the first row is covered by none
pub none_covers : (key : List ℕ) (end : Option (List ℕ)) (rows : List BranchRow) → is_below (Some key) (first_low end rows) ≡ true → child_at key rows ≡ None
none_covers key end [] h = refl
none_covers key end (row ∷ rows) h = ap (λ (b : Bool). cond b None (or_child (child_at key rows) row.child)) h

none_separates : (key : List ℕ) (end : Option (List ℕ)) (rows : List BranchRow) → rises branch_below rows ≡ true → is_below (Some key) (first_low end rows) ≡ true → list_any (separates key) rows ≡ false
none_separates key end [] r h = refl
none_separates key end (row ∷ rows) r h = ap (λ (b : Bool). b || list_any (separates key) rows) (beside_high key row h) ∙ all_above rows (and_parts _ _ r).0
  where
    all_above : (xs : List BranchRow) → list_all (branch_below row) xs ≡ true → list_any (separates key) xs ≡ false
    all_above [] a = refl
    all_above (x ∷ xs) a =
        let p = and_parts _ _ a in
        ap (λ (b : Bool). b || list_any (separates key) xs) (beside_high key x (below_trans (Some key) row.low x.low h p.0)) ∙ all_above xs p.1

put_before : (r : BranchRow) (end : Option (List ℕ)) (rows : List BranchRow) → is_below r.low (first_low end rows) ≡ true → put_branch_row r rows ≡ r ∷ rows
put_before r end [] h = refl
put_before r end (row ∷ rows) h = ap (λ (b : Bool). cond b (r ∷ row ∷ rows) (row ∷ put_branch_row r rows)) h

put_behind : (r row : BranchRow) (rows : List BranchRow) → is_below row.low r.low ≡ true → put_branch_row r (row ∷ rows) ≡ row ∷ put_branch_row r rows
put_behind r row rows h = ap (λ (b : Bool). cond b (r ∷ row ∷ rows) (row ∷ put_branch_row r rows)) (one_way row.low r.low h)

-- all rows behind one begin above it
slot_above : (l : ℕ) (end : Option (List ℕ)) (row : BranchRow) (rows : List BranchRow) (i : ℕ) (x : Pointer) → list_all (branch_below row) rows ≡ true → slice_get (row_pointers l end rows) i ≡ Some x → is_below row.low x.fence.low ≡ true
slot_above l end row [] i x a e = absurd cc
slot_above l end row (y ∷ rows) zero x a e = let same = inside_some _ x e in ap (λ (p : Pointer). is_below row.low p.fence.low) (sym same) ∙ (and_parts _ _ a).0
slot_above l end row (y ∷ rows) (suc i) x a e = slot_above l end row rows i x (and_parts _ _ a).1 e

-- what a slot says of a key between its fences
pub record Slot (l : ℕ) (end : Option (List ℕ)) (rows : List BranchRow) (i : ℕ) (x : Pointer) (key : List ℕ) (c : ℕ) : Type 0 where
  pub level : x.fence.level ≡ l
  pub first : is_below (first_low end rows) (Some key) ≡ true
  pub last : is_below (Some key) end ≡ true
  pub covers : child_at key rows ≡ Some x.child
  pub fresh : list_any (separates key) rows ≡ false
  pub slot : slice_get (row_pointers l end (put_branch_row (row_to key c) rows)) i ≡ Some (to_page x.child l x.fence.low (Some key))
  pub next : slice_get (row_pointers l end (put_branch_row (row_to key c) rows)) (suc i) ≡ Some (to_page c l (Some key) x.fence.high)

module _ (l : ℕ) (end : Option (List ℕ)) (key : List ℕ) (c : ℕ) where
  begins_end : (rows : List BranchRow) → list_all (branch_row_fits end) rows ≡ true → is_below (Some key) (first_low end rows) ≡ true → is_below (Some key) end ≡ true
  begins_end [] a h = h
  begins_end (row ∷ rows) a h = below_trans (Some key) row.low end h (and_parts (is_below row.low end) _ (and_parts _ _ a).0).0

  first_slot : (row : BranchRow) (rows : List BranchRow) → rises branch_below (row ∷ rows) ≡ true → list_all (branch_row_fits end) (row ∷ rows) ≡ true → is_below row.low (Some key) ≡ true → is_below (Some key) (first_low end rows) ≡ true
      → Slot l end (row ∷ rows) 0 (to_page row.child l row.low (first_low end rows)) key c
  first_slot row rows r a low high =
      let put : put_branch_row (row_to key c) (row ∷ rows) ≡ row ∷ row_to key c ∷ rows = put_behind (row_to key c) row rows low ∙ ap (λ (xs : List BranchRow). row ∷ xs) (put_before (row_to key c) end rows high) in
      record {
        level = refl;
        first = low;
        last = begins_end rows (and_parts _ _ a).1 high;
        covers = ap (λ (b : Bool). cond b None (or_child (child_at key rows) row.child)) (one_way row.low (Some key) low) ∙ ap (λ (o : Option ℕ). or_child o row.child) (none_covers key end rows high);
        fresh = ap (λ (b : Bool). b || list_any (separates key) rows) (beside_low key row low) ∙ none_separates key end rows (and_parts _ _ r).1 high;
        slot = ap (λ (xs : List BranchRow). slice_get (row_pointers l end xs) 0) put;
        next = ap (λ (xs : List BranchRow). slice_get (row_pointers l end xs) 1) put;
      }

  next_slot : (row : BranchRow) (rows : List BranchRow) (i : ℕ) (x : Pointer) → is_below row.low (Some key) ≡ true → Slot l end rows i x key c → Slot l end (row ∷ rows) (suc i) x key c
  next_slot row rows i x low s =
      let put = put_behind (row_to key c) row rows low in
      record {
        level = s.level;
        first = low;
        last = s.last;
        covers = ap (λ (b : Bool). cond b None (or_child (child_at key rows) row.child)) (one_way row.low (Some key) low) ∙ ap (λ (o : Option ℕ). or_child o row.child) s.covers;
        fresh = ap (λ (b : Bool). b || list_any (separates key) rows) (beside_low key row low) ∙ s.fresh;
        slot = ap (λ (xs : List BranchRow). slice_get (row_pointers l end xs) (suc i)) put ∙ s.slot;
        next = ap (λ (xs : List BranchRow). slice_get (row_pointers l end xs) (suc (suc i))) put ∙ s.next;
      }

  pub slot_is : (rows : List BranchRow) (i : ℕ) (x : Pointer) → rises branch_below rows ≡ true → list_all (branch_row_fits end) rows ≡ true → slice_get (row_pointers l end rows) i ≡ Some x → is_below x.fence.low (Some key) ≡ true → is_below (Some key) x.fence.high ≡ true → Slot l end rows i x key c
  slot_is [] i x r a e low high = absurd cc
  slot_is (row ∷ rows) zero x r a e low high =
      let same = inside_some (to_page row.child l row.low (first_low end rows)) x e in
      subst (λ (y : Pointer). Slot l end (row ∷ rows) 0 y key c) same
      (first_slot row rows r a (ap (λ (y : Pointer). is_below y.fence.low (Some key)) same ∙ low) (ap (λ (y : Pointer). is_below (Some key) y.fence.high) same ∙ high))
  slot_is (row ∷ rows) (suc i) x r a e low high =
      let p = and_parts _ _ r in
      next_slot row rows i x (below_trans row.low x.fence.low (Some key) (slot_above l end row rows i x p.0 e) low) (slot_is rows i x p.1 (and_parts _ _ a).1 e low high)

put_bytes : (r : BranchRow) (rows : List BranchRow) → sum_by branch_row_size (put_branch_row r rows) ≡ sum_by branch_row_size rows + branch_row_size r
put_bytes r [] = omega (arith, sum_by-cons branch_row_size r [])
put_bytes r (row ∷ rows) = by (is_below r.low row.low) (put_bytes r rows)
  where
    by : (b : Bool) → sum_by branch_row_size (put_branch_row r rows) ≡ sum_by branch_row_size rows + branch_row_size r → sum_by branch_row_size (cond b (r ∷ row ∷ rows) (row ∷ put_branch_row r rows)) ≡ sum_by branch_row_size (row ∷ rows) + branch_row_size r
    by true rest = omega (arith, sum_by-cons branch_row_size r (row ∷ rows))
    by false rest = omega (arith, rest, sum_by-cons branch_row_size row (put_branch_row r rows), sum_by-cons branch_row_size row rows)

same_room : (n m : ℕ) → n ≤ 4051 → leb (n + 5 + m) 4051 ≡ leb (5 + m) (4051 - n)
same_room n m h = grind (arith, nat_tests)

-- ---- the law

module _ (a : Adopt) (s f : PageState) (i : ℕ) (keeps : KeepsState s) (branch : s.rows ≡ Branch (branch_rows s.rows)) (keeps' : KeepsState f) (foster : f.foster ≡ Some (record { key = a.key; child = a.child }))
    (slot : slot_pointer s i ≡ Some (record { child = a.fosterer; fence = fence_of f })) where
  rules : KeepsRows s.level (own_part s) (Branch (branch_rows s.rows))
  rules = subst (KeepsRows s.level (own_part s)) branch keeps.rows

  pointer : (is_below f.low (Some a.key) ≡ true) × (is_below (Some a.key) f.high ≡ true) × (is_text a.key ≡ true) × (is_child a.child ≡ true)
  pointer =
      let h : (is_below f.low (Some a.key) && is_below (Some a.key) f.high && (is_text a.key && is_child a.child)) ≡ true = ap (foster_fits f.low f.high) (sym foster) ∙ keeps'.foster in
      let p = and_parts (is_below f.low (Some a.key) && is_below (Some a.key) f.high) (is_text a.key && is_child a.child) h in
      let q = and_parts (is_below f.low (Some a.key)) (is_below (Some a.key) f.high) p.0 in
      let r = and_parts (is_text a.key) (is_child a.child) p.1 in
      (q.0, q.1, r.0, r.1)

  found : Slot (s.level - 1) (own_end s) (branch_rows s.rows) i (record { child = a.fosterer; fence = fence_of f }) a.key a.child
  found = slot_is (s.level - 1) (own_end s) a.key a.child (branch_rows s.rows) i (record { child = a.fosterer; fence = fence_of f }) rules.2 rules.3 slot pointer.0 pointer.1

  is_first : (low : Option (List ℕ)) (rows : List BranchRow) → IsFirst low rows → first_low (own_end s) rows ≡ low
  is_first low [] h = absurd h
  is_first low (row ∷ rows) h = h

  own : has_own s a.key ≡ true
  own = in_from (own_part s) a.key (one_way s.low (Some a.key) (ap (λ (b : Option (List ℕ)). is_below b (Some a.key)) (sym (is_first s.low (branch_rows s.rows) rules.1)) ∙ found.first)) found.last

  size : state_size (with_child a s) ≡ state_size s + 5 + length a.key
  size =
      let p = put_bytes (row_to a.key a.child) (branch_rows s.rows) in
      let e : rows_size s.rows ≡ sum_by branch_row_size (branch_rows s.rows) = ap rows_size branch in
      omega (arith, p, e)

  room : fits (with_child a s) ≡ leb (5 + length a.key) (free_bytes s)
  room = let k : state_size s ≤ page_room = keeps.size in ap (λ (n : ℕ). leb n page_room) size ∙ same_room (state_size s) (length a.key) k

  parent_keeps : 5 + length a.key ≤ free_bytes s → KeepsState (with_child a s)
  parent_keeps enough = record {
    level = keeps.level;
    fences = keeps.fences;
    texts = keeps.texts;
    foster = keeps.foster;
    rows = (
      rules.0,
      is_first_put a.key a.child a.fosterer s.low (branch_rows s.rows) found.covers rules.1,
      rises_put_branch a.key a.child (branch_rows s.rows) found.fresh rules.2,
      all_put_branch (branch_row_fits (own_end s)) (row_to a.key a.child) (branch_rows s.rows) (and_from _ _ found.last (and_from _ _ pointer.2 pointer.3)) rules.3,
    );
    size = let e = size in let k : state_size s ≤ page_room = keeps.size in omega (arith, e, k, enough);
  }

  high_some : (high : Option (List ℕ)) → 1 ≤ high_size high
  high_some None = omega arith
  high_some (Some t) = omega arith

  shorter : state_size (without_foster a f) + 4 ≤ state_size f
  shorter =
      let e : foster_size f.foster ≡ 6 + length a.key = ap foster_size foster in
      let h = high_some f.high in
      omega (arith, e, h)

  own_is : own_end f ≡ Some a.key
  own_is = ap (λ (x : Option Foster). end_by x f.high) foster

  fosterer_keeps : KeepsState (without_foster a f)
  fosterer_keeps = record {
    level = keeps'.level;
    fences = pointer.0;
    texts = and_from _ _ (and_parts (is_text (text_of f.low)) (is_text (text_of f.high)) keeps'.texts).0 pointer.2;
    foster = refl;
    rows = subst (λ (b : Option (List ℕ)). KeepsRows f.level (record { low = f.low; high = b }) f.rows) own_is keeps'.rows;
    size = let e = shorter in let k : state_size f ≤ page_room = keeps'.size in omega (arith, e, k);
  }

  adopted : Adopted a s f i
  adopted = record {
    key = and_from _ _ (not_empty f.low a.key pointer.0) pointer.2;
    child = pointer.3;
    leads = found.covers;
    takes = record { branch = branch; level = rules.0; own = own; fresh = found.fresh; before = ap is_some found.covers };
    gives = record { foster = foster };
    size = size;
    room = room;
    parent_keeps = parent_keeps;
    shorter = shorter;
    fosterer_keeps = fosterer_keeps;
    slot = found.slot ∙ ap (λ (l : ℕ). Some (to_page a.fosterer l f.low (Some a.key))) (sym found.level);
    next = found.next ∙ ap (λ (l : ℕ). Some (to_page a.child l (Some a.key) f.high)) (sym found.level);
  }

pub adopt : (a : Adopt) (s f : PageState) (i : ℕ) → AdoptLaw a s f i
adopt a s f i = record { parent = λ keeps branch keeps' foster slot. adopted a s f i keeps branch keeps' foster slot }
