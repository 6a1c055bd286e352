-- An adoption keeps the tree.
use Rattle.std.proofs.Common.{◌≡◌, ◌≢◌, ℕ, ◌+◌, ◌-◌, ◌≤◌, Bool, true, false, eqb, List, [], ◌∷◌, ◌++◌, Option, Some, refl, sym, ap, subst, ◌∙◌, arith, inl, inr}
use Rattle.std.specs.Prelude.{◌⊎◌, ◌&&◌, nat_le, is_some}
use Rattle.std.specs.Option.{option_map}
use Rattle.std.proofs.lemmas.Bool.{cases_eq, and_parts, and_from, eq-eqb}
use Rattle.store_model.specs.Range.{is_below, has_key}
use Rattle.wal_record.specs.State.{is_text, page_room, is_child, KeepsState, KeepsRows, branch_row_fits, foster_fits, has_own, own_part, own_end, end_by, live, leaf_rows, branch_rows, child_at, state_size}
use Rattle.wal_record.specs.declared.page.PageState.{PageState}
use Rattle.wal_record.specs.declared.page.BranchRow.{BranchRow}
use Rattle.wal_record.specs.declared.page.Foster.{Foster}
use Rattle.wal_record.specs.declared.page.Rows.TheVariants.{Leaf, Branch}
use Rattle.wal_record.specs.declared.record.Adopt.{Adopt}
use Rattle.wal_record.specs.Tree.{Fence, fence_of, Pointer, pointers, row_pointers, foster_pointers, one_if, count_to, count_at, incoming, fence_at, AllAgree, LeafOf, Tree}
use Rattle.wal_record.specs.Images.{with_child, without_foster, CanTakeChild, CanGiveChild}
use Rattle.store_model.proofs.Bools.{not_both}
use Rattle.tree_laws.proofs.Keys.{below_itself, in_parts}
use Rattle.tree_laws.proofs.Counts.{set_page, set_here, set_there, at_set, inside_some, incoming_set, count_within, count_two, count_append, agree_append, agree_parts, agree_moved}
use Rattle.tree_laws.proofs.BranchLaws.{no_leaf}
use Rattle.tree_laws.proofs.AdoptRows.{to_page, row_to, all_put_branch, rises_put_branch, is_first_put, Adopted, adopted}

at_most_one : (b : Bool) → one_if b ≤ 1
at_most_one true = omega arith
at_most_one false = omega arith

-- who is counted isn't free
counted : (c y : ℕ) (ps : List Pointer) → count_to y ps ≡ 0 → 1 ≤ count_to c ps → c ≢ y
counted c y ps z l e = let f = ap (λ (x : ℕ). count_to x ps) e in omega (arith, z, l, f)

record Parts (img : ℕ → Option PageState) (before : List Pointer) (here : Pointer) (after last : List Pointer) : Type 0 where
  front : AllAgree img before
  row : fence_at img here.child ≡ Some here.fence
  back : AllAgree img after
  foster : AllAgree img last

module _ (img : ℕ → Option PageState) (n : ℕ) (v : List ℕ → Option (List ℕ)) (tree : Tree img n v) (a : Adopt)
    (s u : PageState) (parent : img a.parent ≡ Some s) (fosterer : img a.fosterer ≡ Some u) (can : CanTakeChild a s) (gives : CanGiveChild a u)
    (covered : child_at a.key (branch_rows s.rows) ≡ Some a.fosterer) where
  abbrev q : ℕ
  q = a.parent

  abbrev r : ℕ
  r = a.fosterer

  abbrev f : ℕ
  f = a.child

  abbrev key : List ℕ
  key = a.key

  abbrev up : PageState
  up = with_child a s

  abbrev gave : PageState
  gave = without_foster a u

  abbrev mid : ℕ → Option PageState
  mid = set_page r gave img

  abbrev new : ℕ → Option PageState
  new = set_page q up mid

  -- ---- the pointers of the parent

  abbrev l : ℕ
  l = s.level - 1

  abbrev rows : List BranchRow
  rows = branch_rows s.rows

  cut : Adopted l (own_end s) key f r rows
  cut = adopted l (own_end s) key f r rows covered

  abbrev foster : List Pointer
  foster = foster_pointers s.level s.high s.foster

  was : pointers s ≡ (cut.front ++ to_page r l cut.low cut.high ∷ cut.back) ++ foster
  was = ap (λ (ps : List Pointer). ps ++ foster) cut.was

  current : pointers up ≡ (cut.front ++ to_page r l cut.low (Some key) ∷ to_page f l (Some key) cut.high ∷ cut.back) ++ foster
  current = ap (λ (ps : List Pointer). ps ++ foster) cut.current

  parts : Parts img cut.front (to_page r l cut.low cut.high) cut.back foster
  parts =
      let p = agree_parts img (cut.front ++ to_page r l cut.low cut.high ∷ cut.back) foster (subst (AllAgree img) was (tree.agrees q s parent)) in
      let w = agree_parts img cut.front (to_page r l cut.low cut.high ∷ cut.back) p.0 in
      record { front = w.0; row = w.1.0; back = w.1.1; foster = p.1 }

  u_fence : fence_of u ≡ record { level = l; low = cut.low; high = cut.high }
  u_fence = inside_some _ _ (sym (ap (option_map fence_of) fosterer) ∙ parts.row)

  old : KeepsState s
  old = tree.keeps q s parent

  old' : KeepsState u
  old' = tree.keeps r u fosterer

  pub other : q ≢ r
  other e =
      let same : s ≡ u = inside_some s u (sym parent ∙ ap img e ∙ fosterer) in
      let x : s.level ≡ u.level = ap (λ (y : PageState). y.level) same in
      let y : u.level ≡ l = ap (λ (z : Fence). z.level) u_fence in
      let z = can.level in
      omega (arith, x, y, z)

  -- ---- the pointers of the fosterer

  u_foster : foster_fits u.low u.high (Some (record { key = key; child = f })) ≡ true
  u_foster = ap (foster_fits u.low u.high) (sym gives.foster) ∙ old'.foster

  key_above : is_below u.low (Some key) ≡ true
  key_above = (and_parts _ _ (and_parts _ _ u_foster).0).0

  key_text : is_text key ≡ true
  key_text = (and_parts _ _ (and_parts _ _ u_foster).1).0

  f_child : is_child f ≡ true
  f_child = (and_parts _ _ (and_parts _ _ u_foster).1).1

  u_end : own_end u ≡ Some key
  u_end = ap (λ (x : Option Foster). end_by x u.high) gives.foster

  abbrev u_rows : List Pointer
  u_rows = row_pointers (u.level - 1) (Some key) (branch_rows u.rows)

  u_was : pointers u ≡ u_rows ++ to_page f u.level (Some key) u.high ∷ []
  u_was = λ i. row_pointers (u.level - 1) (u_end i) (branch_rows u.rows) ++ foster_pointers u.level u.high (gives.foster i)

  u_parts : AllAgree img u_rows × AllAgree img (to_page f u.level (Some key) u.high ∷ [])
  u_parts = agree_parts img u_rows (to_page f u.level (Some key) u.high ∷ []) (subst (AllAgree img) u_was (tree.agrees r u fosterer))

  f_not_r : f ≢ r
  f_not_r e =
      let x : fence_of u ≡ record { level = u.level; low = Some key; high = u.high } = inside_some _ _ (sym (ap (option_map fence_of) fosterer) ∙ sym (ap (fence_at img) e) ∙ u_parts.1.0) in
      let y : u.low ≡ Some key = ap (λ (z : Fence). z.low) x in
      not_both (is_below u.low (Some key)) key_above (ap (λ (z : Option (List ℕ)). is_below z (Some key)) y ∙ below_itself key)

  -- ---- no other pointer leads to the fosterer

  own_count : count_to r (pointers s) ≡ count_to r cut.front + (1 + count_to r cut.back) + count_to r foster
  own_count =
      let x = ap (count_to r) was in
      let y = count_append r (cut.front ++ to_page r l cut.low cut.high ∷ cut.back) foster in
      let z = count_append r cut.front (to_page r l cut.low cut.high ∷ cut.back) in
      let w = ap one_if (eq-eqb r r refl) in
      omega (arith, x, y, z, w)

  no_more : (count_to r cut.front ≡ 0) × (count_to r cut.back ≡ 0) × (count_to r foster ≡ 0)
  no_more =
      let i = tree.inside q s parent in
      let w = count_within img n r q i.0 i.1 in
      let b = ap (count_at r) parent in
      let o = tree.once r in
      let m = at_most_one (nat_le 2 r && nat_le r n) in
      let c = own_count in
      (omega (arith, w, b, o, m, c), omega (arith, w, b, o, m, c), omega (arith, w, b, o, m, c))

  no_other : (p : ℕ) (t : PageState) → img p ≡ Some t → p ≢ q → count_to r (pointers t) ≡ 0
  no_other p t h d =
      let i = tree.inside q s parent in
      let j = tree.inside p t h in
      let w = count_two img n r p q j.0 j.1 i.0 i.1 d in
      let b = ap (count_at r) parent in
      let b' = ap (count_at r) h in
      let o = tree.once r in
      let m = at_most_one (nat_le 2 r && nat_le r n) in
      let c = own_count in
      omega (arith, w, b, b', o, m, c)

  -- the fosterer has an incoming pointer
  not_root : 1 ≢ r
  not_root e =
      let i = tree.inside q s parent in
      let w = count_within img n r q i.0 i.1 in
      let b = ap (count_at r) parent in
      let o = tree.once r ∙ ap (λ (y : ℕ). one_if (nat_le 2 y && nat_le y n)) (sym e) in
      let c = own_count in
      omega (arith, w, b, o, c)

  -- ---- fences

  at_parent : new q ≡ Some up
  at_parent = set_here q up mid

  at_fosterer : new r ≡ Some gave
  at_fosterer = set_there q up mid r (λ e. other (sym e)) ∙ set_here r gave img

  elsewhere : (p : ℕ) → p ≢ q → p ≢ r → new p ≡ img p
  elsewhere p d e = set_there q up mid p d ∙ set_there r gave img p e

  fence_kept : (p : ℕ) → p ≢ r → fence_at new p ≡ fence_at img p
  fence_kept p d = elim (cases_eq p q) [
    | inl e ↦ ap (λ (y : ℕ). fence_at new y) e ∙ ap (option_map fence_of) at_parent ∙ sym (ap (option_map fence_of) parent) ∙ sym (ap (λ (y : ℕ). fence_at img y) e)
    | inr g ↦ ap (option_map fence_of) (elsewhere p g d)
  ]

  kept : (ps : List Pointer) → count_to r ps ≡ 0 → AllAgree img ps → AllAgree new ps
  kept ps z h = agree_moved img new ps (λ c x m e. fence_kept c (counted c r ps z m) ∙ e) h

  from : (p : ℕ) (t : PageState) → new p ≡ Some t → ((p ≡ q) × (up ≡ t)) ⊎ (((p ≡ r) × (gave ≡ t)) ⊎ ((p ≢ q) × (p ≢ r) × (img p ≡ Some t)))
  from p t h = elim (at_set q up mid p t h) [
    | inl e ↦ inl e
    | inr d ↦ elim (at_set r gave img p t d.1) [ inl e ↦ inr (inl e) | inr g ↦ inr (inr (d.0, g.0, g.1)) ]
  ]

  gave_fence : fence_of gave ≡ record { level = l; low = cut.low; high = Some key }
  gave_fence = λ i. record { level = (u_fence i).level; low = (u_fence i).low; high = Some key }

  f_fence : fence_at new f ≡ Some (record { level = l; low = Some key; high = cut.high })
  f_fence = fence_kept f f_not_r ∙ u_parts.1.0 ∙ (λ i. Some (record { level = (u_fence i).level; low = Some key; high = (u_fence i).high }))

  up_agrees : AllAgree new (pointers up)
  up_agrees =
      let z = no_more in
      subst (AllAgree new) (sym current) (agree_append new (cut.front ++ to_page r l cut.low (Some key) ∷ to_page f l (Some key) cut.high ∷ cut.back) foster
      (agree_append new cut.front (to_page r l cut.low (Some key) ∷ to_page f l (Some key) cut.high ∷ cut.back) (kept cut.front z.0 parts.front)
      (ap (option_map fence_of) at_fosterer ∙ ap Some gave_fence, (f_fence, kept cut.back z.1 parts.back)))
      (kept foster z.2 parts.foster))

  gave_agrees : AllAgree new (pointers gave)
  gave_agrees =
      let x = no_other r u fosterer (λ e. other (sym e)) in
      let y = ap (count_to r) u_was in
      let z = count_append r u_rows (to_page f u.level (Some key) u.high ∷ []) in
      agree_append new u_rows [] (kept u_rows (omega (arith, x, y, z)) u_parts.0) tt

  agrees : (p : ℕ) (t : PageState) → new p ≡ Some t → AllAgree new (pointers t)
  agrees p t h = elim (from p t h) [
    | inl e ↦ subst (λ (y : PageState). AllAgree new (pointers y)) e.1 up_agrees
    | inr d ↦ elim d [
      | inl e ↦ subst (λ (y : PageState). AllAgree new (pointers y)) e.1 gave_agrees
      | inr g ↦ kept (pointers t) (no_other p t g.2 g.0) (tree.agrees p t g.2)
    ]
  ]

  up_count : (y : ℕ) → count_to y (pointers up) ≡ count_to y (pointers s) + one_if (eqb f y)
  up_count y =
      let a1 = ap (count_to y) was in
      let a2 = count_append y (cut.front ++ to_page r l cut.low cut.high ∷ cut.back) foster in
      let a3 = count_append y cut.front (to_page r l cut.low cut.high ∷ cut.back) in
      let b1 = ap (count_to y) current in
      let b2 = count_append y (cut.front ++ to_page r l cut.low (Some key) ∷ to_page f l (Some key) cut.high ∷ cut.back) foster in
      let b3 = count_append y cut.front (to_page r l cut.low (Some key) ∷ to_page f l (Some key) cut.high ∷ cut.back) in
      omega (arith, a1, a2, a3, b1, b2, b3)

  gave_count : (y : ℕ) → count_to y (pointers gave) + one_if (eqb f y) ≡ count_to y (pointers u)
  gave_count y =
      let a1 = ap (count_to y) u_was in
      let a2 = count_append y u_rows (to_page f u.level (Some key) u.high ∷ []) in
      let b = count_append y u_rows [] in
      omega (arith, a1, a2, b)

  once : (y : ℕ) → incoming new n y ≡ one_if (nat_le 2 y && nat_le y n)
  once y =
      let i = tree.inside q s parent in
      let j = tree.inside r u fosterer in
      let a1 = incoming_set img mid n y r j.0 j.1 (λ p m d. set_there r gave img p d) in
      let a2 = incoming_set mid new n y q i.0 i.1 (λ p m d. set_there q up mid p d) in
      let b1 = ap (count_at y) parent in
      let b2 = ap (count_at y) fosterer in
      let b3 = ap (count_at y) at_parent in
      let b4 = ap (count_at y) (set_here r gave img) in
      let b5 = ap (count_at y) (set_there r gave img q other) in
      let c1 = up_count y in
      let c2 = gave_count y in
      let o = tree.once y in
      omega (arith, a1, a2, b1, b2, b3, b4, b5, c1, c2, o)

  -- ---- rules

  s_rows : KeepsRows s.level (own_part s) (Branch rows)
  s_rows = subst (KeepsRows s.level (own_part s)) can.branch old.rows

  up_keeps : state_size up ≤ page_room → KeepsState up
  up_keeps size = record {
    level = old.level;
    texts = old.texts;
    fences = old.fences;
    foster = old.foster;
    rows = (s_rows.0, is_first_put key f r s.low rows covered s_rows.1, rises_put_branch key f rows can.fresh s_rows.2, all_put_branch (branch_row_fits (own_end s)) (row_to key f) rows (and_from _ _ (in_parts (own_part s) key can.own).1 (and_from _ _ key_text f_child)) s_rows.3);
    size = size;
  }

  gave_keeps : state_size gave ≤ page_room → KeepsState gave
  gave_keeps size' = record {
    level = old'.level;
    texts = and_from _ _ (and_parts _ _ old'.texts).0 key_text;
    fences = key_above;
    foster = refl;
    rows = subst (λ (e : Option (List ℕ)). KeepsRows u.level (record { low = u.low; high = e }) u.rows) u_end old'.rows;
    size = size';
  }

  -- ---- leaves

  gave_own : (k : List ℕ) → has_own gave k ≡ has_own u k
  gave_own k = ap (λ (e : Option (List ℕ)). has_key (record { low = u.low; high = e }) k) (sym u_end)

  back : (k : List ℕ) (b : LeafOf new k) → (c : LeafOf img k) × (b.page ≡ c.page) × (live (leaf_rows b.state.rows) k ≡ live (leaf_rows c.state.rows) k)
  back k b = elim (from b.page b.state b.image) [
    | inl e ↦ no_leaf _ _ (ap (λ (y : PageState). y.rows) e.1 ∙ b.leaf)
    | inr d ↦ elim d [
      | inl e ↦ (
        record { page = r; state = u; image = fosterer; leaf = subst (λ (y : PageState). y.rows ≡ Leaf (leaf_rows y.rows)) (sym e.1) b.leaf; own = sym (gave_own k) ∙ ap (λ (y : PageState). has_own y k) e.1 ∙ b.own },
        e.0,
        ap (λ (y : PageState). live (leaf_rows y.rows) k) (sym e.1),
      )
      | inr g ↦ (record { page = b.page; state = b.state; image = g.2; leaf = b.leaf; own = b.own }, refl, refl)
    ]
  ]

  covers : (k : List ℕ) → LeafOf new k
  covers k = let b = tree.covers k in elim (cases_eq b.page r) [
    | inl e ↦
        let same : u ≡ b.state = inside_some u b.state (sym fosterer ∙ sym (ap img e) ∙ b.image) in
        record { page = r; state = gave; image = at_fosterer; leaf = subst (λ (y : PageState). y.rows ≡ Leaf (leaf_rows y.rows)) (sym same) b.leaf; own = gave_own k ∙ ap (λ (y : PageState). has_own y k) same ∙ b.own }
    | inr d ↦ elim (cases_eq b.page q) [
      | inl e ↦
          let same : s ≡ b.state = inside_some s b.state (sym parent ∙ sym (ap img e) ∙ b.image) in
          no_leaf rows (leaf_rows b.state.rows) (sym can.branch ∙ ap (λ (y : PageState). y.rows) same ∙ b.leaf)
      | inr g ↦ record { page = b.page; state = b.state; image = elsewhere b.page g d ∙ b.image; leaf = b.leaf; own = b.own }
    ]
  ]

  pub Tree_adopt : state_size up ≤ page_room → state_size gave ≤ page_room → Tree new n v
  Tree_adopt size size' = record {
    some = tree.some;
    inside = λ p t h. elim (from p t h) [
      | inl e ↦ let i = tree.inside q s parent in (omega (arith, e.0, i.0), omega (arith, e.0, i.1))
      | inr d ↦ elim d [ inl e ↦ let i = tree.inside r u fosterer in (omega (arith, e.0, i.0), omega (arith, e.0, i.1)) | inr g ↦ tree.inside p t g.2 ]
    ];
    made = λ p m o. elim (cases_eq p q) [
      | inl e ↦ ap (λ (y : ℕ). is_some (new y)) e ∙ ap is_some at_parent
      | inr d ↦ elim (cases_eq p r) [
        | inl e ↦ ap (λ (y : ℕ). is_some (new y)) e ∙ ap is_some at_fosterer
        | inr g ↦ ap is_some (elsewhere p d g) ∙ tree.made p m o
      ]
    ];
    keeps = λ p t h. elim (from p t h) [
      | inl e ↦ subst KeepsState e.1 (up_keeps size)
      | inr d ↦ elim d [ inl e ↦ subst KeepsState e.1 (gave_keeps size') | inr g ↦ tree.keeps p t g.2 ]
    ];
    root = λ t h. elim (from 1 t h) [
      | inl e ↦
          let x = tree.root s (ap img e.0 ∙ parent) in
          (sym (ap (λ (y : PageState). y.low) e.1) ∙ x.0, sym (ap (λ (y : PageState). y.high) e.1) ∙ x.1)
      | inr d ↦ elim d [ inl e ↦ absurd (not_root e.0) | inr g ↦ tree.root t g.2 ]
    ];
    once = once;
    agrees = agrees;
    covers = covers;
    apart = λ k b c. let y = back k b in let z = back k c in y.1 ∙ tree.apart k y.0 z.0 ∙ sym z.1;
    values = λ k b. let y = back k b in y.2 ∙ tree.values k y.0;
  }
