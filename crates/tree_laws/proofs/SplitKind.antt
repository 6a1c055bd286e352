-- A split keeps the tree.
use Rattle.std.proofs.Common.{◌≡◌, ◌≢◌, ℕ, ◌+◌, ◌-◌, ◌≤◌, suc, Bool, true, false, cond, eqb, List, [], ◌∷◌, ◌++◌, Option, Some, None, refl, sym, ap, subst, ◌∙◌, arith, inl, inr}
use Rattle.std.specs.Prelude.{◌⊎◌, ◌&&◌, not, nat_le, is_some, unwrap_or}
use Rattle.std.specs.Option.{option_map}
use Rattle.std.proofs.lemmas.Bool.{and_parts, cases_eq, and_from, ne_eqb, eq-eqb}
use Rattle.store_model.specs.Range.{is_below}
use Rattle.wal_record.specs.State.{page_room, is_child, KeepsState, KeepsRows, has_own, own_part, own_end, end_by, live, leaf_rows, branch_rows, state_size}
use Rattle.wal_record.specs.declared.page.PageState.{PageState}
use Rattle.wal_record.specs.declared.page.Rows.{Rows}
use Rattle.wal_record.specs.declared.page.Rows.TheVariants.{Leaf, Branch}
use Rattle.wal_record.specs.declared.record.Split.{Split}
use Rattle.wal_record.specs.Tree.{fence_of, Pointer, pointers, row_pointers, foster_pointers, one_if, count_to, count_at, incoming, fence_at, AllAgree, LeafOf, Tree}
use Rattle.wal_record.specs.Images.{lower_half, lower_rows, upper_rows, CanSplit}
use Rattle.log_laws.proofs.Locked.{below_trans}
use Rattle.tree_laws.proofs.Keys.{not_under, in_parts, in_from}
use Rattle.tree_laws.proofs.Counts.{set_page, set_here, set_there, at_set, inside_some, incoming_set, count_append, agree_append, agree_parts, agree_moved}
use Rattle.tree_laws.proofs.RowLaws.{live_kept}
use Rattle.tree_laws.proofs.BranchLaws.{rows_cut, low_under, lower_keeps, low_some, low_below_end, leaf_lower, leaf_upper, was_leaf_lower, was_leaf_upper}
use Rattle.tree_laws.proofs.Start.{one_more}
use Rattle.tree_laws.proofs.GrowKind.{not_made, no_fence}

-- the live values of either part
live_lower : (at : Option (List ℕ)) (rows : Rows) (key : List ℕ) → is_below (Some key) at ≡ true → live (leaf_rows (lower_rows at rows)) key ≡ live (leaf_rows rows) key
live_lower at (Leaf rows) key h = live_kept (λ k. is_below (Some k) at) rows key ∙ ap (λ (b : Bool). cond b (live rows key) None) h
live_lower at (Branch rows) key h = refl

live_upper : (at : Option (List ℕ)) (rows : Rows) (key : List ℕ) → is_below (Some key) at ≡ false → live (leaf_rows (upper_rows at rows)) key ≡ live (leaf_rows rows) key
live_upper at (Leaf rows) key h = live_kept (λ k. not (is_below (Some k) at)) rows key ∙ ap (λ (b : Bool). cond (not b) (live rows key) None) h
live_upper at (Branch rows) key h = refl

module _ (img : ℕ → Option PageState) (n : ℕ) (v : List ℕ → Option (List ℕ)) (tree : Tree img n v) (q : ℕ) (s : PageState) (there : img q ≡ Some s)
    (x : Split) (can : CanSplit x s) (rules : KeepsState x.child_state) (number : x.child ≡ suc n) (child : is_child x.child ≡ true) (size : state_size (lower_half x s) ≤ page_room) where
  abbrev c : ℕ
  c = x.child

  abbrev t : PageState
  t = x.child_state

  abbrev at : Option (List ℕ)
  at = t.low

  abbrev k : List ℕ
  k = unwrap_or at []

  abbrev low : PageState
  low = lower_half x s

  abbrev mid : ℕ → Option PageState
  mid = set_page c t img

  abbrev new : ℕ → Option PageState
  new = set_page q low mid

  old : KeepsState s
  old = tree.keeps q s there

  at_is : at ≡ Some k
  at_is = low_some at t.high rules.fences

  fresh : img c ≡ None
  fresh = not_made img n v tree c (omega (arith, number))

  other : q ≢ c
  other e = let i = tree.inside q s there in omega (arith, e, number, i.1)

  at_child : new c ≡ Some t
  at_child = set_there q low mid c (λ e. other (sym e)) ∙ set_here c t img

  at_page : new q ≡ Some low
  at_page = set_here q low mid

  elsewhere : (p : ℕ) → p ≢ q → p ≢ c → new p ≡ img p
  elsewhere p d e = set_there q low mid p d ∙ set_there c t img p e

  from : (p : ℕ) (u : PageState) → new p ≡ Some u → ((p ≡ q) × (low ≡ u)) ⊎ (((p ≡ c) × (t ≡ u)) ⊎ ((p ≢ q) × (p ≢ c) × (img p ≡ Some u)))
  from p u h = elim (at_set q low mid p u h) [
    | inl e ↦ inl e
    | inr d ↦ elim (at_set c t img p u d.1) [ inl e ↦ inr (inl e) | inr f ↦ inr (inr (d.0, f.0, f.1)) ]
  ]

  same_end : own_end t ≡ own_end s
  same_end = λ i. end_by (can.foster i) (can.high i)

  low_above : is_below s.low at ≡ true
  low_above = low_under s.level (own_part s) at s.rows old.rows can.stays

  at_below_end : is_below at (own_end s) ≡ true
  at_below_end = ap (is_below at) (sym same_end) ∙ low_below_end at t.high t.foster rules.fences rules.foster

  low_keeps : KeepsState low
  low_keeps = record {
    level = old.level;
    texts = old.texts;
    fences = old.fences;
    foster = and_from _ _ (and_from _ _ (ap (is_below s.low) (sym at_is) ∙ low_above) (ap (λ (b : Option (List ℕ)). is_below b s.high) (sym at_is) ∙ ap (is_below at) (sym can.high) ∙ rules.fences)) (and_from _ _ (and_parts _ _ rules.texts).0 child);
    rows = subst (λ (b : Option (List ℕ)). KeepsRows s.level (record { low = s.low; high = b }) (lower_rows at s.rows)) at_is (lower_keeps s.level (own_part s) at s.rows old.rows can.stays);
    size = size;
  }

  -- ---- pointers

  abbrev lower : List Pointer
  lower = row_pointers (s.level - 1) (Some k) (branch_rows (lower_rows at s.rows))

  abbrev upper : List Pointer
  upper = row_pointers (s.level - 1) (own_end s) (branch_rows (upper_rows at s.rows))

  abbrev foster : List Pointer
  foster = foster_pointers s.level s.high s.foster

  abbrev to_child : Pointer
  to_child = record { child = c; fence = record { level = s.level; low = Some k; high = s.high } }

  before : pointers s ≡ (lower ++ upper) ++ foster
  before =
      let e = rows_cut (s.level - 1) s.level t.level (own_end s) at (own_part s) (own_part t) s.rows old.rows (subst (KeepsRows t.level (own_part t)) can.upper rules.rows) refl in
      ap (λ (ps : List Pointer). ps ++ foster) (e ∙ ap (λ (b : Option (List ℕ)). row_pointers (s.level - 1) b (branch_rows (lower_rows at s.rows)) ++ upper) at_is)

  of_child : pointers t ≡ upper ++ foster
  of_child = λ i. row_pointers (can.level i - 1) (same_end i) (branch_rows (can.upper i)) ++ foster_pointers (can.level i) (can.high i) (can.foster i)

  child_fence : fence_of t ≡ record { level = s.level; low = Some k; high = s.high }
  child_fence = λ i. record { level = can.level i; low = at_is i; high = can.high i }

  fence_kept : (p : ℕ) → p ≢ c → fence_at new p ≡ fence_at img p
  fence_kept p d = elim (cases_eq p q) [
    | inl e ↦ ap (λ (y : ℕ). fence_at new y) e ∙ ap (option_map fence_of) at_page ∙ sym (ap (option_map fence_of) there) ∙ sym (ap (λ (y : ℕ). fence_at img y) e)
    | inr f ↦ ap (option_map fence_of) (elsewhere p f d)
  ]

  kept : (ps : List Pointer) → AllAgree img ps → AllAgree new ps
  kept ps a = agree_moved img new ps (λ p f l e. elim (cases_eq p c) [
    | inl g ↦ absurd (no_fence (img p) f (ap img g ∙ fresh) e)
    | inr d ↦ fence_kept p d ∙ e
  ]) a

  of_page : AllAgree img ((lower ++ upper) ++ foster)
  of_page = subst (AllAgree img) before (tree.agrees q s there)

  agrees : (p : ℕ) (u : PageState) → new p ≡ Some u → AllAgree new (pointers u)
  agrees p u h =
      let parts = agree_parts img (lower ++ upper) foster of_page in
      let rows = agree_parts img lower upper parts.0 in
      elim (from p u h) [
        | inl e ↦ subst (λ (y : PageState). AllAgree new (pointers y)) e.1 (agree_append new lower (to_child ∷ []) (kept lower rows.0) (ap (option_map fence_of) at_child ∙ ap Some child_fence, tt))
        | inr d ↦ elim d [
          | inl e ↦ subst (λ (y : PageState). AllAgree new (pointers y)) e.1 (subst (AllAgree new) (sym of_child) (agree_append new upper foster (kept upper rows.1) (kept foster parts.1)))
          | inr f ↦ kept (pointers u) (tree.agrees p u f.2)
        ]
      ]

  counted : (y : ℕ) → count_to y (pointers low) + count_to y (pointers t) ≡ count_to y (pointers s) + one_if (eqb c y)
  counted y =
      let a = ap (count_to y) before in
      let a' = count_append y (lower ++ upper) foster in
      let a'' = count_append y lower upper in
      let b = ap (count_to y) of_child in
      let b' = count_append y upper foster in
      let d = count_append y lower (to_child ∷ []) in
      omega (arith, a, a', a'', b, b', d)

  once : (y : ℕ) → incoming new (suc n) y ≡ one_if (nat_le 2 y && nat_le y (suc n))
  once y =
      let i = tree.inside q s there in
      let a = incoming_set img new n y q i.0 i.1 (λ p u d. elsewhere p d (λ e. omega (arith, u, e, number))) in
      let b = ap (count_at y) there in
      let b' = ap (count_at y) at_page in
      let b'' = ap (count_at y) (ap new (sym number) ∙ at_child) in
      let d = counted y in
      let o = tree.once y in
      let m = one_more n y tree.some in
      let z = ap (λ (w : ℕ). one_if (eqb w y)) number in
      omega (arith, a, b, b', b'', d, o, m, z)

  -- ---- leaves

  abbrev place : List ℕ → ℕ → ℕ
  place key p = cond (eqb p q) (cond (is_below (Some key) at) q c) p

  place_page : (key : List ℕ) (b : Bool) → is_below (Some key) at ≡ b → place key q ≡ cond b q c
  place_page key b e = ap (λ (z : Bool). cond z (cond (is_below (Some key) at) q c) q) (eq-eqb q q refl) ∙ ap (λ (z : Bool). cond z q c) e

  back : (key : List ℕ) (a : LeafOf new key) → (b : LeafOf img key) × (a.page ≡ place key b.page) × (live (leaf_rows a.state.rows) key ≡ live (leaf_rows b.state.rows) key)
  back key a = elim (from a.page a.state a.image) [
    | inl e ↦
        let rows : lower_rows at s.rows ≡ a.state.rows = ap (λ (y : PageState). y.rows) e.1 in
        let own = in_parts (own_part low) key (ap (λ (y : PageState). has_own y key) e.1 ∙ a.own) in
        let below : is_below (Some key) at ≡ true = ap (is_below (Some key)) at_is ∙ own.1 in (
          record { page = q; state = s; image = there; leaf = was_leaf_lower at s.rows (leaf_rows a.state.rows) (rows ∙ a.leaf); own = in_from (own_part s) key own.0 (below_trans (Some key) at (own_end s) below at_below_end) },
          e.0 ∙ sym (place_page key true below),
          ap (λ (r : Rows). live (leaf_rows r) key) (sym rows) ∙ live_lower at s.rows key below,
        )
    | inr d ↦ elim d [
      | inl e ↦
          let rows : upper_rows at s.rows ≡ a.state.rows = sym can.upper ∙ ap (λ (y : PageState). y.rows) e.1 in
          let own = in_parts (own_part t) key (ap (λ (y : PageState). has_own y key) e.1 ∙ a.own) in (
            record { page = q; state = s; image = there; leaf = was_leaf_upper at s.rows (leaf_rows a.state.rows) (rows ∙ a.leaf); own = in_from (own_part s) key (not_under key s.low at own.0 low_above) (ap (is_below (Some key)) (sym same_end) ∙ own.1) },
            e.0 ∙ sym (place_page key false own.0),
            ap (λ (r : Rows). live (leaf_rows r) key) (sym rows) ∙ live_upper at s.rows key own.0,
          )
      | inr f ↦ (
        record { page = a.page; state = a.state; image = f.2; leaf = a.leaf; own = a.own },
        sym (ap (λ (z : Bool). cond z (cond (is_below (Some key) at) q c) a.page) (ne_eqb a.page q f.0)),
        refl,
      )
    ]
  ]

  covers : (key : List ℕ) → LeafOf new key
  covers key = let a = tree.covers key in elim (cases_eq a.page q) [
    | inl e ↦
        let same : s ≡ a.state = inside_some s a.state (sym there ∙ sym (ap img e) ∙ a.image) in
        let leaf : s.rows ≡ Leaf (leaf_rows s.rows) = subst (λ (y : PageState). y.rows ≡ Leaf (leaf_rows y.rows)) (sym same) a.leaf in
        let own = in_parts (own_part s) key (ap (λ (y : PageState). has_own y key) same ∙ a.own) in
        by leaf own (is_below (Some key) at) refl
    | inr d ↦
        let i = tree.inside a.page a.state a.image in
        record { page = a.page; state = a.state; image = elsewhere a.page d (λ e. omega (arith, e, number, i.1)) ∙ a.image; leaf = a.leaf; own = a.own }
  ]
    where
      by : s.rows ≡ Leaf (leaf_rows s.rows) → (is_below (Some key) s.low ≡ false) × (is_below (Some key) (own_end s) ≡ true) → (b : Bool) → is_below (Some key) at ≡ b → LeafOf new key
      by leaf own true e = record { page = q; state = low; image = at_page; leaf = leaf_lower at s.rows leaf; own = in_from (own_part low) key own.0 (ap (is_below (Some key)) (sym at_is) ∙ e) }
      by leaf own false e = record { page = c; state = t; image = at_child; leaf = can.upper ∙ leaf_upper at s.rows leaf ∙ ap (λ (r : Rows). Leaf (leaf_rows r)) (sym can.upper); own = in_from (own_part t) key e (ap (is_below (Some key)) same_end ∙ own.1) }

  pub Tree_split : Tree new (suc n) v
  Tree_split = record {
    some = omega arith;
    inside = λ p u h. elim (from p u h) [
      | inl e ↦ let i = tree.inside q s there in (omega (arith, e.0, i.0), omega (arith, e.0, i.1))
      | inr d ↦ elim d [ inl e ↦ (omega (arith, e.0, number), omega (arith, e.0, number)) | inr f ↦ let i = tree.inside p u f.2 in (i.0, omega (arith, i.1)) ]
    ];
    made = λ p l u. elim (cases_eq p q) [
      | inl e ↦ ap (λ (y : ℕ). is_some (new y)) e ∙ ap is_some at_page
      | inr d ↦ elim (cases_eq p c) [
        | inl e ↦ ap (λ (y : ℕ). is_some (new y)) e ∙ ap is_some at_child
        | inr f ↦ ap is_some (elsewhere p d f) ∙ tree.made p l (omega (arith, u, f, number))
      ]
    ];
    keeps = λ p u h. elim (from p u h) [
      | inl e ↦ subst KeepsState e.1 low_keeps
      | inr d ↦ elim d [ inl e ↦ subst KeepsState e.1 rules | inr f ↦ tree.keeps p u f.2 ]
    ];
    root = λ u h. elim (from 1 u h) [
      | inl e ↦
          let r = tree.root s (ap img e.0 ∙ there) in
          (sym (ap (λ (y : PageState). y.low) e.1) ∙ r.0, sym (ap (λ (y : PageState). y.high) e.1) ∙ r.1)
      | inr d ↦ elim d [ inl e ↦ absurd (let l = tree.some in omega (arith, e.0, number, l)) | inr f ↦ tree.root u f.2 ]
    ];
    once = once;
    agrees = agrees;
    covers = covers;
    apart = λ key a b. let y = back key a in let z = back key b in y.1 ∙ ap (place key) (tree.apart key y.0 z.0) ∙ sym z.1;
    values = λ key a. let y = back key a in y.2 ∙ tree.values key y.0;
  }
