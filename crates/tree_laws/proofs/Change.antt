-- What a change of one leaf's rows keeps.
use Rattle.std.proofs.Common.{◌≡◌, ◌≢◌, ℕ, ◌-◌, Bool, true, false, List, ◌++◌, Option, Some, refl, sym, ap, subst, ◌∙◌, arith, inl, inr}
use Rattle.std.specs.Prelude.{is_some}
use Rattle.std.specs.Option.{option_map}
use Rattle.std.proofs.lemmas.Bool.{cases_eq}
use Rattle.wal_record.specs.declared.page.PageState.{PageState}
use Rattle.wal_record.specs.declared.page.LeafRow.{LeafRow}
use Rattle.wal_record.specs.declared.page.Rows.{Rows}
use Rattle.wal_record.specs.declared.page.Rows.TheVariants.{Leaf}
use Rattle.wal_record.specs.Tree.{fence_of, pointers, row_pointers, foster_pointers, count_to, count_at, fence_at, AllAgree, LeafOf, Tree}
use Rattle.wal_record.specs.State.{KeepsState, has_own, live, leaf_rows, branch_rows, own_end}
use Rattle.tree_laws.proofs.Counts.{set_page, set_here, set_there, inside_some, at_set, incoming_same, agree_moved}

abbrev pub with_rows : PageState → List LeafRow → PageState
with_rows s rows = record s { rows = Leaf rows }

pub same_pointers : (s : PageState) (rows : List LeafRow) → s.rows ≡ Leaf (leaf_rows s.rows) → pointers (with_rows s rows) ≡ pointers s
same_pointers s rows h = ap (λ (x : Rows). row_pointers (s.level - 1) (own_end s) (branch_rows x) ++ foster_pointers s.level s.high s.foster) (sym h)

module _ (img : ℕ → Option PageState) (n : ℕ) (v w : List ℕ → Option (List ℕ)) (tree : Tree img n v) (q : ℕ) (s : PageState) (rows : List LeafRow)
    (there : img q ≡ Some s) (leaf : s.rows ≡ Leaf (leaf_rows s.rows)) (keeps : KeepsState (with_rows s rows))
    (inner : (key : List ℕ) → has_own s key ≡ true → live rows key ≡ w key) (outer : (key : List ℕ) → has_own s key ≡ false → w key ≡ v key) where
  abbrev new : ℕ → Option PageState
  new = set_page q (with_rows s rows) img

  fence_same : (c : ℕ) → fence_at new c ≡ fence_at img c
  fence_same c = elim (cases_eq c q) [
    | inl e ↦ ap (λ (x : ℕ). fence_at new x) e ∙ ap (option_map fence_of) (set_here q (with_rows s rows) img) ∙ sym (ap (option_map fence_of) there) ∙ sym (ap (λ (x : ℕ). fence_at img x) e)
    | inr d ↦ ap (option_map fence_of) (set_there q (with_rows s rows) img c d)
  ]

  count_same : (c p : ℕ) → count_at c (new p) ≡ count_at c (img p)
  count_same c p = elim (cases_eq p q) [
    | inl e ↦ ap (λ (x : ℕ). count_at c (new x)) e ∙ ap (count_at c) (set_here q (with_rows s rows) img) ∙ ap (count_to c) (same_pointers s rows leaf) ∙ sym (ap (count_at c) there) ∙ sym (ap (λ (x : ℕ). count_at c (img x)) e)
    | inr d ↦ ap (count_at c) (set_there q (with_rows s rows) img p d)
  ]

  agrees : (p : ℕ) (t : PageState) → new p ≡ Some t → AllAgree new (pointers t)
  agrees p t h = agree_moved img new (pointers t) (λ c f l e. fence_same c ∙ e) (elim (at_set q (with_rows s rows) img p t h) [
    | inl e ↦ subst (λ (x : PageState). AllAgree img (pointers x)) e.1 (subst (AllAgree img) (sym (same_pointers s rows leaf)) (tree.agrees q s there))
    | inr d ↦ tree.agrees p t d.1
  ])

  there_own : (t : PageState) (key : List ℕ) → with_rows s rows ≡ t → has_own t key ≡ true → has_own s key ≡ true
  there_own t key e h = ap (λ (x : PageState). has_own x key) e ∙ h

  abbrev at_q : (key : List ℕ) → has_own s key ≡ true → LeafOf img key
  at_q key h = record { page = q; state = s; image = there; leaf = leaf; own = h }

  back : (key : List ℕ) (a : LeafOf new key) → (b : LeafOf img key) × (b.page ≡ a.page)
  back key a = elim (at_set q (with_rows s rows) img a.page a.state a.image) [
    | inl e ↦ (at_q key (there_own a.state key e.1 a.own), sym e.0)
    | inr d ↦ (record { page = a.page; state = a.state; image = d.1; leaf = a.leaf; own = a.own }, refl)
  ]

  covers : (key : List ℕ) → LeafOf new key
  covers key = let a = tree.covers key in elim (cases_eq a.page q) [
    | inl e ↦
        let same : a.state ≡ s = inside_some a.state s (sym a.image ∙ ap img e ∙ there) in
        record { page = q; state = with_rows s rows; image = set_here q (with_rows s rows) img; leaf = refl; own = sym (ap (λ (x : PageState). has_own x key) same) ∙ a.own }
    | inr d ↦ record { page = a.page; state = a.state; image = set_there q (with_rows s rows) img a.page d ∙ a.image; leaf = a.leaf; own = a.own }
  ]

  values : (key : List ℕ) (a : LeafOf new key) → live (leaf_rows a.state.rows) key ≡ w key
  values key a = elim (at_set q (with_rows s rows) img a.page a.state a.image) [
    | inl e ↦ sym (ap (λ (x : PageState). live (leaf_rows x.rows) key) e.1) ∙ inner key (there_own a.state key e.1 a.own)
    | inr d ↦
        let b : LeafOf img key = record { page = a.page; state = a.state; image = d.1; leaf = a.leaf; own = a.own } in
        tree.values key b ∙ sym (outer key (by b d.0 (has_own s key) refl))
  ]
    where
      by : (b : LeafOf img key) → b.page ≢ q → (x : Bool) → has_own s key ≡ x → has_own s key ≡ false
      by b d true e = absurd (d (tree.apart key b (at_q key e)))
      by b d false e = e

  pub Tree_leaf : Tree new n w
  Tree_leaf = record {
    some = tree.some;
    inside = λ p t h. elim (at_set q (with_rows s rows) img p t h) [ inl e ↦ let i = tree.inside q s there in (omega (arith, e.0, i.0), omega (arith, e.0, i.1)) | inr d ↦ tree.inside p t d.1 ];
    made = λ p l u. elim (cases_eq p q) [
      | inl e ↦ ap (λ (x : ℕ). is_some (new x)) e ∙ ap is_some (set_here q (with_rows s rows) img)
      | inr d ↦ ap is_some (set_there q (with_rows s rows) img p d) ∙ tree.made p l u
    ];
    keeps = λ p t h. elim (at_set q (with_rows s rows) img p t h) [ inl e ↦ subst KeepsState e.1 keeps | inr d ↦ tree.keeps p t d.1 ];
    root = λ t h. elim (at_set q (with_rows s rows) img 1 t h) [
      | inl e ↦
          let r = tree.root s (ap img e.0 ∙ there) in
          (sym (ap (λ (x : PageState). x.low) e.1) ∙ r.0, sym (ap (λ (x : PageState). x.high) e.1) ∙ r.1)
      | inr d ↦ tree.root t d.1
    ];
    once = λ c. incoming_same img new n c (λ p l u. count_same c p) ∙ tree.once c;
    agrees = agrees;
    covers = covers;
    apart = λ key a b. let x = back key a in let y = back key b in sym x.1 ∙ tree.apart key x.0 y.0 ∙ y.1;
    values = values;
  }
