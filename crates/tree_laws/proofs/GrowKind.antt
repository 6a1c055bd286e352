-- A root that grows keeps the tree.
use Rattle.std.proofs.Common.{nat_lt, ◌<◌, ◌≡◌, ◌≢◌, ℕ, ◌+◌, ◌-◌, ◌≤◌, suc, Bool, true, false, cond, eqb, List, [], Option, Some, None, refl, sym, ap, subst, ◌∙◌, arith, inl, inr}
use Rattle.std.specs.Prelude.{◌⊎◌, ◌&&◌, nat_le, is_some}
use Rattle.std.specs.Option.{option_map}
use Rattle.std.proofs.lemmas.Bool.Decides.{nat_tests}
use Rattle.std.proofs.lemmas.Bool.{cases_eq, and_from, ne_eqb}
use Rattle.wal_record.specs.State.{page_room, is_child, KeepsState, live, leaf_rows, state_size}
use Rattle.wal_record.specs.declared.page.PageState.{PageState}
use Rattle.wal_record.specs.declared.page.LeafRow.{LeafRow}
use Rattle.wal_record.specs.declared.page.Rows.{Rows}
use Rattle.wal_record.specs.declared.page.Rows.TheVariants.{Leaf, Branch}
use Rattle.wal_record.specs.Tree.{Fence, fence_of, pointers, one_if, count_to, count_at, incoming, AllAgree, LeafOf, Tree}
use Rattle.wal_record.specs.Images.{grown}
use Rattle.tree_laws.proofs.Counts.{set_page, set_here, set_there, at_set, inside_some, incoming_set, count_within, agree_moved}
use Rattle.tree_laws.proofs.Start.{one_more, missing}

-- a page that isn't made has no image
pub not_made : (img : ℕ → Option PageState) (n : ℕ) (v : List ℕ → Option (List ℕ)) → Tree img n v → (p : ℕ) → 1 + n ≤ p → img p ≡ None
not_made img n v tree p l = by (img p) refl
  where
    by : (x : Option PageState) → img p ≡ x → x ≡ None
    by None e = refl
    by (Some s) e = let i = tree.inside p s e in absurd (omega (arith, l, i.1))

pub no_fence : (x : Option PageState) (f : Fence) → x ≡ None → option_map fence_of x ≡ Some f → ⊥
no_fence x f e h = missing f (sym (ap (option_map fence_of) e) ∙ h)

is_leaf : Rows → Bool
is_leaf (Leaf rows) = true
is_leaf (Branch rows) = false

branch_leaf : (s : PageState) (c : ℕ) (rows : List LeafRow) → (grown c s).rows ≡ Leaf rows → ⊥
unfolding is_leaf
branch_leaf s c rows e = let f : false ≡ true = ap is_leaf e in absurd cc

module _ (img : ℕ → Option PageState) (n : ℕ) (v : List ℕ → Option (List ℕ)) (tree : Tree img n v) (s : PageState) (there : img 1 ≡ Some s)
    (deep : s.level < 255) (child : is_child (suc n) ≡ true) (size : state_size (grown (suc n) s) ≤ page_room) where
  abbrev c : ℕ
  c = suc n

  abbrev root : PageState
  root = grown c s

  abbrev mid : ℕ → Option PageState
  mid = set_page c s img

  abbrev new : ℕ → Option PageState
  new = set_page 1 root mid

  fresh : img c ≡ None
  fresh = not_made img n v tree c (omega arith)

  child_not_root : c ≢ 1
  child_not_root e = let l = tree.some in omega (arith, e, l)

  at_child : new c ≡ Some s
  at_child = set_there 1 root mid c child_not_root ∙ set_here c s img

  elsewhere : (p : ℕ) → p ≢ 1 → p ≢ c → new p ≡ img p
  elsewhere p d e = set_there 1 root mid p d ∙ set_there c s img p e

  root_keeps : KeepsState root
  root_keeps = record { level = (let e : nat_lt (s.level + 1) 256 ≡ true = grind (arith, nat_tests) in e); texts = refl; fences = refl; foster = refl; rows = (omega arith, refl, refl, and_from _ _ child refl); size = size }

  root_fence : fence_of s ≡ record { level = s.level + 1 - 1; low = Some []; high = None }
  root_fence = let r = tree.root s there in λ i. record { level = (let e : s.level ≡ s.level + 1 - 1 = omega arith in e) i; low = r.0 i; high = r.1 i }

  -- where an image is from: the root, the child, or as before
  from : (p : ℕ) (t : PageState) → new p ≡ Some t → ((p ≡ 1) × (root ≡ t)) ⊎ (((p ≡ c) × (s ≡ t)) ⊎ ((p ≢ 1) × (p ≢ c) × (img p ≡ Some t)))
  from p t h = elim (at_set 1 root mid p t h) [
    | inl e ↦ inl e
    | inr d ↦ elim (at_set c s img p t d.1) [ inl e ↦ inr (inl e) | inr f ↦ inr (inr (d.0, f.0, f.1)) ]
  ]

  once : (x : ℕ) → incoming new c x ≡ one_if (nat_le 2 x && nat_le x c)
  once x =
      let a = incoming_set img new n x 1 (omega arith) tree.some (λ p u d. elsewhere p d (λ e. omega (arith, u, e))) in
      let b = ap (count_at x) there in
      let b' = ap (count_at x) (set_here 1 root mid) in
      let b'' = ap (count_at x) at_child in
      let t = tree.once x in
      let m = one_more n x tree.some in
      omega (arith, a, b, b', b'', t, m)

  -- no page points to the root
  not_to_root : (p : ℕ) (t : PageState) → img p ≡ Some t → (x : ℕ) → 1 ≤ count_to x (pointers t) → x ≢ 1
  not_to_root p t h x l e =
      let i = tree.inside p t h in
      let w = count_within img n x p i.0 i.1 in
      let b = ap (count_at x) h in
      let o = tree.once x ∙ ap (λ (y : ℕ). one_if (nat_le 2 y && nat_le y n)) e in
      omega (arith, w, b, o, l)

  agrees_before : (p : ℕ) (t : PageState) → img p ≡ Some t → AllAgree new (pointers t)
  agrees_before p t h = agree_moved img new (pointers t) (λ x f l e. elim (cases_eq x c) [
    | inl g ↦ absurd (no_fence (img x) f (ap img g ∙ fresh) e)
    | inr d ↦ ap (option_map fence_of) (elsewhere x (not_to_root p t h x l) d) ∙ e
  ]) (tree.agrees p t h)

  agrees : (p : ℕ) (t : PageState) → new p ≡ Some t → AllAgree new (pointers t)
  agrees p t h = elim (from p t h) [
    | inl e ↦ subst (λ (x : PageState). AllAgree new (pointers x)) e.1 (ap (option_map fence_of) at_child ∙ ap Some root_fence, tt)
    | inr d ↦ elim d [
      | inl e ↦ subst (λ (x : PageState). AllAgree new (pointers x)) e.1 (agrees_before 1 s there)
      | inr f ↦ agrees_before p t f.2
    ]
  ]

  -- where the leaf of a key was before
  abbrev place : ℕ → ℕ
  place p = cond (eqb p 1) c p

  back : (key : List ℕ) (a : LeafOf new key) → (b : LeafOf img key) × (a.page ≡ place b.page) × (b.state ≡ a.state)
  back key a = elim (from a.page a.state a.image) [
    | inl e ↦ absurd (branch_leaf s c (leaf_rows a.state.rows) (ap (λ (x : PageState). x.rows) e.1 ∙ a.leaf))
    | inr d ↦ elim d [
      | inl e ↦ (record { page = 1; state = a.state; image = there ∙ ap Some e.1; leaf = a.leaf; own = a.own }, e.0, refl)
      | inr f ↦ (record { page = a.page; state = a.state; image = f.2; leaf = a.leaf; own = a.own }, sym (set_number f.0), refl)
    ]
  ]
    where
      set_number : a.page ≢ 1 → place a.page ≡ a.page
      set_number d = ap (λ (b : Bool). cond b c a.page) (ne_eqb a.page 1 d)

  covers : (key : List ℕ) → LeafOf new key
  covers key = let a = tree.covers key in elim (cases_eq a.page 1) [
    | inl e ↦
        let same : s ≡ a.state = inside_some s a.state (sym there ∙ sym (ap img e) ∙ a.image) in
        record { page = c; state = a.state; image = at_child ∙ ap Some same; leaf = a.leaf; own = a.own }
    | inr d ↦
        let i = tree.inside a.page a.state a.image in
        record { page = a.page; state = a.state; image = elsewhere a.page d (λ e. omega (arith, e, i.1)) ∙ a.image; leaf = a.leaf; own = a.own }
  ]

  pub Tree_grow : Tree new c v
  Tree_grow = record {
    some = omega arith;
    inside = λ p t h. elim (from p t h) [
      | inl e ↦ (omega (arith, e.0), omega (arith, e.0))
      | inr d ↦ elim d [ inl e ↦ (omega (arith, e.0), omega (arith, e.0)) | inr f ↦ let i = tree.inside p t f.2 in (i.0, omega (arith, i.1)) ]
    ];
    made = λ p l u. elim (cases_eq p 1) [
      | inl e ↦ ap (λ (x : ℕ). is_some (new x)) e ∙ ap is_some (set_here 1 root mid)
      | inr d ↦ elim (cases_eq p c) [
        | inl e ↦ ap (λ (x : ℕ). is_some (new x)) e ∙ ap is_some at_child
        | inr f ↦ ap is_some (elsewhere p d f) ∙ tree.made p l (omega (arith, u, f))
      ]
    ];
    keeps = λ p t h. elim (from p t h) [
      | inl e ↦ subst KeepsState e.1 root_keeps
      | inr d ↦ elim d [ inl e ↦ subst KeepsState e.1 (tree.keeps 1 s there) | inr f ↦ tree.keeps p t f.2 ]
    ];
    root = λ t h. let e : root ≡ t = inside_some root t (sym (set_here 1 root mid) ∙ h) in (sym (ap (λ (x : PageState). x.low) e), sym (ap (λ (x : PageState). x.high) e));
    once = once;
    agrees = agrees;
    covers = covers;
    apart = λ key a b. let x = back key a in let y = back key b in x.1 ∙ ap place (tree.apart key x.0 y.0) ∙ sym y.1;
    values = λ key a. let x = back key a in sym (ap (λ (t : PageState). live (leaf_rows t.rows) key) x.2) ∙ tree.values key x.0;
  }
