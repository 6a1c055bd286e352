-- The walk law.
use Rattle.std.proofs.Common.{◌≡◌, ℕ, zero, suc, ◌+◌, ◌*◌, ◌<◌, ◌≤◌, Bool, true, false, cond, List, Option, Some, None, refl, sym, ap, ◌∙◌, arith, inl, inr, ltb-true}
use Rattle.std.specs.Prelude.{option_and_then, is_some, ◌⊎◌, ◌&&◌}
use Rattle.std.specs.Option.{option_map}
use Rattle.std.proofs.lemmas.Bool.{cases_eq, and_parts}
use Rattle.std.proofs.Math.Nat.{suc-mul, mul-le-mul_right}
use Rattle.store_model.specs.Range.{is_below}
use Rattle.wal_record.specs.State.{KeepsState, has_own, has_within, foster_fits, is_text, is_child, leaf_rows, branch_rows, child_at}
use Rattle.wal_record.specs.Tree.{LeafOf, Tree}
use Rattle.wal_record.specs.declared.page.PageState.{PageState}
use Rattle.wal_record.specs.declared.page.Foster.{Foster}
use Rattle.wal_record.specs.declared.page.Rows.{Rows}
use Rattle.wal_record.specs.declared.page.Rows.TheVariants.{Leaf, Branch}
use Rattle.log_laws.proofs.Locked.{below_trans}
use Rattle.tree_laws.proofs.DescentLaws.{descent}
use Rattle.tree_laws.specs.Descent.{ToChild, ToFoster}
use Rattle.foster_laws.specs.Descents.{next_of, next_page, or_page, walk, WalkLaw}
use Rattle.foster_laws.proofs.CutRows.{not_itself}

-- ---- how many pages begin above a bound

abbrev one_when : Bool → ℕ
one_when b = cond b 1 0

counted : (b : Bool) → b ≡ true → 1 ≤ one_when b
counted true e = omega arith
counted false e = absurd cc

abbrev begins_above : Option (List ℕ) → Option PageState → ℕ
begins_above low None = 0
begins_above low (Some s) = one_when (is_below low s.low)

abbrev above : (ℕ → Option PageState) → ℕ → Option (List ℕ) → ℕ
above img zero low = 0
above img (suc n) low = above img n low + begins_above low (img (suc n))

at_most_one : (low : Option (List ℕ)) (x : Option PageState) → begins_above low x ≤ 1
at_most_one low None = omega arith
at_most_one low (Some s) = by (is_below low s.low)
  where
    by : (b : Bool) → one_when b ≤ 1
    by true = omega arith
    by false = omega arith

above_most : (img : ℕ → Option PageState) (n : ℕ) (low : Option (List ℕ)) → above img n low ≤ n
above_most img zero low = omega arith
above_most img (suc n) low = let r = above_most img n low in let o = at_most_one low (img (suc n)) in omega (arith, r, o)

module _ (img : ℕ → Option PageState) (a b : Option (List ℕ)) (lt : is_below a b ≡ true) where
  fewer : (x : Option PageState) → begins_above b x ≤ begins_above a x
  fewer None = omega arith
  fewer (Some s) = by (is_below b s.low) refl
    where
      by : (c : Bool) → is_below b s.low ≡ c → one_when c ≤ one_when (is_below a s.low)
      by true e = counted (is_below a s.low) (below_trans a b s.low lt e)
      by false e = omega arith

  fewer_all : (n : ℕ) → above img n b ≤ above img n a
  fewer_all zero = omega arith
  fewer_all (suc n) = let r = fewer_all n in let f = fewer (img (suc n)) in omega (arith, r, f)

  -- the page that begins at the greater bound is counted above the other one alone
  fewer_at : (n q : ℕ) (t : PageState) → 1 ≤ q → q ≤ n → img q ≡ Some t → t.low ≡ b → above img n b < above img n a
  fewer_at zero q t low high e is = absurd (omega (arith, low, high))
  fewer_at (suc n) q t low high e is = elim (cases_eq q (suc n)) [
    | inl same ↦
        let there : img (suc n) ≡ Some t = ap img (sym same) ∙ e in
        let x : begins_above b (img (suc n)) ≡ 0 = ap (begins_above b) there ∙ ap (λ (c : Option (List ℕ)). one_when (is_below b c)) is ∙ ap one_when (not_itself b) in
        let y : begins_above a (img (suc n)) ≡ 1 = ap (begins_above a) there ∙ ap (λ (c : Option (List ℕ)). one_when (is_below a c)) is ∙ ap one_when lt in
        let r = fewer_all n in
        omega (arith, x, y, r)
    | inr other ↦
        let r = fewer_at n q t low (omega (arith, high, other)) e is in
        let f = fewer (img (suc n)) in
        omega (arith, r, f)
  ]

-- ---- walks

abbrev rank : (ℕ → Option PageState) → ℕ → PageState → ℕ
rank img n s = s.level * suc n + above img n s.low

-- the page p has the key between its fences
record Way (img : ℕ → Option PageState) (key : List ℕ) (p : ℕ) (s : PageState) : Type 0 where
  image : img p ≡ Some s
  within : has_within s key ≡ true

-- the next page, or none at the leaf of the key
record Goes (img : ℕ → Option PageState) (n : ℕ) (key : List ℕ) (p : ℕ) (s : PageState) : Type 0 where
  page : ℕ
  state : PageState
  next : next_page img key p ≡ Some page
  way : Way img key page state
  less : rank img n state < rank img n s

record Ends (img : ℕ → Option PageState) (key : List ℕ) (p : ℕ) : Type 0 where
  next : next_page img key p ≡ None
  leaf : LeafOf img key
  page : leaf.page ≡ p

either_kind : (rows : Rows) → (rows ≡ Leaf (leaf_rows rows)) ⊎ (rows ≡ Branch (branch_rows rows))
either_kind (Leaf rows) = inl refl
either_kind (Branch rows) = inr refl

rank_less : (l m n a b : ℕ) → l + 1 ≡ m → a ≤ n → l * suc n + a < m * suc n + b
rank_less l m n a b e h =
    let x = suc-mul l (suc n) in
    let y : suc l * suc n ≡ m * suc n = ap (λ (k : ℕ). k * suc n) (omega (arith, e)) in
    omega (arith, x, y, h)

-- the next page, by the part that has the key
pub next_is : (img : ℕ → Option PageState) (key : List ℕ) (p : ℕ) (s : PageState) (b : Bool) → img p ≡ Some s → has_own s key ≡ b
    → next_page img key p ≡ cond b (child_at key (branch_rows s.rows)) (option_map (λ (f : Foster). f.child) s.foster)
next_is img key p s b there own = ap (option_and_then (next_of key)) there ∙ ap (λ (c : Bool). cond c (child_at key (branch_rows s.rows)) (option_map (λ (f : Foster). f.child) s.foster)) own

module _ (img : ℕ → Option PageState) (n : ℕ) (v : List ℕ → Option (List ℕ)) (tree : Tree img n v) (key : List ℕ) where
  to_child : (p : ℕ) (s : PageState) → Way img key p s → has_own s key ≡ true → ToChild img s key → Goes img n key p s
  to_child p s w own c = record {
    page = c.page;
    state = c.state;
    next = next_is img key p s true w.image own ∙ c.row;
    way = record { image = c.image; within = c.within };
    less = rank_less c.state.level s.level n (above img n c.state.low) (above img n s.low) c.level (above_most img n c.state.low);
  }

  rises : (p : ℕ) (s : PageState) → img p ≡ Some s → (f : ToFoster img s key) → is_below s.low f.state.low ≡ true
  rises p s there f =
      let h : foster_fits s.low s.high (Some f.foster) ≡ true = ap (foster_fits s.low s.high) (sym f.there) ∙ (tree.keeps p s there).foster in
      let a = and_parts (is_below s.low (Some f.foster.key) && is_below (Some f.foster.key) s.high) (is_text f.foster.key && is_child f.foster.child) h in
      ap (is_below s.low) f.low ∙ (and_parts (is_below s.low (Some f.foster.key)) (is_below (Some f.foster.key) s.high) a.0).0

  to_foster : (p : ℕ) (s : PageState) → Way img key p s → has_own s key ≡ false → ToFoster img s key → Goes img n key p s
  to_foster p s w out f = record {
    page = f.foster.child;
    state = f.state;
    next = next_is img key p s false w.image out ∙ ap (option_map (λ (f : Foster). f.child)) f.there;
    way = record { image = f.image; within = f.within };
    less =
        let i = tree.inside f.foster.child f.state f.image in
        let a = fewer_at img s.low f.state.low (rises p s w.image f) n f.foster.child f.state i.0 i.1 f.image refl in
        let e : f.state.level * suc n ≡ s.level * suc n = ap (λ (k : ℕ). k * suc n) f.level in
        omega (arith, a, e);
  }

  at_leaf : (p : ℕ) (s : PageState) → Way img key p s → has_own s key ≡ true → s.rows ≡ Leaf (leaf_rows s.rows) → Ends img key p
  at_leaf p s w own leaf = record {
    next = next_is img key p s true w.image own ∙ ap (λ (r : Rows). child_at key (branch_rows r)) leaf;
    leaf = record { page = p; state = s; image = w.image; leaf = leaf; own = own };
    page = refl;
  }

  step : (p : ℕ) (s : PageState) → Way img key p s → Goes img n key p s ⊎ Ends img key p
  step p s w = by (has_own s key) refl
    where
      by : (b : Bool) → has_own s key ≡ b → Goes img n key p s ⊎ Ends img key p
      by false e = inl (to_foster p s w e ((descent img n v tree).foster p s w.image key w.within e))
      by true e = elim (either_kind s.rows) [
        | inl leaf ↦ inr (at_leaf p s w e leaf)
        | inr branch ↦ inl (to_child p s w e ((descent img n v tree).child p s w.image key e branch))
      ]

  stays : (k p : ℕ) → Ends img key p → walk img key k p ≡ p
  stays zero p e = refl
  stays (suc k) p e = ap (λ (o : Option ℕ). walk img key k (or_page o p)) e.next ∙ stays k p e

  reach : (k p : ℕ) (s : PageState) → Way img key p s → (a : LeafOf img key) → rank img n s ≤ k → walk img key k p ≡ a.page
  reach zero p s w a h = elim (step p s w) [
    | inl g ↦ absurd (let l = g.less in omega (arith, l, h))
    | inr e ↦ sym e.page ∙ tree.apart key e.leaf a
  ]
  reach (suc k) p s w a h = elim (step p s w) [
    | inl g ↦ ap (λ (o : Option ℕ). walk img key k (or_page o p)) g.next ∙ reach k g.page g.state g.way a (let l = g.less in omega (arith, l, h))
    | inr e ↦ stays (suc k) p e ∙ sym e.page ∙ tree.apart key e.leaf a
  ]

  keeps_within : (k p : ℕ) (s : PageState) → Way img key p s → (t : PageState) × (img (walk img key k p) ≡ Some t) × (has_within t key ≡ true)
  keeps_within zero p s w = (s, w.image, w.within)
  keeps_within (suc k) p s w = elim (step p s w) [
    | inl g ↦
        let r = keeps_within k g.page g.state g.way in
        (r.0, ap (λ (o : Option ℕ). img (walk img key k (or_page o p))) g.next ∙ r.1, r.2)
    | inr e ↦ (s, ap img (stays (suc k) p e) ∙ w.image, w.within)
  ]

walk_root : (img : ℕ → Option PageState) (n : ℕ) (v : List ℕ → Option (List ℕ)) → Tree img n v → (key : List ℕ) → (s : PageState) × Way img key 1 s
walk_root img n v tree key = by (img 1) refl (tree.made 1 (omega arith) tree.some)
  where
    by : (o : Option PageState) → img 1 ≡ o → is_some o ≡ true → (s : PageState) × Way img key 1 s
    by None e h = absurd cc
    by (Some s) e h = (s, record { image = e; within = (descent img n v tree).root s e key })

root_rank : (img : ℕ → Option PageState) (n : ℕ) (s : PageState) → KeepsState s → rank img n s ≤ 256 * (n + 1)
root_rank img n s keeps =
    let l : s.level < 256 = ltb-true s.level 256 keeps.level in
    let m : s.level * suc n ≤ 255 * suc n = mul-le-mul_right (suc n) (omega (arith, l)) in
    let a = above_most img n s.low in
    omega (arith, m, a)

pub walk_law : (img : ℕ → Option PageState) (n : ℕ) (v : List ℕ → Option (List ℕ)) (key : List ℕ) → WalkLaw img n v key
walk_law img n v key = record {
  reaches = λ tree a k h.
      let r = walk_root img n v tree key in
      let m = root_rank img n r.0 (tree.keeps 1 r.0 r.1.image) in
      reach img n v tree key k 1 r.0 r.1 a (omega (arith, m, h));
  within = λ tree k. let r = walk_root img n v tree key in keeps_within img n v tree key k 1 r.0 r.1;
}
