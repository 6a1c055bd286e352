-- In a tree each step of a descent leads on to the leaf of the key.
use Rattle.std.proofs.Common.{◌≡◌, ℕ, ◌-◌, zero, suc, Bool, true, false, cond, List, [], ◌∷◌, Option, Some, None, refl, sym, ap, subst, ◌∙◌, arith}
use Rattle.std.specs.Prelude.{◌&&◌, not, slice_get}
use Rattle.std.specs.Option.{option_map}
use Rattle.store_model.specs.Range.{Interval, is_below, has_key}
use Rattle.wal_record.specs.declared.page.PageState.{PageState}
use Rattle.wal_record.specs.declared.page.BranchRow.{BranchRow}
use Rattle.wal_record.specs.declared.page.Foster.{Foster}
use Rattle.wal_record.specs.declared.page.Rows.TheVariants.{Branch}
use Rattle.wal_record.specs.Tree.{Fence, Pointer, fence_of, row_pointers, foster_pointers, first_low, fence_at, AllAgree, Tree}
use Rattle.wal_record.specs.State.{KeepsRows, IsFirst, has_own, own_part, own_end, end_by, branch_rows, child_at, or_child, has_within}
use Rattle.tree_laws.specs.Descent.{ToChild, ToFoster, Descent}
use Rattle.store_model.proofs.Bools.{not_both}
use Rattle.tree_laws.proofs.Keys.{in_parts, in_from}
use Rattle.tree_laws.proofs.Counts.{inside_some, agree_parts}
use Rattle.tree_laws.proofs.Start.{missing}

abbrev range : Fence → Interval
range f = record { low = f.low; high = f.high }

record Covering (img : ℕ → Option PageState) (l : ℕ) (rows : List BranchRow) (key : List ℕ) : Type 0 where
  page : ℕ
  fence : Fence
  row : child_at key rows ≡ Some page
  image : fence_at img page ≡ Some fence
  level : fence.level ≡ l
  has : has_key (range fence) key ≡ true

before_first : (key : List ℕ) (end : Option (List ℕ)) (rows : List BranchRow) → is_below (Some key) (first_low end rows) ≡ true → child_at key rows ≡ None
before_first key end [] h = refl
before_first key end (row ∷ rows) h = ap (λ (b : Bool). cond b None (or_child (child_at key rows) row.child)) h

here : (img : ℕ → Option PageState) (l : ℕ) (end : Option (List ℕ)) (key : List ℕ) (row : BranchRow) (rows : List BranchRow) → AllAgree img (row_pointers l end (row ∷ rows)) → is_below (Some key) row.low ≡ false → is_below (Some key) (first_low end rows) ≡ true → Covering img l (row ∷ rows) key
here img l end key row rows a n h = record {
  page = row.child;
  fence = record { level = l; low = row.low; high = first_low end rows };
  row = ap (λ (b : Bool). cond b None (or_child (child_at key rows) row.child)) n ∙ ap (λ (o : Option ℕ). or_child o row.child) (before_first key end rows h);
  image = a.0;
  level = refl;
  has = in_from (record { low = row.low; high = first_low end rows }) key n h;
}

further : (img : ℕ → Option PageState) (l : ℕ) (key : List ℕ) (row : BranchRow) (rows : List BranchRow) → is_below (Some key) row.low ≡ false → Covering img l rows key → Covering img l (row ∷ rows) key
further img l key row rows n c = record {
  page = c.page;
  fence = c.fence;
  row = ap (λ (b : Bool). cond b None (or_child (child_at key rows) row.child)) n ∙ ap (λ (o : Option ℕ). or_child o row.child) c.row;
  image = c.image;
  level = c.level;
  has = c.has;
}

-- the first separator isn't above the key
reaches : (img : ℕ → Option PageState) (l : ℕ) (end : Option (List ℕ)) (key : List ℕ) (row : BranchRow) (rows : List BranchRow) → AllAgree img (row_pointers l end (row ∷ rows)) → is_below (Some key) row.low ≡ false → is_below (Some key) end ≡ true → Covering img l (row ∷ rows) key
reaches img l end key row [] a n h = here img l end key row [] a n h
reaches img l end key row (next ∷ rows) a n h = by (is_below (Some key) next.low) refl (λ m. reaches img l end key next rows a.1 m h)
  where
    by : (b : Bool) → is_below (Some key) next.low ≡ b → (is_below (Some key) next.low ≡ false → Covering img l (next ∷ rows) key) → Covering img l (row ∷ next ∷ rows) key
    by true e rest = here img l end key row (next ∷ rows) a n e
    by false e rest = further img l key row (next ∷ rows) n (rest e)

covering : (img : ℕ → Option PageState) (l : ℕ) (part : Interval) (key : List ℕ) (rows : List BranchRow) → IsFirst part.low rows → AllAgree img (row_pointers l part.high rows) → has_key part key ≡ true → Covering img l rows key
covering img l part key [] f a h = absurd f
covering img l part key (row ∷ rows) f a h = let p = in_parts part key h in reaches img l part.high key row rows a (ap (is_below (Some key)) f ∙ p.0) p.1

agree_at : (img : ℕ → Option PageState) (ps : List Pointer) (i : ℕ) (x : Pointer) → AllAgree img ps → slice_get ps i ≡ Some x → fence_at img x.child ≡ Some x.fence
agree_at img [] i x a e = absurd (missing x e)
agree_at img (p ∷ ps) zero x a e = let f : p ≡ x = inside_some p x e in subst (λ (y : Pointer). fence_at img y.child ≡ Some y.fence) f a.0
agree_at img (p ∷ ps) (suc i) x a e = agree_at img ps i x a.1 e

record With (x : Option PageState) (f : Fence) : Type 0 where
  state : PageState
  image : x ≡ Some state
  fence : fence_of state ≡ f

with_fence : (x : Option PageState) (f : Fence) → option_map fence_of x ≡ Some f → With x f
with_fence None f h = absurd (missing f h)
with_fence (Some s) f h = record { state = s; image = refl; fence = inside_some _ _ h }

module _ (img : ℕ → Option PageState) (n : ℕ) (v : List ℕ → Option (List ℕ)) (tree : Tree img n v) where
  to_child : (p : ℕ) (s : PageState) → img p ≡ Some s → (key : List ℕ) → has_own s key ≡ true → s.rows ≡ Branch (branch_rows s.rows) → ToChild img s key
  to_child p s h key own branch =
      let k : KeepsRows s.level (own_part s) (Branch (branch_rows s.rows)) = subst (KeepsRows s.level (own_part s)) branch ((tree.keeps p s h).rows) in
      let a = agree_parts img (row_pointers (s.level - 1) (own_end s) (branch_rows s.rows)) (foster_pointers s.level s.high s.foster) (tree.agrees p s h) in
      let c = covering img (s.level - 1) (own_part s) key (branch_rows s.rows) k.1 a.0 own in
      let w = with_fence (img c.page) c.fence c.image in
      let e : w.state.level ≡ s.level - 1 = ap (λ (f : Fence). f.level) w.fence ∙ c.level in
      let low = k.0 in
      record { page = c.page; state = w.state; row = c.row; image = w.image; level = omega (arith, e, low); within = ap (λ (f : Fence). has_key (range f) key) w.fence ∙ c.has }

  to_foster : (p : ℕ) (s : PageState) → img p ≡ Some s → (key : List ℕ) → has_within s key ≡ true → has_own s key ≡ false → ToFoster img s key
  to_foster p s h key inside out = by s.foster refl
    where
      by : (o : Option Foster) → s.foster ≡ o → ToFoster img s key
      by None e = absurd (not_both _ inside (ap (λ (x : Option (List ℕ)). has_key (record { low = s.low; high = x }) key) (sym (ap (λ (x : Option Foster). end_by x s.high) e)) ∙ out))
      by (Some f) e =
          let parts = agree_parts img (row_pointers (s.level - 1) (own_end s) (branch_rows s.rows)) (foster_pointers s.level s.high s.foster) (tree.agrees p s h) in
          let a : AllAgree img (foster_pointers s.level s.high (Some f)) = subst (λ (x : Option Foster). AllAgree img (foster_pointers s.level s.high x)) e parts.1 in
          let w = with_fence (img f.child) (record { level = s.level; low = Some f.key; high = s.high }) a.0 in
          let i = in_parts (record { low = s.low; high = s.high }) key inside in
          let o : has_key (record { low = s.low; high = Some f.key }) key ≡ false = ap (λ (x : Option (List ℕ)). has_key (record { low = s.low; high = x }) key) (sym (ap (λ (x : Option Foster). end_by x s.high) e)) ∙ out in
          record {
            foster = f;
            state = w.state;
            there = e;
            image = w.image;
            level = ap (λ (x : Fence). x.level) w.fence;
            low = ap (λ (x : Fence). x.low) w.fence;
            high = ap (λ (x : Fence). x.high) w.fence;
            within = ap (λ (x : Fence). has_key (range x) key) w.fence ∙ in_from (record { low = Some f.key; high = s.high }) key (behind (is_below (Some key) s.low) (is_below (Some key) (Some f.key)) i.0 o) i.1;
          }
        where
          behind : (a b : Bool) → a ≡ false → (not a && b) ≡ false → b ≡ false
          behind true b x y = absurd cc
          behind false b x y = y

  all_within : (s : PageState) → img 1 ≡ Some s → (key : List ℕ) → has_within s key ≡ true
  all_within s h key =
      let r = tree.root s h in
      ap (λ (x : Option (List ℕ)). has_key (record { low = x; high = s.high }) key) r.0 ∙ ap (λ (x : Option (List ℕ)). has_key (record { low = Some []; high = x }) key) r.1 ∙ every key
    where
      every : (k : List ℕ) → has_key (record { low = Some []; high = None }) k ≡ true
      every [] = refl
      every (b ∷ bs) = refl

  pub descent : Descent img v
  descent = record {
    root = all_within;
    slot = λ p s h i x e. agree_at img (row_pointers (s.level - 1) (own_end s) (branch_rows s.rows)) i x (agree_parts img (row_pointers (s.level - 1) (own_end s) (branch_rows s.rows)) (foster_pointers s.level s.high s.foster) (tree.agrees p s h)).0 e;
    child = to_child;
    foster = to_foster;
    leaf = λ p s h key own leaf. tree.values key (record { page = p; state = s; image = h; leaf = leaf; own = own });
  }
