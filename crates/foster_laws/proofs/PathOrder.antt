-- Pages before the page in hand.
use Rattle.std.proofs.Common.{◌≡◌, ℕ, ◌+◌, ◌-◌, true, List, Option, Some, None, refl, sym, ap, subst, ◌∙◌, arith, inl, inr}
use Rattle.std.specs.Prelude.{◌&&◌, is_some}
use Rattle.std.specs.Option.{option_map}
use Rattle.std.proofs.lemmas.Bool.{and_parts}
use Rattle.store_model.specs.Range.{is_below}
use Rattle.store_model.proofs.Bools.{not_both}
use Rattle.wal_record.specs.State.{has_own, own_end, branch_rows, child_at, foster_fits, is_text, is_child}
use Rattle.wal_record.specs.Chains.{pages}
use Rattle.wal_record.specs.Tree.{Fence, fence_of, row_pointers, foster_pointers, AllAgree, Tree}
use Rattle.wal_record.specs.Images.{image}
use Rattle.wal_record.specs.declared.page.PageState.{PageState}
use Rattle.wal_record.specs.declared.page.Foster.{Foster}
use Rattle.wal_record.specs.declared.page.Rows.{Rows}
use Rattle.wal_record.specs.declared.page.Rows.TheVariants.{Leaf, Branch}
use Rattle.wal_record.specs.declared.record.Record.{Record}
use Rattle.log_laws.proofs.Locked.{below_trans}
use Rattle.tree_laws.proofs.Counts.{inside_some, agree_parts}
use Rattle.tree_laws.proofs.Start.{missing}
use Rattle.tree_laws.proofs.DescentLaws.{descent}
use Rattle.tree_laws.proofs.Whole.{tree}
use Rattle.foster_laws.proofs.CutRows.{not_itself}
use Rattle.foster_laws.specs.Tidy.{IsFull}
use Rattle.foster_laws.specs.Paths.{TidyPath}
use Rattle.foster_laws.specs.PathRecords.{IsBefore, PathStaysLaw}

pub not_before_itself : (s : PageState) → IsBefore s s → ⊥
not_before_itself s b = elim b [
  | inl h ↦ omega (arith, h)
  | inr h ↦ not_both (is_below s.low s.low) h.1 (not_itself s.low)
]

pub before_trans : (a b c : PageState) → IsBefore a b → IsBefore b c → IsBefore a c
before_trans a b c x y = elim x [
  | inl h ↦ elim y [
    | inl g ↦ inl (omega (arith, h, g))
    | inr g ↦ let e = g.0 in inl (omega (arith, h, e))
  ]
  | inr h ↦ elim y [
    | inl g ↦ let e = h.0 in inl (omega (arith, e, g))
    | inr g ↦ inr (g.0 ∙ h.0, below_trans a.low b.low c.low h.1 g.1)
  ]
]

is_branch : (key : List ℕ) (rows : Rows) (q : ℕ) → child_at key (branch_rows rows) ≡ Some q → rows ≡ Branch (branch_rows rows)
is_branch key (Leaf rows) q e = absurd (missing q e)
is_branch key (Branch rows) q e = refl

fence_state : (x : Option PageState) (t : PageState) (f : Fence) → x ≡ Some t → option_map fence_of x ≡ Some f → fence_of t ≡ f
fence_state x t f a b = inside_some (fence_of t) f (ap (option_map fence_of) (sym a) ∙ b)

module _ (img : ℕ → Option PageState) (n : ℕ) (v : List ℕ → Option (List ℕ)) (tree : Tree img n v) (key : List ℕ) where
  child_behind : (p q : ℕ) (s t : PageState) → img p ≡ Some s → has_own s key ≡ true → child_at key (branch_rows s.rows) ≡ Some q → img q ≡ Some t → IsBefore s t
  child_behind p q s t here own row there =
      let c = (descent img n v tree).child p s here key own (is_branch key s.rows q row) in
      let to : c.page ≡ q = inside_some c.page q (sym c.row ∙ row) in
      let same : c.state ≡ t = inside_some c.state t (sym c.image ∙ ap img to ∙ there) in
      let level : t.level + 1 ≡ s.level = subst (λ (x : PageState). x.level + 1 ≡ s.level) same c.level in
      inl (omega (arith, level))

  foster_behind : (p q : ℕ) (s t : PageState) → img p ≡ Some s → option_map (λ (f : Foster). f.child) s.foster ≡ Some q → img q ≡ Some t → IsBefore s t
  foster_behind p q s t here to there = by s.foster refl
    where
      by : (o : Option Foster) → s.foster ≡ o → IsBefore s t
      by None e = absurd (missing q (sym (ap (option_map (λ (f : Foster). f.child)) e) ∙ to))
      by (Some f) e =
          let parts = agree_parts img (row_pointers (s.level - 1) (own_end s) (branch_rows s.rows)) (foster_pointers s.level s.high s.foster) (tree.agrees p s here) in
          let a : AllAgree img (foster_pointers s.level s.high (Some f)) = subst (λ (x : Option Foster). AllAgree img (foster_pointers s.level s.high x)) e parts.1 in
          let child : f.child ≡ q = inside_some f.child q (sym (ap (option_map (λ (f : Foster). f.child)) e) ∙ to) in
          let fence = fence_state (img f.child) t (record { level = s.level; low = Some f.key; high = s.high }) (ap img child ∙ there) a.0 in
          let fits : foster_fits s.low s.high (Some f) ≡ true = ap (foster_fits s.low s.high) (sym e) ∙ (tree.keeps p s here).foster in
          let both = and_parts (is_below s.low (Some f.key) && is_below (Some f.key) s.high) (is_text f.key && is_child f.child) fits in
          let above = and_parts (is_below s.low (Some f.key)) (is_below (Some f.key) s.high) both.0 in
          inr (ap (λ (x : Fence). x.level) fence, ap (λ (x : Fence). is_below s.low x.low) fence ∙ above.0)

  -- the same path in later images
  module _ (img' : ℕ → Option PageState) (full full' : Type 0) (fuller : full → full') where
    pub moved : (p : ℕ) → TidyPath img full key p → (s s' : PageState) → img p ≡ Some s → img' p ≡ Some s' → s'.level ≡ s.level → s'.foster ≡ s.foster
        → ((x : ℕ) (u : PageState) → img x ≡ Some u → IsBefore u s → img' x ≡ Some u) → TidyPath img' full' key p
    moved _ (TidyPath.root c) s s' here here' level foster same = TidyPath.root (λ t there some.
        let is : t ≡ s' = inside_some t s' (sym there ∙ here') in
        elim (c s here (ap is_some (sym foster) ∙ ap (λ (x : PageState). is_some x.foster) (sym is) ∙ some)) [
          | inl h ↦ inl (ap (λ (x : PageState). x.level) is ∙ level ∙ h)
          | inr h ↦ inr (fuller h)
        ])
    moved _ (TidyPath.child p q u rest at own row c) s s' here here' level foster same =
        let b = child_behind p q u s at own row here in
        let at' = same p u at b in
        let before = moved p rest u u at at' refl refl (λ x w is y. same x w is (before_trans w u s y b)) in
        TidyPath.child p q u before at' own row (λ t there f some.
        let is : t ≡ s' = inside_some t s' (sym there ∙ here') in
        let found = c s here f (sym foster ∙ ap (λ (x : PageState). x.foster) (sym is) ∙ some) in
        (fuller found.0, found.1))
    moved _ (TidyPath.foster p q u rest at out to) s s' here here' level foster same =
        let b = foster_behind p q u s at to here in
        let at' = same p u at b in
        let before = moved p rest u u at at' refl refl (λ x w is y. same x w is (before_trans w u s y b)) in
        TidyPath.foster p q u before at' out to

pub path_stays_law : (old new : List Record) (key : List ℕ) (p : ℕ) (s : PageState) → PathStaysLaw old new key p s
path_stays_law old new key p s = record {
  tidy = λ lawful some here stays path. moved (image old) (pages old) _ (tree old lawful some) key (image new) (IsFull old) (IsFull new) stays.full p path s stays.state here stays.here stays.level stays.foster stays.before;
}
