-- A descent along a tidy path.
use Rattle.std.proofs.Common.{◌≡◌, ℕ, zero, suc, ◌+◌, ◌<◌, true, false, List, Option, Some, None, refl, sym, ap, subst, ◌∙◌, arith, inl, inr}
use Rattle.std.specs.Prelude.{◌⊎◌, is_some}
use Rattle.std.specs.Option.{option_map}
use Rattle.std.proofs.lemmas.Bool.{cases_eq}
use Rattle.store_model.proofs.Bools.{not_both}
use Rattle.wal_record.specs.State.{has_own, branch_rows, child_at}
use Rattle.wal_record.specs.Images.{image, IsLeafOf}
use Rattle.wal_record.specs.declared.page.PageState.{PageState}
use Rattle.wal_record.specs.declared.page.Foster.{Foster}
use Rattle.wal_record.specs.declared.page.Rows.{Rows}
use Rattle.wal_record.specs.declared.record.Record.{Record}
use Rattle.tree_laws.proofs.Counts.{inside_some}
use Rattle.tree_laws.proofs.Start.{missing}
use Rattle.foster_laws.specs.Descents.{next_page, or_page, walk}
use Rattle.foster_laws.proofs.Walking.{next_is}
use Rattle.foster_laws.specs.Tidy.{IsFull, Crowds, IsTidyRoot, IsTidyAt}
use Rattle.foster_laws.specs.Paths.{TidyPath, PathBeginsLaw, PathGoesOnLaw, PathEndsLaw}

-- ---- beginning and going on

same_page : (img : ℕ → Option PageState) (p : ℕ) (s t : PageState) → img p ≡ Some s → img p ≡ Some t → s ≡ t
same_page img p s t a b = inside_some s t (sym a ∙ b)

no_foster : (f : Option Foster) → f ≡ None → is_some f ≡ true → ⊥
no_foster None e h = cc
no_foster (Some f) e h = cc

pub path_begins_law : (log : List Record) (key : List ℕ) (s : PageState) → PathBeginsLaw log key s
path_begins_law log key s = record {
  single = λ here none. TidyPath.root (λ t there some. absurd (no_foster t.foster (ap (λ (x : PageState). x.foster) (same_page (image log) 1 t s there here) ∙ none) some));
  highest = λ here level. TidyPath.root (λ t there some. inl (ap (λ (x : PageState). x.level) (same_page (image log) 1 t s there here) ∙ level));
  full = λ full. TidyPath.root (λ t there some. inr full);
}

pub path_goes_on_law : (log : List Record) (key : List ℕ) (p q : ℕ) (s t : PageState) → PathGoesOnLaw log key p q s t
path_goes_on_law log key p q s t = record {
  single = λ tidy here own row there none. TidyPath.child p q s tidy here own row (λ u is f foster. absurd (missing f (sym none ∙ ap (λ (x : PageState). x.foster) (same_page (image log) q t u there is) ∙ foster)));
  crowded = λ tidy here own row there f foster full crowds. TidyPath.child p q s tidy here own row (λ u is g other.
      let same : f ≡ g = inside_some f g (sym foster ∙ ap (λ (x : PageState). x.foster) (same_page (image log) q t u there is) ∙ other) in
      (full, subst (Crowds s) same crowds));
  foster = λ tidy here out f foster child. TidyPath.foster p q s tidy here out (ap (option_map (λ (f : Foster). f.child)) foster ∙ ap (λ (n : ℕ). Some n) child);
}

-- ---- the walk

module _ (img : ℕ → Option PageState) (full : Type 0) (key : List ℕ) where
  walk_last : (k p : ℕ) → walk img key (suc k) p ≡ or_page (next_page img key (walk img key k p)) (walk img key k p)
  walk_last zero p = refl
  walk_last (suc k) p = walk_last k (or_page (next_page img key p) p)

  -- so many steps lead to the page, and the pages before it are tidy
  record Reached (p : ℕ) : Type 0 where
    steps : ℕ
    at : walk img key steps 1 ≡ p
    tidy : (k : ℕ) → k < steps → IsTidyAt img full key (walk img key k 1)

  one_further : (p q : ℕ) → Reached p → next_page img key p ≡ Some q → IsTidyAt img full key p → Reached q
  one_further p q r next tidy = record {
    steps = suc r.steps;
    at = walk_last r.steps 1 ∙ ap (λ (x : ℕ). or_page (next_page img key x) x) r.at ∙ ap (λ (o : Option ℕ). or_page o p) next;
    tidy = λ k h. elim (cases_eq k r.steps) [
      | inl e ↦ subst (IsTidyAt img full key) (sym (ap (λ (n : ℕ). walk img key n 1) e ∙ r.at)) tidy
      | inr n ↦ r.tidy k (omega (arith, h, n))
    ];
  }

  reached : (p : ℕ) → TidyPath img full key p → Reached p
  reached _ (TidyPath.root c) = record { steps = 0; at = refl; tidy = λ k h. absurd (omega (arith, h)) }
  reached _ (TidyPath.child p q s rest here own row c) = one_further p q (reached p rest) (next_is img key p s true here own ∙ row) (λ t there own' q' row' u is f foster.
      let same : s ≡ t = same_page img p s t here there in
      let to : q ≡ q' = inside_some q q' (sym row ∙ ap (λ (x : PageState). child_at key (branch_rows x.rows)) same ∙ row') in
      let found = c u (ap img to ∙ is) f foster in
      (found.0, subst (λ (x : PageState). Crowds x f) same found.1))
  reached _ (TidyPath.foster p q s rest here out to) = one_further p q (reached p rest) (next_is img key p s false here out ∙ to) (λ t there own. absurd (not_both (has_own s key) (ap (λ (x : PageState). has_own x key) (same_page img p s t here there) ∙ own) out))

  root_of : (p : ℕ) → TidyPath img full key p → IsTidyRoot img full
  root_of _ (TidyPath.root c) = c
  root_of _ (TidyPath.child p q s rest here own row c) = root_of p rest
  root_of _ (TidyPath.foster p q s rest here out to) = root_of p rest

  module _ (p : ℕ) (s : PageState) (here : img p ≡ Some s) (leaf : IsLeafOf key s) where
    no_row : child_at key (branch_rows s.rows) ≡ None
    no_row = ap (λ (rows : Rows). child_at key (branch_rows rows)) leaf.leaf

    tidy_leaf : IsTidyAt img full key p
    tidy_leaf t there own q row = absurd (missing q (sym no_row ∙ ap (λ (x : PageState). child_at key (branch_rows x.rows)) (same_page img p s t here there) ∙ row))

    after : (n k : ℕ) → walk img key n 1 ≡ p → walk img key (n + k) 1 ≡ p
    after n zero at = let e : n + 0 ≡ n = omega arith in ap (λ (m : ℕ). walk img key m 1) e ∙ at
    after n (suc k) at =
        let rest = after n k at in
        let e : n + suc k ≡ suc (n + k) = omega arith in
        ap (λ (m : ℕ). walk img key m 1) e ∙ walk_last (n + k) 1 ∙ ap (λ (x : ℕ). or_page (next_page img key x) x) rest ∙ ap (λ (o : Option ℕ). or_page o p) (next_is img key p s true here leaf.own ∙ no_row)

    every : Reached p → (k : ℕ) → IsTidyAt img full key (walk img key k 1)
    every r k = elim (less_or k r.steps) [
      | inl h ↦ r.tidy k h
      | inr m ↦ subst (IsTidyAt img full key) (sym (ap (λ (n : ℕ). walk img key n 1) m.1 ∙ after r.steps m.0 r.at)) tidy_leaf
    ]
      where
        less_or : (k n : ℕ) → (k < n) ⊎ ((m : ℕ) × (k ≡ n + m))
        less_or k zero = inr (k, omega arith)
        less_or zero (suc n) = inl (omega arith)
        less_or (suc k) (suc n) = elim (less_or k n) [
          | inl h ↦ inl (omega (arith, h))
          | inr m ↦ inr (m.0, let e = m.1 in omega (arith, e))
        ]

pub path_ends_law : (log : List Record) (key : List ℕ) (p : ℕ) (s : PageState) → PathEndsLaw log key p s
path_ends_law log key p s = record {
  tidy = λ path here leaf. record {
    root = root_of (image log) (IsFull log) key p path;
    children = every (image log) (IsFull log) key p s here leaf (reached (image log) (IsFull log) key p path);
  };
}
