-- The first page alone is a tree.
use Rattle.std.proofs.Common.{◌≡◌, ℕ, ◌+◌, ◌≤◌, suc, true, false, eqb, List, [], ◌∷◌, Option, Some, None, refl, sym, ap, subst, ◌∙◌, arith, inl, inr}
use Rattle.std.specs.Prelude.{◌&&◌, nat_le, is_some}
use Rattle.std.proofs.lemmas.Bool.Decides.{nat_tests}
use Rattle.wal_record.specs.declared.page.PageState.{PageState}
use Rattle.wal_record.specs.State.{KeepsState, has_own, live, leaf_rows}
use Rattle.wal_record.specs.Tree.{pointers, one_if, AllAgree, Tree}
use Rattle.wal_record.specs.Images.{first_page}
use Rattle.tree_laws.proofs.Counts.{set_page, set_here, at_set}

pub one_more : (n x : ℕ) → 1 ≤ n → one_if (nat_le 2 x && nat_le x n) + one_if (eqb (suc n) x) ≡ one_if (nat_le 2 x && nat_le x (suc n))
one_more n x h = grind (arith, nat_tests)

no_others : (x : ℕ) → (nat_le 2 x && nat_le x 1) ≡ false
no_others x = grind (arith, nat_tests)

all_own : (key : List ℕ) → has_own first_page key ≡ true
all_own [] = refl
all_own (b ∷ bs) = refl

pub missing : {A : Type 0} → (a : A) → None ≡ Some a → ⊥
missing a e = absurd cc

first_keeps : KeepsState first_page
first_keeps = record { level = refl; texts = refl; fences = refl; foster = refl; rows = (refl, refl, refl); size = omega arith }

module _ (img : ℕ → Option PageState) (none : (p : ℕ) → img p ≡ None) where
  abbrev new : ℕ → Option PageState
  new = set_page 1 first_page img

  from_first : (p : ℕ) (t : PageState) → new p ≡ Some t → (p ≡ 1) × (first_page ≡ t)
  from_first p t h = elim (at_set 1 first_page img p t h) [ inl e ↦ e | inr d ↦ absurd (missing t (sym (none p) ∙ d.1)) ]

  pub Tree_first : Tree new 1 (λ key. None)
  Tree_first = record {
    some = omega arith;
    inside = λ p t h. let e = (from_first p t h).0 in (omega (arith, e), omega (arith, e));
    made = λ p l u. let e : p ≡ 1 = omega (arith, l, u) in ap (λ (x : ℕ). is_some (new x)) e ∙ ap is_some (set_here 1 first_page img);
    keeps = λ p t h. subst KeepsState (from_first p t h).1 first_keeps;
    root = λ t h. let e = (from_first 1 t h).1 in (sym (ap (λ (x : PageState). x.low) e), sym (ap (λ (x : PageState). x.high) e));
    once = λ c. sym (ap one_if (no_others c));
    agrees = λ p t h. subst (λ (x : PageState). AllAgree new (pointers x)) (from_first p t h).1 tt;
    covers = λ key. record { page = 1; state = first_page; image = set_here 1 first_page img; leaf = refl; own = all_own key };
    apart = λ key a b. (from_first a.page a.state a.image).0 ∙ sym (from_first b.page b.state b.image).0;
    values = λ key a. sym (ap (λ (x : PageState). live (leaf_rows x.rows) key) (from_first a.page a.state a.image).1);
  }
