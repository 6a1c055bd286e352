use Rattle.std.proofs.Common.{◌≡◌, ℕ, Option, Some, None, sym, ap, ◌∙◌, subst, inl, inr, refl}
use Rattle.std.specs.Prelude.{IfSome}
use Rattle.std.proofs.lemmas.Bool.{cases_eq}
use Rattle.books.specs.Rights.{PageClaim}
use Rattle.page_index.specs.Index.{Index, Rehomes, home_of}
use Rattle.page_ops.specs.Claims.{IsInRange}
use Rattle.buffer_pool_tests.proofs.life.index_with.Goals as goal

one_home : (old new : Index) (p : PageClaim) → p ≡ record { page = 1; lsn = 5 } → ((q : ℕ) → home_of old q ≡ None) → Rehomes old new p.page (Some p) → (q : ℕ) → IfSome (home_of new q) IsInRange
one_home old new p is none r q = elim (cases_eq q p.page) [
  | inl e ↦ subst (λ (o : Option PageClaim). IfSome o IsInRange) (sym (ap (home_of new) e ∙ r.home)) (subst IsInRange (sym is) (refl, refl))
  | inr d ↦ subst (λ (o : Option PageClaim). IfSome o IsInRange) (sym (r.others q d ∙ none q)) tt
]

pub returns : goal.returns
returns g c = record { rights = one_home _ _ c.args.right c.requires.right c.in_ok-index.ensures.out c.give_right.ensures.home }
