-- What a record makes of the pages that it names.
use Rattle.std.proofs.Common.{◌≡◌, ℕ, eqb, cond, List, [], ◌∷◌, ◌++◌, Option, Some, None, Bool, true, false, refl, sym, ap, subst, ◌∙◌, arith}
use Rattle.std.specs.Prelude.{◌||◌}
use Rattle.std.proofs.lemmas.Bool.{eqb-true}
use Rattle.std.proofs.lemmas.Bool.Decides.{nat_tests}
use Rattle.store_model.specs.Along.{along}
use Rattle.wal_record.specs.Chains.{names}
use Rattle.wal_record.specs.Images.{IsApplicable, applied, image}
use Rattle.wal_record.specs.declared.page.PageState.{PageState}
use Rattle.wal_record.specs.declared.record.Record.{Record}
use Rattle.wal_record.proofs.Pushes.{image_push}
use Rattle.page_judge.specs.Images.{AreApplicable, IsApplicableAt, IsChange, IsChanged, IsNamed, Tells, both_of, changed_to}
use Rattle.page_judge.specs.Names.{first_page, is_page, second_page}
use Rattle.page_judge.specs.declared.changed.Named.{Named}
use Rattle.page_judge.specs.declared.changed.PageImage.{PageImage}
use Rattle.page_judge.proofs.Naming.{first_named, names_are, second_named}

pub no_image : (p : ℕ) → image [] p ≡ None
unfolding image along
no_image p = refl

module _ (log : List Record) (r : Record) where
  at_named : (page : Option ℕ) → IsNamed r page → AreApplicable log r → IsApplicableAt (image log) r page
  at_named None named all = tt
  at_named (Some p) named all = all p named

  pub at_first : AreApplicable log r → IsApplicableAt (image log) r (first_page r)
  at_first all = at_named (first_page r) (first_named r) all

  pub at_second : AreApplicable log r → IsApplicableAt (image log) r (second_page r)
  at_second all = at_named (second_page r) (second_named r) all

  one_at : (page : Option ℕ) (p : ℕ) → is_page p page ≡ true → IsApplicableAt (image log) r page → IsApplicable r p (image log p)
  one_at None p is h = absurd (cc is)
  one_at (Some q) p is h = subst (λ (n : ℕ). IsApplicable r n (image log n)) (sym (eqb-true p q is)) h

  pub both_at : IsApplicableAt (image log) r (first_page r) → IsApplicableAt (image log) r (second_page r) → AreApplicable log r
  both_at one two p named = by (is_page p (first_page r)) refl (sym (names_are p r) ∙ named)
    where
      by : (b : Bool) → is_page p (first_page r) ≡ b → (is_page p (first_page r) || is_page p (second_page r)) ≡ true → IsApplicable r p (image log p)
      by true is either = one_at (first_page r) p is one
      by false is either = one_at (second_page r) p (sym (ap (λ (b : Bool). b || is_page p (second_page r)) is) ∙ either) two

  -- ---- the images behind the record

  turned : (p q : ℕ) (b : Bool) → eqb p q ≡ b → eqb q p ≡ b
  turned p q true e = grind (arith, nat_tests, e)
  turned p q false e = grind (arith, nat_tests, e)

  change_is : (page : Option ℕ) (change : Option PageImage) (p : ℕ) (s : Option PageState) → Tells (image log) r page change → changed_to change p s ≡ cond (is_page p page) (applied r p (image log p)) s
  change_is None None p s t = refl
  change_is None (Some y) p s t = absurd t
  change_is (Some q) None p s t = absurd t
  change_is (Some q) (Some y) p s t = by (eqb p q) refl
    where
      by : (b : Bool) → eqb p q ≡ b → cond (eqb y.page p) (Some y.image) s ≡ cond (eqb p q) (applied r p (image log p)) s
      by b e =
          ap (λ (c : Bool). cond c (Some y.image) s) (ap (λ (n : ℕ). eqb n p) t.0 ∙ turned p q b e)
          ∙ same b e
          ∙ ap (λ (c : Bool). cond c (applied r p (image log p)) s) (sym e)
        where
          same : (b : Bool) → eqb p q ≡ b → cond b (Some y.image) s ≡ cond b (applied r p (image log p)) s
          same true e = sym (ap (λ (n : ℕ). applied r n (image log n)) (eqb-true p q e) ∙ t.1)
          same false e = refl

  either : (a b : Bool) (x s : Option PageState) → cond b x (cond a x s) ≡ cond (a || b) x s
  either true true x s = refl
  either true false x s = refl
  either false true x s = refl
  either false false x s = refl

  pub images_behind : (first second : Option PageImage) → Tells (image log) r (first_page r) first → Tells (image log) r (second_page r) second → (old new : ℕ → Option PageState)
      → ((p : ℕ) → image log p ≡ old p) → ((p : ℕ) → new p ≡ changed_to second p (changed_to first p (old p))) → (p : ℕ) → image (log ++ r ∷ []) p ≡ new p
  images_behind first second one two old new k put p = sym (
      put p
      ∙ change_is (second_page r) second p (changed_to first p (old p)) two
      ∙ ap (cond (is_page p (second_page r)) (applied r p (image log p))) (change_is (first_page r) first p (old p) one)
      ∙ either (is_page p (first_page r)) (is_page p (second_page r)) (applied r p (image log p)) (old p)
      ∙ ap (λ (b : Bool). cond b (applied r p (image log p)) (old p)) (sym (names_are p r))
      ∙ ap (cond (names p r) (applied r p (image log p))) (sym (k p))
      ∙ sym (image_push log r p)
      )

-- ---- by states that are the images

module _ (log : List Record) (r : Record) (states : ℕ → Option PageState) (same : (p : ℕ) → image log p ≡ states p) where
  abbrev one : image log ≡ states
  one = λ i p. same p i

  pub changed_of : (a b : Option Named) → IsChange states r (first_page r) a → IsChange states r (second_page r) b → IsChanged log r (both_of a b)
  changed_of None b p q = λ all. p (subst (λ (f : ℕ → Option PageState). IsApplicableAt f r (first_page r)) one (at_first log r all))
  changed_of (Some a) None p q = λ all. q (subst (λ (f : ℕ → Option PageState). IsApplicableAt f r (second_page r)) one (at_second log r all))
  changed_of (Some a) (Some b) p q =
      let back : states ≡ image log = sym one in (
        both_at log r (subst (λ (f : ℕ → Option PageState). IsApplicableAt f r (first_page r)) back p.0) (subst (λ (f : ℕ → Option PageState). IsApplicableAt f r (second_page r)) back q.0),
        (subst (λ (f : ℕ → Option PageState). Tells f r (first_page r) a.made) back p.1, subst (λ (f : ℕ → Option PageState). Tells f r (second_page r) b.made) back q.1),
      )
