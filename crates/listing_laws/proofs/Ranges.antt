-- Lists made from a function of a number, and a change of one item.
use Rattle.std.proofs.Common.{◌≡◌, ℕ, ◌+◌, ◌<◌, ◌≤◌, zero, suc, Bool, true, false, cond, eqb, List, [], ◌∷◌, ◌++◌, map, refl, sym, ap, subst, ◌∙◌, arith, inl, inr}
use Rattle.std.specs.List.{range_with_len}
use Rattle.std.proofs.lemmas.Bool.{cases_eq}
use Rattle.std.proofs.lemmas.List.FromFn.{map-range_with_len_more}
use Rattle.wal_record.specs.declared.analysis.PageHead.{PageHead}
use Rattle.log_laws.proofs.Central.{eqb_self, eqb_differ}
use Rattle.listing_laws.specs.Summary.{at_place, at_page}

pub eqb_sym : (m n : ℕ) → eqb m n ≡ eqb n m
eqb_sym m n = elim (cases_eq m n) [
  | inl e ↦ subst (λ (k : ℕ). eqb m k ≡ eqb k m) e refl
  | inr d ↦ eqb_differ m n d ∙ sym (eqb_differ n m (λ e. d (sym e)))
]

module _ {X : Type 0} where
  pub map_same : (F G : ℕ → X) (a n : ℕ) → ((q : ℕ) → a ≤ q → q < a + n → F q ≡ G q) → map F (range_with_len a n) ≡ map G (range_with_len a n)
  map_same F G a zero h = refl
  map_same F G a (suc n) h =
      let first = h a (omega arith) (omega arith) in
      let rest = map_same F G (a + 1) n (λ q l u. h q (omega (arith, l)) (omega (arith, u))) in
      λ i. first i ∷ rest i

  pub map_map : {Y : Type 0} (g : X → Y) (F : ℕ → X) (qs : List ℕ) → map g (map F qs) ≡ map (λ q. g (F q)) qs
  map_map g F [] = refl
  map_map g F (q ∷ qs) = ap (λ (ys : List _). g (F q) ∷ ys) (map_map g F qs)

  pub at_place_range : (f : X → X) (F : ℕ → X) (a n i : ℕ) → at_place f i (map F (range_with_len a n)) ≡ map (λ q. cond (eqb q (a + i)) (f (F q)) (F q)) (range_with_len a n)
  at_place_range f F a zero i = refl
  at_place_range f F a (suc n) zero =
      let here : eqb a (a + 0) ≡ true = (let e : a ≡ a + 0 = omega arith in subst (λ (k : ℕ). eqb a k ≡ true) e (eqb_self a)) in
      let rest : map F (range_with_len (a + 1) n) ≡ map (λ q. cond (eqb q (a + 0)) (f (F q)) (F q)) (range_with_len (a + 1) n) =
      map_same F _ (a + 1) n (λ q l u. sym (ap (λ (b : Bool). cond b (f (F q)) (F q)) (eqb_differ q (a + 0) (λ e. omega (arith, e, l))))) in
      λ i. sym (ap (λ (b : Bool). cond b (f (F a)) (F a)) here) i ∷ rest i
  at_place_range f F a (suc n) (suc i) =
      let there : eqb a (a + suc i) ≡ false = eqb_differ a (a + suc i) (λ e. omega (arith, e)) in
      let e : a + 1 + i ≡ a + suc i = omega arith in
      let rest = at_place_range f F (a + 1) n i ∙ ap (λ (k : ℕ). map (λ q. cond (eqb q k) (f (F q)) (F q)) (range_with_len (a + 1) n)) e in
      λ j. sym (ap (λ (b : Bool). cond b (f (F a)) (F a)) there) j ∷ rest j

pub at_page_range : (f : PageHead → PageHead) (F : ℕ → PageHead) (n p : ℕ) → at_page f p (map F (range_with_len 1 n)) ≡ map (λ q. cond (eqb q p) (f (F q)) (F q)) (range_with_len 1 n)
at_page_range f F n zero = map_same F _ 1 n (λ q l u. sym (ap (λ (b : Bool). cond b (f (F q)) (F q)) (eqb_differ q 0 (λ e. omega (arith, e, l)))))
at_page_range f F n (suc i) = let e : 1 + i ≡ suc i = omega arith in at_place_range f F 1 n i ∙ ap (λ (k : ℕ). map (λ q. cond (eqb q k) (f (F q)) (F q)) (range_with_len 1 n)) e

pub one_more : {X : Type 0} (F : ℕ → X) (n : ℕ) → map F (range_with_len 1 (suc n)) ≡ map F (range_with_len 1 n) ++ F (suc n) ∷ []
one_more F n = let e : suc n ≡ n + 1 = omega arith in ap (λ (k : ℕ). map F (range_with_len 1 k)) e ∙ map-range_with_len_more F 1 n (suc n) (omega arith)
