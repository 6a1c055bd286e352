-- Pointers, counted, and the pages that they agree with.
use Rattle.std.proofs.Common.{◌≡◌, ◌≢◌, ℕ, ◌+◌, ◌≤◌, zero, suc, Bool, cond, eqb, List, [], ◌∷◌, ◌++◌, Option, Some, None, refl, sym, ap, subst, ◌∙◌, arith, inl, inr}
use Rattle.std.specs.Prelude.{◌⊎◌}
use Rattle.std.proofs.lemmas.Bool.{eq-eqb, ne_eqb, cases_eq}
use Rattle.wal_record.specs.declared.page.PageState.{PageState}
use Rattle.wal_record.specs.Tree.{Fence, Pointer, one_if, count_to, count_at, incoming, fence_at, AllAgree}

-- ---- a page in place of another

abbrev pub set_page : ℕ → PageState → (ℕ → Option PageState) → ℕ → Option PageState
set_page q s img p = cond (eqb p q) (Some s) (img p)

pub set_here : (q : ℕ) (s : PageState) (img : ℕ → Option PageState) → set_page q s img q ≡ Some s
set_here q s img = ap (λ (b : Bool). cond b (Some s) (img q)) (eq-eqb q q refl)

pub set_there : (q : ℕ) (s : PageState) (img : ℕ → Option PageState) (p : ℕ) → p ≢ q → set_page q s img p ≡ img p
set_there q s img p n = ap (λ (b : Bool). cond b (Some s) (img p)) (ne_eqb p q n)

abbrev or_this : {A : Type 0} → A → Option A → A
or_this a None = a
or_this a (Some x) = x

pub inside_some : {A : Type 0} → (a b : A) → Some a ≡ Some b → a ≡ b
inside_some a b e = ap (or_this a) e

-- where an image is from
pub at_set : (q : ℕ) (s : PageState) (img : ℕ → Option PageState) (p : ℕ) (t : PageState) → set_page q s img p ≡ Some t → ((p ≡ q) × (s ≡ t)) ⊎ ((p ≢ q) × (img p ≡ Some t))
at_set q s img p t h = elim (cases_eq p q) [
  | inl e ↦ inl (e, inside_some s t (sym (set_here q s img) ∙ subst (λ (x : ℕ). set_page q s img x ≡ Some t) e h))
  | inr n ↦ inr (n, sym (set_there q s img p n) ∙ h)
]

-- ---- counts

pub count_append : (c : ℕ) (xs ys : List Pointer) → count_to c (xs ++ ys) ≡ count_to c xs + count_to c ys
count_append c [] ys = omega arith
count_append c (x ∷ xs) ys = omega (arith, count_append c xs ys)

pub incoming_same : (img img' : ℕ → Option PageState) (n c : ℕ) → ((p : ℕ) → 1 ≤ p → p ≤ n → count_at c (img' p) ≡ count_at c (img p)) → incoming img' n c ≡ incoming img n c
incoming_same img img' zero c h = refl
incoming_same img img' (suc n) c h =
    let a = incoming_same img img' n c (λ p l u. h p l (omega (arith, u))) in
    let b = h (suc n) (omega arith) (omega arith) in
    omega (arith, a, b)

-- one page changes
pub incoming_set : (img img' : ℕ → Option PageState) (n c q : ℕ) → 1 ≤ q → q ≤ n → ((p : ℕ) → p ≤ n → p ≢ q → img' p ≡ img p) → incoming img' n c + count_at c (img q) ≡ incoming img n c + count_at c (img' q)
incoming_set img img' zero c q l u h = absurd (omega (arith, l, u))
incoming_set img img' (suc n) c q l u h = elim (cases_eq q (suc n)) [
  | inl e ↦
      let a = incoming_same img img' n c (λ p l' u'. ap (count_at c) (h p (omega (arith, u')) (λ f. omega (arith, e, f, u')))) in
      let b = ap (λ (x : ℕ). count_at c (img x)) e in
      let b' = ap (λ (x : ℕ). count_at c (img' x)) e in
      omega (arith, a, b, b')
  | inr d ↦
      let a = incoming_set img img' n c q l (omega (arith, u, d)) (λ p u' d'. h p (omega (arith, u')) d') in
      let b = ap (count_at c) (h (suc n) (omega arith) (λ f. d (sym f))) in
      omega (arith, a, b)
]

pub count_within : (img : ℕ → Option PageState) (n c p : ℕ) → 1 ≤ p → p ≤ n → count_at c (img p) ≤ incoming img n c
count_within img zero c p l u = absurd (omega (arith, l, u))
count_within img (suc n) c p l u = elim (cases_eq p (suc n)) [
  | inl e ↦ let b = ap (λ (x : ℕ). count_at c (img x)) e in omega (arith, b)
  | inr d ↦ let a = count_within img n c p l (omega (arith, u, d)) in omega (arith, a)
]

pub count_two : (img : ℕ → Option PageState) (n c p q : ℕ) → 1 ≤ p → p ≤ n → 1 ≤ q → q ≤ n → p ≢ q → count_at c (img p) + count_at c (img q) ≤ incoming img n c
count_two img zero c p q l u l' u' d = absurd (omega (arith, l, u))
count_two img (suc n) c p q l u l' u' d = elim (cases_eq p (suc n)) [
  | inl e ↦
      let a = count_within img n c q l' (omega (arith, e, d, u')) in
      let b = ap (λ (x : ℕ). count_at c (img x)) e in
      omega (arith, a, b)
  | inr f ↦ elim (cases_eq q (suc n)) [
    | inl e ↦
        let a = count_within img n c p l (omega (arith, e, d, u, f)) in
        let b = ap (λ (x : ℕ). count_at c (img x)) e in
        omega (arith, a, b)
    | inr g ↦ let a = count_two img n c p q l (omega (arith, u, f)) l' (omega (arith, u', g)) d in omega (arith, a)
  ]
]

-- ---- agreement

pub agree_append : (img : ℕ → Option PageState) (xs ys : List Pointer) → AllAgree img xs → AllAgree img ys → AllAgree img (xs ++ ys)
agree_append img [] ys a b = b
agree_append img (x ∷ xs) ys a b = (a.0, agree_append img xs ys a.1 b)

pub agree_parts : (img : ℕ → Option PageState) (xs ys : List Pointer) → AllAgree img (xs ++ ys) → AllAgree img xs × AllAgree img ys
agree_parts img [] ys a = (tt, a)
agree_parts img (x ∷ xs) ys a = let r = agree_parts img xs ys a.1 in ((a.0, r.0), r.1)

-- the pages that are pointed to keep their fences
pub agree_moved : (img img' : ℕ → Option PageState) (ps : List Pointer) → ((c : ℕ) (f : Fence) → 1 ≤ count_to c ps → fence_at img c ≡ Some f → fence_at img' c ≡ Some f) → AllAgree img ps → AllAgree img' ps
agree_moved img img' [] h a = tt
agree_moved img img' (p ∷ ps) h a = (
  h p.child p.fence (let e = ap one_if (eq-eqb p.child p.child refl) in omega (arith, e)) a.0,
  agree_moved img img' ps (λ c f l e. h c f (omega (arith, l)) e) a.1,
)
