-- Lists of transactions that pass a test, by rising number, and what puts one in or takes one out.
use Rattle.std.proofs.Common.{◌≡◌, ◌≢◌, ℕ, ◌+◌, ◌<◌, ◌≤◌, zero, suc, Bool, true, false, cond, eqb, List, [], ◌∷◌, map, filter, refl, sym, ap, subst, ◌∙◌, arith, inl, inr, Ordering, Less, Equal, Greater}
use Rattle.std.specs.Prelude.{nat_lt}
use Rattle.std.specs.List.{range_with_len}
use Rattle.std.specs.Ordering.{nat_cmp, match_ordering}
use Rattle.std.proofs.lemmas.Bool.{cases_eq}
use Rattle.std.proofs.lemmas.Bool.Decides.{nat_tests}
use Rattle.wal_record.specs.declared.record.Unfinished.{Unfinished}
use Rattle.log_laws.proofs.Central.{eqb_self, eqb_differ}
use Rattle.listing_laws.specs.Summary.{writes_in, put, without}

pub cmp_less : (m n : ℕ) → m < n → nat_cmp m n ≡ Less
cmp_less m n h = let l : nat_lt m n ≡ true = grind (arith, nat_tests) in ap (λ (b : Bool). cond b Less (cond (eqb m n) Equal Greater)) l

pub cmp_equal : (m n : ℕ) → m ≡ n → nat_cmp m n ≡ Equal
cmp_equal m n h =
    let l : nat_lt m n ≡ false = grind (arith, nat_tests) in
    let e : eqb m n ≡ true = grind (arith, nat_tests) in
    ap (λ (b : Bool). cond b Less (cond (eqb m n) Equal Greater)) l ∙ ap (λ (b : Bool). cond b Equal Greater) e

pub cmp_greater : (m n : ℕ) → n < m → nat_cmp m n ≡ Greater
cmp_greater m n h =
    let l : nat_lt m n ≡ false = grind (arith, nat_tests) in
    let e : eqb m n ≡ false = grind (arith, nat_tests) in
    ap (λ (b : Bool). cond b Less (cond (eqb m n) Equal Greater)) l ∙ ap (λ (b : Bool). cond b Equal Greater) e

abbrev pub listing : (ℕ → Bool) → (ℕ → Unfinished) → ℕ → ℕ → List Unfinished
listing P f a n = map f (filter P (range_with_len a n))

abbrev pub next : Bool → Unfinished → List Unfinished → List Unfinished
next b u us = cond b (u ∷ us) us

module _ (P : ℕ → Bool) (f : ℕ → Unfinished) where
  pub listing_suc : (a n : ℕ) → listing P f a (suc n) ≡ next (P a) (f a) (listing P f (a + 1) n)
  listing_suc a n = by (P a)
    where
      by : (b : Bool) → map f (cond b (a ∷ filter P (range_with_len (a + 1) n)) (filter P (range_with_len (a + 1) n))) ≡ next b (f a) (map f (filter P (range_with_len (a + 1) n)))
      by true = refl
      by false = refl

  pub wider : (a n m : ℕ) → n ≤ m → ((q : ℕ) → a + n ≤ q → P q ≡ false) → listing P f a m ≡ listing P f a n
  wider a zero zero h none = refl
  wider a (suc n) zero h none = absurd (omega (arith, h))
  wider a zero (suc m) h none =
      listing_suc a m
      ∙ ap (λ (b : Bool). next b (f a) (listing P f (a + 1) m)) (none a (omega arith))
      ∙ wider (a + 1) zero m (omega arith) (λ q l. none q (omega (arith, l)))
  wider a (suc n) (suc m) h none = listing_suc a m ∙ ap (next (P a) (f a)) (wider (a + 1) n m (omega (arith, h)) (λ q l. none q (omega (arith, l)))) ∙ sym (listing_suc a n)

module _ (P Q : ℕ → Bool) (f g : ℕ → Unfinished) where
  pub listing_same : (a n : ℕ) → ((q : ℕ) → a ≤ q → Q q ≡ P q) → ((q : ℕ) → a ≤ q → g q ≡ f q) → listing P f a n ≡ listing Q g a n
  listing_same a zero sp sf = refl
  listing_same a (suc n) sp sf =
      listing_suc P f a n
      ∙ (λ i. next (sym (sp a (omega arith)) i) (sym (sf a (omega arith)) i) (listing_same (a + 1) n (λ q l. sp q (omega (arith, l))) (λ q l. sf q (omega (arith, l))) i))
      ∙ sym (listing_suc Q g a n)

module _ (P : ℕ → Bool) (f : ℕ → Unfinished) (tx : (t : ℕ) → (f t).tx ≡ t) where
  -- what stands behind a greater number
  put_above : (x : Unfinished) (a n : ℕ) → x.tx < a → put x (listing P f a n) ≡ x ∷ listing P f a n
  put_above x a zero h = refl
  put_above x a (suc n) h = ap (put x) (listing_suc P f a n) ∙ by (put_above x (a + 1) n (omega (arith, h))) (P a) ∙ ap (λ (us : List Unfinished). x ∷ us) (sym (listing_suc P f a n))
    where
      less : nat_cmp x.tx (f a).tx ≡ Less
      less = cmp_less x.tx (f a).tx (let e = tx a in omega (arith, h, e))

      by : put x (listing P f (a + 1) n) ≡ x ∷ listing P f (a + 1) n → (b : Bool) → put x (next b (f a) (listing P f (a + 1) n)) ≡ x ∷ next b (f a) (listing P f (a + 1) n)
      by rest true = ap (λ (o : Ordering). match_ordering o (x ∷ f a ∷ listing P f (a + 1) n) (x ∷ listing P f (a + 1) n) (f a ∷ put x (listing P f (a + 1) n))) less
      by rest false = rest

  without_above : (t a n : ℕ) → t < a → without t (listing P f a n) ≡ listing P f a n
  without_above t a zero h = refl
  without_above t a (suc n) h = ap (without t) (listing_suc P f a n) ∙ by (without_above t (a + 1) n (omega (arith, h))) (P a) ∙ sym (listing_suc P f a n)
    where
      other : eqb (f a).tx t ≡ false
      other = eqb_differ (f a).tx t (λ d. let e = tx a in omega (arith, h, e, d))

      by : without t (listing P f (a + 1) n) ≡ listing P f (a + 1) n → (b : Bool) → without t (next b (f a) (listing P f (a + 1) n)) ≡ next b (f a) (listing P f (a + 1) n)
      by rest true = ap (λ (c : Bool). cond c (listing P f (a + 1) n) (f a ∷ without t (listing P f (a + 1) n))) other ∙ ap (λ (us : List Unfinished). f a ∷ us) rest
      by rest false = rest

  pub none_found : (t a n : ℕ) → t < a → writes_in t (listing P f a n) ≡ []
  none_found t a zero h = refl
  none_found t a (suc n) h = ap (writes_in t) (listing_suc P f a n) ∙ by (none_found t (a + 1) n (omega (arith, h))) (P a)
    where
      other : eqb (f a).tx t ≡ false
      other = eqb_differ (f a).tx t (λ d. let e = tx a in omega (arith, h, e, d))

      by : writes_in t (listing P f (a + 1) n) ≡ [] → (b : Bool) → writes_in t (next b (f a) (listing P f (a + 1) n)) ≡ []
      by rest true = ap (λ (c : Bool). cond c (f a).writes (writes_in t (listing P f (a + 1) n))) other ∙ rest
      by rest false = rest

  pub found : (t a n : ℕ) → a ≤ t → t < a + n → writes_in t (listing P f a n) ≡ cond (P t) (f t).writes []
  found t a zero l u = absurd (omega (arith, l, u))
  found t a (suc n) l u = ap (writes_in t) (listing_suc P f a n) ∙ elim (cases_eq a t) [ inl e ↦ at e (P a) ∙ ap (λ (q : ℕ). cond (P q) (f q).writes []) e | inr d ↦ past (found t (a + 1) n (omega (arith, l, d)) (omega (arith, u))) d (P a) ]
    where
      at : a ≡ t → (b : Bool) → writes_in t (next b (f a) (listing P f (a + 1) n)) ≡ cond b (f a).writes []
      at e true = ap (λ (c : Bool). cond c (f a).writes (writes_in t (listing P f (a + 1) n))) (subst (λ (q : ℕ). eqb (f a).tx q ≡ true) (tx a ∙ e) (eqb_self (f a).tx))
      at e false = none_found t (a + 1) n (omega (arith, e))

      past : writes_in t (listing P f (a + 1) n) ≡ cond (P t) (f t).writes [] → a ≢ t → (b : Bool) → writes_in t (next b (f a) (listing P f (a + 1) n)) ≡ cond (P t) (f t).writes []
      past rest d true = ap (λ (c : Bool). cond c (f a).writes (writes_in t (listing P f (a + 1) n))) (eqb_differ (f a).tx t (λ e. d (sym (tx a) ∙ e))) ∙ rest
      past rest d false = rest

-- one transaction changes
module _ (P Q : ℕ → Bool) (f g : ℕ → Unfinished) (tx : (t : ℕ) → (f t).tx ≡ t) (gtx : (t : ℕ) → (g t).tx ≡ t) (t : ℕ) (same_test : (q : ℕ) → t ≢ q → Q q ≡ P q) (same : (q : ℕ) → t ≢ q → g q ≡ f q) where
  above : (a n : ℕ) → t < a → listing P f a n ≡ listing Q g a n
  above a n h = listing_same P Q f g a n (λ q l. same_test q (λ e. omega (arith, e, h, l))) (λ q l. same q (λ e. omega (arith, e, h, l)))

  pub put_in : Q t ≡ true → (a n : ℕ) → a ≤ t → t < a + n → put (g t) (listing P f a n) ≡ listing Q g a n
  put_in is a zero l u = absurd (omega (arith, l, u))
  put_in is a (suc n) l u =
      ap (put (g t)) (listing_suc P f a n)
      ∙ elim (cases_eq t a) [
        | inl e ↦ at e (P a) ∙ ap (λ (us : List Unfinished). g t ∷ us) (above (a + 1) n (omega (arith, e))) ∙ (λ i. next (sym (subst (λ (q : ℕ). Q q ≡ true) e is) i) (g (e i)) (listing Q g (a + 1) n))
        | inr d ↦ past d (P a) ∙ (λ i. next (sym (same_test a d) i) (sym (same a d) i) (put_in is (a + 1) n (omega (arith, l, d)) (omega (arith, u)) i))
      ]
      ∙ sym (listing_suc Q g a n)
    where
      at : t ≡ a → (b : Bool) → put (g t) (next b (f a) (listing P f (a + 1) n)) ≡ g t ∷ listing P f (a + 1) n
      at e true = ap (λ (o : Ordering). match_ordering o (g t ∷ f a ∷ listing P f (a + 1) n) (g t ∷ listing P f (a + 1) n) (f a ∷ put (g t) (listing P f (a + 1) n))) (cmp_equal (g t).tx (f a).tx (gtx t ∙ e ∙ sym (tx a)))
      at e false = put_above P f tx (g t) (a + 1) n (let x = gtx t in omega (arith, e, x))

      past : t ≢ a → (b : Bool) → put (g t) (next b (f a) (listing P f (a + 1) n)) ≡ next b (f a) (put (g t) (listing P f (a + 1) n))
      past d true =
          ap (λ (o : Ordering). match_ordering o (g t ∷ f a ∷ listing P f (a + 1) n) (g t ∷ listing P f (a + 1) n) (f a ∷ put (g t) (listing P f (a + 1) n)))
          (cmp_greater (g t).tx (f a).tx (let x = gtx t in let y = tx a in omega (arith, l, d, x, y)))
      past d false = refl

  pub taken_out : Q t ≡ false → (a n : ℕ) → a ≤ t → without t (listing P f a n) ≡ listing Q g a n
  taken_out is a zero l = refl
  taken_out is a (suc n) l =
      ap (without t) (listing_suc P f a n)
      ∙ elim (cases_eq t a) [
        | inl e ↦ at e (P a) ∙ above (a + 1) n (omega (arith, e)) ∙ (λ i. next (sym (subst (λ (q : ℕ). Q q ≡ false) e is) i) (g a) (listing Q g (a + 1) n))
        | inr d ↦ past d (P a) ∙ (λ i. next (sym (same_test a d) i) (sym (same a d) i) (taken_out is (a + 1) n (omega (arith, l, d)) i))
      ]
      ∙ sym (listing_suc Q g a n)
    where
      at : t ≡ a → (b : Bool) → without t (next b (f a) (listing P f (a + 1) n)) ≡ listing P f (a + 1) n
      at e true = ap (λ (c : Bool). cond c (listing P f (a + 1) n) (f a ∷ without t (listing P f (a + 1) n))) (subst (λ (q : ℕ). eqb (f a).tx q ≡ true) (tx a ∙ sym e) (eqb_self (f a).tx))
      at e false = without_above P f tx t (a + 1) n (omega (arith, e))

      past : t ≢ a → (b : Bool) → without t (next b (f a) (listing P f (a + 1) n)) ≡ next b (f a) (without t (listing P f (a + 1) n))
      past d true = ap (λ (c : Bool). cond c (listing P f (a + 1) n) (f a ∷ without t (listing P f (a + 1) n))) (eqb_differ (f a).tx t (λ e. d (sym e ∙ tx a)))
      past d false = refl
