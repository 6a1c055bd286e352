-- A change of the entry of a page.
use Rattle.std.proofs.Common.{◌≡◌, ℕ, ◌<◌, ◌≤◌, zero, suc, List, [], ◌∷◌, ◌++◌, map, length, take, drop, slice_set, slice_index_or, subst, refl, sym, ap, ◌∙◌, arith, inl, inr}
use Rattle.std.specs.Prelude.{◌⊎◌}
use Rattle.std.proofs.lemmas.Grind.{common_steps}
use Rattle.wal_record.specs.declared.analysis.PageHead.{PageHead}
use Rattle.listing_laws.specs.Summary.{at_place, at_page, with_written}

module _ {A : Type 0} where
  placed : (f : A → A) (i : ℕ) (xs : List A) (x : A) → x ≡ slice_index_or xs i x → slice_set xs i (f x) ≡ at_place f i xs
  placed f i [] x h = refl
  placed f zero (y ∷ xs) x h = ap (λ (z : A). f z ∷ xs) h
  placed f (suc i) (y ∷ xs) x h = ap (λ (zs : List A). y ∷ zs) (placed f i xs x h)

  beyond : (f : A → A) (i : ℕ) (xs : List A) → length xs ≤ i → at_place f i xs ≡ xs
  beyond f i [] h = refl
  beyond f zero (y ∷ xs) h = absurd (omega (arith, h))
  beyond f (suc i) (y ∷ xs) h = ap (λ (zs : List A). y ∷ zs) (beyond f i xs (omega (arith, h)))

pub no_page : (f : PageHead → PageHead) (p : ℕ) (hs : List PageHead) → (p ≡ 0) ⊎ (length hs < p) → at_page f p hs ≡ hs
no_page f zero hs h = refl
no_page f (suc i) hs h = elim h [ inl e ↦ absurd (omega (arith, e)) | inr l ↦ beyond f i hs (omega (arith, l)) ]

pub page_set : (f : PageHead → PageHead) (p i : ℕ) (hs : List PageHead) (x : PageHead) → p ≡ suc i → x ≡ slice_index_or hs i x → slice_set hs i (f x) ≡ at_page f p hs
page_set f p i hs x e h = placed f i hs x h ∙ sym (ap (λ (q : ℕ). at_page f q hs) e)

-- ---- all entries, from the first on

-- so many entries from the first on lose their written LSN
abbrev pub cleared : ℕ → List PageHead → List PageHead
cleared n [] = []
cleared zero (h ∷ hs) = h ∷ hs
cleared (suc n) (h ∷ hs) = with_written 0 h ∷ cleared n hs

pub none_cleared : (hs : List PageHead) → cleared 0 hs ≡ hs
none_cleared [] = refl
none_cleared (h ∷ hs) = refl

cleared_more : (n : ℕ) (hs : List PageHead) (d : PageHead) → slice_set (cleared n hs) n (with_written 0 (slice_index_or (cleared n hs) n d)) ≡ cleared (suc n) hs
cleared_more n [] d = refl
cleared_more zero (y ∷ hs) d = ap (λ (zs : List PageHead). with_written 0 y ∷ zs) (sym (none_cleared hs))
cleared_more (suc n) (y ∷ hs) d = ap (λ (zs : List PageHead). with_written 0 y ∷ zs) (cleared_more n hs d)

pub one_cleared : (n m : ℕ) (now hs : List PageHead) (d : PageHead) → now ≡ cleared n hs → m ≡ suc n → slice_set now n (with_written 0 (slice_index_or now n d)) ≡ cleared m hs
one_cleared n m now hs d h e = ap (λ (l : List PageHead). slice_set l n (with_written 0 (slice_index_or l n d))) h ∙ cleared_more n hs d ∙ sym (ap (λ (k : ℕ). cleared k hs) e)

pub cleared_length : (n : ℕ) (hs : List PageHead) → length (cleared n hs) ≡ length hs
cleared_length n [] = refl
cleared_length zero (h ∷ hs) = refl
cleared_length (suc n) (h ∷ hs) = ap (λ (k : ℕ). suc k) (cleared_length n hs)

each_cleared : (n : ℕ) (hs : List PageHead) → length hs ≤ n → cleared n hs ≡ map (with_written 0) hs
each_cleared n [] h = refl
each_cleared zero (y ∷ hs) h = absurd (omega (arith, h))
each_cleared (suc n) (y ∷ hs) h = ap (λ (zs : List PageHead). with_written 0 y ∷ zs) (each_cleared n hs (omega (arith, h)))

-- so many items, where there are no more
as_many : (xs ys : List PageHead) → length xs ≡ length ys → take (length ys) (xs ++ drop (length xs) ys) ≡ xs
as_many xs ys e = grind (arith, common_steps)

pub all_cleared : (n len : ℕ) (now hs : List PageHead) → now ≡ cleared n hs → length hs ≡ len → len ≤ n → take len (now ++ drop (length now) hs) ≡ map (with_written 0) hs
all_cleared n len now hs h e l =
    let size : length now ≡ length hs = ap length h ∙ cleared_length n hs in
    subst (λ (k : ℕ). take k (now ++ drop (length now) hs) ≡ map (with_written 0) hs) e (as_many now hs size ∙ h ∙ each_cleared n hs (omega (arith, e, l)))

-- ---- what is so of a slice, of its list

pub no_page_in : (f : PageHead → PageHead) (p : ℕ) (hs all : List PageHead) → hs ≡ all → (p ≡ 0) ⊎ (length hs < p) → all ≡ at_page f p all
no_page_in f p hs all e h = sym (no_page f p all (subst (λ (l : List PageHead). (p ≡ 0) ⊎ (length l < p)) e h))
