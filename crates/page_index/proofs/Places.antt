-- What a change of one page leaves.
use Rattle.std.proofs.Common.{◌≡◌, ◌≢◌, ℕ, zero, suc, ◌^◌, ◌<◌, ◌≤◌, List, [], ◌∷◌, ◌++◌, length, get_or, Option, None, refl, sym, ap, ◌∙◌, subst, arith}
use Rattle.std.specs.Prelude.{IfSome, slice_index_or, slice_set}
use Rattle.std.proofs.lemmas.List.{get_or-set_same, get_or-set_other, length-set}
use Rattle.books.specs.Rights.{PageClaim}
use Rattle.page_index.specs.Index.{Index, for_page, limit_of, IsKept, Rehomes, Notes}

module _ {A : Type 0} where
  pub for_page-set_same : (d : A) (xs : List A) (n : ℕ) (x : A) → n < length xs → for_page d (slice_set xs n x) (suc n) ≡ x
  for_page-set_same d xs n x inside = get_or-set_same xs n x d inside

  pub for_page-set_other : (d : A) (xs : List A) (n : ℕ) (x : A) (q : ℕ) → q ≢ suc n → for_page d (slice_set xs n x) q ≡ for_page d xs q
  for_page-set_other d xs n x zero apart = refl
  for_page-set_other d xs n x (suc m) apart = get_or-set_other xs n m x d (λ same. apart (ap suc same))

  outside : (d : A) (xs : List A) (n : ℕ) → length xs ≤ n → slice_index_or xs n d ≡ d
  outside d [] n past = refl
  outside d (x ∷ xs) zero past = absurd (omega arith)
  outside d (x ∷ xs) (suc n) past = outside d xs n (omega arith)

  -- what is not among the pages
  pub for_page-outside : (d : A) (xs : List A) (q : ℕ) → (1 ≤ q → length xs < q) → for_page d xs q ≡ d
  for_page-outside d xs zero past = refl
  for_page-outside d xs (suc n) past = outside d xs n (let far : length xs < suc n = past (omega arith) in omega arith)

  within : (d e : A) (xs : List A) (n : ℕ) → n < length xs → get_or xs n e ≡ slice_index_or xs n d
  within d e [] n inside = absurd (omega arith)
  within d e (x ∷ xs) zero inside = refl
  within d e (x ∷ xs) (suc n) inside = within d e xs n (omega arith)

  -- what a place of the list has, whatever would stand for it outside
  pub for_page-within : (d e : A) (xs : List A) (page n : ℕ) → page ≡ suc n → n < length xs → get_or xs n e ≡ for_page d xs page
  for_page-within d e xs page n is inside = within d e xs n inside ∙ ap (for_page d xs) (sym is)

  -- a list of nothing but the default, and one more
  pub all-append : (d : A) (xs : List A) → ((i : ℕ) → slice_index_or xs i d ≡ d) → (i : ℕ) → slice_index_or (xs ++ d ∷ []) i d ≡ d
  all-append d [] all zero = refl
  all-append d [] all (suc i) = refl
  all-append d (x ∷ xs) all zero = all 0
  all-append d (x ∷ xs) all (suc i) = all-append d xs (λ j. all (suc j)) i

  pub all-pages : (d : A) (xs : List A) → ((i : ℕ) → slice_index_or xs i d ≡ d) → (q : ℕ) → for_page d xs q ≡ d
  all-pages d xs all zero = refl
  all-pages d xs all (suc n) = all n

-- the right to a page changes
pub rehomes : (index : Index) (page n : ℕ) (right : Option PageClaim) → page ≡ suc n → n < limit_of index
    → Rehomes index (record { homes = slice_set index.homes n right; written = index.written }) page right
rehomes index page n right is inside =
    subst
    (λ (p : ℕ). Rehomes index (record { homes = slice_set index.homes n right; written = index.written }) p right)
    (sym is)
    (record {
      limit = length-set index.homes n right;
      home = for_page-set_same None index.homes n right inside;
      others = for_page-set_other None index.homes n right;
      written = λ q. refl;
    })

-- a fact of each element and its place stays so where one element changes
pub set-all : {A : Type 0} (P : ℕ → A → Type 0) (d : A) (xs : List A) (n : ℕ) (x : A) → ((i : ℕ) → P i (slice_index_or xs i d)) → P n x → (i : ℕ) → P i (slice_index_or (slice_set xs n x) i d)
set-all P d [] n x all here i = all i
set-all P d (y ∷ ys) zero x all here zero = here
set-all P d (y ∷ ys) zero x all here (suc i) = all (suc i)
set-all P d (y ∷ ys) (suc n) x all here zero = all 0
set-all P d (y ∷ ys) (suc n) x all here (suc i) = set-all (λ j y. P (suc j) y) d ys n x (λ j. all (suc j)) here i

homes-set : (homes : List (Option PageClaim)) (n : ℕ) (right : Option PageClaim) → ((q : ℕ) → IfSome (for_page None homes q) (λ r. r.page ≡ q)) → IfSome right (λ r. r.page ≡ suc n)
    → (q : ℕ) → IfSome (for_page None (slice_set homes n right) q) (λ r. r.page ≡ q)
homes-set homes n right all here zero = all 0
homes-set homes n right all here (suc m) = set-all (λ (i : ℕ) (o : Option PageClaim). IfSome o (λ r. r.page ≡ suc i)) None homes n right (λ i. all (suc i)) here m

-- each right at home is still that of its page
pub kept-rehomed : (index : Index) (page n : ℕ) (right : Option PageClaim) → page ≡ suc n → IsKept index → IfSome right (λ r. r.page ≡ page)
    → IsKept (record { homes = slice_set index.homes n right; written = index.written })
kept-rehomed index page n right is kept names =
    record {
      few = let l = length-set index.homes n right in let f = kept.few in omega (arith, l, f);
      pages = kept.pages ∙ sym (length-set index.homes n right);
      homes = homes-set index.homes n right kept.homes (subst (λ (p : ℕ). IfSome right (λ r. r.page ≡ p)) is names);
    }

-- a page is written
pub notes : (index : Index) (page n lsn : ℕ) → page ≡ suc n → n < limit_of index → length index.written ≡ limit_of index
    → Notes index (record { homes = index.homes; written = slice_set index.written n lsn }) page lsn
notes index page n lsn is inside pages =
    subst
    (λ (p : ℕ). Notes index (record { homes = index.homes; written = slice_set index.written n lsn }) p lsn)
    (sym is)
    (record {
      limit = refl;
      written = for_page-set_same 0 index.written n lsn (omega (arith, inside, pages));
      others = for_page-set_other 0 index.written n lsn;
      homes = λ q. refl;
    })

pub kept-noted : (index : Index) (n lsn : ℕ) → IsKept index → IsKept (record { homes = index.homes; written = slice_set index.written n lsn })
kept-noted index n lsn kept = record { few = kept.few; pages = length-set index.written n lsn ∙ kept.pages; homes = kept.homes }

-- an index whose rights are all out
pub kept-new : (homes : List (Option PageClaim)) (written : List ℕ) → length homes < 2 ^ 32 → length written ≡ length homes → ((i : ℕ) → slice_index_or homes i None ≡ None) → IsKept (record { homes = homes; written = written })
kept-new homes written few same out = record { few = few; pages = same; homes = λ q. subst (λ (o : Option PageClaim). IfSome o (λ r. r.page ≡ q)) (sym (all-pages None homes out q)) tt }

-- a list of which each element is the default has it for each page
pub all-within : {A : Type 0} (d : A) (xs : List A) → ((i : ℕ) → i < length xs → slice_index_or xs i d ≡ d) → (q : ℕ) → for_page d xs q ≡ d
all-within d [] all zero = refl
all-within d [] all (suc n) = refl
all-within d (x ∷ xs) all zero = refl
all-within d (x ∷ xs) all (suc zero) = all 0 (omega arith)
all-within d (x ∷ xs) all (suc (suc n)) = all-within d xs (λ i inside. all (suc i) (omega (arith, inside))) (suc n)
