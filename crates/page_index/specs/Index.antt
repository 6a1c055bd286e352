-- What an index has for each page.
use Rattle.std.specs.Prelude.{◌≡◌, ◌≢◌, ℕ, zero, suc, ◌^◌, ◌<◌, ◌≤◌, List, length, Option, None, IfSome, slice_index_or}
use Rattle.books.specs.Rights.{PageClaim}

-- for each page, from 1 on: the right to it, if it is at home, and the LSN as which it was last written, 0 before
pub record Index : Type 0 where
  pub homes : List (Option PageClaim)
  pub written : List ℕ

-- what the list has for the page, and outside of it the default
abbrev pub for_page : {A : Type 0} → A → List A → ℕ → A
for_page default xs zero = default
for_page default xs (suc n) = slice_index_or xs n default

-- the right to the page, if it is at home
abbrev pub home_of : Index → ℕ → Option PageClaim
home_of index page = for_page None index.homes page

-- the LSN as which the page was last written, 0 before
abbrev pub written_of : Index → ℕ → ℕ
written_of index page = for_page 0 index.written page

abbrev pub limit_of : Index → ℕ
limit_of index = length index.homes

-- the page is one of the index
abbrev pub IsIn : Index → ℕ → Type 0
IsIn index page = (1 ≤ page) × (page ≤ limit_of index)

-- A right at home is that of the page that has it, and both lists have the same pages, whose numbers have 32 bits.
pub record IsKept (index : Index) : Type 0 where
  pub few : limit_of index < 2 ^ 32
  pub pages : length index.written ≡ limit_of index
  pub homes : (page : ℕ) → IfSome (home_of index page) (λ right. right.page ≡ page)

-- the right to the page becomes this one or none, and all else is as before
pub record Rehomes (old new : Index) (page : ℕ) (right : Option PageClaim) : Type 0 where
  pub limit : limit_of new ≡ limit_of old
  pub home : home_of new page ≡ right
  pub others : (q : ℕ) → q ≢ page → home_of new q ≡ home_of old q
  pub written : (q : ℕ) → written_of new q ≡ written_of old q

-- the page is last written as this LSN, and all else is as before
pub record Notes (old new : Index) (page lsn : ℕ) : Type 0 where
  pub limit : limit_of new ≡ limit_of old
  pub written : written_of new page ≡ lsn
  pub others : (q : ℕ) → q ≢ page → written_of new q ≡ written_of old q
  pub homes : (q : ℕ) → home_of new q ≡ home_of old q

-- no page is written, and all else is as before
pub record Forgets (old new : Index) : Type 0 where
  pub homes : new.homes ≡ old.homes
  pub written : (page : ℕ) → written_of new page ≡ 0
