-- Which pages await redo.
use Rattle.std.specs.Prelude.{◌≡◌, ◌≢◌, ℕ, zero, suc, ◌/◌, ◌%◌, ◌<◌, ◌≤◌, ◌==◌, List, map, Option, Some, None, Bool, true, false, nat_lt, length, slice_index, slice_index_or}
use Rattle.std.specs.Int.{bit_at}
use Rattle.std.specs.List.{range_with_len}
use Rattle.wal_record.specs.declared.analysis.PageHead.{PageHead}

-- the page has a record behind its written image
abbrev pub is_behind : PageHead → Bool
is_behind h = nat_lt h.written h.head

-- a plan has a truth value for each page from 1 on
abbrev pub awaits : List Bool → ℕ → Bool
awaits plan zero = false
awaits plan (suc n) = slice_index_or plan n false

-- the page awaits redo no more, and each other one does if it did
pub record Comes (page : ℕ) (old new : List Bool) : Type 0 where
  pub pages : length new ≡ length old
  pub come : awaits new page ≡ false
  pub others : (q : ℕ) → q ≢ page → awaits new q ≡ awaits old q

-- the least page above this one that awaits redo
abbrev pub IsNextAwaiting : List Bool → ℕ → Option ℕ → Type 0
IsNextAwaiting plan after (Some page) = (after < page) × (awaits plan page ≡ true) × ((q : ℕ) → after < q → q < page → awaits plan q ≡ false)
IsNextAwaiting plan after None = (q : ℕ) → after < q → awaits plan q ≡ false

-- ---- how a plan stands in words

-- the bit with this number, counted from the lowest of the first word on
abbrev pub flag_at : List ℕ → ℕ → Bool
flag_at words n = bit_at (slice_index words (n / 64)) (n % 64) == 1

-- the first so many bits
abbrev pub flags : ℕ → List ℕ → List Bool
flags count words = map (flag_at words) (range_with_len 0 count)

-- the least bit from this place on, among the first so many
abbrev pub IsNextFlag : List ℕ → ℕ → ℕ → Option ℕ → Type 0
IsNextFlag words from count (Some place) = (from ≤ place) × (place < count) × (flag_at words place ≡ true) × ((n : ℕ) → from ≤ n → n < place → flag_at words n ≡ false)
IsNextFlag words from count None = (n : ℕ) → from ≤ n → n < count → flag_at words n ≡ false
