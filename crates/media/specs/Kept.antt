-- What a log disk keeps, and what its calls make of it.
use Rattle.std.specs.Prelude.{◌≡◌, ℕ, ◌+◌, ◌-◌, ◌≤◌, max, List, ◌++◌, length, take, drop}

-- bytes at the offsets from start on
pub record Kept : Type 0 where
  pub start : ℕ
  pub bytes : List ℕ

-- the offset behind the last kept byte
abbrev pub end_of : Kept → ℕ
end_of k = k.start + length k.bytes

-- old with these bytes at an offset
abbrev pub written : Kept → ℕ → List ℕ → Kept
written old at bytes = record {
  start = old.start;
  bytes = take (at - old.start) old.bytes ++ bytes ++ drop (at - old.start + length bytes) old.bytes;
}

-- after a write of n bytes that isn't synced: any bytes in the range and past the old end, the same elsewhere
pub record Torn (at n : ℕ) (old new : Kept) : Type 0 where
  pub start : new.start ≡ old.start
  pub before : take (at - old.start) new.bytes ≡ take (at - old.start) old.bytes
  pub after : drop (at - old.start + n) new.bytes ≡ drop (at - old.start + n) old.bytes
  pub no_shorter : length old.bytes ≤ length new.bytes
  pub no_longer : length new.bytes ≤ max (length old.bytes) (at - old.start + n)

-- old without what lies before an offset
abbrev pub without : Kept → ℕ → Kept
without old upto = record { start = upto; bytes = drop (upto - old.start) old.bytes }

-- the bytes from an offset on, at most n
abbrev pub bytes_at : Kept → ℕ → ℕ → List ℕ
bytes_at k at n = take n (drop (at - k.start) k.bytes)
