-- The writes of a disk in memory, and what it keeps of them.
use Rattle.std.specs.Prelude.{◌≡◌, ◌<◌, ◌≤◌, ◌+◌, ◌-◌, ◌^◌, ℕ, List, [], ◌∷◌, length, max}
use Rattle.media.specs.Kept.{Kept, written}
use Rattle.media_mem.specs.Reach.{Piece}

-- bytes written at an offset
pub record Wrote : Type 0 where
  pub at : ℕ
  pub bytes : List ℕ

abbrev pub piece_of : Wrote → Piece
piece_of w = record { at = w.at; size = length w.bytes }

-- the writes, one after the other
abbrev pub replay : List Wrote → Kept → Kept
replay [] k = k
replay (w ∷ ws) k = replay ws (written k w.at w.bytes)

-- how many bytes are kept after the writes
abbrev pub grown : ℕ → ℕ → List Wrote → ℕ
grown start len [] = len
grown start len (w ∷ ws) = grown start (max len (w.at - start + length w.bytes)) ws

-- each write begins within what is kept
abbrev pub AreWithin : ℕ → ℕ → List Wrote → Type 0
AreWithin start len [] = Unit {0}
AreWithin start len (w ∷ ws) = (start ≤ w.at) × (w.at - start ≤ len) × AreWithin start (max len (w.at - start + length w.bytes)) ws

-- what a disk keeps in order: the bytes synced last, and those that a read gives
pub record IsKept (start : ℕ) (base now : List ℕ) (writes : List Wrote) : Type 0 where
  pub now_is : record { start = start; bytes = now } ≡ replay writes (record { start = start; bytes = base })
  pub within : AreWithin start (length base) writes
  pub size : start + length now < 2 ^ 63
