-- Runs that are merged into one.
use Rattle.std.specs.Prelude.{◌≡◌, ◌⊎◌, ℕ, ◌^◌, ◌<◌, ◌-◌, List, [], ◌∷◌, length, take, flat_map, Ok}
use Rattle.media.specs.Objects.{Stored, bytes_of}
use Rattle.store_model.specs.declared.object.ObjectName.{ObjectName}
use Rattle.wal_record.specs.declared.analysis.Run.{Run}
use Rattle.log_archive.specs.Answers.{IsFirstFault}
use Rattle.log_archive.specs.Items.{Chunk, items_on}
use Rattle.log_archive.specs.Reading.{behind_items}
use Rattle.log_archive.specs.Shelves.{Shelved, shelf_at, with_more}
use Rattle.log_archive.specs.Run.{AreChunks, IsRun, chunks_bytes, directory, run_name}
use Rattle.log_archive.specs.declared.directory.Entry.{Entry}
use Rattle.log_archive.specs.declared.directory.Head.{Head}
use Rattle.log_archive.specs.declared.item.Numbered.{Numbered}

-- the objects of these runs have these chunks, each run's its own
abbrev pub AreParts : (ObjectName → Stored) → List Run → List (List Chunk) → Type 0
AreParts told [] [] = Unit {0}
AreParts told [] (cs ∷ css) = ⊥
AreParts told (r ∷ rs) [] = ⊥
AreParts told (r ∷ rs) (cs ∷ css) = IsRun r.run r.first r.last cs (bytes_of (told (run_name r.run))) × AreParts told rs css

-- the items of a page in all of them, one run's behind the other's
abbrev pub items_in : List (List Chunk) → ℕ → List Numbered
items_in css page = flat_map (items_on page) css

-- the first LSN of the first run, and the last LSN of the last one
abbrev pub first_in : List Run → ℕ
first_in [] = 0
first_in (r ∷ rs) = r.first

abbrev pub last_in : List Run → ℕ
last_in [] = 0
last_in (r ∷ []) = r.last
last_in (r ∷ s ∷ rs) = last_in (s ∷ rs)

abbrev pub IsPart : Run → List Run → Type 0
IsPart r [] = ⊥
IsPart r (s ∷ ss) = (r ≡ s) ⊎ IsPart r ss

-- the object of one of these runs has its first fault at this byte, where the vault tells what it holds
pub record IsBadPart (tells : Type 0) (told : ObjectName → Stored) (parts : List Run) (object : ObjectName) (byte : ℕ) : Type 0 where
  pub part : Run
  pub among : IsPart part parts
  pub named : object ≡ run_name part.run
  pub cause : tells → IsFirstFault part.run (bytes_of (told (run_name part.run))) byte

-- a run with this head and directory has these chunks, whose items are these bytes
pub record HasChunks (head : Head) (entries : List Entry) (bytes : List ℕ) (chunks : List Chunk) : Type 0 where
  pub at : ℕ
  pub fit : AreChunks head.first head.last 0 chunks
  pub listed : entries ≡ directory at chunks
  pub spelled : bytes ≡ chunks_bytes chunks
  pub short : length bytes < 2 ^ 32
  pub last : head.last < 2 ^ 64

-- the items of an entry were read in front of these bytes, behind which this is left, and are on the shelf of their page
pub record IsAdded (head : Head) (e : Entry) (bytes rest : List ℕ) (old new : List Shelved) : Type 0 where
  pub read : behind_items e.page head.last e.count (head.first - 1) bytes ≡ Ok rest
  pub shelved : (p : ℕ) → shelf_at new p ≡ with_more e.page e.count (take (length bytes - length rest) bytes) p (shelf_at old p)
