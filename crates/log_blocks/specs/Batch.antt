-- Blocks in memory, and what is added to them.
use Rattle.std.specs.Prelude.{◌≡◌, ◌<◌, ◌≤◌, ◌+◌, ◌*◌, ◌^◌, ℕ, List, [], ◌∷◌, ◌++◌, length, Bool, nat_le, ◌&&◌, false, if◌then◌else◌, IfSome, Option, None, Some, slice_index_or}
use Rattle.log_blocks.specs.Log.{Block}
use Rattle.log_blocks.specs.declared.batch.TheConstants.{SHORT}
use Rattle.log_blocks.specs.declared.layout.TheConstants.{MOST_BYTES, MOST_RECORDS}

-- a block to which records are added, and how many bytes more can join them without memory
pub record Filling : Type 0 where
  pub checkpoint : ℕ
  pub count : ℕ
  pub payload : List ℕ
  pub room : ℕ

-- a batch: its blocks, which have no first LSN yet, and how many short records have room
pub record Batched : Type 0 where
  pub blocks : List Block
  pub spare : ℕ

-- whether this many records more, and bytes of them, pass no limit of a block
abbrev pub has_room : ℕ → ℕ → ℕ → ℕ → Bool
has_room records bytes count size = nat_le (records + count) MOST_RECORDS && nat_le (bytes + size) MOST_BYTES

-- the block that these records begin
abbrev pub begun : ℕ → ℕ → List ℕ → Block
begun count checkpoint bytes = record { first = 0; checkpoint = checkpoint; count = count; payload = bytes }

-- whether these records join the last block: there is one, and they pass no limit of it
abbrev pub joins : List Block → ℕ → ℕ → Bool
joins [] count size = false
joins (b ∷ []) count size = has_room b.count (length b.payload) count size
joins (b ∷ c ∷ bs) count size = joins (c ∷ bs) count size

-- records that have joined the last block
abbrev pub joined : List Block → ℕ → ℕ → List ℕ → List Block
joined [] count checkpoint bytes = []
joined (b ∷ []) count checkpoint bytes = (record { first = b.first; checkpoint = checkpoint; count = b.count + count; payload = b.payload ++ bytes }) ∷ []
joined (b ∷ c ∷ bs) count checkpoint bytes = b ∷ joined (c ∷ bs) count checkpoint bytes

-- a group of records joins the last block, or begins a new one where there is none or the last would pass a limit
abbrev pub with_group : List Block → ℕ → ℕ → List ℕ → List Block
with_group bs count checkpoint bytes = if joins bs count (length bytes) then joined bs count checkpoint bytes else bs ++ begun count checkpoint bytes ∷ []

-- the blocks with their first LSNs, from this one on
abbrev pub numbered : ℕ → List Block → List Block
numbered next [] = []
numbered next (b ∷ bs) = (record { first = next; checkpoint = b.checkpoint; count = b.count; payload = b.payload }) ∷ numbered (next + b.count) bs

-- how many records the blocks have
abbrev pub records_in : List Block → ℕ
records_in [] = 0
records_in (b ∷ bs) = b.count + records_in bs

-- each block's Checkpoint LSN is at most the LSN that its last record gets, from this one on
abbrev pub IsChecked : ℕ → List Block → Type 0
IsChecked next [] = Unit {0}
IsChecked next (b ∷ bs) = (b.checkpoint < next + b.count) × IsChecked (next + b.count) bs

-- the limits of a block
pub record IsSized (b : Block) : Type 0 where
  pub count : (1 ≤ b.count) × (b.count ≤ MOST_RECORDS)
  pub payload : (1 ≤ length b.payload) × (length b.payload ≤ MOST_BYTES)

abbrev pub AreSized : List Block → Type 0
AreSized [] = Unit {0}
AreSized (b ∷ bs) = IsSized b × AreSized bs

-- the block that a filling is
abbrev pub block_in : Filling → Block
block_in f = begun f.count f.checkpoint f.payload

-- the last block of a batch, which is the one that is filled
abbrev pub in_open : Option Filling → List Block
in_open None = []
in_open (Some f) = block_in f ∷ []

-- the same records, and no less room
abbrev pub Grows : Option Filling → Option Filling → Type 0
Grows None None = Unit {0}
Grows None (Some g) = ⊥
Grows (Some f) None = ⊥
Grows (Some f) (Some g) = (block_in g ≡ block_in f) × (f.room ≤ g.room)

-- records joined, and how much room is left
abbrev pub Joins : ℕ → ℕ → List ℕ → ℕ → Option Filling → Option Filling → Type 0
Joins count checkpoint bytes room None new = ⊥
Joins count checkpoint bytes room (Some f) None = ⊥
Joins count checkpoint bytes room (Some f) (Some g) = (block_in g ≡ begun (f.count + count) checkpoint (f.payload ++ bytes)) × (room ≤ g.room)

-- a buffer that waits for a short record, and for more of them behind it
pub record IsSpare (records : ℕ) (f : Filling) : Type 0 where
  pub none : f.count ≡ 0
  pub empty : f.payload ≡ []
  pub room : SHORT * records ≤ f.room

-- What a batch keeps ready. The last block is open, and has room for each short record to come. A node waits for the
-- open block and for each of these records, and so does a buffer, since each may begin a block.
pub record IsReady (closed : List Block) (last : Option Filling) (nodes : List Block) (spares : List Filling) : Type 0 where
  pub alone : last ≡ None → closed ≡ []
  pub node_each : length nodes ≡ length spares + length (in_open last)
  pub room : IfSome last (λ f. SHORT * length spares ≤ f.room)
  pub buffers : (i : ℕ) (f : Filling) → i < length spares → IsSpare (i + 1) (slice_index_or spares i f)
  pub sized : AreSized (closed ++ in_open last)
  pub few : length closed + length nodes < 2 ^ 63
  pub spare : length spares ≤ 2 ^ 32
