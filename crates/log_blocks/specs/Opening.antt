-- The headers that an opening reads.
use Rattle.std.specs.Prelude.{◌≡◌, ◌⊎◌, ◌<◌, ◌≤◌, ◌+◌, ◌-◌, ◌^◌, ℕ, List, [], ◌∷◌, ◌++◌, length, take, drop, Bool, nat_lt, nat_le, ◌==◌, ◌&&◌, ◌||◌, not, if◌then◌else◌}
use Rattle.std.specs.Int.{w16, w32, w64, from_be_bytes}
use Rattle.std.specs.Prelude.{Result, Ok, Err}
use Rattle.media.specs.Kept.{Kept}
use Rattle.media.specs.Cause.{Rose}
use Rattle.log_blocks.specs.declared.opening.Walked.{Walked}
use Rattle.store_model.specs.declared.fault.Fault.{Fault}
use Rattle.store_model.specs.declared.fault.Fault.TheVariants.{Memory, LogFault, LogBad}
use Rattle.log_blocks.specs.declared.header.Header.{Header}
use Rattle.log_blocks.specs.declared.header.Place.{Place}
use Rattle.log_blocks.specs.declared.layout.TheConstants.{CHECKPOINT_AT, COUNT_AT, FIRST_AT, LENGTH_AT, MOST_BYTES, PAYLOAD_AT}
use Rattle.log_blocks.specs.Log.{Block, blocks, body, open_gate, next_lsn, IsSequence, StandsFor, StandsForMore}

-- the number of this width at an offset
unfoldable pub field_at : ℕ → List ℕ → ℕ
field_at at bytes = from_be_bytes w64 (take 8 (drop at bytes))

unfoldable pub field4_at : ℕ → List ℕ → ℕ
field4_at at bytes = from_be_bytes w32 (take 4 (drop at bytes))

unfoldable pub field2_at : ℕ → List ℕ → ℕ
field2_at at bytes = from_be_bytes w16 (take 2 (drop at bytes))

-- whether a block may begin with this LSN; next is 0 at the first kept block
abbrev pub may_begin : ℕ → ℕ → ℕ → Bool
may_begin start next first = nat_le 1 first && nat_lt first 9223372036854775808 && (if next == 0 then (not (start == 0) || first == 1) else first == next)

-- The offset of the first field, from the payload's length on, that is cut or breaks its rule in total bytes that begin
-- with an open gate, 0 where there is none. Of the bytes those of gate and header are given.
abbrev pub length_fault : ℕ → List ℕ → ℕ
length_fault total head =
    if nat_lt total PAYLOAD_AT || field4_at LENGTH_AT head == 0 || nat_lt MOST_BYTES (field4_at LENGTH_AT head) then LENGTH_AT
    else (if nat_lt total (PAYLOAD_AT + field4_at LENGTH_AT head) then PAYLOAD_AT
    else (if nat_lt total (PAYLOAD_AT + 1 + field4_at LENGTH_AT head) then PAYLOAD_AT + field4_at LENGTH_AT head
    else 0))

-- The offset of the first field that is cut or breaks its rule in total bytes that begin with an open gate,
-- 0 where there is none. Of the bytes those of gate and header are given.
unfoldable pub fault_at : ℕ → ℕ → ℕ → List ℕ → ℕ
fault_at start next total head =
    if nat_lt total CHECKPOINT_AT || not (may_begin start next (field_at FIRST_AT head)) then FIRST_AT
    else (if nat_lt total COUNT_AT || nat_le 9223372036854775808 (field_at CHECKPOINT_AT head) || (nat_le LENGTH_AT total && nat_le (field_at FIRST_AT head + field2_at COUNT_AT head) (field_at CHECKPOINT_AT head)) then CHECKPOINT_AT
    else (if nat_lt total LENGTH_AT || field2_at COUNT_AT head == 0 || nat_lt 9223372036854775808 (field_at FIRST_AT head + field2_at COUNT_AT head) then COUNT_AT
    else length_fault total head))

unfoldable pub header_in : List ℕ → Header
header_in head = record { first = field_at FIRST_AT head; checkpoint = field_at CHECKPOINT_AT head; count = field2_at COUNT_AT head; length = field4_at LENGTH_AT head }

-- where a block stands, and its header
abbrev pub place_of : ℕ → Block → Place
place_of at b = record { at = at; first = b.first; checkpoint = b.checkpoint; count = b.count; length = length b.payload }

-- where each block stands
abbrev pub places : ℕ → List Block → List Place
places at [] = []
places at (b ∷ bs) = place_of at b ∷ places (at + length (open_gate ∷ body b)) bs

-- each block stands behind the one before, from an offset on, and the gate behind the last
abbrev pub IsChain : ℕ → List Place → ℕ → Type 0
IsChain at [] gate = gate ≡ at
IsChain at (p ∷ ps) gate = (p.at ≡ at) × IsChain (at + (PAYLOAD_AT + p.length)) ps gate

-- the LSN after that of the last record, 0 where there is no block
abbrev pub lsn_after : List Place → ℕ
lsn_after [] = 0
lsn_after (p ∷ []) = p.first + p.count
lsn_after (p ∷ q ∷ ps) = lsn_after (q ∷ ps)

-- what a walk over the headers finds on any disk
pub record IsPlaced (start len : ℕ) (found : List Place) (gate next : ℕ) : Type 0 where
  pub chain : IsChain start found gate
  pub next_is : next ≡ lsn_after found
  pub bound : next ≤ 2 ^ 63
  pub fits : gate < 2 ^ 63
  pub short : len - start ≤ 1 → gate ≡ start
  pub within : 1 < len - start → gate < len

-- the first k of the pending blocks have been written behind the gate, and it stands behind them
pub record Progress (gate : ℕ) (done : List Place) (pending : List Block) (gate2 : ℕ) (done2 : List Place) (pending2 : List Block) : Type 0 where
  pub count : ℕ
  pub within : count ≤ length pending
  pub left : pending2 ≡ drop count pending
  pub places_are : done2 ≡ done ++ places gate (take count pending)
  pub gate_is : gate2 ≡ gate + length (blocks (take count pending))

-- What a flush leaves, also one that failed. The first of the pending blocks are done, and the rest still pends. A read
-- now, and one after a crash that comes now, gives the blocks from before, those that are done, and maybe further ones
-- in order.
pub record FlushLeaves {D : Type 0} (told : D → Kept) (may_leave : D → Kept → Type 0) (bs pending rest : List Block) (device : D) : Type 0 where
  pub done : ℕ
  pub within : done ≤ length pending
  pub rest_is : rest ≡ drop done pending
  pub read : StandsForMore bs pending done (told device)
  pub crash : (k : Kept) → may_leave device k → StandsForMore bs pending done k

-- all blocks, or all but the first n
abbrev pub StandsForRest : List Block → ℕ → Kept → Type 0
StandsForRest bs n k = StandsFor bs k ⊎ StandsFor (drop n bs) k

-- What dropping the first n blocks leaves, also where it failed: for a read now, and for one after a crash that comes now.
pub record DropLeaves {D : Type 0} (told : D → Kept) (may_leave : D → Kept → Type 0) (bs : List Block) (n : ℕ) (device : D) : Type 0 where
  pub read : StandsForRest bs n (told device)
  pub crash : (k : Kept) → may_leave device k → StandsForRest bs n k

-- the LSN that the next block has to begin with, 0 where there is no block
abbrev pub follows : List Block → ℕ
follows [] = 0
follows (b ∷ bs) = next_lsn b.first (b ∷ bs)

-- An open gate stands before bytes that are no block here: the block with this number has its first fault at this byte.
pub record IsBadAt (block byte : ℕ) (k : Kept) : Type 0 where
  pub before : List Block
  pub rest : List ℕ
  pub bytes : k.bytes ≡ blocks before ++ open_gate ∷ rest
  pub sequence : IsSequence k.start before
  pub number : length before ≡ block
  pub fault : fault_at k.start (follows before) (length (open_gate ∷ rest)) (take PAYLOAD_AT (open_gate ∷ rest)) ≡ byte
  pub is_one : 0 < byte
  pub long : 1 < length k.bytes

-- What an opening finds: the blocks that the kept bytes stand for, where each stands, and where the next gate is.
pub record IsOpened (k : Kept) (found : List Place) (gate next : ℕ) : Type 0 where
  pub bs : List Block
  pub stands : StandsFor bs k
  pub found_is : found ≡ places k.start bs
  pub gate_is : gate ≡ k.start + length (blocks bs)
  pub next_is : next ≡ follows bs

-- where a log can't be opened, the bad block is named
abbrev pub TellsFault : Kept → Fault → Type 0
TellsFault k (LogBad block byte) = IsBadAt block byte k
TellsFault k fault = Unit {0}

-- why a log can't be opened
abbrev pub RoseFor : ℕ → ℕ → Fault → Type 0
RoseFor before now Memory = Unit {0}
RoseFor before now LogFault = Rose before now
RoseFor before now (LogBad block byte) = Unit {0}
RoseFor before now fault = ⊥

-- a device call failed
abbrev pub IsLogFault : Fault → Type 0
IsLogFault LogFault = Unit {0}
IsLogFault fault = ⊥

-- what a walk over the headers says
abbrev pub Tells : Kept → Result Walked Fault → Type 0
Tells k (Ok w) = IsOpened k w.places.items w.gate w.next
Tells k (Err fault) = TellsFault k fault

-- a fault of the device has its cause, and no other fault but these three comes
abbrev pub RoseIn : ℕ → ℕ → Result Walked Fault → Type 0
RoseIn before now (Ok w) = Unit {0}
RoseIn before now (Err fault) = RoseFor before now fault
