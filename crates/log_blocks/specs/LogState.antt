-- The log as contracts see it.
use Rattle.std.specs.Prelude.{◌≡◌, ◌<◌, ◌≤◌, ◌+◌, ◌-◌, ◌^◌, ℕ, zero, suc, List, [], ◌∷◌, ◌++◌, length, map, max, Option, None, Some}
use Rattle.media.specs.Cause.{Rose}
use Rattle.media.specs.Crash.{Only}
use Rattle.media.specs.Kept.{Kept}
use Rattle.store_model.specs.declared.fault.Fault.{Fault}
use Rattle.store_model.specs.declared.fault.Fault.TheVariants.{Memory, LogFault, Ended}
use Rattle.log_blocks.specs.declared.header.Place.{Place}
use Rattle.log_blocks.specs.Log.{Block, blocks, IsRun, next_lsn, StandsFor}
use Rattle.log_blocks.specs.Opening.{places, IsChain, lsn_after}

pub record LogState (D : Type 0) : Type 0 where
  pub device : D
  -- the places of the durable blocks
  pub places : List Place
  -- the blocks that wait for a flush
  pub pending : List Block
  -- where the gate behind the durable blocks stands
  pub gate : ℕ
  -- the LSN that the next record gets
  pub next : ℕ
  -- the durable LSN when a device call failed, if one has
  pub ended : Option ℕ

-- where the gate of the next block will stand
abbrev pub log_end : {D : Type 0} → LogState D → ℕ
log_end log = log.gate + length (blocks log.pending)

-- the LSN after that of the last durable record, 1 where there is none
abbrev pub lsn_behind : List Place → ℕ
lsn_behind found = max 1 (lsn_after found)

-- the durable LSN, 0 where no record is durable
abbrev pub durable_lsn : List Place → ℕ
durable_lsn found = lsn_behind found - 1

-- the first LSN of each block, pending ones among them
abbrev pub firsts : {D : Type 0} → LogState D → List ℕ
firsts log = map (λ p. p.first) log.places ++ map (λ b. b.first) log.pending

-- how many records each block has, pending ones among them
abbrev pub counts : {D : Type 0} → LogState D → List ℕ
counts log = map (λ p. p.count) log.places ++ map (λ b. b.count) log.pending

-- the payload of block i
abbrev pub payload_at : List Block → ℕ → List ℕ
payload_at [] i = []
payload_at (b ∷ bs) zero = b.payload
payload_at (b ∷ bs) (suc i) = payload_at bs i

-- the Checkpoint LSN of the last block, 0 where there is none
abbrev pub last_or : ℕ → List ℕ → ℕ
last_or none [] = none
last_or none (n ∷ ns) = last_or n ns

abbrev pub checkpoint_of : {D : Type 0} → LogState D → ℕ
checkpoint_of log = last_or (last_or 0 (map (λ p. p.checkpoint) log.places)) (map (λ b. b.checkpoint) log.pending)

-- The blocks stand one behind the other, and the pending ones go on with the LSNs of the durable ones.
pub record IsWhole (found : List Place) (pending : List Block) (gate next end : ℕ) : Type 0 where
  pub from : ℕ
  pub chain : IsChain from found gate
  pub run : IsRun (lsn_behind found) pending
  pub next_is : next ≡ next_lsn (lsn_behind found) pending
  pub end_is : end ≡ gate + length (blocks pending)
  pub fits : end < 2 ^ 63
  pub room : 0 < length pending → end < 2 ^ 62
  pub bound : next ≤ 2 ^ 63

-- The places lie on the disk.
pub record IsLive (start len : ℕ) (found : List Place) (gate : ℕ) : Type 0 where
  pub chain : IsChain start found gate
  pub short : len - start ≤ 1 → gate ≡ start
  pub within : 1 < len - start → gate < len

-- The disk keeps these blocks, whatever crash comes now, and the log knows their places.
pub record IsDurable {D : Type 0} (told : D → Kept) (may_leave : D → Kept → Type 0) (log : LogState D) (bs : List Block) : Type 0 where
  pub stands : StandsFor bs (told log.device)
  pub only : Only (told log.device) (may_leave log.device)
  pub places_are : log.places ≡ places (told log.device).start bs
  pub gate_is : log.gate ≡ (told log.device).start + length (blocks bs)

-- The pending records go on with the LSNs of the durable ones, without a gap, and the next one behind them.
pub record AreNumbered {D : Type 0} (log : LogState D) : Type 0 where
  pub run : IsRun (lsn_behind log.places) log.pending
  pub next : log.next ≡ next_lsn (lsn_behind log.places) log.pending

-- Why a call of an open log is refused: it had ended before, the disk failed in this call, and now it has ended, or
-- memory is wanted and all is as before. A call that takes no memory has no such answer.
abbrev pub Refused : {D : Type 0} → Type 0 → (D → ℕ) → LogState D → LogState D → Fault → Type 0
Refused memory faults old new (Ended at) = (old.ended ≡ Some at) × (new ≡ old)
Refused memory faults old new LogFault = (old.ended ≡ None) × Rose (faults old.device) (faults new.device) × (new.ended ≡ Some (durable_lsn new.places))
Refused memory faults old new Memory = memory × (old.ended ≡ None) × (new.ended ≡ None)
Refused memory faults old new fault = ⊥
