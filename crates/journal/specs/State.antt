-- A journal as contracts see it.
use Rattle.std.specs.Prelude.{◌≡◌, ◌⊎◌, ◌+◌, ◌++◌, ◌<◌, ◌≤◌, ℕ, List, [], ◌∷◌, Option, Some, IfSome, drop}
use mathlib.Core.List.{IsPrefix}
use Rattle.log_blocks.specs.LogState.{durable_lsn}
use Rattle.log_blocks.specs.declared.header.Place.{Place}
use Rattle.log_manager.specs.Managed.{before_lsn}
use Rattle.media.specs.Counted.{Armed, Blames}
use Rattle.page_ops.specs.Seeing.{Account, Calls}
use Rattle.wal_record.specs.declared.entry.Entry.{Entry}
use Rattle.wal_record.specs.declared.record.Record.{Record}

-- what a disk tells of its calls
abbrev pub calls_of : {D : Type 0} → (D → Option ℕ) → (D → ℕ) → (D → ℕ) → D → Calls
calls_of passes refused own disk = record { passes = passes disk; refused = refused disk; own = own disk }

-- its history, the LSN up to which the log was durable as the life ended, if it has, the calls of the log disk, the durable
-- blocks of the log, and for how many commits it has room
pub record JournalState : Type 0 where
  pub history : List Entry
  pub ended : Option ℕ
  pub calls : Calls
  pub blocks : List Place
  pub room : ℕ

-- ---- calls of the log disk

-- Any number of calls, the last of which may have faulted: then the disk failed by itself, or a fuse that was armed refused it.
abbrev pub BlamesDisk : Calls → Calls → Type 0 → Type 0
BlamesDisk old new faulted = Blames (λ (c : Calls). c.passes) (λ (c : Calls). c.refused) (λ (c : Calls). c.own) old new faulted

-- where the disk has a fuse, that lets this many calls pass from now on
abbrev pub ArmsDisk : Type 0 → Option ℕ → Calls → Calls → Type 0
ArmsDisk fuses n old new = Armed fuses (λ (c : Calls). c.passes) (λ (c : Calls). c.refused) (λ (c : Calls). c.own) n old new

-- none was made, so the same blocks are durable
pub record IsUntouched (old new : JournalState) : Type 0 where
  pub ended : new.ended ≡ old.ended
  pub calls : new.calls ≡ old.calls
  pub blocks : new.blocks ≡ old.blocks

-- ---- what the log keeps

-- The first of the durable blocks begins with this LSN. It tells nothing where none is durable.
abbrev pub BeginsWith : List Place → ℕ → Type 0
BeginsWith [] lsn = Unit {0}
BeginsWith (p ∷ ps) lsn = lsn ≡ p.first

-- What was durable still is: the same blocks, and maybe more behind them, up to no lower LSN.
pub record KeepsBlocks (opens : List Record → Type 0) (old new : List Place) : Type 0 where
  pub begins : IsPrefix old new
  pub rises : (opening : List Record) → opens opening → durable_lsn old ≤ durable_lsn new

-- More blocks became durable, and then those went that end before this LSN, but never the last one.
pub record Recycles (point : ℕ) (old new : List Place) : Type 0 where
  pub more : List Place
  pub left : new ≡ drop (before_lsn point (old ++ more)) (old ++ more)
  pub rises : durable_lsn old ≤ durable_lsn new

-- ---- room for commits

-- there is room for one more, where there wasn't for as many as may be live
abbrev pub HasOneMore : ℕ → ℕ → Type 0
HasOneMore old new = ((old < 64) × (new ≡ old + 1)) ⊎ ((64 ≤ old) × (new ≡ old))

-- it stays as it was, or there is room for one more, where there wasn't for as many as may be live
abbrev pub KeepsRoom : ℕ → ℕ → Type 0
KeepsRoom old new = (new ≡ old) ⊎ ((old < 64) × (new ≡ old + 1))

-- ---- the end

-- an end stays
abbrev pub KeepsEnd : JournalState → JournalState → Type 0
KeepsEnd old new = IfSome old.ended (λ at. new.ended ≡ Some at)

-- what is known of an end is what was known, or the end of the log
abbrev pub LearnsEnd : Account → Account → Option ℕ → Type 0
LearnsEnd before after ended = (after.ended ≡ before.ended) ⊎ (after.ended ≡ ended)

-- where an end is known, it is the journal's
abbrev pub KnowsEnd : Account → JournalState → Type 0
KnowsEnd x j = (at : ℕ) → x.ended ≡ Some at → j.ended ≡ Some at
