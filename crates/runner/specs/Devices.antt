-- What the devices beside the log disk have: images of pages and objects, of every log that may be found next.
use Rattle.std.specs.Prelude.{◌≤◌, ℕ, List, Option, Some, None}
use Rattle.media.specs.declared.disk.Disk.{Ghosts}
use Rattle.media.specs.declared.pages.PageDevice as pages
use Rattle.media.specs.declared.vault.Vault as vaults
use Rattle.wal_record.specs.declared.record.Record.{Record}
use Rattle.own_life.specs.State.{LifeState}
use Rattle.life_commands.specs.Living.{AreBeside, IsDiskOf, Safe}
use Rattle.life_commands.specs.Stores.{AreOf, Stores}
use Rattle.life_commands.specs.Turns.{Life, Last, Stage, last_after}

-- Where no life is open, they are of each log that may be found; in a life that has just begun, of the log that it opened.
abbrev pub AreOfAt : (List Record → Type 0) → Option Life → Last → Type 0
AreOfAt of None last = AreOf of last
AreOfAt of (Some l) last = of l.opening

-- beside what H says
pub record Stored {S : Type 0} (tells : Type 0) (B : Stores S) (beside : S) (H : Stage → Type 0) (s : Stage) : Type 0 where
  pub here : H s
  pub told : tells → B.tells
  pub stores : tells → AreOfAt (B.are_of beside) s.life s.last

-- The devices that a life hands out as it stops: at least so many records of its log are durable. What is beside the log disk is
-- of these, and what that keeps, also after a crash, has them.
pub record AreDevicesOf {D E F : Type 0} (L : Ghosts D) (P : pages.Ghosts E) (V : vaults.Ghosts F) (opens : List Record → Type 0) (x : LifeState) (kept : ℕ) (disk : D) (beside : E × F) : Type 0 where
  pub durable : x.durable ≤ kept
  pub log : IsDiskOf L opens x kept disk
  pub stores : AreBeside P V opens x kept beside

-- Each life is right, the log disk keeps a log that may be found, and what is beside it is of that log.
pub record Rests {D S : Type 0} (tells : Type 0) (L : Ghosts D) (B : Stores S) (kept : ℕ) (disk : D) (beside : S) (s : Stage) : Type 0 where
  pub safe : Safe tells L kept disk s
  pub stores : L.tells → AreOf (B.are_of beside) (last_after s.life s.last kept)
