-- What each command of a life promises.
use Rattle.std.specs.Prelude.{◌≡◌, ◌≤◌, ℕ, List, None, Bool}
use Rattle.media.specs.declared.disk.Disk.{Ghosts}
use Rattle.media.specs.declared.pages.PageDevice as pages
use Rattle.media.specs.declared.vault.Vault as vaults
use Rattle.buffer_pool.specs.Tables.{Table}
use Rattle.store_pages.specs.Pages.{Lacks}
use Rattle.own_life.specs.State.{LifeState}
use Rattle.wal_record.specs.declared.record.Record.{Record}
use Rattle.script.specs.declared.command.Command.{Command}
use Rattle.script.specs.declared.command.Command.TheVariants as commands
use Rattle.life_commands.specs.declared.status.Status.{Status}
use Rattle.life_commands.specs.LogDisk.{View, IsWhole, seen}
use Rattle.life_commands.specs.Living.{Adds, AreBeside, IsDiskOf, Out, Within}
use Rattle.life_commands.specs.Refusals.{RefusesAt}
use Rattle.life_commands.specs.Stores.{AreOf, stores}
use Rattle.life_commands.specs.Turns.{Stage}

-- Ok: in each view of the disk, and behind all turns that this life may stand for, there is one turn more, of this command,
-- for which the life stands then; and these are its lines.
abbrev pub Did : {D : Type 0} → Ghosts D → (List Record → Type 0) → LifeState → LifeState → Command → List ℕ → Type 0
Did L opens old new c out = (v : View L.tells) (s : Stage) → Within (seen L v) opens old s → Adds (IsWhole v) (Within (seen L v) opens new) s c out

-- the same of a command that may call the vault, whose fuse is armed or not, as it is said here
abbrev pub DidArmed : {D : Type 0} → Ghosts D → (List Record → Type 0) → Bool → LifeState → LifeState → Command → List ℕ → Type 0
DidArmed L opens armed old new c out = (v : View L.tells) (s : Stage) → s.armed.vault ≡ armed → Within (seen L v) opens old s → Adds (IsWhole v) (Within (seen L v) opens new) s c out

-- Ok of a close: behind the turn more no life is open, whatever devices the life hands out; images and objects are of the log
-- that its disk keeps. So many records are durable at least as it has told.
abbrev pub Closed : {D E F : Type 0} → Ghosts D → pages.Ghosts E → vaults.Ghosts F → (List Record → Type 0) → LifeState → LifeState → List ℕ → Type 0
Closed L P V opens old new out = (v : View L.tells) (s : Stage) → Within (seen L v) opens old s → (kept : ℕ) (disk : _) (beside : _) → new.durable ≤ kept
    → IsDiskOf L opens new kept disk → AreBeside P V opens new kept beside
    → Adds (IsWhole v) (λ t. Out L.tells (seen L v) disk t × (IsWhole v → (stores P V).tells → AreOf ((stores P V).are_of beside) t.last)) s commands.Close out

-- Err: the command ends the run in this line for the cause of this status, whatever disk the life hands out.
abbrev pub Refused : {D : Type 0} → Ghosts D → (List Record → Type 0) → LifeState → LifeState → Command → ℕ → Status → Type 0
Refused L opens old new c line status = (v : View L.tells) (s : Stage) → Within (seen L v) opens old s → (kept : ℕ) (disk : _) → IsDiskOf L opens new kept disk
    → RefusesAt (seen L v) kept disk opens new.history s c line status

-- Ok of a loss: where the life goes on, no page in these frames is dirty, and the data device is emptied, as it is said here.
abbrev pub Loses : LifeState → Table → Type 0 → Type 0
Loses new frames emptied = new.ended ≡ None → ((page : ℕ) → Lacks frames page → ⊥) × emptied
