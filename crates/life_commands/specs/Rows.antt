-- Which turn may stand where: what each command needs, what it enters, and how it may end.
use Rattle.std.specs.Prelude.{◌≡◌, ◌≢◌, ◌<◌, ◌⊎◌, ℕ, List, [], ◌∷◌, ◌++◌, length, Option, Some, None, Bool, true, false, not, if◌then◌else◌, IsTrue}
use Rattle.std.specs.List.{All}
use Rattle.store_model.specs.Along.{AllAlong}
use Rattle.store_model.specs.declared.limits.TheConstants.{MOST_ACTIVE}
use Rattle.store_model.specs.declared.reply.Outcome.{Outcome}
use Rattle.wal_record.specs.Rules.{is_limit}
use Rattle.wal_record.specs.Locks.{Held}
use Rattle.wal_record.specs.OpenWrites.{is_loser}
use Rattle.wal_record.specs.declared.record.Checkpoint.{Checkpoint}
use Rattle.wal_record.specs.declared.record.Lost.{Lost}
use Rattle.wal_record.specs.declared.record.Record.{Record}
use Rattle.wal_record.specs.declared.record.Record.TheVariants as kinds
use Rattle.wal_record.specs.declared.entry.Entry.{Entry}
use Rattle.wal_record.specs.declared.entry.Entry.TheVariants.{Rec}
use Rattle.journal.specs.Stops.{IsDurableUpto}
use Rattle.command_laws.specs.Commands.{Aborts, Among, Answers, Begins, Commits, IsBesideRequest, IsUpkeep}
use Rattle.command_laws.specs.Names.{Active, active_of, is_active}
use Rattle.engine.specs.Answers.{HadRoom}
use Rattle.engine.specs.Beside.{IsInWay}
use Rattle.engine.specs.Requests.{lock_of}
use Rattle.store_pages.specs.Backed.{IsOfBackup, IsRunEntry}
use Rattle.own_life.specs.Helps.{AreOfHelp}
use Rattle.store_pages.specs.Pages.{IsWrittenEntry}
use Rattle.script.specs.declared.command.Device.{Device}
use Rattle.script.specs.declared.command.Device.TheVariants.{Log, Vault}
use Rattle.script.specs.declared.command.Command.{Command}
use Rattle.script.specs.declared.command.Command.TheVariants as commands
use Rattle.life_commands.specs.Bytes.{MayMake, MayOpen}
use Rattle.life_commands.specs.Figures.{AreFigures}
use Rattle.life_commands.specs.Turns.{Done, TooMany, LogFault, VaultFault, Ended, Cut, End, Figures, Life, MayFind, Stage, Start, Turn, failed_stage, history_of, room_of, stage}

abbrev pub no_life : Option Life → Bool
no_life None = true
no_life (Some l) = false

abbrev pub no_name : List Active → Bool
no_name [] = true
no_name (a ∷ active) = false

-- The command may stand after these turns. Those of words that aren't built, here and below, may stand nowhere.
abbrev pub is_lawful : Stage → Command → Bool
is_lawful s commands.Nothing = true
is_lawful s (commands.Format limit) = if no_life s.life then is_limit (room_of limit) else false
is_lawful s commands.Open = no_life s.life
is_lawful s (commands.Begin name) = if no_life s.life then false else not (is_active s.active name)
is_lawful s (commands.Ask name request) = is_active s.active name
is_lawful s (commands.Commit name) = is_active s.active name
is_lawful s (commands.Abort name) = is_active s.active name
is_lawful s commands.Checkpoint = not (no_life s.life)
is_lawful s commands.Backup = not (no_life s.life)
is_lawful s commands.Archive = not (no_life s.life)
is_lawful s commands.Merge = false
is_lawful s commands.Recycle = false
is_lawful s commands.Lose = not (no_life s.life)
is_lawful s (commands.Help steps) = not (no_life s.life)
is_lawful s commands.Stat = not (no_life s.life)
is_lawful s commands.Close = if no_life s.life then false else no_name s.active
is_lawful s (commands.Stop keep) = true
is_lawful s (commands.Damage page) = true
is_lawful s (commands.Fuse device calls) = true
is_lawful s (commands.Renew device) = true
is_lawful s (commands.Parallel workers retries show) = false
is_lawful s (commands.Worker transactions) = false
is_lawful s (commands.Step request) = false
is_lawful s commands.End = false

-- neither a stop nor a close, which end a life
abbrev pub IsNoStop : Command → Type 0
IsNoStop (commands.Stop keep) = ⊥
IsNoStop _ = Unit {0}

abbrev pub IsNoClose : Command → Type 0
IsNoClose commands.Close = ⊥
IsNoClose _ = Unit {0}

-- a command of a life, which looks into it or adds to its history
abbrev pub IsOfLife : Command → Type 0
IsOfLife commands.Nothing = ⊥
IsOfLife (commands.Format limit) = ⊥
IsOfLife commands.Open = ⊥
IsOfLife (commands.Begin name) = Unit {0}
IsOfLife (commands.Ask name request) = Unit {0}
IsOfLife (commands.Commit name) = Unit {0}
IsOfLife (commands.Abort name) = Unit {0}
IsOfLife commands.Checkpoint = Unit {0}
IsOfLife commands.Backup = Unit {0}
IsOfLife commands.Archive = Unit {0}
IsOfLife commands.Merge = ⊥
IsOfLife commands.Recycle = ⊥
IsOfLife commands.Lose = Unit {0}
IsOfLife (commands.Help steps) = Unit {0}
IsOfLife commands.Stat = Unit {0}
IsOfLife commands.Close = Unit {0}
IsOfLife (commands.Stop keep) = ⊥
IsOfLife (commands.Damage page) = ⊥
IsOfLife (commands.Fuse device calls) = ⊥
IsOfLife (commands.Renew device) = ⊥
IsOfLife (commands.Parallel workers retries show) = ⊥
IsOfLife (commands.Worker transactions) = ⊥
IsOfLife (commands.Step request) = ⊥
IsOfLife commands.End = ⊥

-- ---- what a command enters

-- what is said of the active transaction of a name
abbrev pub OfActive : (Active → Type 0) → Stage → List ℕ → Type 0
OfActive P s name = (a : Active) × (active_of s.active name ≡ Some a) × P a

-- a loser of the life's opening log
abbrev pub IsLoserIn : Type 0 → Option Life → ℕ → Type 0
IsLoserIn tells None t = ⊥
IsLoserIn tells (Some l) t = tells → is_loser l.opening t ≡ true

-- a command's own entries
abbrev pub IsOwn : Type 0 → Stage → Command → List Entry → Type 0
IsOwn tells s commands.Nothing own = own ≡ []
IsOwn tells s (commands.Format limit) own = own ≡ []
IsOwn tells s commands.Open own = own ≡ []
IsOwn tells s (commands.Begin name) own = (session : ℕ) × (tx : ℕ) × Begins (history_of s.life) session tx own
IsOwn tells s (commands.Ask name request) own = OfActive (λ a. (outcome : Outcome) × Answers a.session a.tx request (lock_of request) outcome own) s name
IsOwn tells s (commands.Commit name) own = OfActive (λ a. Commits a.session a.tx own) s name
IsOwn tells s (commands.Abort name) own = OfActive (λ a. Aborts (tells → ⊥) a.tx own) s name
IsOwn tells s commands.Checkpoint own = (lsn : ℕ) × (c : Checkpoint) × (own ≡ Rec lsn (kinds.Checkpoint c) ∷ [])
IsOwn tells s commands.Backup own = (backup : ℕ) × All (IsOfBackup backup) own
IsOwn tells s commands.Archive own = All IsRunEntry own
IsOwn tells s commands.Merge own = ⊥
IsOwn tells s commands.Recycle own = ⊥
IsOwn tells s commands.Lose own = (lsn : ℕ) × (l : Lost) × (own ≡ Rec lsn (kinds.Lost l) ∷ [])
IsOwn tells s (commands.Help steps) own = AreOfHelp (IsLoserIn tells s.life) steps own
IsOwn tells s commands.Stat own = own ≡ []
IsOwn tells s commands.Close own = All IsWrittenEntry own
IsOwn tells s (commands.Stop keep) own = own ≡ []
IsOwn tells s (commands.Damage page) own = own ≡ []
IsOwn tells s (commands.Fuse device calls) own = own ≡ []
IsOwn tells s (commands.Renew device) own = own ≡ []
IsOwn tells s (commands.Parallel workers retries show) own = ⊥
IsOwn tells s (commands.Worker transactions) own = ⊥
IsOwn tells s (commands.Step request) own = ⊥
IsOwn tells s commands.End own = ⊥

-- a loser of the life's opening log that held a lock in conflict with this one
abbrev pub IsInWayOf : Type 0 → Option Life → Held → ℕ → Type 0
IsInWayOf tells None lock t = ⊥
IsInWayOf tells (Some l) lock t = tells → IsInWay l.opening l.history lock t

-- What may stand in a turn beside its command's own entries: of a request its lock, the undo and the End of losers in the way of
-- that, and upkeep; of an abort and of a help upkeep.
abbrev pub IsBeside : Type 0 → Stage → Command → Entry → Type 0
IsBeside tells s commands.Nothing e = ⊥
IsBeside tells s (commands.Format limit) e = ⊥
IsBeside tells s commands.Open e = ⊥
IsBeside tells s (commands.Begin name) e = ⊥
IsBeside tells s (commands.Ask name request) e = OfActive (λ a. IsBesideRequest (IsInWayOf tells s.life (lock_of request)) a.tx (lock_of request) e) s name
IsBeside tells s (commands.Commit name) e = ⊥
IsBeside tells s (commands.Abort name) e = IsUpkeep e
IsBeside tells s commands.Checkpoint e = ⊥
IsBeside tells s commands.Backup e = ⊥
IsBeside tells s commands.Archive e = ⊥
IsBeside tells s commands.Merge e = ⊥
IsBeside tells s commands.Recycle e = ⊥
IsBeside tells s commands.Lose e = ⊥
IsBeside tells s (commands.Help steps) e = IsUpkeep e
IsBeside tells s commands.Stat e = ⊥
IsBeside tells s commands.Close e = ⊥
IsBeside tells s (commands.Stop keep) e = ⊥
IsBeside tells s (commands.Damage page) e = ⊥
IsBeside tells s (commands.Fuse device calls) e = ⊥
IsBeside tells s (commands.Renew device) e = ⊥
IsBeside tells s (commands.Parallel workers retries show) e = ⊥
IsBeside tells s (commands.Worker transactions) e = ⊥
IsBeside tells s (commands.Step request) e = ⊥
IsBeside tells s commands.End e = ⊥

-- a request that wrote had room for the write and its undo
abbrev pub WroteInRoom : Type 0 → Option Life → Command → List Entry → List Entry → Type 0
WroteInRoom tells (Some l) (commands.Ask name request) own es = tells → (before : List Entry) → l.history ++ es ≡ before ++ own → HadRoom l.opening before own
WroteInRoom tells life c own es = Unit {0}

-- what a command enters
pub record MayEnter (tells : Type 0) (s : Stage) (c : Command) (es : List Entry) : Type 0 where
  pub own : List Entry
  pub is : IsOwn tells s c own
  pub among : Among (IsBeside tells s c) own es
  pub room : WroteInRoom tells s.life c own es

-- ---- where a command may be done

-- Where a command may be done, and which log an `open` finds: one that may be found, and isn't empty; a `format` finds the empty
-- one. What is known of the disk's bytes allows it. Commands of a life are done in one that goes on, and a begin beside fewer
-- transactions than may be active. A disk that tells nothing
-- gives the form alone.
abbrev pub MayBeDone : Type 0 → Stage → Command → List Record → Type 0
MayBeDone tells s commands.Nothing found = Unit {0}
MayBeDone tells s (commands.Format limit) found = MayMake s.bytes × (tells → MayFind s.last [])
MayBeDone tells s commands.Open found = MayOpen s.bytes × (tells → MayFind s.last found × (found ≢ []))
MayBeDone tells s (commands.Begin name) found = (s.ended ≡ None) × (length s.active < MOST_ACTIVE)
MayBeDone tells s (commands.Ask name request) found = s.ended ≡ None
MayBeDone tells s (commands.Commit name) found = s.ended ≡ None
MayBeDone tells s (commands.Abort name) found = s.ended ≡ None
MayBeDone tells s commands.Checkpoint found = s.ended ≡ None
MayBeDone tells s commands.Backup found = s.ended ≡ None
MayBeDone tells s commands.Archive found = s.ended ≡ None
MayBeDone tells s commands.Merge found = ⊥
MayBeDone tells s commands.Recycle found = ⊥
MayBeDone tells s commands.Lose found = s.ended ≡ None
MayBeDone tells s (commands.Help steps) found = s.ended ≡ None
MayBeDone tells s commands.Stat found = s.ended ≡ None
MayBeDone tells s commands.Close found = s.ended ≡ None
MayBeDone tells s (commands.Stop keep) found = Unit {0}
MayBeDone tells s (commands.Damage page) found = Unit {0}
MayBeDone tells s (commands.Fuse device calls) found = Unit {0}
MayBeDone tells s (commands.Renew device) found = Unit {0}
MayBeDone tells s (commands.Parallel workers retries show) found = ⊥
MayBeDone tells s (commands.Worker transactions) found = ⊥
MayBeDone tells s (commands.Step request) found = ⊥
MayBeDone tells s commands.End found = ⊥

-- ---- how else it may end

-- the log disk, or the vault
abbrev pub IsLogOrVault : Device → Type 0
IsLogOrVault device = (device ≡ Log) ⊎ (device ≡ Vault)

-- The command calls the device, so a call of it may fail there. The vault stores backups and archive runs, and whatever reads
-- pages may read them there.
abbrev pub Calls : Command → Device → Type 0
Calls commands.Nothing device = ⊥
Calls (commands.Format limit) device = device ≡ Log
Calls commands.Open device = device ≡ Log
Calls (commands.Begin name) device = ⊥
Calls (commands.Ask name request) device = IsLogOrVault device
Calls (commands.Commit name) device = device ≡ Log
Calls (commands.Abort name) device = IsLogOrVault device
Calls commands.Checkpoint device = device ≡ Log
Calls commands.Backup device = IsLogOrVault device
Calls commands.Archive device = IsLogOrVault device
Calls commands.Merge device = ⊥
Calls commands.Recycle device = ⊥
Calls commands.Lose device = device ≡ Log
Calls (commands.Help steps) device = IsLogOrVault device
Calls commands.Stat device = ⊥
Calls commands.Close device = device ≡ Log
Calls (commands.Stop keep) device = ⊥
Calls (commands.Damage page) device = ⊥
Calls (commands.Fuse fused calls) device = ⊥
Calls (commands.Renew renewed) device = ⊥
Calls (commands.Parallel workers retries show) device = ⊥
Calls (commands.Worker transactions) device = ⊥
Calls (commands.Step request) device = ⊥
Calls commands.End device = ⊥

-- Where nothing is left to enter, nothing was entered; but a Checkpoint and a Lost are entered before they are made durable, a
-- close makes the log durable behind its last write of a page, and a help, a backup and an archive may fail behind any of their
-- steps.
abbrev pub IsLeftOut : Command → List Entry → List Entry → Type 0
IsLeftOut commands.Checkpoint es rest = Unit {0}
IsLeftOut commands.Backup es rest = Unit {0}
IsLeftOut commands.Archive es rest = Unit {0}
IsLeftOut commands.Lose es rest = Unit {0}
IsLeftOut (commands.Help steps) es rest = Unit {0}
IsLeftOut commands.Close es rest = Unit {0}
IsLeftOut _ es rest = rest ≡ [] → es ≡ []

-- a command of a life that goes on, or without one, was cut off: a first part of what it enters was entered
pub record IsCutOff (tells : Type 0) (s : Stage) (c : Command) (es : List Entry) : Type 0 where
  pub goes : s.ended ≡ None
  pub rest : List Entry
  pub enters : MayEnter tells s c (es ++ rest)
  pub part : IsLeftOut c es rest

-- at its end the life's log was durable up to this LSN
abbrev pub IsEnd : Option Life → Option ℕ → Type 0
IsEnd (Some l) (Some n) = IsDurableUpto l.opening l.history n
IsEnd _ _ = Unit {0}

-- a `begin` beside as many active transactions as may be
abbrev pub CrowdedRow : Stage → Command → List Entry → Type 0
CrowdedRow s c es = (name : List ℕ) × (c ≡ commands.Begin name) × (s.ended ≡ None) × (length s.active ≡ MOST_ACTIVE) × (es ≡ [])

-- a fault is a line only where the device's fuse is armed; an ended life answers so to the commands of a life
abbrev pub Row : Type 0 → Stage → Command → List Entry → List Record → Figures → End → Type 0
Row tells s c es found figures Done = MayBeDone tells s c found × MayEnter tells s c es × AreFigures tells s c es found figures
Row tells s c es found figures TooMany = CrowdedRow s c es
Row tells s c es found figures (LogFault n) = (s.armed.log ≡ true) × Calls c Log × IsCutOff tells s c es × (tells → IsEnd (failed_stage s c es (Some n)).life (failed_stage s c es (Some n)).ended)
Row tells s c es found figures VaultFault = (s.armed.vault ≡ true) × Calls c Vault × IsCutOff tells s c es
Row tells s c es found figures (Ended n) = (s.ended ≡ Some n) × IsOfLife c × (es ≡ [])
Row tells s c es found figures Cut = (IsOfLife c ⊎ Calls c Log) × IsCutOff tells s c es

-- nothing follows a command that a status cut off
pub record FitsAt (tells : Type 0) (s : Stage) (t : Turn) : Type 0 where
  pub goes : s.cut ≡ false
  pub lawful : IsTrue (is_lawful s t.command)
  pub row : Row tells s t.command t.entries t.found t.figures t.end

abbrev pub fits_after : Type 0 → Start → List Turn → Turn → Type 0
fits_after tells start before t = FitsAt tells (stage start before) t

unfoldable pub Fits : Type 0 → Start → List Turn → Type 0
Fits tells start turns = AllAlong (fits_after tells start) turns
