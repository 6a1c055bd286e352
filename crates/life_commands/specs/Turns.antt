-- Turns: a command of the script, what it added to the history of its life, and how it ended; and what turns leave.
use Rattle.std.specs.Prelude.{◌≡◌, ◌≤◌, ◌⊎◌, ℕ, List, [], ◌∷◌, ◌++◌, length, fold, unwrap_or, Option, Some, None, Bool, true, false}
use Rattle.wal_record.specs.History.{life_log}
use Rattle.wal_record.specs.Left.{IsLeft}
use Rattle.wal_record.specs.declared.record.Record.{Record}
use Rattle.wal_record.specs.declared.entry.Entry.{Entry}
use Rattle.log_laws.specs.Right.{IsRight, first_log}
use Rattle.command_laws.specs.Names.{Active, began, without}
use Rattle.transcript.specs.declared.upkeep.Stat.{Stat}
use Rattle.script.specs.declared.command.Device.{Device}
use Rattle.script.specs.declared.command.Device.TheVariants.{Log, Data, Vault}
use Rattle.script.specs.declared.command.Command.{Command}
use Rattle.script.specs.declared.command.Command.TheVariants as commands
use Rattle.life_commands.specs.Bytes.{Bytes, Unknown}

-- How a command ended: it was answered; so many transactions are open that no more may begin; a fuse refused a call of the
-- log, which is durable up to this LSN then, or of the vault; its life had ended before, with this LSN; or a status cut it
-- off.
pub data End : Type 0 where
  Done : End
  TooMany : End
  LogFault : ℕ → End
  VaultFault : End
  Ended : ℕ → End
  Cut : End

-- The numbers in a command's line that its entries don't tell: commits and losers of a log that was opened, commits behind a
-- commit, what `stat` counts, and how many archive runs were made.
pub data Figures : Type 0 where
  Plain : Figures
  Opening : ℕ → ℕ → Figures
  Numbered : ℕ → Figures
  Counted : Stat → Figures
  Made : ℕ → Figures

-- An `open` that is done has found a log. Where a command ends its life, so many records of the log are known to be durable then.
pub record Turn : Type 0 where
  pub command : Command
  pub entries : List Entry
  pub found : List Record
  pub kept : ℕ
  pub figures : Figures
  pub end : End

-- the log that a life opened, and its history
pub record Life : Type 0 where
  pub opening : List Record
  pub history : List Entry

-- ---- which log an opening may find

-- What the disk was used for last: it holds this log, and nothing waits for a sync; it holds this log, and what is
-- synced is of an earlier use; a format made the log of a store with this limit, or failed; this life is over, of whose log
-- at least so many records are durable; or the machine has stopped.
pub data Last : Type 0 where
  Found : List Record → Last
  Unsynced : List Record → Last → Last
  Formatted : ℕ → Last
  Unformatted : Last → ℕ → Last
  LeftBy : Life → ℕ → Last
  Stopped : Last → Last

-- what a stop may leave of a life, at least so many records
abbrev pub IsLeftBy : Life → ℕ → List Record → Type 0
IsLeftBy l kept rs = (own : List Record) × IsLeft l.opening l.history own × (rs ≡ l.opening ++ own) × (kept ≤ length rs)

abbrev mutual
  -- the logs that the disk may hold then; a format that failed has made its log where none was, or nothing
  pub MayFind : Last → List Record → Type 0
  MayFind (Found log) rs = rs ≡ log
  MayFind (Unsynced log before) rs = rs ≡ log
  MayFind (Formatted limit) rs = rs ≡ first_log limit
  MayFind (Unformatted before limit) rs = MayFind before rs ⊎ (MayFind before [] × (rs ≡ first_log limit))
  MayFind (LeftBy l kept) rs = IsLeftBy l kept rs
  MayFind (Stopped before) rs = MayBeLeft before rs

  -- the logs that the disk may hold behind a stop
  pub MayBeLeft : Last → List Record → Type 0
  MayBeLeft (Found log) rs = rs ≡ log
  MayBeLeft (Unsynced log before) rs = (rs ≡ log) ⊎ MayBeLeft before rs
  MayBeLeft (Formatted limit) rs = rs ≡ first_log limit
  MayBeLeft (Unformatted before limit) rs = MayBeLeft before rs ⊎ (MayFind before [] × (rs ≡ first_log limit))
  MayBeLeft (LeftBy l kept) rs = IsLeftBy l kept rs
  MayBeLeft (Stopped before) rs = MayBeLeft before rs

-- where an open life is over then, of whose log so many records are durable
abbrev pub last_after : Option Life → Last → ℕ → Last
last_after None last kept = last
last_after (Some l) last kept = LeftBy l kept

-- how the log disk was handed in: what it was used for, and what is known of its bytes
pub record Start : Type 0 where
  pub last : Last
  pub bytes : Bytes

-- a life that was opened may have changed the bytes
abbrev pub bytes_after : Option Life → Bytes → Bytes
bytes_after None bytes = bytes
bytes_after (Some l) bytes = Unknown

-- ---- what the turns so far leave

-- whether each device's fuse is armed
pub record Fuses : Type 0 where
  pub log : Bool
  pub pages : Bool
  pub vault : Bool

abbrev pub renewed : Fuses
renewed = record { log = false; pages = false; vault = false }

abbrev pub with_fuse : Device → Bool → Fuses → Fuses
with_fuse Log armed fuses = record fuses { log = armed }
with_fuse Data armed fuses = record fuses { pages = armed }
with_fuse Vault armed fuses = record fuses { vault = armed }

pub record Stage : Type 0 where
  -- which log the disk may hold where no life is open
  pub last : Last
  -- what is known of its bytes then
  pub bytes : Bytes
  -- the lives that are over, and the one that is open
  pub past : List Life
  pub life : Option Life
  -- the active transactions, in the order of their beginning
  pub active : List Active
  -- whose fuse is armed
  pub armed : Fuses
  -- up to which LSN the log was durable when the life ended, if it has
  pub ended : Option ℕ
  -- whether a status has cut a command off
  pub cut : Bool

-- the log disk was handed in so
abbrev pub begin_stage : Start → Stage
begin_stage start = record { last = start.last; bytes = start.bytes; past = []; life = None; active = []; armed = renewed; ended = None; cut = false }

-- pages and writes that may be undone, together, of a format
abbrev pub room_of : Option ℕ → ℕ
room_of limit = unwrap_or limit 16384

abbrev pub longer : Option Life → List Entry → Option Life
longer None es = None
longer (Some l) es = Some (record l { history = l.history ++ es })

abbrev pub with_entries : Stage → List Entry → Stage
with_entries s es = record s { life = longer s.life es }

abbrev pub lives_of : Option Life → List Life → List Life
lives_of None past = past
lives_of (Some l) past = past ++ l ∷ []

-- the log of a life so far
abbrev pub log_of_life : Option Life → List Record
log_of_life None = []
log_of_life (Some l) = life_log l.opening l.history

-- the life is over, and the disk was used so last; the machine hasn't stopped
abbrev pub over : Stage → Last → Stage
over s last = record {
  last = last;
  bytes = bytes_after s.life s.bytes;
  past = lives_of s.life s.past;
  life = None;
  active = [];
  armed = s.armed;
  ended = None;
  cut = s.cut;
}

-- a close ends the life, and its whole log is durable
abbrev pub closed : Stage → Stage
closed s = over s (Found (log_of_life s.life))

-- a stop ends the life, and renews the fuses
abbrev pub stopped : Stage → ℕ → Stage
stopped s kept = record (over s (Stopped (last_after s.life s.last kept))) { armed = renewed }

-- Behind a command that is done. Those of words that aren't built, here and below, are done nowhere.
abbrev pub done_stage : Stage → Command → List Entry → List Record → ℕ → Stage
done_stage s commands.Nothing es found kept = s
done_stage s (commands.Format limit) es found kept = record s { last = Formatted (room_of limit) }
done_stage s commands.Open es found kept = record s { life = Some (record { opening = found; history = [] }) }
done_stage s (commands.Begin name) es found kept = record (with_entries s es) { active = s.active ++ began name es }
done_stage s (commands.Ask name request) es found kept = with_entries s es
done_stage s (commands.Commit name) es found kept = record (with_entries s es) { active = without s.active name }
done_stage s (commands.Abort name) es found kept = record (with_entries s es) { active = without s.active name }
done_stage s commands.Checkpoint es found kept = with_entries s es
done_stage s commands.Backup es found kept = with_entries s es
done_stage s commands.Archive es found kept = with_entries s es
done_stage s commands.Merge es found kept = s
done_stage s commands.Recycle es found kept = s
done_stage s commands.Lose es found kept = with_entries s es
done_stage s (commands.Help steps) es found kept = with_entries s es
done_stage s commands.Stat es found kept = s
done_stage s commands.Close es found kept = closed (with_entries s es)
done_stage s (commands.Stop keep) es found kept = stopped s kept
done_stage s (commands.Damage page) es found kept = s
done_stage s (commands.Fuse device calls) es found kept = record s { armed = with_fuse device true s.armed }
done_stage s (commands.Renew device) es found kept = record s { armed = with_fuse device false s.armed }
done_stage s (commands.Parallel workers retries show) es found kept = s
done_stage s (commands.Worker transactions) es found kept = s
done_stage s (commands.Step request) es found kept = s
done_stage s commands.End es found kept = s

-- The log failed in a command: in a life that ends it, and the log is durable up to this LSN where a fuse refused the call.
abbrev pub failed_stage : Stage → Command → List Entry → Option ℕ → Stage
failed_stage s commands.Nothing es at = s
failed_stage s (commands.Format limit) es at = record s { last = Unformatted s.last (room_of limit) }
failed_stage s commands.Open es at = s
failed_stage s (commands.Begin name) es at = record (with_entries s es) { ended = at }
failed_stage s (commands.Ask name request) es at = record (with_entries s es) { ended = at }
failed_stage s (commands.Commit name) es at = record (with_entries s es) { ended = at }
failed_stage s (commands.Abort name) es at = record (with_entries s es) { ended = at }
failed_stage s commands.Checkpoint es at = record (with_entries s es) { ended = at }
failed_stage s commands.Backup es at = record (with_entries s es) { ended = at }
failed_stage s commands.Archive es at = record (with_entries s es) { ended = at }
failed_stage s commands.Merge es at = s
failed_stage s commands.Recycle es at = s
failed_stage s commands.Lose es at = record (with_entries s es) { ended = at }
failed_stage s (commands.Help steps) es at = record (with_entries s es) { ended = at }
failed_stage s commands.Stat es at = s
failed_stage s commands.Close es at = record (with_entries s es) { ended = at }
failed_stage s (commands.Stop keep) es at = s
failed_stage s (commands.Damage page) es at = s
failed_stage s (commands.Fuse device calls) es at = s
failed_stage s (commands.Renew device) es at = s
failed_stage s (commands.Parallel workers retries show) es at = s
failed_stage s (commands.Worker transactions) es at = s
failed_stage s (commands.Step request) es at = s
failed_stage s commands.End es at = s

-- A close that was answered ends the life, also where the log failed in it or before; so many records of the log are durable then.
abbrev pub close_over : Command → ℕ → Stage → Stage
close_over commands.Close kept s = over s (last_after s.life s.last kept)
close_over _ kept s = s

abbrev pub stage_after : Stage → Command → List Entry → List Record → ℕ → End → Stage
stage_after s c es found kept Done = done_stage s c es found kept
stage_after s c es found kept TooMany = s
stage_after s c es found kept (LogFault n) = close_over c kept (failed_stage s c es (Some n))
stage_after s c es found kept VaultFault = with_entries s es
stage_after s c es found kept (Ended n) = close_over c kept s
stage_after s c es found kept Cut = record (failed_stage s c es None) { cut = true }

abbrev pub turn : Command → List Entry → End → Turn
turn c es end = record { command = c; entries = es; found = []; kept = 0; figures = Plain; end = end }

-- one that ends a life, of whose log so many records are known to be durable then
abbrev pub last_turn : Command → List Entry → ℕ → End → Turn
last_turn c es kept end = record { command = c; entries = es; found = []; kept = kept; figures = Plain; end = end }

-- one that is done, with these figures
abbrev pub done : Command → List Entry → Figures → Turn
done c es figures = record { command = c; entries = es; found = []; kept = 0; figures = figures; end = Done }

abbrev pub stage_step : Stage → Turn → Stage
stage_step s t = stage_after s t.command t.entries t.found t.kept t.end

unfoldable pub stage : Start → List Turn → Stage
stage start turns = fold stage_step (begin_stage start) turns

abbrev pub history_of : Option Life → List Entry
history_of None = []
history_of (Some l) = l.history

-- ---- lives

abbrev pub lives : Stage → List Life
lives s = lives_of s.life s.past

-- the life is legal and serial, and what a stop may leave of it has its first transactions
abbrev pub IsRightLife : Life → Type 0
IsRightLife l = IsRight l.opening l.history
