-- What a run promises.
use Rattle.std.specs.Prelude.{◌≡◌, ◌<◌, ◌≤◌, ◌+◌, ℕ, List, [], ◌∷◌, ◌++◌, length, map, Option, Some, None, Bool, true, false, ◌⊎◌, codes}
use Rattle.std.specs.List.{All}
use Rattle.std.specs.Io.KnownBytes.{Appends, Consumes, IsAtEnd, prepend_known}
use Rattle.std.specs.declared.result.Result.{Result}
use Rattle.std.specs.declared.result.Result.TheVariants.{Ok, Err}
use Rattle.media.specs.declared.disk.Disk.{Ghosts}
use Rattle.script.specs.declared.command.Command.{Command}
use Rattle.script.specs.declared.command.Command.TheVariants as commands
use Rattle.script.specs.Line.{reads}
use Rattle.line_reader.specs.Lines.{Reader, to_come, longest_script, IsBounded, IsLine, IsNoLine}
use Rattle.line_reader.specs.Built.{is_built}
use Rattle.life_commands.specs.Bytes.{Known}
use Rattle.life_commands.specs.Rows.{Fits, is_lawful}
use Rattle.life_commands.specs.Stores.{AreOf, Stores}
use Rattle.life_commands.specs.Turns.{Start, Turn, Stage, stage, bytes_after, last_after, IsRightLife, MayFind, lives}
use Rattle.life_commands.specs.Refusals.{IsOpen, IsFormat, FindsLog}
use Rattle.runner.specs.Cuts.{MayCut}
use Rattle.life_commands.specs.Text.{text}
use Rattle.life_commands.specs.declared.status.Status.{Status}
use Rattle.life_commands.specs.declared.status.Status.TheVariants as statuses
use Rattle.runner.specs.declared.turns.Turned.{Turned}
use Rattle.runner.specs.declared.turns.Turned.TheVariants as results
use Rattle.runner.specs.declared.turns.Passed.{Passed}
use Rattle.runner.specs.declared.turns.Passed.TheVariants as passes
use Rattle.runner.specs.declared.living.Lived.{Lived}
use Rattle.runner.specs.declared.living.Lived.TheVariants as ways
use Rattle.life_commands.specs.LogDisk.{Leaves}
use Rattle.life_commands.specs.Living.{Adds, Out}
use Rattle.runner.specs.Devices.{Rests, Stored}
use Rattle.runner.specs.Machine.{IsAt}
use Rattle.runner.specs.Vault.{WithVault}

-- the bytes are the lines of these commands
abbrev pub Script : List ℕ → List Command → Type 0
Script bytes [] = bytes ≡ []
Script bytes (c ∷ cs) = (line : List ℕ) × (rest : List ℕ) × (bytes ≡ line ++ 10 ∷ rest) × IsLine line × (reads line ≡ Some c) × Script rest cs

abbrev pub IsPrefix : List ℕ → List ℕ → Type 0
IsPrefix a b = (rest : List ℕ) × (b ≡ a ++ rest)

abbrev pub command_of : Turn → Command
command_of t = t.command

-- turns that were run on a disk that was handed in so: of the lines read; each fits, and each life is right
pub record Ran (tells : Type 0) (start : Start) (read : List ℕ) (turns : List Turn) : Type 0 where
  pub script : Script read (map command_of turns)
  pub fits : Fits tells start turns
  pub right : tells → All IsRightLife (lives (stage start turns))

-- the bytes are the lines of all turns before the last, and some of the last one's
abbrev pub Partly : Start → List Turn → List ℕ → Type 0
Partly start turns written = (before : List Turn) × (last : List Turn) × (length last < 2) × (turns ≡ before ++ last) × IsPrefix (text start before) written × IsPrefix written (text start turns)

-- what is said of a command that a line spells
abbrev pub OfCommand : (Command → Type 0) → Option Command → Type 0
OfCommand P None = ⊥
OfCommand P (Some c) = P c

abbrev pub Unlawful : Stage → Option Command → Type 0
Unlawful s None = Unit {0}
Unlawful s (Some c) = is_lawful s c ≡ false

-- behind so many bytes of a script these are one line with its end
pub record IsNext (taken : ℕ) (rest line : List ℕ) : Type 0 where
  pub is : rest ≡ line ++ 10 ∷ []
  pub one : IsLine line
  pub within : taken + length rest ≤ longest_script

-- the next line has a built word and is in no grammar, or its command isn't lawful after these turns; or no line is
-- there: the input ends within it, or it is too long, or the script is
abbrev pub BadLine : Stage → ℕ → List ℕ → Option (List ℕ) → Type 0
BadLine s taken rest left = ((line : List ℕ) × IsNext taken rest line × (is_built line ≡ true) × Unlawful s (reads line)) ⊎ IsNoLine taken rest left

-- the next line spells a command of which this is so
abbrev pub NextLine : (Command → Type 0) → ℕ → List ℕ → Type 0
NextLine P taken rest = (line : List ℕ) × IsNext taken rest line × OfCommand P (reads line)

-- the next line begins with a word that isn't built
abbrev pub NotBuiltLine : ℕ → List ℕ → Type 0
NotBuiltLine taken rest = (line : List ℕ) × IsNext taken rest line × (is_built line ≡ false)

-- by the status: what was written of the turns' text, and why the run ended; the log disk was handed in as this use left it
abbrev pub Ended : Type 0 → Start → Status → List Turn → List ℕ → List ℕ → List ℕ → Option (List ℕ) → Type 0
Ended tells start statuses.Done turns read rest written left = (written ≡ text start turns) × (rest ≡ []) × IsAtEnd left
Ended tells start statuses.Memory turns read rest written left = Partly start turns written
Ended tells start statuses.Usage turns read rest written left = (turns ≡ []) × (read ≡ []) × (rest ≡ []) × (written ≡ [])
Ended tells start statuses.NoGenerator turns read rest written left = (turns ≡ []) × (read ≡ []) × (rest ≡ []) × (written ≡ [])
Ended tells start (statuses.Script line) turns read rest written left = (written ≡ text start turns) × (line ≡ length turns + 1) × BadLine (stage start turns) (length read) rest left
Ended tells start statuses.SourceFault turns read rest written left = written ≡ text start turns
Ended tells start statuses.SinkFault turns read rest written left = Partly start turns written
Ended tells start statuses.LogFault turns read rest written left = written ≡ text start turns
Ended tells start statuses.VaultFault turns read rest written left = written ≡ text start turns
Ended tells start (statuses.VaultBad object byte) turns read rest written left = (written ≡ text start turns) × (tells → ⊥)
Ended tells start (statuses.BlockBad block byte) turns read rest written left = (written ≡ text start turns) × (tells → ⊥)
Ended tells start (statuses.LogBad block byte) turns read rest written left = (written ≡ text start turns) × NextLine IsOpen (length read) rest × (tells → ⊥)
Ended tells start statuses.NotFormatted turns read rest written left = (written ≡ text start turns) × NextLine IsOpen (length read) rest × (tells → MayFind (stage start turns).last [])
Ended tells start statuses.AlreadyFormatted turns read rest written left = (written ≡ text start turns) × NextLine IsFormat (length read) rest × (tells → FindsLog (stage start turns).last)
Ended tells start (statuses.NotBuilt line) turns read rest written left = (written ≡ text start turns) × (line ≡ length turns + 1) × NotBuiltLine (length read) rest

-- The devices that are handed back. The log disk keeps a log that may be found next: of an open life a member of what a stop may
-- leave, with at least so many of its records. The images on the data device are of each such log, and each object that such a
-- log names is synced in the vault.
pub record HandsBack {D S : Type 0} (tells : Type 0) (L : Ghosts D) (B : Stores S) (disk : D) (beside : S) (s : Stage) : Type 0 where
  pub kept : ℕ
  pub leaves : Leaves L kept disk s
  pub stores : L.tells → AreOf (B.are_of beside) (last_after s.life s.last kept)
  pub bytes : Known tells L (bytes_after s.life s.bytes) disk

-- The devices were handed in as the start says, as devices of their types tell, and B says how they are handed back; then what
-- was left and told at the start, and what is now. What was read and given to no line is still pending.
pub record Headline (tells : Type 0) (start : Start) (B : Stage → Type 0) (left0 : Option (List ℕ)) (pending : List ℕ) (left told0 told : Option (List ℕ)) (status : Status) : Type 0 where
  pub turns : List Turn
  pub read : List ℕ
  pub rest : List ℕ
  pub written : List ℕ
  -- the lines read, and what was read behind them
  pub taken : Consumes left0 (prepend_known pending left) (read ++ rest)
  -- the lines are within the longest script; in all, at most that and one byte more was read
  pub within : length read ≤ longest_script
  pub most : length read + length rest + length pending ≤ longest_script + 1
  pub ran : Ran tells start read turns
  -- whether the status has cut the last command off
  pub cut : MayCut status (stage start turns).cut
  pub wrote : Appends told0 told written
  pub ended : Ended tells start status turns read rest written (prepend_known pending left)
  pub back : B (stage start turns)

-- between two turns: what was read and written since the start, by the turns so far; H says what holds of their stage
pub record Between (tells : Type 0) (start : Start) (H : Stage → Type 0) (left0 told0 : Option (List ℕ)) (reader : Reader) (turns : List Turn) (left told : Option (List ℕ)) : Type 0 where
  pub read : List ℕ
  pub script : Script read (map command_of turns)
  pub taken : Consumes left0 (to_come reader left) read
  pub count : reader.lines ≡ length turns
  pub size : reader.taken ≡ length read
  pub within : length read ≤ longest_script
  pub most : IsBounded reader
  pub fits : Fits tells start turns
  pub holds : H (stage start turns)
  pub wrote : Appends told0 told (text start turns)

-- the text of the next line, whose first word is built, and that line's number; or the input is at its end
abbrev pub TakesText : Reader → Reader → Option (List ℕ) → Option (List ℕ) → Option (List ℕ × ℕ) → Type 0
TakesText old new left_old left_new None = Consumes (to_come old left_old) (to_come new left_new) [] × IsAtEnd (to_come new left_new) × (new.taken ≡ old.taken)
TakesText old new left_old left_new (Some (bytes, line)) = Consumes (to_come old left_old) (to_come new left_new) (bytes ++ 10 ∷ []) × IsLine bytes × (is_built bytes ≡ true)
    × (line ≡ old.lines + 1) × (new.lines ≡ old.lines + 1) × (new.taken ≡ old.taken + length bytes + 1) × (new.taken ≤ longest_script)

-- why no such line was read
abbrev pub TakesNone : Reader → Reader → Option (List ℕ) → Option (List ℕ) → Status → Type 0
TakesNone old new left_old left_new (statuses.Script n) = (n ≡ old.lines + 1) × (rest : List ℕ) × Consumes (to_come old left_old) (to_come new left_new) rest × (new.taken ≡ old.taken + length rest) × IsNoLine old.taken rest (to_come new left_new)
TakesNone old new left_old left_new (statuses.NotBuilt n) = (n ≡ old.lines + 1) × (bytes : List ℕ) × Consumes (to_come old left_old) (to_come new left_new) (bytes ++ 10 ∷ []) × IsLine bytes
    × (new.taken ≡ old.taken + length bytes + 1) × (new.taken ≤ longest_script) × (is_built bytes ≡ false)
TakesNone old new left_old left_new status = (rest : List ℕ) × Consumes (to_come old left_old) (to_come new left_new) rest × (new.taken ≡ old.taken + length rest)

-- why what was read of the line with this number is no command
abbrev pub IsUnread : {E : Type 0} → Result (Option Command) E → ℕ → Status → Type 0
IsUnread (Ok (Some c)) line status = ⊥
IsUnread (Ok None) line status = status ≡ statuses.Script line
IsUnread (Err why) line status = status ≡ statuses.Memory

-- one line, behind which a run goes on, and the vault's fuse is armed or not, or has ended
abbrev pub TurnedTo : {D S G : Type 0} → Type 0 → Ghosts D → Stores S → Start → (G → Stage → Type 0) → S → Bool → Option (List ℕ) → Option (List ℕ) → Reader → List Turn → Option (List ℕ) → Option (List ℕ) → Turned D G → Type 0
TurnedTo tells L B start inside beside armed left0 told0 reader turns left told (results.Goes at) = (t : Turn) × Between L.tells start (WithVault armed (Stored L.tells B beside (IsAt tells L inside at))) left0 told0 reader (turns ++ t ∷ []) left told
TurnedTo tells L B start inside beside armed left0 told0 reader turns left told (results.Ends status disk) = Headline L.tells start (HandsBack tells L B disk beside) left0 reader.pending left told0 told status

-- The next line has been read, and is this command; the turns are those before it, behind which H holds.
pub record Asked (tells : Type 0) (start : Start) (H : Stage → Type 0) (left0 told0 : Option (List ℕ)) (reader : Reader) (turns : List Turn) (left told : Option (List ℕ)) (c : Command) : Type 0 where
  pub old : Reader
  pub left_old : Option (List ℕ)
  pub before : Between tells start H left0 told0 old turns left_old told
  pub most : IsBounded reader
  pub line : List ℕ
  pub took : Consumes (to_come old left_old) (to_come reader left) (line ++ 10 ∷ [])
  pub one : IsLine line
  pub said : reads line ≡ Some c
  pub size : reader.taken ≡ old.taken + length line + 1
  pub within : reader.taken ≤ longest_script
  pub count : reader.lines ≡ old.lines + 1

-- it asks for a stop, which has these lines
abbrev pub Stopping : {D S : Type 0} → Type 0 → Ghosts D → Stores S → Start → ℕ → D → S → Option (List ℕ) → Option (List ℕ) → Reader → List Turn → Option (List ℕ) → Option (List ℕ) → Option ℕ → List ℕ → Type 0
Stopping tells L B start kept disk beside left0 told0 reader turns left told keep out =
    (out ≡ codes "stop\n") × Asked L.tells start (Rests tells L B kept disk beside) left0 told0 reader turns left told (commands.Stop keep)

-- where a life was, and these devices have been handed out
abbrev pub AtRest : {D S : Type 0} → Type 0 → Ghosts D → Stores S → D → S → Stage → Type 0
AtRest tells L B disk beside = Stored L.tells B beside (Out tells L disk)

abbrev pub Whatever : Stage → Type 0
Whatever s = Unit {0}

-- It asks for a close, which has these lines: one turn more, behind which no life is open.
abbrev pub Closing : {D S : Type 0} → Type 0 → Ghosts D → Stores S → Start → D → S → Bool → Option (List ℕ) → Option (List ℕ) → Reader → List Turn → Option (List ℕ) → Option (List ℕ) → List ℕ → Type 0
Closing tells L B start disk beside armed left0 told0 reader turns left told out =
    Adds L.tells (WithVault armed (AtRest tells L B disk beside)) (stage start turns) commands.Close out × Asked L.tells start Whatever left0 told0 reader turns left told commands.Close

-- One line within a life, which H knows then, behind which the run goes on, and the vault's fuse is armed or not; the machine is to stop, the life is over, or the run
-- has ended, whatever devices the life hands out.
abbrev pub PassedTo : {D S : Type 0} → Type 0 → Ghosts D → Stores S → Start → Bool → (Stage → Type 0) → (ℕ → D → S → Type 0) → Option (List ℕ) → Option (List ℕ) → Reader → List Turn → Option (List ℕ) → Option (List ℕ) → Passed → Type 0
PassedTo tells L B start armed H hands left0 told0 reader turns left told passes.Goes = (t : Turn) × Between L.tells start (WithVault armed H) left0 told0 reader (turns ++ t ∷ []) left told
PassedTo tells L B start armed H hands left0 told0 reader turns left told (passes.Stops keep lines) =
    (kept : ℕ) (disk : _) (beside : _) → hands kept disk beside → Stopping tells L B start kept disk beside left0 told0 reader turns left told keep lines.items
PassedTo tells L B start armed H hands left0 told0 reader turns left told (passes.Closes lines) =
    (kept : ℕ) (disk : _) (beside : _) → hands kept disk beside → Closing tells L B start disk beside armed left0 told0 reader turns left told lines.items
PassedTo tells L B start armed H hands left0 told0 reader turns left told (passes.Ends status) =
    (kept : ℕ) (disk : _) (beside : _) → hands kept disk beside → Headline L.tells start (HandsBack tells L B disk beside) left0 reader.pending left told0 told status

-- a life, which is over, and the vault's fuse is armed or not, or the run has ended in it
abbrev pub LivedTo : {D E F : Type 0} → Type 0 → Ghosts D → Stores (E × F) → Start → Bool → Option (List ℕ) → Option (List ℕ) → Reader → Option (List ℕ) → Option (List ℕ) → Lived D E F → Type 0
LivedTo tells L B start armed left0 told0 reader left told (ways.Over disk device vault) = (turns : List Turn) × Between L.tells start (WithVault armed (AtRest tells L B disk (device, vault))) left0 told0 reader turns left told
LivedTo tells L B start armed left0 told0 reader left told (ways.Ends status disk device vault) = Headline L.tells start (HandsBack tells L B disk (device, vault)) left0 reader.pending left told0 told status
