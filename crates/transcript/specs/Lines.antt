-- The lines that answer: a head, which says what was asked, and an answer.
use Rattle.std.specs.Prelude.{ℕ, List, [], ◌++◌, length, Option, ◌==◌, if◌then◌else◌, unwrap_or, codes}
use Rattle.std.specs.Fmt.{decimal}
use Rattle.std.specs.List.{flat_map}
use Rattle.store_model.specs.declared.pair.Pair.{Pair}
use Rattle.store_model.specs.declared.reply.Reply.{Reply}
use Rattle.store_model.specs.declared.reply.Reply.TheVariants.{Was, Found, Pairs}
use Rattle.store_model.specs.declared.request.Request.{Request}
use Rattle.store_model.specs.declared.request.Request.TheVariants.{Get, Put, Del, Scan, Apply}
use Rattle.script.specs.declared.command.Device.{Device}
use Rattle.script.specs.declared.command.Device.TheVariants.{Log, Data, Vault}
use Rattle.transcript.specs.Printing.{escaped, shown}
use Rattle.transcript.specs.declared.upkeep.Stat.{Stat}
use Rattle.transcript.specs.declared.upkeep.Upkeep.{Upkeep}
use Rattle.transcript.specs.declared.upkeep.Upkeep.TheVariants.{Checkpoint, Backup, Lose, Help, Close}

abbrev pub line : List ℕ → List ℕ → List ℕ
line head answer = head ++ answer ++ codes "\n"

-- ---- requests

-- an operator by its name; one without a name by its number
abbrev pub operator_text : ℕ → List ℕ
operator_text operator =
    if operator == 1 then codes "add"
    else (if operator == 2 then codes "max"
    else (if operator == 3 then codes "join"
    else decimal operator))

-- a bound as a script spells it: the top is the empty text
abbrev pub bound_token : Option (List ℕ) → List ℕ
bound_token bound = escaped (unwrap_or bound [])

-- a request of the transaction of this name
abbrev pub request_head : List ℕ → Request → List ℕ
request_head name (Get key) = name ++ codes " get " ++ escaped key
request_head name (Put key value) = name ++ codes " put " ++ escaped key
request_head name (Del key) = name ++ codes " del " ++ escaped key
request_head name (Scan range) = name ++ codes " scan " ++ bound_token range.low ++ codes " " ++ bound_token range.high
request_head name (Apply operator key argument) = name ++ codes " op " ++ operator_text operator ++ codes " " ++ escaped key

abbrev pub reply_text : Reply → List ℕ
reply_text (Found v) = shown v
reply_text (Was v) = codes " was" ++ shown v
reply_text (Pairs pairs) = codes " pairs=" ++ decimal (length pairs)

abbrev pub row : List ℕ → Pair → List ℕ
row name pair = name ++ codes " row " ++ escaped pair.key ++ codes " = " ++ escaped pair.value ++ codes "\n"

-- the rows of a scan behind its line
abbrev pub with_rows : List ℕ → Reply → List ℕ → List ℕ
with_rows name (Found v) first = first
with_rows name (Was v) first = first
with_rows name (Pairs pairs) first = first ++ flat_map (row name) pairs

-- a request that was carried out
abbrev pub request_lines : List ℕ → Request → Reply → List ℕ
request_lines name request reply = with_rows name reply (line (request_head name request) (reply_text reply))

-- ---- other answers behind a head

-- the transaction of this name holds a conflicting lock
abbrev pub conflict_line : List ℕ → List ℕ → List ℕ
conflict_line head holder = line head (codes " conflict " ++ holder)

-- no room: the pages there are, and the writes not yet undone
abbrev pub full_line : List ℕ → ℕ → ℕ → List ℕ
full_line head pages pending = line head (codes " full " ++ decimal pages ++ codes " " ++ decimal pending)

abbrev pub refused_line : List ℕ → List ℕ
refused_line head = head ++ codes " refused\n"

abbrev pub device_text : Device → List ℕ
device_text Log = codes "log"
device_text Data = codes "data"
device_text Vault = codes "vault"

abbrev pub failed_text : Device → List ℕ
failed_text device = codes " " ++ device_text device ++ codes " failed\n"

-- a call of this device failed
abbrev pub failed_line : List ℕ → Device → List ℕ
failed_line head device = head ++ failed_text device

-- the life had ended, with the log durable up to this LSN
abbrev pub ended_line : List ℕ → ℕ → List ℕ
ended_line head at = head ++ codes " ended " ++ decimal at ++ codes "\n"

-- ---- words without a transaction

abbrev pub upkeep_head : Upkeep → List ℕ
upkeep_head Checkpoint = codes "checkpoint"
upkeep_head Backup = codes "backup"
upkeep_head Lose = codes "lose"
upkeep_head Help = codes "help"
upkeep_head Close = codes "close"

abbrev pub upkeep_line : Upkeep → List ℕ
upkeep_line word = upkeep_head word ++ codes " ok\n"

-- so many runs were made
abbrev pub archive_line : ℕ → List ℕ
archive_line runs = codes "archive runs=" ++ decimal runs ++ codes "\n"

abbrev pub stat_line : Stat → List ℕ
stat_line s =
    codes "stat commits=" ++ decimal s.commits
    ++ codes " losers=" ++ decimal s.losers
    ++ codes " undone=" ++ decimal s.undone
    ++ codes " repaired=" ++ decimal s.repaired
    ++ codes " pages=" ++ decimal s.pages
    ++ codes " lost=" ++ decimal s.lost
    ++ codes " restored=" ++ decimal s.restored
    ++ codes "\n"
