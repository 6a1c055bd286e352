-- What a turn makes of the stage: of its life, and of what is known of the log disk's bytes.
use Rattle.std.proofs.Common.{◌≡◌, ℕ, List, ◌++◌, Option, Some, None, refl, ap}
use Rattle.script.specs.declared.command.Command.{Command}
use Rattle.script.specs.declared.command.Command.TheVariants as commands
use Rattle.wal_record.specs.declared.entry.Entry.{Entry}
use Rattle.wal_record.specs.declared.record.Record.{Record}
use Rattle.life_commands.specs.Bytes.{Bytes}
use Rattle.life_commands.specs.Rows.{IsOfLife}
use Rattle.life_commands.specs.Turns.{Turn, Stage, End, Done, TooMany, LogFault, VaultFault, Ended as EndedBefore, Cut, stage_step, stage_after, bytes_after, longer, Life, turn}

-- what a cut turn enters opens no life
longer_bytes : (life : Option Life) (es : List Entry) (bytes : Bytes) → bytes_after (longer life es) bytes ≡ bytes_after life bytes
longer_bytes None es bytes = refl
longer_bytes (Some l) es bytes = refl

pub cut_bytes : (s : Stage) (c : Command) (es : List Entry) → bytes_after (stage_step s (turn c es Cut)).life (stage_step s (turn c es Cut)).bytes ≡ bytes_after s.life s.bytes
cut_bytes s (commands.Format limit) es = refl
cut_bytes s (commands.Begin name) es = longer_bytes s.life es s.bytes
cut_bytes s (commands.Ask name request) es = longer_bytes s.life es s.bytes
cut_bytes s (commands.Commit name) es = longer_bytes s.life es s.bytes
cut_bytes s (commands.Abort name) es = longer_bytes s.life es s.bytes
cut_bytes s commands.Checkpoint es = longer_bytes s.life es s.bytes
cut_bytes s commands.Backup es = longer_bytes s.life es s.bytes
cut_bytes s commands.Archive es = longer_bytes s.life es s.bytes
cut_bytes s commands.Lose es = longer_bytes s.life es s.bytes
cut_bytes s (commands.Help steps) es = longer_bytes s.life es s.bytes
cut_bytes s commands.Close es = longer_bytes s.life es s.bytes
cut_bytes s _ es = refl

-- a turn of a life opens none
pub life_still : (s : Stage) (l : Life) (t : Turn) → s.life ≡ Some l → IsOfLife t.command → bytes_after (stage_step s t).life (stage_step s t).bytes ≡ bytes_after s.life s.bytes
life_still s l t living kind = by t.command t.entries t.found t.kept t.end kind
  where
    by : (c : Command) (es : List Entry) (found : List Record) (kept : ℕ) (end : End) → IsOfLife c → bytes_after (stage_after s c es found kept end).life (stage_after s c es found kept end).bytes ≡ bytes_after s.life s.bytes
    by (commands.Begin name) es found kept Done k = longer_bytes s.life es s.bytes
    by (commands.Begin name) es found kept TooMany k = refl
    by (commands.Begin name) es found kept (LogFault n) k = longer_bytes s.life es s.bytes
    by (commands.Begin name) es found kept VaultFault k = longer_bytes s.life es s.bytes
    by (commands.Begin name) es found kept (EndedBefore n) k = refl
    by (commands.Begin name) es found kept Cut k = longer_bytes s.life es s.bytes
    by (commands.Ask name request) es found kept Done k = longer_bytes s.life es s.bytes
    by (commands.Ask name request) es found kept TooMany k = refl
    by (commands.Ask name request) es found kept (LogFault n) k = longer_bytes s.life es s.bytes
    by (commands.Ask name request) es found kept VaultFault k = longer_bytes s.life es s.bytes
    by (commands.Ask name request) es found kept (EndedBefore n) k = refl
    by (commands.Ask name request) es found kept Cut k = longer_bytes s.life es s.bytes
    by (commands.Commit name) es found kept Done k = longer_bytes s.life es s.bytes
    by (commands.Commit name) es found kept TooMany k = refl
    by (commands.Commit name) es found kept (LogFault n) k = longer_bytes s.life es s.bytes
    by (commands.Commit name) es found kept VaultFault k = longer_bytes s.life es s.bytes
    by (commands.Commit name) es found kept (EndedBefore n) k = refl
    by (commands.Commit name) es found kept Cut k = longer_bytes s.life es s.bytes
    by (commands.Abort name) es found kept Done k = longer_bytes s.life es s.bytes
    by (commands.Abort name) es found kept TooMany k = refl
    by (commands.Abort name) es found kept (LogFault n) k = longer_bytes s.life es s.bytes
    by (commands.Abort name) es found kept VaultFault k = longer_bytes s.life es s.bytes
    by (commands.Abort name) es found kept (EndedBefore n) k = refl
    by (commands.Abort name) es found kept Cut k = longer_bytes s.life es s.bytes
    by commands.Checkpoint es found kept Done k = longer_bytes s.life es s.bytes
    by commands.Checkpoint es found kept TooMany k = refl
    by commands.Checkpoint es found kept (LogFault n) k = longer_bytes s.life es s.bytes
    by commands.Checkpoint es found kept VaultFault k = longer_bytes s.life es s.bytes
    by commands.Checkpoint es found kept (EndedBefore n) k = refl
    by commands.Checkpoint es found kept Cut k = longer_bytes s.life es s.bytes
    by commands.Backup es found kept Done k = longer_bytes s.life es s.bytes
    by commands.Archive es found kept Done k = longer_bytes s.life es s.bytes
    by commands.Lose es found kept Done k = longer_bytes s.life es s.bytes
    by commands.Backup es found kept TooMany k = refl
    by commands.Archive es found kept TooMany k = refl
    by commands.Lose es found kept TooMany k = refl
    by commands.Backup es found kept (LogFault n) k = longer_bytes s.life es s.bytes
    by commands.Archive es found kept (LogFault n) k = longer_bytes s.life es s.bytes
    by commands.Lose es found kept (LogFault n) k = longer_bytes s.life es s.bytes
    by commands.Backup es found kept VaultFault k = longer_bytes s.life es s.bytes
    by commands.Archive es found kept VaultFault k = longer_bytes s.life es s.bytes
    by commands.Lose es found kept VaultFault k = longer_bytes s.life es s.bytes
    by commands.Backup es found kept (EndedBefore n) k = refl
    by commands.Archive es found kept (EndedBefore n) k = refl
    by commands.Lose es found kept (EndedBefore n) k = refl
    by commands.Backup es found kept Cut k = longer_bytes s.life es s.bytes
    by commands.Archive es found kept Cut k = longer_bytes s.life es s.bytes
    by commands.Lose es found kept Cut k = longer_bytes s.life es s.bytes
    by (commands.Help steps) es found kept Done k = longer_bytes s.life es s.bytes
    by (commands.Help steps) es found kept TooMany k = refl
    by (commands.Help steps) es found kept (LogFault n) k = longer_bytes s.life es s.bytes
    by (commands.Help steps) es found kept VaultFault k = longer_bytes s.life es s.bytes
    by (commands.Help steps) es found kept (EndedBefore n) k = refl
    by (commands.Help steps) es found kept Cut k = longer_bytes s.life es s.bytes
    by commands.Stat es found kept Done k = refl
    by commands.Stat es found kept TooMany k = refl
    by commands.Stat es found kept (LogFault n) k = refl
    by commands.Stat es found kept VaultFault k = longer_bytes s.life es s.bytes
    by commands.Stat es found kept (EndedBefore n) k = refl
    by commands.Stat es found kept Cut k = refl
    by commands.Close es found kept Done k = longer_bytes s.life es s.bytes
    by commands.Close es found kept TooMany k = refl
    by commands.Close es found kept (LogFault n) k = longer_bytes s.life es s.bytes
    by commands.Close es found kept VaultFault k = longer_bytes s.life es s.bytes
    by commands.Close es found kept (EndedBefore n) k = refl
    by commands.Close es found kept Cut k = longer_bytes s.life es s.bytes
    by _ es found kept end k = absurd k

-- a command that was cut off leaves its life open
pub cut_open : (s : Stage) (l : Life) (c : Command) (es : List Entry) → s.life ≡ Some l → (m : Life) × ((stage_step s (turn c es Cut)).life ≡ Some m)
cut_open s l c es living = by c
  where
    more : (m : Life) × (longer s.life es ≡ Some m)
    more = (record l { history = l.history ++ es }, ap (λ (o : Option Life). longer o es) living)

    by : (c : Command) → (m : Life) × ((stage_step s (turn c es Cut)).life ≡ Some m)
    by (commands.Begin name) = more
    by (commands.Ask name request) = more
    by (commands.Commit name) = more
    by (commands.Abort name) = more
    by commands.Checkpoint = more
    by commands.Backup = more
    by commands.Archive = more
    by commands.Lose = more
    by (commands.Help steps) = more
    by commands.Close = more
    by _ = (l, living)

pub cut_none : (s : Stage) (c : Command) (es : List Entry) → s.life ≡ None → (stage_step s (turn c es Cut)).life ≡ None
cut_none s c es none = by c
  where
    more : longer s.life es ≡ None
    more = ap (λ (o : Option Life). longer o es) none

    by : (c : Command) → (stage_step s (turn c es Cut)).life ≡ None
    by (commands.Begin name) = more
    by (commands.Ask name request) = more
    by (commands.Commit name) = more
    by (commands.Abort name) = more
    by commands.Checkpoint = more
    by commands.Backup = more
    by commands.Archive = more
    by commands.Lose = more
    by (commands.Help steps) = more
    by commands.Close = more
    by _ = none
