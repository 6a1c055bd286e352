-- The exit codes of the program.
use Rattle.std.specs.Prelude.{ℕ}
use Rattle.life_commands.specs.declared.status.Status.{Status}
use Rattle.life_commands.specs.declared.status.Status.TheVariants as statuses

abbrev pub code_of : Status → ℕ
code_of statuses.Done = 0
code_of statuses.Memory = 1
code_of statuses.Usage = 2
code_of statuses.NoGenerator = 12
code_of (statuses.Script line) = 3
code_of statuses.SourceFault = 4
code_of statuses.SinkFault = 5
code_of statuses.LogFault = 6
code_of statuses.VaultFault = 7
code_of (statuses.LogBad block byte) = 8
code_of (statuses.BlockBad block byte) = 8
code_of (statuses.VaultBad object byte) = 9
code_of statuses.NotFormatted = 10
code_of statuses.AlreadyFormatted = 11
code_of (statuses.NotBuilt line) = 12
