-- A record that is asked for by its LSN.
use Rattle.std.specs.Prelude.{◌≡◌, ◌<◌, ◌≤◌, ℕ, List, [], ◌∷◌, Some}
use Rattle.log_blocks.specs.declared.header.Place.{Place}
use Rattle.page_ops.specs.Outcomes.{IsRunOf}
use Rattle.page_ops.specs.declared.outcome.Found.{Found}
use Rattle.page_ops.specs.declared.outcome.Found.TheVariants as founds
use Rattle.wal_record.specs.Chains.{record_with}
use Rattle.wal_record.specs.Rules.{HasSpelling}
use Rattle.wal_record.specs.declared.record.Record.{Record}

-- of these records it is the one with this LSN, or a standing run has that
abbrev pub IsFoundIn : List Record → ℕ → Found → Type 0
IsFoundIn rs lsn (founds.Record r) = record_with rs lsn ≡ Some r
IsFoundIn rs lsn (founds.Run run) = IsRunOf rs lsn run

abbrev pub HasSpelledRecord : Found → Type 0
HasSpelledRecord (founds.Record r) = HasSpelling r
HasSpelledRecord (founds.Run run) = Unit {0}

-- It is a record where the first durable block begins no later than this LSN, and else a run.
abbrev pub IsFoundBehind : List Place → ℕ → Found → Type 0
IsFoundBehind [] lsn found = Unit {0}
IsFoundBehind (p ∷ ps) lsn (founds.Record r) = p.first ≤ lsn
IsFoundBehind (p ∷ ps) lsn (founds.Run run) = lsn < p.first
