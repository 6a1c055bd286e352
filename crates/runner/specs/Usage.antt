-- What the words of a call make of it.
use Rattle.std.specs.Prelude.{◌≡◌, ◌≢◌, ◌⊎◌, Option, Some, None}
use Rattle.call_words.specs.declared.call.Call.{Call}
use Rattle.call_words.specs.declared.call.Mode.{Mode}
use Rattle.call_words.specs.declared.call.Mode.TheVariants.{Run, Generate}
use Rattle.life_commands.specs.declared.status.Status.{Status}
use Rattle.life_commands.specs.declared.status.Status.TheVariants as statuses

-- the script on the source is asked for
abbrev pub AsksRun : Option Call → Type 0
AsksRun None = ⊥
AsksRun (Some call) = call.mode ≡ Run

abbrev pub ByMode : Mode → Status → Type 0
ByMode Run status = (status ≢ statuses.Usage) × (status ≢ statuses.NoGenerator)
ByMode (Generate number) status = (status ≡ statuses.NoGenerator) ⊎ (status ≡ statuses.Memory)

-- Words that are no call end with usage, and those that ask for a generated script with that it isn't built, or memory
-- runs out; else neither comes.
abbrev pub ByWords : Option Call → Status → Type 0
ByWords None status = (status ≡ statuses.Usage) ⊎ (status ≡ statuses.Memory)
ByWords (Some call) status = ByMode call.mode status

-- nothing is run
abbrev pub IsUnbegun : Status → Type 0
IsUnbegun statuses.Usage = Unit {0}
IsUnbegun statuses.NoGenerator = Unit {0}
IsUnbegun _ = ⊥
