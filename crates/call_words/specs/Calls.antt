-- What words ask for, and which words are no call.
use Rattle.std.specs.Prelude.{◌+◌, ◌*◌, ℕ, false, List, [], ◌∷◌, Option, Some, None, if◌then◌else◌, codes, nat_lt, option_and_then}
use Rattle.std.specs.Str.{bytes_eq}
use Rattle.std.specs.Str.Parse.{digits_value, without_leading_plus}
use Rattle.clap.specs.Words.{Row, Text, fault_of, first_of, matches_of, one_of}
use Rattle.clap.specs.Kinds.{Kinds}
use Rattle.clap.specs.ValueTests.{accepts}
use Rattle.clap.specs.declared.builder.value_parser.ValueParser.TheVariants.{Unsigned}
use Rattle.call_words.specs.Grammar.{command}
use Rattle.call_words.specs.declared.call.Call.{Call}
use Rattle.call_words.specs.declared.call.Mode.{Mode}
use Rattle.call_words.specs.declared.call.Mode.TheVariants.{Run, Generate}

-- the number that a text spells, of 64 bits at most
abbrev pub number_in : Text → Option ℕ
number_in text =
    if accepts false (Unsigned 0 18446744073709551615) text then Some (digits_value 10 (without_leading_plus text))
    else None

-- the number that was read for an argument
abbrev pub number_of : Text → List Row → Option ℕ
number_of name rows = option_and_then number_in (one_of name rows)

-- `run` has no number, and `generate` has one
abbrev pub mode_of : Option Text → Option ℕ → Option Mode
mode_of (Some mode) None = if bytes_eq mode (codes "run") then Some Run else None
mode_of (Some mode) (Some number) = if bytes_eq mode (codes "generate") then Some (Generate number) else None
mode_of None number = None

-- each worker needs four frames, and the program eight
abbrev pub asked : Option Mode → Option ℕ → Option ℕ → Option Call
asked (Some mode) (Some workers) (Some frames) =
    if nat_lt frames (4 * workers + 8) then None
    else Some (record { mode = mode; workers = workers; frames = frames })
asked mode workers frames = None

-- what the arguments that were read ask for
abbrev pub asked_by : List Row → Option Call
asked_by rows = asked
    (mode_of (first_of (codes "MODE") rows) (number_of (codes "N") rows))
    (number_of (codes "workers") rows)
    (number_of (codes "frames") rows)

abbrev pub asked_unless : Kinds → List Row → Option Call
asked_unless [] rows = asked_by rows
asked_unless (fault ∷ faults) rows = None

-- what the words ask for, where no word is at fault and the arguments fit together
abbrev pub call_of : List Text → Option Call
call_of words = asked_unless (fault_of command words) (matches_of command words)
