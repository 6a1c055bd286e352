-- The words of a call as a simple command of `clap`.
use Rattle.std.specs.Prelude.{ℕ, [], ◌∷◌, Some, codes, true}
use Rattle.clap.specs.Words.{App, Rule, Text, new_app, new_rule, with_rule}
use Rattle.clap.specs.declared.builder.action.ArgAction.TheVariants.{Set}
use Rattle.clap.specs.declared.builder.value_parser.ValueParser.TheVariants.{Unsigned}

-- what to do, `run` where nothing is said
abbrev pub mode_rule : Rule
mode_rule = record (new_rule (codes "MODE")) { action = Some Set; defaults = codes "run" ∷ [] }

-- the number of a generated script
abbrev pub number_rule : Rule
number_rule = record (new_rule (codes "N")) { action = Some Set; parser = Some (Unsigned 0 18446744073709551615) }

-- an option with a number from `least` to `most`, `usual` where nothing is said
abbrev pub option_rule : Text → ℕ → ℕ → Text → Rule
option_rule name least most usual = record (new_rule name) {
  long = Some name;
  action = Some Set;
  parser = Some (Unsigned least most);
  defaults = usual ∷ [];
}

-- the command with no rule yet: its words are all of them, and none asks for help
abbrev pub bare : App
bare = let new = new_app (codes "instant") in
    record new { top = record new.top { no_binary_name = true; disable_help_flag = true } }

abbrev pub command : App
command = with_rule (with_rule (with_rule (with_rule bare mode_rule) number_rule)
    (option_rule (codes "workers") 1 16 (codes "4")))
    (option_rule (codes "frames") 12 4096 (codes "64"))
