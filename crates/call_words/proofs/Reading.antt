-- From what a parse answers to what the words ask for.
use Rattle.std.proofs.Common.{◌∙◌, ◌≡◌, List, [], ◌∷◌, Option, Some, None, Err, refl, sym, ap, ap₂}
use Rattle.std.specs.Prelude.{IfOk}
use Rattle.std.specs.Option.{ok_or}
use Rattle.clap.specs.Words.{App, Row, Text, fault_of, matches_of}
use Rattle.clap.specs.Kinds.{IsAmong, Kinds}
use Rattle.clap.specs.declared.error.kind.ErrorKind.{ErrorKind}
use Rattle.call_words.specs.Grammar.{command}
use Rattle.call_words.specs.Calls.{asked_by, asked_unless, call_of}
use Rattle.call_words.specs.declared.call.Call.{Call}
use Rattle.call_words.specs.declared.refusal.Refusal.TheVariants as refusals

-- where no word is at fault, the call is what the rows ask for
pub call_of-parsed : (app : App) (words : List Text) (rows : List Row) → app ≡ command → fault_of app words ≡ []
    → rows ≡ matches_of app words → call_of words ≡ asked_by rows
call_of-parsed app words rows is none same = ap₂ asked_unless
    (ap (λ (a : App). fault_of a words) (sym is) ∙ none) (ap (λ (a : App). matches_of a words) (sym is) ∙ sym same)

-- where one is, the words are no call
pub call_of-refused : (app : App) (words : List Text) (kind : ErrorKind) → app ≡ command
    → IsAmong kind (fault_of app words) → call_of words ≡ None
call_of-refused app words kind is among =
    ap (λ (a : App). asked_unless (fault_of a words) (matches_of command words)) (sym is) ∙ go (fault_of app words) among
  where
    go : (kinds : Kinds) → IsAmong kind kinds → asked_unless kinds (matches_of command words) ≡ None
    go [] h = absurd h
    go (x ∷ xs) h = refl

-- the answer says what is asked
pub asked-ok_or : (call asked : Option Call) → call ≡ asked → IfOk (ok_or asked refusals.Usage) (λ one. call ≡ Some one)
asked-ok_or call None is = tt
asked-ok_or call (Some one) is = is

-- and refuses where nothing is
pub usage-ok_or : (call asked : Option Call) → call ≡ asked → ok_or asked refusals.Usage ≡ Err refusals.Usage → call ≡ None
usage-ok_or call None is e = is
usage-ok_or call (Some one) is e = cc
