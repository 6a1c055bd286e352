use Rattle.std.proofs.Common.{◌∙◌, ◌≡◌, codes, refl, List}
use Rattle.clap.specs.Words.{Row, first_of, found_of, rows_of}
use Rattle.clap.proofs.WalkLemmas.{first_value-rows}
use Rattle.call_words.specs.Calls.{asked, mode_of, number_of}
use Rattle.call_words.proofs.call.asked_by.Goals as goal

pub returns : goal.returns
returns c =
    let rows : List Row = rows_of (found_of c.args.matches.now) in
    let text_is = c.get_str.ensures ∙ first_value-rows (found_of c.args.matches.now) (codes "MODE") in
    let mode_is : c.mode_of-mode.result ≡ mode_of (first_of (codes "MODE") rows) (number_of (codes "N") rows) =
    rw (c.mode_of-mode.ensures, text_is, c.number_of.ensures) refl in
    rw (c.asked.ensures, mode_is, c.number_of-2.ensures, c.number_of-3.ensures) refl
