use Rattle.std.proofs.Common.{◌∙◌, ◌≡◌, ap, refl, sym, true, inl, inr}
use Rattle.clap.specs.Words.{is_simple}
use Rattle.clap.specs.Faults.{is_simple_and_free}
use Rattle.call_words.specs.Grammar.{command}
use Rattle.call_words.specs.declared.refusal.Refusal.TheVariants as refusals
use Rattle.call_words.proofs.Reading.{call_of-parsed, call_of-refused, asked-ok_or, usage-ok_or}
use Rattle.call_words.proofs.call.call_of.Goals as goal

simple : is_simple command ≡ true
simple = refl

free : is_simple_and_free command ≡ true
free = refl

pub returns-in-Ok-clause-asked : goal.returns-in-Ok-clause-asked
returns-in-Ok-clause-asked c =
    let is = c.in_ok-command.ensures in
    let parsed = call_of-parsed _ _ _ is (c.in-Ok.ensures.kinds (ap is_simple_and_free is ∙ free)) (c.in-Ok.ensures.matches (ap is_simple is ∙ simple)).0 in
    rw c.ok_or.ensures.value (asked-ok_or _ _ (parsed ∙ sym c.asked_by.ensures))

pub returns-in-Ok-clause-usage : goal.returns-in-Ok-clause-usage
returns-in-Ok-clause-usage c =
    let is = c.in_ok-command.ensures in
    let parsed = call_of-parsed _ _ _ is (c.in-Ok.ensures.kinds (ap is_simple_and_free is ∙ free)) (c.in-Ok.ensures.matches (ap is_simple is ∙ simple)).0 in
    λ refused. usage-ok_or _ _ (parsed ∙ sym c.asked_by.ensures) (sym c.ok_or.ensures.value ∙ refused)

pub returns-in-Err-clause-usage : goal.returns-in-Err-clause-usage
returns-in-Err-clause-usage c =
    let is = c.in_ok-command.ensures in
    λ refused.
    let usage : c.refusal_of.result ≡ refusals.Usage = cc in
    elim (c.in-Err.ensures.kinds (ap is_simple_and_free is ∙ free)) [
      | inl memory ↦ absurd (c.refusal_of.ensures usage memory)
      | inr among ↦ call_of-refused _ _ _ is among
    ]
