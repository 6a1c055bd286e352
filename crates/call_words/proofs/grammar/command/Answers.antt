use Rattle.std.proofs.Common.{◌∙◌, ◌≡◌, ap, ap₂, rules, codes, true}
use Rattle.std.proofs.lemmas.Result.{IfOk-weaker}
use Rattle.clap.specs.Words.{App, app_of, rule_of, with_rule}
use Rattle.clap.specs.Simple.{app_of_fields}
use Rattle.call_words.specs.Grammar.{option_rule, bare}
use Rattle.call_words.proofs.grammar.command.Goals as goal

abbrev without_name : App → App
without_name a = record a { top = record a.top { no_binary_name = true } }

abbrev without_help : App → App
without_help a = record a { top = record a.top { disable_help_flag = true } }

pub returns : goal.returns
returns c =
    let bare_is : app_of c.disable_help_flag.result ≡ bare =
    ap app_of_fields c.disable_help_flag.ensures ∙ ap without_help (ap app_of_fields c.no_binary_name.ensures ∙ ap without_name c.new.ensures.app) in
    let workers_is : rule_of c.option.result ≡ option_rule (codes "workers") 1 16 (codes "4") = search rules in
    let frames_is : rule_of c.option-2.result ≡ option_rule (codes "frames") 12 4096 (codes "64") = search rules in
    let one = c.in_ok-arg.ensures.shape c.mode.ensures.local ∙ ap₂ with_rule bare_is c.mode.ensures.rule in
    let two = c.in_ok-arg-2.ensures.shape c.number.ensures.local ∙ ap₂ with_rule one c.number.ensures.rule in
    let three = c.in_ok-arg-3.ensures.shape c.option.ensures.local ∙ ap₂ with_rule two workers_is in
    IfOk-weaker c.arg-4.result _ _ (λ made h. h.shape c.option-2.ensures.local ∙ ap₂ with_rule three frames_is) c.arg-4.ensures
