use Rattle.std.proofs.Common.{◌≡◌, true, false, sym, ◌∙◌}
use Rattle.history_core.proofs.Deciding.{chain}
use Rattle.history_core.proofs.Entered.{quiet_exact, quiet_not}
use Rattle.history_core.proofs.judge.Judge.allows.Goals as goal

pub returns-then-is_whole : goal.returns-then-is_whole
returns-then-is_whole g c = λ opening h k other.
    chain (c.keeps_rule.ensures opening h k other) (quiet_exact opening h c.args.entry.now ((c.is_whole.ensures opening h k).0 c.if-is_whole.true))

pub returns-else-is_whole : goal.returns-else-is_whole
returns-else-is_whole g c = λ opening h k other.
    (λ t. absurd (cc t), λ ok. absurd (quiet_not opening h c.args.entry.now other (λ none. (let both : true ≡ false = sym ((c.is_whole.ensures opening h k).1 none) ∙ c.if-is_whole.false in absurd (cc both))) ok))
