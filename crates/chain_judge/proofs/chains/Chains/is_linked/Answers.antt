use Rattle.std.proofs.Common.{◌≡◌, sym, ◌∙◌, true, false}
use Rattle.chain_judge.specs.Chains.{AreChainsOf}
use Rattle.chain_judge.proofs.chains.Chains.is_linked.Goals as goal

pub returns-then-not-is_in : goal.returns-then-not-is_in
unfolding AreChainsOf
returns-then-not-is_in c = λ log k.
    let going = sym (k.over c.args.tx) ∙ sym c.is_in.ensures ∙ c.if-not-is_in.true in
    let last = c.is_last.ensures in
    (λ is. (last.0 is ∙ k.last c.args.tx going, going), λ rule. last.1 (rule.0 ∙ sym (k.last c.args.tx going)))

pub returns-else-not-is_in : goal.returns-else-not-is_in
unfolding AreChainsOf
returns-else-not-is_in c = λ log k.
    (λ is. absurd (cc is), λ rule. (let both : true ≡ false = sym c.if-not-is_in.false ∙ c.is_in.ensures ∙ k.over c.args.tx ∙ rule.1 in absurd (cc both)))
