use Rattle.std.proofs.Common.{◌≡◌, true, false, sym, ◌∙◌}
use Rattle.history_core.proofs.judge.Judge.may_enter.Goals as goal

pub returns-then-is_next-clause-first : goal.returns-then-is_next-clause-first
returns-then-is_next-clause-first g c = λ t. c.is_next.ensures.first c.if-is_next.true

pub returns-then-is_next-clause-exact : goal.returns-then-is_next-clause-exact
returns-then-is_next-clause-exact g c = λ opening h k.
    let next = (c.is_next.ensures.exact opening h k).0 c.if-is_next.true in
    let go = c.may_go.ensures opening h k in
    (λ t. let p = go.0 t in record { told = next.0; place = next.1; split = p.0; rule = p.1 }, λ m. go.1 (m.split, m.rule))

pub returns-else-is_next-clause-exact : goal.returns-else-is_next-clause-exact
returns-else-is_next-clause-exact g c = λ opening h k.
    (λ t. absurd (cc t), λ m. (let both : true ≡ false = sym ((c.is_next.ensures.exact opening h k).1 (m.told, m.place)) ∙ c.if-is_next.false in absurd (cc both)))
