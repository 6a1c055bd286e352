use Rattle.std.proofs.Common.{◌≡◌, true, false, sym, ◌∙◌}
use Rattle.upkeep_judge.proofs.backups.Backups.may_stand.Goals as goal

pub returns-then-is_fresh : goal.returns-then-is_fresh
returns-then-is_fresh c = λ log k n last.
    let fresh = (c.is_fresh.ensures log k).0 c.if-is_fresh.true in
    let placed = c.are_placed.ensures log n last in
    (λ t. let p = placed.0 t in record { images = p.1; inside = p.0; fresh = fresh.0; number = fresh.1 }, λ rule. placed.1 (rule.inside, rule.images))

pub returns-else-is_fresh : goal.returns-else-is_fresh
returns-else-is_fresh c = λ log k n last.
    (λ t. absurd (cc t), λ rule. (let both : true ≡ false = sym ((c.is_fresh.ensures log k).1 (rule.fresh, rule.number)) ∙ c.if-is_fresh.false in absurd (cc both)))
