use Rattle.range_lock.proofs.Points.{covered_exactly, covered_by_none}
use Rattle.range_lock.proofs.point.covers_at_point.Goals as goal

pub returns-in-Some : goal.returns-in-Some
returns-in-Some c =
    covered_exactly c.args.shared.now c.args.exclusive.now c.args.tx c.args.range.now c.args.mode c.low-low.ensures.below c.in-Some.text.now c.contains-by_exclusive.result c.contains-by_shared.result c.suffices.result
    c.in-Some.ensures.some c.contains-by_exclusive.ensures c.contains-by_shared.ensures c.suffices.ensures

pub returns-in-None : goal.returns-in-None
returns-in-None c = (
  λ e. absurd cc,
  λ g. absurd (covered_by_none c.args.shared.now c.args.exclusive.now c.args.tx c.args.range.now c.args.mode c.low-low.ensures.below c.in-None.ensures.none g),
)
