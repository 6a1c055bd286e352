use Rattle.std.proofs.Common.{subst}
use Rattle.record_judge.specs.Judging.{IsRead}
use Rattle.history_core.proofs.judge.Judge.start.Goals as goal

pub returns-in-None : goal.returns-in-None
returns-in-None g c = subst (IsRead c.args.opening.now) c.in-None.is c.in_ok-found.ensures

pub returns-in_ok-behind-in-Some : goal.returns-in_ok-behind-in-Some
returns-in_ok-behind-in-Some g c = c.in_ok-behind-in-Some.ensures c.args.opening.now (subst (IsRead c.args.opening.now) c.in-Some.is c.in_ok-found.ensures)
