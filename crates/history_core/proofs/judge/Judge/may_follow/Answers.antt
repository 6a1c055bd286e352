use Rattle.std.proofs.Common.{sym, ◌∙◌}
use Rattle.history_core.proofs.Entered.{follows_none, follows_some}
use Rattle.history_core.proofs.judge.Judge.may_follow.Goals as goal

pub returns-in-Some : goal.returns-in-Some
returns-in-Some g c = λ opening h k. follows_some opening h c.args.lsn c.args.entered.now c.in-Some.leaf c.needs_split.result (sym c.in-Some.is ∙ k.split) c.needs_split.ensures

pub returns-in-None : goal.returns-in-None
returns-in-None g c = λ opening h k. follows_none opening h c.args.lsn c.args.entered.now (sym c.in-None.is ∙ k.split)
