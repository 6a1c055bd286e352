use Rattle.std.proofs.Common.{ap, ◌∙◌}
use Rattle.std.specs.List.{list_any}
use Rattle.history_core.specs.Judging.{is_among}
use Rattle.history_core.proofs.Entered.{was_exact}
use Rattle.history_core.proofs.judge.Judge.was_loser.Goals as goal

pub returns : goal.returns
returns c = λ opening h k. c.has.ensures ∙ ap (list_any (is_among c.args.tx)) c.as_slice.ensures ∙ was_exact opening k.sound c.args.tx c.args.self.now.losers k.losers
