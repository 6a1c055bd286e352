use Rattle.std.proofs.Common.{ap, ◌∙◌}
use Rattle.own_life.specs.State.{LifeState}
use Rattle.own_life.proofs.life.OwnLife.look.Goals as goal

pub returns-clause-before : goal.returns-clause-before
returns-clause-before g c = λ opening first rest stands is. c.look.ensures.before opening first rest stands (ap (λ (s : LifeState). s.history) c.self.view_is ∙ is)
