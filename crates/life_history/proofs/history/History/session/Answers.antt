use Rattle.std.proofs.Common.{refl}
use Rattle.life_history.proofs.Keeping.{kept_opened}
use Rattle.life_history.proofs.Small.{small_same}
use Rattle.life_history.proofs.history.History.session.Goals as goal

pub invariant_of-self : goal.invariant_of-self
invariant_of-self g c = (c.self.invariant.0, kept_opened _ _ _ _ _ _ _ _ _ _ _ _ _ c.self.invariant.1 c.open-right.ensures.book, small_same _ _ _ _ _ _ _ refl refl c.self.invariant.2, c.self.invariant.3)
