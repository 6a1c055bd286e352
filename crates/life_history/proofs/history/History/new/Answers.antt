use Rattle.std.proofs.Common.{refl}
use Rattle.life_history.proofs.Keeping.{kept_new}
use Rattle.life_history.proofs.Small.{small_same}
use Rattle.life_history.proofs.Tallying.{tallied_none}
use Rattle.life_history.proofs.history.History.new.Goals as goal

pub invariant_of-result : goal.invariant_of-result
invariant_of-result g c = rw (c.requires.empty.0, c.requires.empty.1, c.requires.empty.2) (refl, kept_new _ _ _ _ c.requires.books c.requires.sessions c.open.ensures.book c.requires.number c.requires.opening, small_same _ _ _ _ _ _ _ refl refl c.requires.small, tallied_none)
