use Rattle.life_history.proofs.Keeping.{kept_watched}
use Rattle.life_history.proofs.Moving.{is_small}
use Rattle.life_history.proofs.Small.{small_same}
use Rattle.life_history.proofs.Tallying.{tallied_same}
use Rattle.life_history.proofs.history.History.watch_session.Goals as goal

pub invariant_of-self : goal.invariant_of-self
invariant_of-self g c =
    let set = c.set_session.ensures in
    (set.spare, kept_watched _ _ _ _ _ _ _ _ _ _ _ _ _ _ _ _ _ c.self.invariant.1 set.before set.book c.entries-entries.ensures c.tx-tx.ensures set.others set.front set.totals, small_same _ _ _ _ _ _ _ set.others.0 set.others.1 c.self.invariant.2, tallied_same _ _ _ _ c.self.invariant.3 set.front)

pub returns-clause-number : goal.returns-clause-number
returns-clause-number g c some = is_small _ _ _ _ _ _ c.self.invariant.1 _ c.set_session.ensures.before some
