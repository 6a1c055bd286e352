use Rattle.untold_journal.proofs.Upkeep.{enters_none}
use Rattle.untold_journal.proofs.untold.Untold.see.Goals as goal

pub returns-clause-seen : goal.returns-clause-seen
returns-clause-seen g c =
    let look = c.look.ensures in
    enters_none g.N.Life.opens look.none g.N.Life.entries g.N.Life.session_entries _ _ _ _ _ _ c.check.new.self look.counts c.check.ensures.rights look.pass look.begins look.durable look.told c.check.ensures.none look.totals
