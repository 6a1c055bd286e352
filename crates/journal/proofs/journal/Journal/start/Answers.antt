use Rattle.std.proofs.Common.{[], arith, inr, refl}
use Rattle.journal.proofs.Living.{kept_told}
use Rattle.journal.proofs.Losing.{losers_start}
use Rattle.journal.proofs.Starting.{kept_start}
use Rattle.journal.proofs.Restoring.{restored_nothing}
use Rattle.journal.proofs.Stopping.{still_safe}
use Rattle.journal.proofs.Calls.{durable_open}
use Rattle.journal.proofs.journal.Journal.start.Goals as goal

pub invariant_of-result : goal.invariant_of-result
invariant_of-result g c = (
  c.store.ensures.number,
  kept_told _ _ _ _ _ _ _ _ _ _ c.durable-marked.result _ (kept_start _ _ _ _ _ _ _ _ _ c.requires.begins c.requires.goes c.requires.fresh.1 c.requires.few c.requires.records c.new.ensures c.requires.telling) c.durable-marked.ensures (inr refl),
  restored_nothing _ c.new-2.result c.requires.begins c.new-2.ensures.empty,
  losers_start g.N.Life.opens _ c.args.losers c.requires.begins c.requires.losers,
  still_safe g.N.Life.opens g.L.Disk.told g.L.Disk.may_leave [] c.args.history c.args.log.log.log c.args.log.log.log c.requires.safe c.requires.begins refl,
  durable_open c.args.log.log.log c.requires.goes,
)

pub returns-clause-durable : goal.returns-clause-durable
returns-clause-durable g c opening stands =
    let first = (c.requires.safe opening stands).begins in
    omega (arith, first, c.durable-marked.ensures, c.store.ensures.seen)
