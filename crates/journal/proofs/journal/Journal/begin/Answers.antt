use Rattle.std.proofs.Common.{sym, ap, refl, subst}
use Rattle.page_ops.specs.Seeing.{Account}
use Rattle.journal.specs.Ends.{IsStopped}
use Rattle.journal.proofs.Ending.{stopped_ends}
use Rattle.journal.proofs.Living.{kept_begin}
use Rattle.journal.proofs.Losing.{losers_begun}
use Rattle.journal.proofs.Restoring.{restored_begun}
use Rattle.journal.proofs.Stopping.{begun_safe}
use Rattle.journal.proofs.Calls.{durable_same}
use Rattle.journal.proofs.journal.Journal.begin.Goals as goal

pub invariant_of-self : goal.invariant_of-self
invariant_of-self g c =
    let room = c.in-Ok.ensures in (
      c.self.invariant.0,
      kept_begin _ _ _ _ _ _ _ _ _ _ c.self.inside.locks c.self.inside.locks _ _ _ c.self.invariant.1 room.total c.args.s.now.session c.begin.result room.log.0 room.ok room.log.1 room.few c.begin.ensures.history c.begin.ensures.live,
      restored_begun c.self.inside.history _ c.self.inside.restored c.args.s.now.session c.begin.result c.self.invariant.2 c.begin.ensures.history,
      losers_begun g.N.Life.opens c.self.inside.history _ c.self.inside.losers c.args.s.now.session c.begin.result c.self.invariant.3 c.begin.ensures.history,
      begun_safe g.N.Life.opens g.L.Disk.told g.L.Disk.may_leave c.self.inside.history _ c.self.inside.log.log.log c.make_room.new.log.log.log c.self.invariant.4 c.args.s.now.session c.begin.result c.begin.ensures.history room.log.0,
      durable_same c.self.inside.log.log.log c.make_room.new.log.log.log c.self.invariant.5 (ap (λ x. x.places) room.log.0) (ap (λ x. x.ended) room.log.0),
    )

pub returns-in-Err-clause-ends : goal.returns-in-Err-clause-ends
returns-in-Err-clause-ends g c = stopped_ends _ g.N.Life.log_faults _ _ _ _ _ _ refl (subst (λ (a : Account). IsStopped g.N.Life.log_faults c.args.counts.now a c.in-Err.fault) (sym c.watch_session.ensures.counts) c.in-Err.ensures.stopped)
