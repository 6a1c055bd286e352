use Rattle.std.proofs.Common.{ap, arith}
use Rattle.log_blocks.specs.LogState.{durable_lsn}
use Rattle.wal_record.specs.History.{life_log}
use Rattle.journal.proofs.Calls.{blocks_is}
use Rattle.journal.proofs.KeptBlocks.{forgot, on_done, on_failed}
use Rattle.journal.proofs.Ending.{told_stops, stopped_ends}
use Rattle.journal.proofs.Living.{kept_call}
use Rattle.journal.proofs.Losing.{losers_same}
use Rattle.journal.proofs.Restoring.{restored_same}
use Rattle.journal.proofs.Stopping.{call_safe}
use Rattle.journal.proofs.journal.Journal.forget.Goals as goal
use Rattle.journal.proofs.journal.Journal.forget.Goals.{in-Ok-recycle_log, in-Err-recycle_log}

pub invariant_of-self : goal.invariant_of-self
invariant_of-self g c =
    let k = c.self.invariant.1 in
    let done = c.recycle_log.ensures in (
      c.self.invariant.0,
      kept_call g.N.Life.opens g.L.Disk.tells g.L.Disk.told g.L.Disk.may_leave c.self.inside.history c.look.new.self c.self.inside.log.log c.recycle_log.new.log.log c.self.inside.log.listing c.recycle_log.new.log.listing c.self.inside.locks c.self.inside.marked c.self.inside.faults.total
          c.check_open.new.faults.total c.recycle_log.new.faults.total k c.look.ensures.same c.check_open.ensures.total c.in-Ok.ensures.open.0 done.same done.spare done.rises c.check_open.new.counts c.recycle_log.new.counts c.recycle_log.result done.ends,
      restored_same c.self.inside.history _ c.self.inside.restored c.self.invariant.2 c.look.ensures.same,
      losers_same g.N.Life.opens c.self.inside.history _ c.self.inside.losers c.self.inside.losers c.self.invariant.3 c.look.ensures.same,
      call_safe g.N.Life.opens g.L.Disk.tells g.L.Disk.told g.L.Disk.may_leave c.self.inside.history _ c.self.inside.log.log c.recycle_log.new.log.log c.self.inside.log.listing k.life.records k.life.telling c.self.invariant.4 c.look.ensures.same c.in-Ok.ensures.open.0 done.left,
      done.durable,
    )

pub returns-in-Err-clause-ends : goal.returns-in-Err-clause-ends
returns-in-Err-clause-ends g c = stopped_ends _ g.N.Life.log_faults _ _ _ _ _ _ c.look.ensures.counts (told_stops g.N.Life.log_faults _ _ _ c.in-Err.ensures.ended)

-- ---- the durable blocks

pub returns-after-recycle_log-clause-forgets : goal.returns-after-recycle_log-clause-forgets
returns-after-recycle_log-clause-forgets g c opening stands =
    forgot g.N.Life.opens c.match-recycle_log.result c.self.inside.history c.look.new.pass.log c.self.inside.log.log.log.places c.args.self.now.blocks c.recycle_log.new.log.log.log.places c.look.ensures.pass (blocks_is _ _ c.self.view_is) opening
    (λ all. elim c.match-recycle_log.branch [
      | in-Ok-recycle_log w ↦ on_done _ _ w.result-is (w.in-Ok-recycle_log.ensures.forgets _ (life_log opening c.self.inside.history) (c.self.invariant.1.life.records opening stands) all)
      | in-Err-recycle_log w ↦ on_failed _ _ _ w.result-is
    ])

pub returns-after-recycle_log-clause-rises : goal.returns-after-recycle_log-clause-rises
returns-after-recycle_log-clause-rises g c opening stands =
    let k = c.self.invariant.1.life in
    let later = c.recycle_log.ensures.rises _ (life_log opening c.self.inside.history) (k.records opening stands) (k.telling opening stands) c.in-Ok.ensures.open.0 in
    omega (arith, later, ap durable_lsn (blocks_is _ _ c.self.view_is))
