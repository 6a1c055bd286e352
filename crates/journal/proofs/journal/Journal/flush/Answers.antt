use Rattle.std.proofs.Common.{refl, sym, ◌∙◌, inl}
use Rattle.std.proofs.lemmas.Result.{err_from_is_err_and}
use Rattle.log_blocks.specs.LogState.{durable_lsn}
use Rattle.journal.proofs.Commits.{flush_ended, on_ok}
use Rattle.journal.proofs.Ending.{told_stops, stopped_ends}
use Rattle.journal.proofs.Flushing.{ends_flushed, kept_flush}
use Rattle.wal_record.specs.History.{life_log}
use Rattle.journal.proofs.KeptBlocks.{keeps_flushed, reaches}
use Rattle.journal.proofs.Living.{ends_failed}
use Rattle.journal.proofs.Losing.{losers_same}
use Rattle.journal.proofs.Restoring.{restored_same}
use Rattle.journal.proofs.Stopping.{call_safe}
use Rattle.journal.proofs.Calls.{blames_since, blocks_is, calls_is, durable_flush, end_fresh, ended_is, fault_blames, fine_blames, no_calls, told_quiet}
use Rattle.journal.proofs.journal.Journal.flush.Goals as goal

pub returns-in_err-check_open-clause-ends : goal.returns-in_err-check_open-clause-ends
returns-in_err-check_open-clause-ends g c =
    let p = err_from_is_err_and c.from_residual.result c.from_residual.ensures.1 in
    rw (p.1, p.2) (stopped_ends _ g.N.Life.log_faults _ _ _ _ _ _ c.look.ensures.counts (told_stops g.N.Life.log_faults _ _ _ c.in_err-check_open.ensures.ended))

pub invariant_of-self-then-is_err : goal.invariant_of-self-then-is_err
invariant_of-self-then-is_err g c =
    let k = c.self.invariant.1 in
    let flush = c.flush_to.ensures in
    let runs = c.in_ok-check_open.ensures.open.0 in
    let over = flush_ended g.L.Disk.faults c.self.inside.log.log.log c.flush_to.new.self.log.log c.flush_to.result (sym c.is_err.ensures.value ∙ c.if-is_err.true) flush.refused runs in (
      c.self.invariant.0,
      kept_flush g.N.Life.opens g.L.Disk.tells g.L.Disk.told g.L.Disk.may_leave c.self.inside.history c.look.new.self c.self.inside.log.log c.flush_to.new.self.log c.self.inside.log.listing c.flush_to.new.self.listing c.self.inside.locks c.self.inside.marked c.self.inside.marked (durable_lsn c.flush_to.new.self.log.log.places)
          c.self.inside.faults.total c.note_fault.new.faults.total k c.look.ensures.same runs flush.same flush.spare flush.rises refl (inl refl) (ends_failed c.flush_to.new.self.log.log.ended c.self.inside.history c.check_open.new.faults.total c.note_fault.new.faults.total over c.note_fault.ensures.total),
      restored_same c.self.inside.history _ c.self.inside.restored c.self.invariant.2 c.look.ensures.same,
      losers_same g.N.Life.opens c.self.inside.history _ c.self.inside.losers c.self.inside.losers c.self.invariant.3 c.look.ensures.same,
      call_safe g.N.Life.opens g.L.Disk.tells g.L.Disk.told g.L.Disk.may_leave c.self.inside.history _ c.self.inside.log.log c.flush_to.new.self.log c.self.inside.log.listing k.life.records k.life.telling c.self.invariant.4 c.look.ensures.same runs flush.left,
      durable_flush g.L.Disk.faults c.self.inside.log.log.log c.flush_to.new.self.log.log c.flush_to.result runs flush.live flush.refused,
    )

pub invariant_of-self-2 : goal.invariant_of-self-2
invariant_of-self-2 g c =
    let k = c.self.invariant.1 in
    let flush = c.flush_to.ensures in
    let runs = c.in_ok-check_open.ensures.open.0 in
    let live = on_ok c.flush_to.result (sym c.is_err.ensures.value ∙ c.if-is_err.false) flush.live in (
      c.tell_durable.ensures.same,
      kept_flush g.N.Life.opens g.L.Disk.tells g.L.Disk.told g.L.Disk.may_leave c.self.inside.history c.look.new.self c.self.inside.log.log c.flush_to.new.self.log c.self.inside.log.listing c.flush_to.new.self.listing c.self.inside.locks c.self.inside.marked c.tell_durable.new.marked c.durable.result
          c.self.inside.faults.total c.check_open.new.faults.total k c.look.ensures.same runs flush.same flush.spare flush.rises c.durable.ensures c.tell_durable.ensures.number (ends_flushed c.self.inside.log.log.log.ended c.flush_to.new.self.log.log.ended c.self.inside.history c.self.inside.faults.total c.check_open.new.faults.total k.ends runs live.1 c.check_open.ensures.total),
      restored_same c.self.inside.history _ c.self.inside.restored c.self.invariant.2 c.look.ensures.same,
      losers_same g.N.Life.opens c.self.inside.history _ c.self.inside.losers c.self.inside.losers c.self.invariant.3 c.look.ensures.same,
      call_safe g.N.Life.opens g.L.Disk.tells g.L.Disk.told g.L.Disk.may_leave c.self.inside.history _ c.self.inside.log.log c.flush_to.new.self.log c.self.inside.log.listing k.life.records k.life.telling c.self.invariant.4 c.look.ensures.same runs flush.left,
      durable_flush g.L.Disk.faults c.self.inside.log.log.log c.flush_to.new.self.log.log c.flush_to.result runs flush.live flush.refused,
    )

pub returns-in_err-check_open-clause-calls : goal.returns-in_err-check_open-clause-calls
returns-in_err-check_open-clause-calls g c =
    let p = err_from_is_err_and c.from_residual.result c.from_residual.ensures.1 in
    rw (p.1, p.2) (no_calls _ _ _ (sym (calls_is _ _ c.self.view_is)) (told_quiet g.N.Life.log_faults _ _ _ c.in_err-check_open.ensures.ended))

pub returns-then-is_err-clause-end : goal.returns-then-is_err-clause-end
returns-then-is_err-clause-end g c = end_fresh _ _ (sym (ended_is _ _ c.self.view_is) ∙ c.in_ok-check_open.ensures.open.0)

pub returns-clause-end : goal.returns-clause-end
returns-clause-end g c = end_fresh _ _ (sym (ended_is _ _ c.self.view_is) ∙ c.in_ok-check_open.ensures.open.0)

pub returns-then-is_err-clause-calls : goal.returns-then-is_err-clause-calls
returns-then-is_err-clause-calls g c =
    let flush = c.flush_to.ensures in
    let failed = fault_blames g.L.Disk.passes g.L.Disk.refused g.L.Disk.own g.L.Disk.faults c.self.inside.log.log.log c.flush_to.new.self.log.log c.flush_to.result (sym c.is_err.ensures.value ∙ c.if-is_err.true) flush.refused c.in_ok-check_open.ensures.open.0 flush.fuse in
    blames_since g.L.Disk.passes g.L.Disk.refused g.L.Disk.own _ _ _ (calls_is _ _ c.self.view_is) _ failed

pub returns-clause-calls : goal.returns-clause-calls
returns-clause-calls g c =
    let fine = fine_blames g.L.Disk.passes g.L.Disk.refused g.L.Disk.own g.L.Disk.faults c.self.inside.log.log.log c.flush_to.new.self.log.log c.flush_to.result (sym c.is_err.ensures.value ∙ c.if-is_err.false) c.flush_to.ensures.fuse in
    blames_since g.L.Disk.passes g.L.Disk.refused g.L.Disk.own _ _ _ (calls_is _ _ c.self.view_is) _ fine

-- ---- the durable blocks

pub returns-then-is_err-clause-blocks : goal.returns-then-is_err-clause-blocks
returns-then-is_err-clause-blocks g c =
    let k = c.self.invariant.1.life in
    keeps_flushed g.N.Life.opens _ _ _ (blocks_is _ _ c.self.view_is) c.flush_to.ensures.begins (λ opening stands. c.flush_to.ensures.rises _ (life_log opening c.self.inside.history) (k.records opening stands) (k.telling opening stands) c.in_ok-check_open.ensures.open.0)

pub returns-clause-blocks : goal.returns-clause-blocks
returns-clause-blocks g c =
    let k = c.self.invariant.1.life in
    keeps_flushed g.N.Life.opens _ _ _ (blocks_is _ _ c.self.view_is) c.flush_to.ensures.begins (λ opening stands. c.flush_to.ensures.rises _ (life_log opening c.self.inside.history) (k.records opening stands) (k.telling opening stands) c.in_ok-check_open.ensures.open.0)

pub returns-clause-stable : goal.returns-clause-stable
returns-clause-stable g c opening stands =
    let fine = sym c.is_err.ensures.value ∙ c.if-is_err.false in
    let least = on_ok c.flush_to.result fine c.flush_to.ensures.durable in
    let last = c.last.ensures.length _ (life_log opening c.self.inside.history) (c.self.invariant.1.life.records opening stands) in
    reaches opening c.self.inside.history _ (c.tell_durable.ensures.log ∙ c.look.ensures.pass) c.args.lsn c.last.result c.min-upto.result _ _ c.min-upto.ensures last least
