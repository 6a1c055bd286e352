use Rattle.std.proofs.lemmas.Result.{err_from_is_err_and}
use Rattle.page_ops.specs.Seeing.{is_none}
use Rattle.page_ops.proofs.Gaining.{goes_met, goes_of, goes_then, upheld_then}
use Rattle.segment_restore.specs.Faults.{no_faults}
use Rattle.segment_restore.proofs.Chains.{looks, open_then}
use Rattle.segment_restore.proofs.Segments.{flush_fails, may_write, open_met}
use Rattle.segment_restore.proofs.Written.{written_or}
use Rattle.segment_restore.proofs.writing.write_image.Goals as goal

pub returns-in_err-flush-clause-entered : goal.returns-in_err-flush-clause-entered
returns-in_err-flush-clause-entered g c = looks _ _ _ _ _ _ _ _ _ c.flush.ensures.seen

pub returns-in_err-flush-clause-refused : goal.returns-in_err-flush-clause-refused
returns-in_err-flush-clause-refused g c =
    let p = err_from_is_err_and c.from_residual.result c.from_residual.ensures.1 in
    rw (p.1, p.2) (flush_fails _ _ _ no_faults _ _ _ _ c.in_err-flush.ensures.refused c.in_err-flush.ensures.ends)

pub write-written-requires : goal.write-written-requires
write-written-requires g c =
    record { written = may_write g.N.Life.opens c.args.pass.now.log c.flush.new.pass c.args.page c.args.head c.args.image.now.sealed c.flush.ensures.seen.now.begins c.requires.head c.requires.rebuilt c.in_ok-flush.ensures.durable c.bytes_of-bytes.result c.bytes_of-bytes.ensures }

pub returns-clause-entered : goal.returns-clause-entered
returns-clause-entered g c =
    upheld_then is_none _ _ _ _ _ _
    (goes_then is_none _ _ _ (goes_of is_none _ _ _ _ _ (looks _ _ _ _ _ _ _ _ _ c.flush.ensures.seen)) (goes_met is_none _ _ _ _ c.write-written.ensures.seen.0 c.write-written.ensures.seen.1))
    (looks _ _ _ _ _ _ _ _ _ c.see.ensures.seen)

pub returns-clause-open : goal.returns-clause-open
returns-clause-open g c = open_then _ _ _ (open_met (g.J.Entering.account c.args.journal.now) (g.J.Entering.account c.flush.new.self) c.in_ok-flush.ensures.ends) c.see.ensures.calm.end

pub returns-clause-written : goal.returns-clause-written
returns-clause-written g c = λ t.
    written_or c.write-written.result _ _ _ _ _ c.bytes_of-bytes.ensures (c.write-written.ensures.newest t) c.write-written.ensures.cause.failed
