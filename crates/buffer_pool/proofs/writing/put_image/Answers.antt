use Rattle.std.proofs.Common.{subst, arith}
use Rattle.std.proofs.lemmas.Result.{err_from_is_err_and}
use mathlib.Core.List.{IsPrefix}
use Rattle.front.specs.Seen.{PassSeen}
use Rattle.front.proofs.Keeping.{prefix_trans}
use Rattle.wal_record.specs.declared.entry.Entry.{Entry}
use Rattle.page_ops.specs.Hands.{Hand}
use Rattle.page_ops.specs.Seeing.{is_none}
use Rattle.page_repair.specs.Supplies.{IsHead}
use Rattle.page_ops.proofs.Gaining.{goes_met, goes_of, goes_then, upheld, upheld_then}
use Rattle.buffer_pool.specs.Writes.{no_faults}
use Rattle.buffer_pool.proofs.Entering.{flush_fails, looks, none_both, open_met}
use Rattle.buffer_pool.proofs.Storing.{hand_named, may_write}
use Rattle.buffer_pool.proofs.writing.put_image.Goals as goal

pub returns-in_err-flush-clause-entered : goal.returns-in_err-flush-clause-entered
returns-in_err-flush-clause-entered g c =
    upheld_then is_none _ _ _ _ _ _ (goes_met is_none _ _ _ _ c.meet.ensures.this (let d = c.meet.ensures.durable in omega (arith, d))) (upheld _ _ _ is_none _ _ _ _ c.flush.ensures.seen)

pub returns-in_err-flush-clause-refused : goal.returns-in_err-flush-clause-refused
returns-in_err-flush-clause-refused g c =
    let p = err_from_is_err_and c.from_residual.result c.from_residual.ensures.1 in
    rw (p.1, p.2) (flush_fails _ _ _ _ _ _ no_faults _ c.in_err-flush.ensures.refused c.in_err-flush.ensures.ends)

pub write-written-requires : goal.write-written-requires
write-written-requires g c =
    let met = subst (λ (s : PassSeen Entry). IsPrefix s.log c.meet.new.self.log) c.copy-known.ensures.copy c.meet.ensures.other in
    record { written = may_write g.N.Life.opens _ c.held.invariant c.flush.new.pass (prefix_trans _ _ _ met c.flush.ensures.seen.now.begins) c.in_ok-flush.ensures.durable c.seal-bytes.result c.seal-bytes.ensures }

pub returns-clause-named : goal.returns-clause-named
returns-clause-named g c =
    let met = subst (λ (s : PassSeen Entry). IsPrefix s.log c.meet.new.self.log) c.copy-known.ensures.copy c.meet.ensures.other in
    let begins = prefix_trans _ _ _ met (prefix_trans _ _ _ c.flush.ensures.seen.now.begins (prefix_trans _ _ _ c.write-written.ensures.seen.0 c.see.ensures.seen.now.begins)) in
    subst (λ (x : Hand). IsHead g.N.Life.opens c.see.new.pass.log x.page x.lsn) c.held.view_is (λ opening stands. hand_named g.N.Life.opens _ c.held.invariant _ begins opening stands)

pub returns-clause-entered : goal.returns-clause-entered
returns-clause-entered g c =
    upheld_then is_none _ _ _ _ _ _
    (goes_then is_none _ _ _ (goes_met is_none _ _ _ _ c.meet.ensures.this (let d = c.meet.ensures.durable in omega (arith, d)))
    (goes_then is_none _ _ _ (goes_of is_none _ _ _ _ _ (upheld _ _ _ is_none _ _ _ _ c.flush.ensures.seen)) (goes_met is_none _ _ _ _ c.write-written.ensures.seen.0 c.write-written.ensures.seen.1)))
    (looks _ _ _ is_none _ _ _ _ _ _ c.see.ensures.seen)

pub returns-clause-open : goal.returns-clause-open
returns-clause-open g c = none_both _ _ _ (open_met (g.J.Entering.account c.args.journal.now) (g.J.Entering.account c.flush.new.self) c.in_ok-flush.ensures.ends) c.see.ensures.calm.end
