use Rattle.std.proofs.Common.{sym, inl, arith, ◌∙◌}
use Rattle.std.proofs.lemmas.Result.{err_from_is_err_and}
use Rattle.segment_restore.proofs.Chains.{looks, upheld_both}
use Rattle.segment_restore.proofs.Owned.{result_after}
use Rattle.segment_restore.proofs.Segments.{enter_fails, listed_head}
use Rattle.segment_restore.proofs.Written.{back_unmade, listed_back}
use Rattle.segment_restore.proofs.restoring.restore_listed.Goals as goal

pub returns-in_err-listed-clause-entered : goal.returns-in_err-listed-clause-entered
returns-in_err-listed-clause-entered g c = looks _ _ _ _ _ _ _ _ _ c.listed.ensures.seen

pub returns-in_err-listed-clause-refused : goal.returns-in_err-listed-clause-refused
returns-in_err-listed-clause-refused g c =
    let p = err_from_is_err_and c.from_residual.result c.from_residual.ensures.1 in
    rw (p.1, p.2) (enter_fails _ _ _ _ _ _ _ _ c.in_err-listed.ensures.refused c.in_err-listed.ensures.ends)

pub returns-then-listed-eq0-clause-entered : goal.returns-then-listed-eq0-clause-entered
returns-then-listed-eq0-clause-entered g c = looks _ _ _ _ _ _ _ _ _ c.listed.ensures.seen

pub returns-clause-entered : goal.returns-clause-entered
returns-clause-entered g c = upheld_both _ _ _ _ _ _ _ _ _ (looks _ _ _ _ _ _ _ _ _ c.listed.ensures.seen) c.restore_page.ensures.entered

pub restore_page-requires : goal.restore_page-requires
restore_page-requires g c = record { head = listed_head g.N.Life.opens c.listed.new.pass.log c.args.page c.in_ok-listed.listed c.in_ok-listed.ensures.listed c.if-listed-eq0.false }

pub returns-then-listed-eq0-clause-written : goal.returns-then-listed-eq0-clause-written
returns-then-listed-eq0-clause-written g c = λ t.
    inl (back_unmade g.N.Life.opens c.args.pass.now.log c.listed.new.pass.log c.args.page c.in_ok-listed.listed _ c.listed.ensures.seen.now.begins c.in_ok-listed.ensures.listed c.if-listed-eq0.true)

pub returns-clause-written : goal.returns-clause-written
returns-clause-written g c =
    let v = c.restore_page.ensures.entered in
    λ t.
    listed_back c.restore_page.result g.N.Life.opens c.args.pass.now.log c.listed.new.pass.log c.restore_page.new.pass.log c.args.page c.in_ok-listed.listed _ _ c.listed.ensures.seen.now.begins (v.gained, sym v.is) c.in_ok-listed.ensures.listed c.if-listed-eq0.false
    (c.restore_page.ensures.written t)

pub returns-clause-refused : goal.returns-clause-refused
returns-clause-refused g c =
    let ends = c.in_ok-listed.ensures.ends in
    result_after g.N.Life.opens g.N.Life.log_faults g.N.Life.made _ _ _ _ _ _ (record { ended = ends.1.0 ∙ sym ends.0.0; amount = ends.1.1 ∙ sym ends.0.1 }) c.listed.ensures.seen.keeps _ _ (omega arith) c.restore_page.ensures.refused
