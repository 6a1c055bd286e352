use Rattle.std.proofs.Common.{Ok, Err, Bool, true, subst, ◌∙◌}
use Rattle.std.proofs.lemmas.Result.{err_from_is_err_and}
use Rattle.page_ops.specs.Claims.{no_claims}
use Rattle.page_ops.specs.Hands.{Hand}
use Rattle.page_ops.specs.Seeing.{is_none, known}
use Rattle.buffer_pool.specs.Writes.{is_written, EntersWritten, no_faults}
use Rattle.buffer_pool.proofs.Entering.{gains_none, looks, none_written, none_both, reserve_behind, upheld_both, upheld_more}
use Rattle.buffer_pool.proofs.Storing.{written_behind, written_false, written_none}
use Rattle.buffer_pool.proofs.writing.write_page.Goals as goal

pub returns-in_default-clause-enters : goal.returns-in_default-clause-enters
returns-in_default-clause-enters g c = written_none _ _ _ _ _ _ _ _ (gains_none _ _ _ _ _ (looks _ _ _ is_none _ _ _ _ _ _ c.see.ensures.seen))

pub returns-in_default-clause-entered : goal.returns-in_default-clause-entered
returns-in_default-clause-entered g c = looks _ _ _ is_written _ _ _ _ _ _ c.see.ensures.seen

pub returns-in_err-put_image-clause-enters : goal.returns-in_err-put_image-clause-enters
returns-in_err-put_image-clause-enters g c =
    let p = err_from_is_err_and c.from_residual.result c.from_residual.ensures.1 in
    rw (p.1, p.2) (written_none _ _ _ _ _ _ _ _ (gains_none _ _ _ _ _ c.put_image.ensures.entered))

pub returns-in_err-put_image-clause-entered : goal.returns-in_err-put_image-clause-entered
returns-in_err-put_image-clause-entered g c = upheld_more _ _ _ is_none is_written none_written _ _ c.put_image.ensures.entered

pub returns-then-not-branch-clause-enters : goal.returns-then-not-branch-clause-enters
returns-then-not-branch-clause-enters g c = written_false _ _ _ _ _ _ _ (gains_none _ _ _ _ _ c.put_image.ensures.entered)

pub returns-then-not-branch-clause-entered : goal.returns-then-not-branch-clause-entered
returns-then-not-branch-clause-entered g c = upheld_more _ _ _ is_none is_written none_written _ _ c.put_image.ensures.entered

pub returns-in_err-enter_written-clause-enters : goal.returns-in_err-enter_written-clause-enters
returns-in_err-enter_written-clause-enters g c =
    let p = err_from_is_err_and c.from_residual-in_err-enter_written.result c.from_residual-in_err-enter_written.ensures.1 in
    rw (p.1, p.2)
    (subst
    (λ (x : Hand). EntersWritten g.N.Life.opens g.N.Life.entries g.N.Life.session_entries x.page x.lsn (Err c.in_err-enter_written.field-0.0) (known (g.J.Entering.account c.args.journal.now) c.args.pass.now no_claims) (known (g.J.Entering.account c.enter_written.new.journal) c.enter_written.new.pass no_claims))
    (c.held-2.view_is ∙ c.put_image.ensures.same)
    (written_behind _ _ _ _ _ _ _ _ _ c.put_image.ensures.entered c.in_err-enter_written.ensures.enters))

pub returns-in_err-enter_written-clause-entered : goal.returns-in_err-enter_written-clause-entered
returns-in_err-enter_written-clause-entered g c = upheld_both _ _ _ is_written _ _ _ (upheld_more _ _ _ is_none is_written none_written _ _ c.put_image.ensures.entered) c.enter_written.ensures.entered

pub returns-in_err-enter_written-clause-refused : goal.returns-in_err-enter_written-clause-refused
returns-in_err-enter_written-clause-refused g c =
    let p = err_from_is_err_and c.from_residual-in_err-enter_written.result c.from_residual-in_err-enter_written.ensures.1 in
    rw (p.1, p.2) (reserve_behind _ _ _ _ _ is_none _ _ c.put_image.ensures.entered c.in_ok-put_image.ensures.open _ _ no_faults _ c.in_err-enter_written.ensures.refused)

pub returns-clause-enters : goal.returns-clause-enters
returns-clause-enters g c =
    let done =
    subst
    (λ (b : Bool). EntersWritten g.N.Life.opens g.N.Life.entries g.N.Life.session_entries c.held-2.inside.page c.held-2.inside.lsn (Ok b) (known (g.J.Entering.account c.put_image.new.journal) c.put_image.new.pass no_claims) (known (g.J.Entering.account c.enter_written.new.journal) c.enter_written.new.pass no_claims))
    c.in_ok-enter_written.ensures.done c.in_ok-enter_written.ensures.enters in
    subst
    (λ (x : Hand). EntersWritten g.N.Life.opens g.N.Life.entries g.N.Life.session_entries x.page x.lsn (Ok true) (known (g.J.Entering.account c.args.journal.now) c.args.pass.now no_claims) (known (g.J.Entering.account c.enter_written.new.journal) c.enter_written.new.pass no_claims))
    (c.held-2.view_is ∙ c.put_image.ensures.same)
    (written_behind _ _ _ _ _ _ _ _ _ c.put_image.ensures.entered done)

pub returns-clause-entered : goal.returns-clause-entered
returns-clause-entered g c = upheld_both _ _ _ is_written _ _ _ (upheld_more _ _ _ is_none is_written none_written _ _ c.put_image.ensures.entered) c.enter_written.ensures.entered

pub returns-clause-open : goal.returns-clause-open
returns-clause-open g c = none_both _ _ _ c.in_ok-put_image.ensures.open c.in_ok-enter_written.ensures.open
