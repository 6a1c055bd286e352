use Rattle.std.proofs.lemmas.Result.{err_from_is_err_and}
use Rattle.page_ops.proofs.Gaining.{keeps_then, upheld}
use Rattle.front.proofs.Keeping.{prefix_trans}
use Rattle.page_repair.proofs.Sparing.{spares_same}
use Rattle.page_repair.specs.Supplies.{is_restored}
use Rattle.std.proofs.Common.{arith, sym}
use Rattle.segment_restore.proofs.Chains.{open_then}
use Rattle.segment_restore.proofs.Owned.{fails_after, result_behind_own}
use Rattle.segment_restore.proofs.Segments.{open_met, restored_both, restored_more}
use Rattle.segment_restore.proofs.Written.{spares_others}
use Rattle.store_pages.proofs.supply.LifeSupplySupply.ready.Goals as goal

pub returns-in_err-listed-clause-entered : goal.returns-in_err-listed-clause-entered
returns-in_err-listed-clause-entered g c = upheld _ _ _ is_restored _ _ _ _ c.listed.ensures.seen

pub returns-then-not-listed-clause-entered : goal.returns-then-not-listed-clause-entered
returns-then-not-listed-clause-entered g c = upheld _ _ _ is_restored _ _ _ _ c.listed.ensures.seen

pub returns-in_err-restore-clause-entered : goal.returns-in_err-restore-clause-entered
returns-in_err-restore-clause-entered g c = restored_both _ _ _ _ _ _ (upheld _ _ _ is_restored _ _ _ _ c.listed.ensures.seen) (restored_more _ _ _ _ _ c.restore.ensures.entered)

pub returns-in_err-restore-clause-refused : goal.returns-in_err-restore-clause-refused
returns-in_err-restore-clause-refused g c =
    let p = err_from_is_err_and c.from_residual-in_err-restore.result c.from_residual-in_err-restore.ensures.1 in
    rw (p.1, p.2) (fails_after g.N.Life.opens g.N.Life.log_faults g.N.Life.made _ _ _ _ _ _ (open_met (g.J.Entering.account c.args.journal.now) (g.J.Entering.account c.listed.new.self) c.in_ok-listed.ensures.ends) c.listed.ensures.seen.keeps _ _ (omega arith) c.in_err-restore.ensures.refused)

pub returns-clause-entered : goal.returns-clause-entered
returns-clause-entered g c =
    restored_both _ _ _ _ _ _ (restored_both _ _ _ _ _ _ (upheld _ _ _ is_restored _ _ _ _ c.listed.ensures.seen) (restored_more _ _ _ _ _ c.restore.ensures.entered)) c.mark_restored.ensures.entered

pub returns-clause-refused : goal.returns-clause-refused
returns-clause-refused g c =
    let none = open_then (g.J.Entering.account c.args.journal.now) (g.J.Entering.account c.listed.new.self) (g.J.Entering.account c.restore.new.journal) (open_met (g.J.Entering.account c.args.journal.now) (g.J.Entering.account c.listed.new.self) c.in_ok-listed.ensures.ends) c.in_ok-restore.ensures.open in
    result_behind_own g.N.Life.opens g.N.Life.log_faults g.N.Life.made _ _ (g.J.Entering.account c.args.journal.now) (g.J.Entering.account c.restore.new.journal) (g.J.Entering.account c.mark_restored.new.journal) c.mark_restored.new.pass.log none
    (keeps_then (g.J.Entering.account c.args.journal.now) (g.J.Entering.account c.listed.new.self) (g.J.Entering.account c.restore.new.journal) c.listed.ensures.seen.keeps c.restore.ensures.entered.keeps) c.mark_restored.result c.mark_restored.ensures.refused

pub returns-in_err-listed-clause-spared : goal.returns-in_err-listed-clause-spared
returns-in_err-listed-clause-spared g c = λ t. spares_same g.N.Life.opens c.args.page g.I.Images.newest _ _ c.args.images.now

pub returns-then-not-listed-clause-spared : goal.returns-then-not-listed-clause-spared
returns-then-not-listed-clause-spared g c = λ t. spares_same g.N.Life.opens c.args.page g.I.Images.newest _ _ c.args.images.now

pub returns-in_err-restore-clause-spared : goal.returns-in_err-restore-clause-spared
returns-in_err-restore-clause-spared g c = λ t.
    let u = c.restore.ensures.entered in
    spares_others g.N.Life.opens c.args.page c.segment_of-segment.result c.in_ok-listed.listed c.args.pass.now.log c.listed.new.pass.log c.restore.new.pass.log g.I.Images.newest c.args.images.now c.restore.new.images c.segment_of-segment.ensures
    c.in_ok-listed.ensures.listed c.if-not-listed.false c.listed.ensures.seen.now.begins (u.gained, sym u.is) (c.restore.ensures.spared t)

pub returns-clause-spared : goal.returns-clause-spared
returns-clause-spared g c = λ t.
    let u = c.restore.ensures.entered in
    let v = c.mark_restored.ensures.entered in
    spares_others g.N.Life.opens c.args.page c.segment_of-segment.result c.in_ok-listed.listed c.args.pass.now.log c.listed.new.pass.log c.mark_restored.new.pass.log g.I.Images.newest c.args.images.now c.restore.new.images c.segment_of-segment.ensures
    c.in_ok-listed.ensures.listed c.if-not-listed.false c.listed.ensures.seen.now.begins (prefix_trans _ _ _ (u.gained, sym u.is) (v.gained, sym v.is)) (c.restore.ensures.spared t)
