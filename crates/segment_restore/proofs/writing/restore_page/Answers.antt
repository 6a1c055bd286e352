use Rattle.std.proofs.Common.{sym}
use Rattle.std.proofs.lemmas.Result.{err_from_is_err_and}
use Rattle.front.proofs.Keeping.{prefix_trans}
use Rattle.page_ops.proofs.Gaining.{keeps_then}
use Rattle.segment_restore.proofs.Chains.{head_later, open_then, upheld_both}
use Rattle.segment_restore.proofs.Owned.{fails_after, result_behind_own}
use Rattle.segment_restore.proofs.Segments.{open_behind}
use Rattle.segment_restore.proofs.Written.{head_image}
use Rattle.segment_restore.specs.Faults.{no_faults}
use Rattle.segment_restore.proofs.writing.restore_page.Goals as goal

pub image_at-requires-clause-head : goal.image_at-requires-clause-head
image_at-requires-clause-head g c =
    let u = c.base.ensures.entered in
    head_later g.N.Life.opens c.args.pass.now.log c.base.new.pass.log c.args.page c.args.head (u.gained, sym u.is) c.requires.head

pub write_image-requires-clause-head : goal.write_image-requires-clause-head
write_image-requires-clause-head g c =
    let u = c.base.ensures.entered in
    let v = c.image_at.ensures.entered in
    head_later g.N.Life.opens c.args.pass.now.log c.image_at.new.pass.log c.args.page c.args.head (prefix_trans c.args.pass.now.log c.base.new.pass.log c.image_at.new.pass.log (u.gained, sym u.is) (v.gained, sym v.is)) c.requires.head

pub returns-in_err-image-clause-entered : goal.returns-in_err-image-clause-entered
returns-in_err-image-clause-entered g c = upheld_both _ _ _ _ _ _ _ _ _ c.base.ensures.entered c.image_at.ensures.entered

pub returns-in_err-image-clause-refused : goal.returns-in_err-image-clause-refused
returns-in_err-image-clause-refused g c =
    let p = err_from_is_err_and c.from_residual-in_err-image.result c.from_residual-in_err-image.ensures.1 in
    rw (p.1, p.2) (fails_after g.N.Life.opens g.N.Life.log_faults g.N.Life.made _ _ _ _ _ _ c.in_ok-base.ensures.open c.base.ensures.entered.keeps _ _ c.base.ensures.faults c.in_err-image.ensures.refused)

pub returns-clause-entered : goal.returns-clause-entered
returns-clause-entered g c = upheld_both _ _ _ _ _ _ _ _ _ (upheld_both _ _ _ _ _ _ _ _ _ c.base.ensures.entered c.image_at.ensures.entered) c.write_image.ensures.entered

pub returns-clause-open : goal.returns-clause-open
returns-clause-open g c =
    open_behind g.N.Life.opens g.N.Life.log_faults g.N.Life.made no_faults _ _ _ c.write_image.new.pass.log (open_then _ _ _ c.in_ok-base.ensures.open c.in_ok-image.ensures.open) c.write_image.result c.write_image.ensures.open

pub returns-clause-refused : goal.returns-clause-refused
returns-clause-refused g c =
    result_behind_own g.N.Life.opens g.N.Life.log_faults g.N.Life.made _ _ (g.J.Entering.account c.args.journal.now) (g.J.Entering.account c.image_at.new.journal) (g.J.Entering.account c.write_image.new.journal) c.write_image.new.pass.log
    (open_then _ _ _ c.in_ok-base.ensures.open c.in_ok-image.ensures.open) (keeps_then (g.J.Entering.account c.args.journal.now) (g.J.Entering.account c.base.new.journal) (g.J.Entering.account c.image_at.new.journal) c.base.ensures.entered.keeps c.image_at.ensures.entered.keeps)
    c.write_image.result c.write_image.ensures.refused

pub returns-clause-written : goal.returns-clause-written
returns-clause-written g c =
    let u = c.base.ensures.entered in
    let v = c.image_at.ensures.entered in
    let w = c.write_image.ensures.entered in
    λ t.
    head_image c.write_image.result g.N.Life.opens c.image_at.new.pass.log c.write_image.new.pass.log c.args.page c.args.head c.in_ok-image.image.sealed _ _ (w.gained, sym w.is)
    (head_later g.N.Life.opens c.args.pass.now.log c.image_at.new.pass.log c.args.page c.args.head (prefix_trans c.args.pass.now.log c.base.new.pass.log c.image_at.new.pass.log (u.gained, sym u.is) (v.gained, sym v.is)) c.requires.head) c.in_ok-image.ensures.rebuilt
    (c.write_image.ensures.written t)
