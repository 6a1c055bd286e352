use Rattle.std.proofs.Common.{sym}
use Rattle.std.proofs.lemmas.Result.{err_from_is_err_and}
use Rattle.page_ops.specs.Seeing.{is_none, is_upkeep}
use Rattle.front.proofs.Keeping.{prefix_self, prefix_trans}
use Rattle.page_repair.proofs.Sparing.{spares_longer, spares_then}
use Rattle.page_repair.specs.Supplies.{is_restored}
use Rattle.buffer_pool.proofs.Coming.{brings_in_hand, looked_for}
use Rattle.buffer_pool.proofs.Entering.{bring_behind_all, faults_both, none_both, none_kind, none_restored, open_both, restored_kind, upheld_both, upheld_more}
use Rattle.buffer_pool.proofs.Serving.{given_base}
use Rattle.buffer_pool.proofs.bringing.brought.Goals as goal

pub returns-in_err-written-clause-brings : goal.returns-in_err-written-clause-brings
returns-in_err-written-clause-brings g c =
    let p = err_from_is_err_and c.from_residual.result c.from_residual.ensures.1 in
    rw p.1 c.made_ready.ensures.entered

pub returns-in_err-written-clause-entered : goal.returns-in_err-written-clause-entered
returns-in_err-written-clause-entered g c = upheld_more _ _ _ is_restored is_upkeep restored_kind _ _ c.made_ready.ensures.entered

pub in_hand-requires-clause-base : goal.in_hand-requires-clause-base
in_hand-requires-clause-base g c =
    given_base g.N.Life.opens (record { page = c.args.page; lsn = c.args.lsn }) c.requires.range c.seen_image-bytes.new.pass c.seen_image-bytes.ensures.consistent c.seen_image-bytes.ensures.agrees c.in_ok-written.written
    c.seen_image-bytes.result c.in-Ok.base c.seen_image-bytes.ensures.image c.in-Ok.ensures

pub returns-clause-brings : goal.returns-clause-brings
returns-clause-brings g c =
    let u = c.seen_image-bytes.ensures.entered in
    let v = c.in_hand.ensures.entered in
    brings_in_hand _ _ _ c.args.page c.args.lsn _ _ c.in-Ok.base _ _ _ (upheld_both _ _ _ is_restored _ _ _ c.made_ready.ensures.entered (upheld_more _ _ _ is_none is_restored none_restored _ _ u)) is_upkeep v c.in_hand.result
    (looked_for g.N.Life.opens c.args.page c.args.lsn _ _ _ c.in_ok-written.written _ c.made_ready.new.pass c.seen_image-bytes.new.pass _ c.seen_image-bytes.result c.in-Ok.base c.made_ready.ensures.images c.in_ok-written.ensures.written (u.gained, sym u.is)
    (v.gained, sym v.is) v.durable c.seen_image-bytes.ensures.image c.seen_image-bytes.ensures.failed c.in-Ok.ensures)
    c.in_hand.ensures.page c.in_hand.ensures.repairs

pub returns-clause-entered : goal.returns-clause-entered
returns-clause-entered g c =
    upheld_both _ _ _ is_upkeep _ _ _ (upheld_both _ _ _ is_upkeep _ _ _ (upheld_more _ _ _ is_restored is_upkeep restored_kind _ _ c.made_ready.ensures.entered) (upheld_more _ _ _ is_none is_upkeep none_kind _ _ c.seen_image-bytes.ensures.entered)) c.in_hand.ensures.entered

pub returns-clause-refused : goal.returns-clause-refused
returns-clause-refused g c =
    bring_behind_all _ _ _ _ _ is_restored _ _ (upheld_both _ _ _ is_restored _ _ _ c.made_ready.ensures.entered (upheld_more _ _ _ is_none is_restored none_restored _ _ c.seen_image-bytes.ensures.entered)) (none_both _ _ _ c.in_ok-written.ensures.open c.seen_image-bytes.ensures.open) _ _ _ _ _ _
    c.made_ready.ensures.faults c.in_hand.ensures.refused

pub returns-clause-open : goal.returns-clause-open
returns-clause-open g c = open_both _ _ _ _ (none_both _ _ _ c.in_ok-written.ensures.open c.seen_image-bytes.ensures.open) c.in_hand.ensures.open

pub returns-clause-faults : goal.returns-clause-faults
returns-clause-faults g c = faults_both _ _ _ c.made_ready.ensures.faults c.in_hand.ensures.faults

pub returns-in_default-clause-brings : goal.returns-in_default-clause-brings
returns-in_default-clause-brings g c = upheld_both _ _ _ is_restored _ _ _ c.made_ready.ensures.entered (upheld_more _ _ _ is_none is_restored none_restored _ _ c.seen_image-bytes.ensures.entered)

pub returns-in_default-clause-entered : goal.returns-in_default-clause-entered
returns-in_default-clause-entered g c = upheld_both _ _ _ is_upkeep _ _ _ (upheld_more _ _ _ is_restored is_upkeep restored_kind _ _ c.made_ready.ensures.entered) (upheld_more _ _ _ is_none is_upkeep none_kind _ _ c.seen_image-bytes.ensures.entered)

pub returns-in_err-written-clause-spared : goal.returns-in_err-written-clause-spared
returns-in_err-written-clause-spared g c = c.made_ready.ensures.spared

pub returns-clause-spared : goal.returns-clause-spared
returns-clause-spared g c = λ t.
    let u = c.seen_image-bytes.ensures.entered in
    let v = c.in_hand.ensures.entered in
    spares_longer g.N.Life.opens c.args.page g.I.Images.newest _ _ _ _ c.args.images.now c.seen_image-bytes.new.images (prefix_self _) (prefix_trans _ _ _ (u.gained, sym u.is) (v.gained, sym v.is))
    (spares_then g.N.Life.opens c.args.page g.I.Images.newest _ _ c.args.images.now c.made_ready.new.images c.seen_image-bytes.new.images (c.made_ready.ensures.spared t) (c.seen_image-bytes.ensures.images t))

pub returns-in_default-clause-spared : goal.returns-in_default-clause-spared
returns-in_default-clause-spared g c = λ t.
    let u = c.seen_image-bytes.ensures.entered in
    spares_longer g.N.Life.opens c.args.page g.I.Images.newest _ _ _ _ c.args.images.now c.seen_image-bytes.new.images (prefix_self _) (u.gained, sym u.is)
    (spares_then g.N.Life.opens c.args.page g.I.Images.newest _ _ c.args.images.now c.made_ready.new.images c.seen_image-bytes.new.images (c.made_ready.ensures.spared t) (c.seen_image-bytes.ensures.images t))
