use Rattle.std.proofs.Common.{refl, sym, arith}
use Rattle.std.proofs.lemmas.Result.{err_from_is_err_and}
use Rattle.segment_restore.proofs.Chains.{looks, open_then, upheld_both}
use Rattle.segment_restore.proofs.Owned.{fails_after}
use Rattle.segment_restore.specs.Restored.{IsLost}
use Rattle.segment_restore.proofs.Written.{IsLostTo, all_back, lost_next, lost_upto, more_back, none_back, spared}
use Rattle.segment_restore.proofs.restoring.restore.Goals as goal

pub loop-done-init : goal.loop-done-init
loop-done-init g c = record {
  written = λ t. none_back g.N.Life.opens c.args.pass.now.log c.see.new.pass.log c.args.segment c.args.lost (g.I.Images.newest c.args.images.now) _ _ _ (omega arith) (omega arith);
  spared = λ t page apart. refl;
  entered = looks _ _ _ _ _ _ _ _ _ c.see.ensures.seen;
  open_still = c.see.ensures.calm.end;
  faults = omega arith;
  images = omega arith;
}

pub loop-done-preserved : goal.loop-done-preserved
loop-done-preserved g c = record {
  written = λ t.
      let v = c.restore_listed.ensures.entered in
      let i = c.restore_listed.ensures.images in
      more_back g.N.Life.opens c.args.pass.now.log c.loop-done.pass.log c.restore_listed.new.pass.log c.args.segment c.args.lost c.loop-done.done (g.I.Images.newest c.loop-done.images) (g.I.Images.newest c.restore_listed.new.images) (g.I.Images.faults c.args.images.now) (g.I.Images.faults c.loop-done.images) (g.I.Images.faults c.restore_listed.new.images) (let u = c.loop-done.invariant.entered in (u.gained, sym u.is)) (v.gained, sym v.is) i _ refl (c.restore_listed.ensures.others t) _ (omega arith)
      (c.loop-done.invariant.written t) (c.in_ok-restore_listed.ensures.written t);
  spared = λ t.
      spared c.args.segment c.args.lost _ (g.I.Images.newest c.args.images.now) (g.I.Images.newest c.loop-done.images) (g.I.Images.newest c.restore_listed.new.images) (lost_next c.args.segment c.args.lost c.loop-done.done (omega (arith, c.saturating_mul-before.ensures)) (omega (arith, c.loop-done-test.true, c.min-last.ensures, c.saturating_add.ensures, c.saturating_mul-before.ensures)))
      (c.restore_listed.ensures.others t) (c.loop-done.invariant.spared t);
  entered = upheld_both _ _ _ _ _ _ _ _ _ c.loop-done.invariant.entered c.restore_listed.ensures.entered;
  open_still = open_then _ _ _ c.loop-done.invariant.open_still c.in_ok-restore_listed.ensures.open;
  faults = let i = c.loop-done.invariant.faults in let j = c.restore_listed.ensures.faults in omega (arith, i, j);
  images = let i = c.loop-done.invariant.images in let j = c.restore_listed.ensures.images in omega (arith, i, j);
}

pub returns-in_err-restore_listed-clause-entered : goal.returns-in_err-restore_listed-clause-entered
returns-in_err-restore_listed-clause-entered g c = upheld_both _ _ _ _ _ _ _ _ _ c.loop-done.invariant.entered c.restore_listed.ensures.entered

pub returns-in_err-restore_listed-clause-refused : goal.returns-in_err-restore_listed-clause-refused
returns-in_err-restore_listed-clause-refused g c =
    let p = err_from_is_err_and c.from_residual.result c.from_residual.ensures.1 in
    rw (p.1, p.2) (fails_after g.N.Life.opens g.N.Life.log_faults g.N.Life.made _ _ _ _ _ _ c.loop-done.invariant.open_still c.loop-done.invariant.entered.keeps _ _ c.loop-done.invariant.faults c.in_err-restore_listed.ensures.refused)

pub returns-in_err-restore_listed-clause-spared : goal.returns-in_err-restore_listed-clause-spared
returns-in_err-restore_listed-clause-spared g c = λ t.
    spared c.args.segment c.args.lost _ (g.I.Images.newest c.args.images.now) (g.I.Images.newest c.loop-done.images) (g.I.Images.newest c.restore_listed.new.images)
    (lost_next c.args.segment c.args.lost c.loop-done.done (omega (arith, c.saturating_mul-before.ensures)) (omega (arith, c.loop-done-test.true, c.min-last.ensures, c.saturating_add.ensures, c.saturating_mul-before.ensures)))
    (c.restore_listed.ensures.others t) (c.loop-done.invariant.spared t)

pub returns-clause-written : goal.returns-clause-written
returns-clause-written g c = λ t.
    all_back g.N.Life.opens c.args.pass.now.log c.loop-done.pass.log (IsLostTo c.args.segment c.args.lost c.loop-done.done) (IsLost c.args.segment c.args.lost) (g.I.Images.newest c.loop-done.images) (g.I.Images.faults c.args.images.now) (g.I.Images.faults c.loop-done.images)
    (λ page l. (l, lost_upto c.args.segment c.args.lost page c.loop-done.done l c.ranges.lost.fits (omega (arith, c.loop-done-test.false, c.min-last.ensures, c.saturating_add.ensures, c.saturating_mul-before.ensures)))) (c.loop-done.invariant.written t)
