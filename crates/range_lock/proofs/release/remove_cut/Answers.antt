use Rattle.std.proofs.Common.{refl}
use Rattle.std.specs.Ordering.{nat_cmp, eq_by_cmp}
use Rattle.std.specs.Cmp.Lexicographic.{slice_cmp}
use Rattle.range_lock.specs.Cut.{cut_into, behind}
use Rattle.range_lock.proofs.Cuts.{none_of_cut, behind_more}
use Rattle.range_lock.proofs.Points.{removed_others, removed_fewer, removed_gone}
use Rattle.range_lock.proofs.release.remove_cut.Goals as goal

pub loop-n-init : goal.loop-n-init
unfolding cut_into behind
loop-n-init c = record { others = λ p other h. h; fewer = λ p h. h; gone = λ p t h. refl; left = refl }

pub loop-n-preserved : goal.loop-n-preserved
loop-n-preserved c =
    let out = c.remove.ensures in
    let fewer = removed_fewer c.loop-n.points c.remove.new.self c.cut.result.0.now c.args.tx out in
    let so_far = c.loop-n.invariant in
    record {
      others = λ p other h. removed_others c.loop-n.points c.remove.new.self c.cut.result.0.now c.args.tx out p other (so_far.others p other h);
      fewer = λ p h. so_far.fewer p (fewer p h);
      gone = λ p t h.
          none_of_cut (eq_by_cmp (slice_cmp nat_cmp) p.key) c.args.lengths.now c.args.texts.now c.loop-n.n-index c.loop-n-test.true
          (so_far.gone p t (fewer p h))
          (rw (← so_far.left, ← c.cut.ensures.front) (removed_gone c.loop-n.points c.remove.new.self c.cut.result.0.now c.args.tx out p t h));
      left = rw (c.cut.ensures.back, so_far.left) (behind_more c.args.lengths.now c.args.texts.now c.loop-n.n-index c.loop-n-test.true);
    }
