use Rattle.std.proofs.Common.{◌≡◌, ℕ, length, sym, ap, ◌∙◌, arith}
use Rattle.log_archive.specs.Items.{chunks_upto}
use Rattle.log_archive.proofs.Filled.{count_more, upto_none}
use Rattle.log_archive.proofs.object.pages_in.Goals as goal

pub loop-shelf-init : goal.loop-shelf-init
loop-shelf-init c = record { counted = λ f holds. ap length (sym (upto_none f)); few = omega arith }

pub loop-shelf-preserved : goal.loop-shelf-preserved
loop-shelf-preserved c = record {
  counted = λ f holds.
      let h = c.loop-shelf.invariant.counted f holds in
      let m = count_more c.args.shelves.now f holds c.loop-shelf.shelf-index c.shelf-item.result c.loop-shelf-test.true c.shelf-item.is in
      omega (arith, h, m);
  few = omega (arith, c.loop-shelf.invariant.few);
}

pub returns-clause-counted : goal.returns-clause-counted
returns-clause-counted c f holds =
    let n : c.loop-shelf.shelf-index ≡ length c.args.shelves.now = omega arith in
    c.loop-shelf.invariant.counted f holds ∙ ap (λ (k : ℕ). length (chunks_upto f k)) n
