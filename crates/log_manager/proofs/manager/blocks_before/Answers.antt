use Rattle.std.proofs.Common.{◌+◌, arith}
use Rattle.std.specs.Prelude.{map}
use Rattle.log_blocks.specs.Log.{Block}
use Rattle.log_manager.proofs.Finding.{before_last, before_more, before_none}
use Rattle.log_manager.proofs.manager.blocks_before.Goals as goal

pub loop-n-preserved : goal.loop-n-preserved
loop-n-preserved g c =
    let inv = c.loop-n.invariant in
    let log = c.args.log.now in
    let more = before_more c.args.upto c.loop-n.n (c.loop-n.n + 1) log.places (map (λ (b : Block). b.first) log.pending) (omega arith)
    (omega (arith, c.loop-n-test.true, inv.last)) (omega (arith, c.first_of.ensures, c.if-first_of-upto.true)) in
    record {
      so_far = omega (arith, more, inv.so_far);
      within = omega (arith, c.loop-n-test.true);
      last = inv.last;
    }

pub returns-else-first_of-upto : goal.returns-else-first_of-upto
returns-else-first_of-upto g c =
    let inv = c.loop-n.invariant in
    let log = c.args.log.now in
    let none = before_none c.args.upto c.loop-n.n (c.loop-n.n + 1) log.places (map (λ (b : Block). b.first) log.pending) (omega arith)
    (omega (arith, c.loop-n-test.true, inv.last)) (omega (arith, c.first_of.ensures, c.if-first_of-upto.false)) in
    omega (arith, none, inv.so_far)

pub returns-after-loop-n : goal.returns-after-loop-n
returns-after-loop-n g c =
    let inv = c.loop-n.invariant in
    let log = c.args.log.now in
    let none = before_last c.args.upto c.loop-n.n log.places (omega (arith, c.loop-n-test.false, inv.within, inv.last)) in
    omega (arith, none, inv.so_far)
