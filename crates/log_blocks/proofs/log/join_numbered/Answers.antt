use Rattle.std.proofs.Common.{[], ap, ◌∙◌, arith, get_or, drop, take, length, length-append, length-drop, length-take}
use Rattle.log_blocks.specs.Batch.{begun}
use Rattle.log_blocks.proofs.Numbering.{cons_of, step_blocks, step_records, step_bytes}
use Rattle.log_blocks.proofs.Progressing.{not_empty}
use Rattle.log_blocks.proofs.log.join_numbered.Goals as goal

pub pass-requires-clause-some : goal.pass-requires-clause-some
pass-requires-clause-some c =
    let b = get_or c.loop-more.more 0 (begun 0 0 []) in
    let rest = drop 1 c.loop-more.more in
    let is = cons_of c.loop-more.more (not_empty _ _ c.is_empty.ensures c.loop-more-test.true) in
    let n = c.number_first-count.ensures b rest is in
    omega (arith, ap length n.0)

pub pass-requires-clause-fits : goal.pass-requires-clause-fits
pass-requires-clause-fits c =
    let b = get_or c.loop-more.more 0 (begun 0 0 []) in
    let rest = drop 1 c.loop-more.more in
    let is = cons_of c.loop-more.more (not_empty _ _ c.is_empty.ensures c.loop-more-test.true) in
    let n = c.number_first-count.ensures b rest is in
    omega (arith, ap length n.0, ap length is, c.loop-more.invariant.few, c.requires.few)

pub overflow_add-next : goal.overflow_add-next
overflow_add-next c =
    let b = get_or c.loop-more.more 0 (begun 0 0 []) in
    let rest = drop 1 c.loop-more.more in
    let is = cons_of c.loop-more.more (not_empty _ _ c.is_empty.ensures c.loop-more-test.true) in
    let n = c.number_first-count.ensures b rest is in
    let step = step_records _ _ _ rest c.loop-more.next _ b is n.0 c.pass.ensures.nodes n.1 in
    omega (arith, step, c.loop-more.invariant.records, c.requires.records)

pub overflow_add-end : goal.overflow_add-end
overflow_add-end c =
    let b = get_or c.loop-more.more 0 (begun 0 0 []) in
    let rest = drop 1 c.loop-more.more in
    let is = cons_of c.loop-more.more (not_empty _ _ c.is_empty.ensures c.loop-more-test.true) in
    let n = c.number_first-count.ensures b rest is in
    let step = step_bytes _ _ _ rest c.loop-more.next c.loop-more.end _ b is n.0 c.pass.ensures.nodes n.2 in
    omega (arith, step, c.loop-more.invariant.bytes, c.requires.bytes)

pub loop-more-smaller : goal.loop-more-smaller
loop-more-smaller c =
    let b = get_or c.loop-more.more 0 (begun 0 0 []) in
    let rest = drop 1 c.loop-more.more in
    let is = cons_of c.loop-more.more (not_empty _ _ c.is_empty.ensures c.loop-more-test.true) in
    let n = c.number_first-count.ensures b rest is in
    omega (arith, ap length c.pass.ensures.nodes, ap length n.0, ap length is, length-drop 1 c.number_first-count.new.more)

pub loop-more-preserved : goal.loop-more-preserved
loop-more-preserved c =
    let b = get_or c.loop-more.more 0 (begun 0 0 []) in
    let rest = drop 1 c.loop-more.more in
    let is = cons_of c.loop-more.more (not_empty _ _ c.is_empty.ensures c.loop-more-test.true) in
    let n = c.number_first-count.ensures b rest is in
    let inv = c.loop-more.invariant in
    record {
      blocks_are = step_blocks _ _ _ _ _ rest c.loop-more.next _ b is n.0 c.pass.ensures.kept c.pass.ensures.nodes n.1 ∙ inv.blocks_are;
      records = step_records _ _ _ rest c.loop-more.next _ b is n.0 c.pass.ensures.nodes n.1 ∙ inv.records;
      bytes = step_bytes _ _ _ rest c.loop-more.next c.loop-more.end _ b is n.0 c.pass.ensures.nodes n.2 ∙ inv.bytes;
      few = omega (arith, inv.few, ap length is, ap length n.0, ap length c.pass.ensures.kept, ap length c.pass.ensures.nodes, length-append c.loop-more.pending (take 1 c.number_first-count.new.more), length-take 1 c.number_first-count.new.more, length-drop 1 c.number_first-count.new.more);
    }
