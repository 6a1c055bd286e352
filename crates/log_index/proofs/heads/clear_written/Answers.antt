use Rattle.std.proofs.Common.{◌≡◌, sym, ap, ◌∙◌, arith, vec_len, length}
use Rattle.log_index.proofs.Places.{none_cleared, one_cleared, all_cleared}
use Rattle.log_index.proofs.heads.clear_written.Goals as goal

pub loop-entry-init : goal.loop-entry-init
loop-entry-init c = c.deref_mut-entry-items.ensures.value ∙ sym (none_cleared c.args.heads.now.items)

pub loop-entry-preserved : goal.loop-entry-preserved
loop-entry-preserved c = one_cleared c.loop-entry.entry-index _ c.loop-entry.entry-items c.args.heads.now.items _ c.loop-entry.invariant (omega arith)

pub returns : goal.returns
returns c =
    let size : length c.args.heads.now.items ≡ vec_len c.args.heads.now = sym (ap length c.deref_mut-entry-items.ensures.value) ∙ c.deref_mut-entry-items.ensures.len in
    all_cleared c.loop-entry.entry-index (vec_len c.args.heads.now) c.loop-entry.entry-items c.args.heads.now.items c.loop-entry.invariant size (omega (arith, size, c.loop-entry-test.false, c.deref_mut-entry-items.ensures.len))
