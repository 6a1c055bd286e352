use Rattle.std.proofs.Common.{◌≡◌, sym, ap, ◌∙◌, arith, vec_len, length}
use Rattle.losers.specs.Losers.{ended_at}
use Rattle.losers.proofs.Changes.{none_changed, one_changed, all_changed}
use Rattle.losers.proofs.losers.set_ended.Goals as goal

pub loop-loser-init : goal.loop-loser-init
loop-loser-init c = c.deref_mut-loser-items.ensures.value ∙ sym (none_changed (ended_at c.args.tx c.args.place) c.args.items.now.items)

pub loop-loser-preserved : goal.loop-loser-preserved
loop-loser-preserved c = one_changed (ended_at c.args.tx c.args.place) c.loop-loser.loser-index _ c.loop-loser.loser-items c.args.items.now.items _ _ c.loop-loser.invariant (omega arith) c.behind_end.ensures

pub returns : goal.returns
returns c =
    let size : length c.args.items.now.items ≡ vec_len c.args.items.now = sym (ap length c.deref_mut-loser-items.ensures.value) ∙ c.deref_mut-loser-items.ensures.len in
    all_changed (ended_at c.args.tx c.args.place) c.loop-loser.loser-index (vec_len c.args.items.now) c.loop-loser.loser-items c.args.items.now.items c.loop-loser.invariant size (omega (arith, size, c.loop-loser-test.false, c.deref_mut-loser-items.ensures.len))
