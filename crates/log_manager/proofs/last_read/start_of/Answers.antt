use Rattle.std.proofs.Common.{◌+◌, ◌<◌, ℕ, arith, length, subst, sym}
use Rattle.std.proofs.lemmas.List.{get_or_read}
use Rattle.log_manager.specs.LastRead.{AreStarts, IsStart}
use Rattle.log_manager.specs.Payload.{bytes_of}
use Rattle.log_manager.proofs.Taking.{next_at, start_more, starts_more}
use Rattle.log_manager.proofs.last_read.start_of.Goals as goal

pub returns-in-Err-clause-found : goal.returns-in-Err-clause-found
returns-in-Err-clause-found c rs spelled is lt =
    let inv = c.loop.invariant in
    let n = next_at c.args.payload.now c.loop.counter c.loop.at inv.at rs spelled is (omega (arith, lt, c.loop-test.true)) in
    (c.in-Err.ensures.only n.0 (bytes_of n.1) n.3 n.4).1

pub loop-preserved : goal.loop-preserved
loop-preserved c =
    let inv = c.loop.invariant in
    let old = c.loop.starts.items in
    let next = c.in-Ok.next in
    let start : IsStart c.args.payload.now (c.loop.counter + 1) next = start_more c.args.payload.now c.loop.counter c.loop.at next c.in-Ok.field-0-0 inv.at c.in-Ok.ensures.next.0 c.in-Ok.ensures.next.1 c.in-Ok.ensures.within in
    record {
      count = omega (arith, c.in_ok-push.ensures.len, inv.count);
      starts = subst (AreStarts c.args.payload.now) (sym c.in_ok-push.ensures.items) (starts_more c.args.payload.now old next inv.starts (subst (λ (k : ℕ). IsStart c.args.payload.now k next) (sym inv.count) start));
      at = start;
    }

pub returns-clause-start : goal.returns-clause-start
returns-clause-start c =
    let inv = c.loop.invariant in
    let lt : c.args.place < length c.loop.starts.items = omega (arith, inv.count, c.loop-test.false) in
    subst (IsStart c.args.payload.now c.args.place) (sym (get_or_read c.loop.starts.items _ _ lt c.index.ensures 0)) (inv.starts c.args.place lt)
