use Rattle.std.proofs.Common.{◌≡◌, ◌++◌, ◌+◌, ◌-◌, ◌<◌, List, ap, sym, ◌∙◌, arith, ℕ, length, get_or}
use Rattle.media.specs.Kept.{bytes_at}
use Rattle.log_blocks.specs.declared.header.Place.{Place}
use Rattle.log_blocks.specs.LogState.{LogState, lsn_behind, payload_at}
use Rattle.log_blocks.proofs.Durable.{in_disk, payload_read, payload_left, payload_right, payload_get}
use Rattle.log_blocks.proofs.Progressing.{length-places}
use Rattle.log_blocks.proofs.Walking.{next_above}
use Rattle.log_blocks.proofs.Whole.{chain_at}
use Rattle.log_blocks.proofs.log.BlockLog.read_block.Goals as goal

pub returns-then-i-durable-clause-payload : goal.returns-then-i-durable-clause-payload
returns-then-i-durable-clause-payload g c tells bs stands are =
    let count : c.durable-durable.result ≡ length bs = c.durable-durable.ensures ∙ ap length are ∙ length-places _ bs in
    let pending = c.args.self.now.pending in
    let j = c.args.i - c.durable-durable.result in
    let number : c.args.i ≡ length bs + j = omega (arith, count, c.if-i-durable.true) in
    let lt : j < length pending = omega (arith, c.requires, count, c.durable-durable.ensures, c.if-i-durable.true) in
    c.in_ok-extend_from_slice.ensures.items
    ∙ ap (λ (l : List ℕ). c.args.out.now.items ++ l) (c.payload-payload.ensures ∙ sym (payload_get pending j _ lt c.waiting.ensures) ∙ sym (payload_right bs pending j) ∙ ap (payload_at (bs ++ pending)) (sym number))

pub overflow_add-place : goal.overflow_add-place
overflow_add-place g c =
    let live = c.self.invariant.live (ap (λ (s : LogState _). s.ended) c.self.view_is ∙ c.in_ok-live.ensures.live) in
    let found = c.self.inside.places.items ++ c.self.inside.recent in
    let lt : c.args.i < length found = omega (arith, c.if-i-durable.false, c.durable-durable.ensures, ap (λ (s : LogState _). length s.places) c.self.view_is) in
    let is = c.place-place.ensures ∙ ap (λ (l : List Place). get_or l c.args.i c.place-place.result) c.settle.ensures in
    let at = chain_at _ found c.self.inside.gate c.args.i c.place-place.result live.chain lt is in
    omega (arith, at.1, c.self.invariant.whole.end_is, c.self.invariant.whole.fits)

pub read_payload-requires-clause-not_before : goal.read_payload-requires-clause-not_before
read_payload-requires-clause-not_before g c =
    let live = c.self.invariant.live (ap (λ (s : LogState _). s.ended) c.self.view_is ∙ c.in_ok-live.ensures.live) in
    let found = c.self.inside.places.items ++ c.self.inside.recent in
    let lt : c.args.i < length found = omega (arith, c.if-i-durable.false, c.durable-durable.ensures, ap (λ (s : LogState _). length s.places) c.self.view_is) in
    let is = c.place-place.ensures ∙ ap (λ (l : List Place). get_or l c.args.i c.place-place.result) c.settle.ensures in
    let at = chain_at _ found c.self.inside.gate c.args.i c.place-place.result live.chain lt is in
    omega (arith, at.0)

pub read_payload-requires-clause-within : goal.read_payload-requires-clause-within
read_payload-requires-clause-within g c =
    let live = c.self.invariant.live (ap (λ (s : LogState _). s.ended) c.self.view_is ∙ c.in_ok-live.ensures.live) in
    let found = c.self.inside.places.items ++ c.self.inside.recent in
    let lt : c.args.i < length found = omega (arith, c.if-i-durable.false, c.durable-durable.ensures, ap (λ (s : LogState _). length s.places) c.self.view_is) in
    let is = c.place-place.ensures ∙ ap (λ (l : List Place). get_or l c.args.i c.place-place.result) c.settle.ensures in
    let at = chain_at _ found c.self.inside.gate c.args.i c.place-place.result live.chain lt is in
    let inside = in_disk _ _ c.self.inside.gate c.place-place.result.at live.short live.within (omega (arith, at.0)) (omega (arith, at.1)) in
    omega (arith, at.1, inside)

pub lsn_before-requires : goal.lsn_before-requires
lsn_before-requires g c = let w = c.self.invariant.whole in omega (arith, w.next_is, next_above (lsn_behind (c.self.inside.places.items ++ c.self.inside.recent)) c.self.inside.pending)

pub returns-in-Ok-clause-payload : goal.returns-in-Ok-clause-payload
returns-in-Ok-clause-payload g c tells bs stands are =
    let p = c.place-place.result in
    let count : c.durable-durable.result ≡ length bs = c.durable-durable.ensures ∙ ap length are ∙ length-places _ bs in
    let lt : c.args.i < length bs = omega (arith, count, c.if-i-durable.false) in
    let is = c.place-place.ensures ∙ ap (λ (l : List Place). get_or l c.args.i p) c.settle.ensures ∙ ap (λ (s : LogState _). get_or s.places c.args.i p) c.self.view_is ∙ ap (λ (l : List Place). get_or l c.args.i p) are in
    let read = payload_read bs (g.L.Disk.told c.args.self.now.device) c.args.i p stands lt is in
    c.in-Ok.ensures.bytes tells ∙ ap (λ (s : LogState _). c.args.out.now.items ++ bytes_at (g.L.Disk.told s.device) (p.at + 23) p.length) c.self.view_is
    ∙ ap (λ (l : List ℕ). c.args.out.now.items ++ l) (read ∙ sym (payload_left bs c.args.self.now.pending c.args.i lt))
