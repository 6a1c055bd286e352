use Rattle.std.proofs.Common.{ap, length, arith, length-append, length-take, length-drop, ◌-◌, ◌∙◌, take, ℕ}
use Rattle.log_blocks.specs.Batch.{Batched, in_open}
use Rattle.log_blocks.proofs.Ready.{last_fits, ready_next, sized_new, buffers_left, popped}
use Rattle.log_blocks.proofs.batch.Batch.begin_short.Goals as goal

pub replace_last-requires-clause-size : goal.replace_last-requires-clause-size
replace_last-requires-clause-size c = last_fits c.self.inside.closed c.self.inside.last c.self.invariant.sized

pub invariant_of-self : goal.invariant_of-self
invariant_of-self c =
    let spares = c.self.inside.spares.items in
    let n = length spares in
    let b = c.in-Some.buffer in
    let spare = ap (λ (b : Batched). b.spare) c.self.view_is in
    let rest = c.in-Some.ensures.rest ∙ ap (λ (k : ℕ). take (k - 1) spares) c.self.inside.spares.ok.0 in
    let size = ap length rest in
    let taken = length-take (n - 1) spares in
    let left = ap length c.replace_last.ensures.nodes in
    let gone = ap length c.replace_last.ensures.closed in
    let o = in_open c.self.inside.last in
    let was = popped spares c.pop.new.self.items b c.self.invariant.buffers (omega (arith, spare, c.requires.spare)) c.in-Some.ensures.items in
    ready_next _ _ _ _ _ _ _ _ c.add.new.self c.self.invariant c.replace_last.ensures.last
    (sized_new b c.add.new.self 1 c.args.checkpoint _ c.args.bytes.now c.add.ensures.records was.none was.empty (omega arith, omega arith) (c.requires.size.0, omega (arith, c.requires.size.1)))
    c.replace_last.ensures.closed
    (omega (arith, left, length-drop (length o) c.self.inside.nodes, c.self.invariant.node_each, size, taken, spare, c.requires.spare))
    (omega (arith, size, taken, was.room, c.add.ensures.room, c.requires.size.1, spare, c.requires.spare))
    (buffers_left _ _ c.self.invariant.buffers rest)
    (omega (arith, gone, left, length-append c.self.inside.closed o, length-drop (length o) c.self.inside.nodes, c.self.invariant.few, c.self.invariant.node_each))
    (omega (arith, size, taken, c.self.invariant.spare))
