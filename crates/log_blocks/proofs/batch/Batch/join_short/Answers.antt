use Rattle.std.proofs.Common.{◌≡◌, ◌∙◌, ap, length, arith, ◌-◌, ◌*◌, take, ℕ, length-take, length-drop}
use Rattle.log_blocks.specs.Batch.{Batched, joins, joined}
use Rattle.log_blocks.proofs.Ready.{ready_joined, blocks_joined, count_fits, grows_same, buffers_left, less_room}
use Rattle.log_blocks.proofs.batch.Batch.join_short.Goals as goal

pub add-requires-clause-fits : goal.add-requires-clause-fits
add-requires-clause-fits c =
    count_fits c.self.inside.closed c.self.inside.last _ 1 (length c.args.bytes.now) (grows_same _) (ap (λ (b : Batched). joins b.blocks 1 (length c.args.bytes.now)) c.self.view_is ∙ c.requires.takes)

pub invariant_of-self : goal.invariant_of-self
invariant_of-self c =
    let takes = ap (λ (b : Batched). joins b.blocks 1 (length c.args.bytes.now)) c.self.view_is ∙ c.requires.takes in
    let spares = c.self.inside.spares.items in
    let n = length spares in
    let spare = ap (λ (b : Batched). b.spare) c.self.view_is in
    let rest = c.pop.ensures.rest ∙ ap (λ (k : ℕ). take (k - 1) spares) c.self.inside.spares.ok.0 in
    let size = ap length rest in
    let left = ap length c.pop_front.ensures.rest in
    let j = c.add.ensures (17 * (n - 1)) (less_room c.self.inside.last (17 * n) _ _ c.self.invariant.room (omega (arith, spare, c.requires.spare, c.requires.size.1))) in
    ready_joined c.self.inside.closed c.self.inside.nodes c.pop_front.new.self c.self.inside.last c.add.new.last spares c.pop.new.self.items
    1 c.args.checkpoint (17 * (n - 1)) c.args.bytes.now c.self.invariant j takes (omega (arith, size, length-take (n - 1) spares))
    (λ one. omega (arith, one, size, left, length-take (n - 1) spares, length-drop 1 c.self.inside.nodes, c.self.invariant.node_each, spare, c.requires.spare))
    (buffers_left _ _ c.self.invariant.buffers rest)
    (omega (arith, left, length-drop 1 c.self.inside.nodes, c.self.invariant.few))
    (omega (arith, size, length-take (n - 1) spares, c.self.invariant.spare))

pub returns : goal.returns
returns c =
    let spares = c.self.inside.spares.items in
    let n = length spares in
    let spare = ap (λ (b : Batched). b.spare) c.self.view_is in
    let size = ap length (c.pop.ensures.rest ∙ ap (λ (k : ℕ). take (k - 1) spares) c.self.inside.spares.ok.0) in
    let left : length c.pop.new.self.items ≡ n - 1 = omega (arith, size, length-take (n - 1) spares) in
    let j = c.add.ensures 0 (less_room c.self.inside.last (17 * n) 0 _ c.self.invariant.room (omega (arith, spare, c.requires.spare, c.requires.size.1))) in
    let done = blocks_joined c.self.inside.closed c.self.inside.last c.add.new.last 1 c.args.checkpoint 0 c.args.bytes.now j in
    (λ i. record { blocks = done i; spare = left i })
    ∙ ap (λ (b : Batched). let x : Batched = record { blocks = joined b.blocks 1 c.args.checkpoint c.args.bytes.now; spare = b.spare - 1 } in x) c.self.view_is
