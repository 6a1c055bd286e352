use Rattle.std.proofs.Common.{◌∙◌, ap, length, arith, ◌*◌}
use Rattle.log_blocks.specs.Batch.{Batched, joins, joined}
use Rattle.log_blocks.proofs.Ready.{ready_joined, blocks_joined, count_fits, joins_grown, at_least}
use Rattle.log_blocks.proofs.batch.Batch.join.Goals as goal

pub grow-requires : goal.grow-requires
grow-requires c = omega (arith, c.len-later.ensures, c.self.inside.spares.ok.0, c.self.invariant.spare, c.requires.size.1)

pub add-requires-clause-fits : goal.add-requires-clause-fits
add-requires-clause-fits c =
    count_fits c.self.inside.closed c.self.inside.last _ c.args.count (length c.args.bytes.now) c.in_ok-grow.ensures.same (ap (λ (b : Batched). joins b.blocks c.args.count (length c.args.bytes.now)) c.self.view_is ∙ c.requires.takes)

pub invariant_of-self-2 : goal.invariant_of-self-2
invariant_of-self-2 c =
    let takes = ap (λ (b : Batched). joins b.blocks c.args.count (length c.args.bytes.now)) c.self.view_is ∙ c.requires.takes in
    let room = 17 * length c.self.inside.spares.items in
    let j = joins_grown c.self.inside.last _ _ c.args.count c.args.checkpoint room c.args.bytes.now c.in_ok-grow.ensures.same
    (c.add.ensures room (at_least _ _ _ c.in_ok-grow.ensures.room (omega (arith, c.len-later.ensures, c.self.inside.spares.ok.0)))) in
    ready_joined c.self.inside.closed c.self.inside.nodes c.self.inside.nodes c.self.inside.last c.add.new.last c.self.inside.spares.items c.self.inside.spares.items
    c.args.count c.args.checkpoint room c.args.bytes.now c.self.invariant j takes (omega arith) (λ one. omega (arith, one, c.self.invariant.node_each)) c.self.invariant.buffers c.self.invariant.few c.self.invariant.spare

pub returns-clause-ok : goal.returns-clause-ok
returns-clause-ok c =
    let j = joins_grown c.self.inside.last _ _ c.args.count c.args.checkpoint 0 c.args.bytes.now c.in_ok-grow.ensures.same
    (c.add.ensures 0 (at_least _ _ _ c.in_ok-grow.ensures.room (omega arith))) in
    let done = blocks_joined c.self.inside.closed c.self.inside.last c.add.new.last c.args.count c.args.checkpoint 0 c.args.bytes.now j in
    (λ i. record { blocks = done i; spare = length c.self.inside.spares.items })
    ∙ ap (λ (b : Batched). let x : Batched = record { blocks = joined b.blocks c.args.count c.args.checkpoint c.args.bytes.now; spare = b.spare } in x) c.self.view_is
