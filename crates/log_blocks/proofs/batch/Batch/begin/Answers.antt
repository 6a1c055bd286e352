use Rattle.std.proofs.Common.{ap, length, arith, length-append, length-drop, ◌∷◌, []}
use Rattle.log_blocks.specs.Batch.{in_open}
use Rattle.log_blocks.proofs.Ready.{last_fits, ready_next, sized_new}
use Rattle.log_blocks.proofs.batch.Batch.begin.Goals as goal

pub replace_last-requires-clause-size : goal.replace_last-requires-clause-size
replace_last-requires-clause-size c = last_fits c.self.inside.closed c.self.inside.last c.self.invariant.sized

pub invariant_of-self-2 : goal.invariant_of-self-2
invariant_of-self-2 c =
    let n = length c.self.inside.spares.items in
    let len = c.self.inside.spares.ok.0 in
    let none = c.in_ok-next.ensures.empty in
    let nodes = ap length c.in_ok-push_back.ensures.items in
    let left = ap length c.replace_last.ensures.nodes in
    let gone = ap length c.replace_last.ensures.closed in
    let o = in_open c.self.inside.last in
    ready_next _ _ _ _ _ _ _ _ c.add.new.self c.self.invariant c.replace_last.ensures.last
    (sized_new c.in_ok-next.next c.add.new.self c.args.count c.args.checkpoint _ c.args.bytes.now c.add.ensures.records none.1 none.2
    (c.requires.records.0, omega (arith, c.requires.records.1)) c.requires.size)
    c.replace_last.ensures.closed
    (omega (arith, left, nodes, length-append c.self.inside.nodes (c.in_ok-node.node ∷ []), length-drop (length o) c.push_back.new.self, c.self.invariant.node_each))
    (omega (arith, c.in_ok-next.ensures.room, c.add.ensures.room, c.len-later.ensures, len))
    c.self.invariant.buffers
    (omega (
      arith,
      gone,
      left,
      nodes,
      length-append c.self.inside.nodes (c.in_ok-node.node ∷ []),
      length-append c.self.inside.closed o,
      length-drop (length o) c.push_back.new.self,
      c.self.invariant.node_each,
      c.if-len-ge-MOST_BLOCKS.false,
      c.len.ensures.value,
      c.len-2.ensures.value,
    ))
    c.self.invariant.spare
