use Rattle.std.proofs.Common.{rules, sym, ◌∙◌, ◌-◌}
use Rattle.wal_record.specs.State.{branch_rows, own_end}
use Rattle.page_halves.proofs.Covering.{slot_in, slot_child}
use Rattle.foster_tree.proofs.way.way_from.Goals as goal

pub child_in-requires : goal.child_in-requires
child_in-requires c =
    let s = c.args.state.now in
    let at = c.slot_of-slot.ensures in
    slot_in (s.level - 1) (own_end s) (branch_rows s.rows) c.slot_of-slot.result at.pointer at.slot

pub returns-in-Branch : goal.returns-in-Branch
returns-in-Branch c =
    let s = c.args.state.now in
    let at = c.slot_of-slot.ensures in (
      record {
        branch = search rules;
        own = search rules;
        row = at.child ∙ sym (slot_child (s.level - 1) (own_end s) (branch_rows s.rows) c.slot_of-slot.result at.pointer at.slot) ∙ c.child_in.ensures;
      },
      at,
    )
