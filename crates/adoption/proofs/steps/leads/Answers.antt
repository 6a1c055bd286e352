use Rattle.std.proofs.Common.{◌-◌, subst}
use Rattle.wal_record.specs.State.{branch_rows, own_end}
use Rattle.page_halves.proofs.Covering.{slot_in}
use Rattle.foster_tree.specs.Ways.{IsWay}
use Rattle.adoption.proofs.steps.leads.Goals as goal

pub check_step-requires : goal.check_step-requires
check_step-requires c =
    let s = c.args.state.now in
    let at = (subst (IsWay c.args.key.now s) c.in-Child.is c.requires.way).1 in
    slot_in (s.level - 1) (own_end s) (branch_rows s.rows) c.in-Child.slot at.pointer at.slot
