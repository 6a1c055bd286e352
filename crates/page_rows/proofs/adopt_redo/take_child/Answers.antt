use Rattle.std.proofs.Common.{List, ℕ, Option, ap}
use Rattle.wal_record.specs.declared.page.BranchRow.{BranchRow}
use Rattle.page_rows.specs.Redo.{with_branch_row}
use Rattle.wal_record.specs.Images.{CanTakeChild, with_child}
use Rattle.page_rows.proofs.Changes.{changed_ok, child_is}
use Rattle.page_rows.proofs.adopt_redo.take_child.Goals as goal

pub returns-clause-done : goal.returns-clause-done
returns-clause-done c =
    let some = c.in-Some.ensures.some in
    changed_ok (CanTakeChild c.args.adopt.now) (with_branch_row _ c.in-Some.place) (with_child c.args.adopt.now) c.args.state.now c.put_branch_row.new.state some.0
    (child_is c.args.adopt.now c.args.state.now _ c.in-Some.place (ap (λ (low : Option (List ℕ)). let row : BranchRow = record { low = low; child = c.args.adopt.now.child } in row) c.of_key.ensures) some.1 some.2) c.put_branch_row.result c.put_branch_row.ensures.done
