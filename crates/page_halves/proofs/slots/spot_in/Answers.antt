use Rattle.std.proofs.Common.{rules, Ok, Err}
use Rattle.std.proofs.lemmas.Fn.{always_returns_same}
use Rattle.page_rows.specs.Rows.{bound_cmp, branch_at}
use Rattle.page_rows.proofs.Spots.{found}
use Rattle.page_halves.proofs.slots.spot_in.Goals as goal

pub returns-in-Ok : goal.returns-in-Ok
returns-in-Ok c = found branch_at c.args.key.now c.args.rows.now c.requires (Ok c.in-Ok.i) c.in-Ok.ensures.bound (c.in-Ok.ensures.position (λ row. bound_cmp (branch_at row) c.args.key.now) (always_returns_same _ _ _ (λ a r g called. search rules)))

pub returns-in-Err : goal.returns-in-Err
returns-in-Err c = found branch_at c.args.key.now c.args.rows.now c.requires (Err c.in-Err.i) c.in-Err.ensures.bound (c.in-Err.ensures.position (λ row. bound_cmp (branch_at row) c.args.key.now) (always_returns_same _ _ _ (λ a r g called. search rules)))
