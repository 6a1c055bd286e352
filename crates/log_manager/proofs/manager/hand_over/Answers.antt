use Rattle.std.proofs.Common.{◌*◌, ℕ, [], subst, ap, ◌∙◌, sym}
use Rattle.log_blocks.specs.LogState.{LogState}
use Rattle.log_manager.specs.Managed.{IsCounted, with_batch}
use Rattle.log_manager.proofs.Counting.{counted_over}
use Rattle.log_manager.proofs.manager.hand_over.Goals as goal

pub returns-clause-counted : goal.returns-clause-counted
returns-clause-counted g c =
    let over = counted_over c.args.log.now c.args.batch.now.blocks c.args.batch.now.spare c.args.counted.now c.requires in
    let spare = c.spare.ensures ∙ ap (λ b. b.spare) c.append_batch.ensures.left in
    subst (λ (l : LogState _). IsCounted l [] c.args.batch.now.spare (record { records = 0; bytes = 40 * c.spare.result; checkpoint = c.args.counted.now.checkpoint })) (sym c.append_batch.ensures.appended)
    (subst (λ (n : ℕ). IsCounted (with_batch c.args.log.now c.args.batch.now.blocks) [] c.args.batch.now.spare (record { records = 0; bytes = 40 * n; checkpoint = c.args.counted.now.checkpoint })) (sym spare) over)
