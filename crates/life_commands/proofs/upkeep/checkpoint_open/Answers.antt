use Rattle.std.proofs.Common.{refl, rules, ap, ◌∙◌}
use Rattle.script.specs.declared.command.Command.TheVariants as commands
use Rattle.life_commands.proofs.Ends.{checkpoint_ends, checkpoint_fails, checkpoints_line, lacks_memory}
use Rattle.life_commands.proofs.Faults.{by_memory, if_err, if_ok, more_refused}
use Rattle.life_commands.proofs.upkeep.checkpoint_open.Goals as goal

pub returns-then-before-ge-MOST_REFUSED-clause-err : goal.returns-then-before-ge-MOST_REFUSED-clause-err
returns-then-before-ge-MOST_REFUSED-clause-err g c = λ line. lacks_memory g.L.Disk g.N.Life.opens c.args.life.now c.args.life.now refl commands.Checkpoint line

pub returns-in_err-done-clause-err : goal.returns-in_err-done-clause-err
returns-in_err-done-clause-err g c = by_memory c.from_residual.result _ c.from_residual.ensures.1 (λ line. lacks_memory g.L.Disk g.N.Life.opens c.args.life.now c.args.life.now refl commands.Checkpoint line)

pub returns-in_err-failed-clause-err : goal.returns-in_err-failed-clause-err
returns-in_err-failed-clause-err g c = by_memory c.from_residual-in_err-failed.result _ c.from_residual-in_err-failed.ensures.1 (λ line. lacks_memory g.L.Disk g.N.Life.opens c.args.life.now c.args.life.now refl commands.Checkpoint line)

pub returns-in-Ok-clause-ok : goal.returns-in-Ok-clause-ok
returns-in-Ok-clause-ok g c = checkpoints_line g.L.Disk g.N.Life.opens c.args.life.now c.checkpoint-taken.new.self c.requires c.in-Ok.ensures.names c.look.ensures.right c.in-Ok.field-0 c.in-Ok.ensures.entered c.in-Ok.ensures.goes c.in_ok-done.done.items c.in_ok-done.ensures

pub returns-in-Err-clause-ok : goal.returns-in-Err-clause-ok
returns-in-Err-clause-ok g c =
    let x = c.args.life.now in
    let y = c.checkpoint-taken.new.self in
    let more = more_refused x.calls.refused y.calls.refused c.refused-before.result c.refused.result c.refused-before.ensures c.refused.ensures (search rules) in
    if_ok c.fail.result _ _ (λ out k. checkpoint_fails g.L.Disk g.N.Life.opens x y c.requires c.in-Err.ensures.names c.look.ensures.right c.in-Err.fault k.0 c.in-Err.ensures.entered c.in-Err.ensures.refused (more k.2) out.items
    (ap (λ z. z.items) k.1 ∙ c.in_ok-failed.ensures)) c.fail.ensures.ok

pub returns-in-Err-clause-err : goal.returns-in-Err-clause-err
returns-in-Err-clause-err g c =
    let x = c.args.life.now in
    let y = c.checkpoint-taken.new.self in
    if_err c.fail.result _ _ (λ status k line. checkpoint_ends g.L.Disk g.N.Life.opens x y c.requires c.in-Err.ensures.names c.look.ensures.right c.refused-before.result c.refused.result c.in-Err.fault c.in-Err.ensures.entered c.in-Err.ensures.refused status k line) c.fail.ensures.err
