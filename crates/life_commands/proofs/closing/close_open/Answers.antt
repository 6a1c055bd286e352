use Rattle.std.proofs.Common.{refl, rules, ap, subst, ◌∙◌}
use Rattle.store_model.specs.declared.fault.Fault.{Fault}
use Rattle.own_life.specs.State.{Fails}
use Rattle.script.specs.declared.command.Command.TheVariants as commands
use Rattle.life_commands.proofs.Closes.{close_cut, closes_done, closes_failed}
use Rattle.life_commands.proofs.Ends.{ends_run, lacks_memory}
use Rattle.life_commands.proofs.Faults.{by_memory, if_err, if_ok, more_refused, over}
use Rattle.life_commands.proofs.closing.close_open.Goals as goal

pub returns-then-before-ge-MOST_REFUSED-clause-err : goal.returns-then-before-ge-MOST_REFUSED-clause-err
returns-then-before-ge-MOST_REFUSED-clause-err g c = λ line. lacks_memory g.L.Disk g.N.Life.opens c.args.life.now c.args.life.now refl commands.Close line

pub returns-in_err-done-clause-err : goal.returns-in_err-done-clause-err
returns-in_err-done-clause-err g c = by_memory c.from_residual.result _ c.from_residual.ensures.1 (λ line. lacks_memory g.L.Disk g.N.Life.opens c.args.life.now c.args.life.now refl commands.Close line)

pub returns-in_err-failed-clause-err : goal.returns-in_err-failed-clause-err
returns-in_err-failed-clause-err g c = by_memory c.from_residual-in_err-failed.result _ c.from_residual-in_err-failed.ensures.1 (λ line. lacks_memory g.L.Disk g.N.Life.opens c.args.life.now c.args.life.now refl commands.Close line)

pub returns-in-Ok-clause-ok : goal.returns-in-Ok-clause-ok
returns-in-Ok-clause-ok g c = closes_done g.L.Disk g.N.Life.opens c.args.life.now c.requires.active g.D.PageDevice g.V.Vault c.close-closed.new.self c.look.ensures.right c.requires.goes c.in-Ok.ensures.written c.in-Ok.ensures.goes c.in-Ok.ensures.durable
    c.in_ok-done.done.items c.in_ok-done.ensures

pub returns-in-Err-clause-ok : goal.returns-in-Err-clause-ok
returns-in-Err-clause-ok g c =
    let x = c.args.life.now in
    let y = c.close-closed.new.self in
    let more = more_refused x.calls.refused y.calls.refused c.refused-before.result c.refused.result c.refused-before.ensures c.refused.ensures (search rules) in
    if_ok c.fail.result _ _ (λ out k. closes_failed g.L.Disk g.N.Life.opens x c.requires.active g.D.PageDevice g.V.Vault y c.look.ensures.right c.requires.goes c.in-Err.ensures.written
    (subst (λ (f : Fault). Fails g.N.Life.opens x y f) k.0 c.in-Err.ensures.refused) (more k.2) out.items
    (ap (λ z. z.items) k.1 ∙ c.in_ok-failed.ensures)) c.fail.ensures.ok

pub returns-in-Err-clause-err : goal.returns-in-Err-clause-err
returns-in-Err-clause-err g c =
    let x = c.args.life.now in
    let y = c.close-closed.new.self in
    let cut = close_cut g.L.Disk g.N.Life.opens x c.requires.active y c.requires.goes c.in-Err.ensures.written in
    if_err c.fail.result _ _ (λ status k line. ends_run g.L.Disk g.N.Life.opens x y c.in-Err.ensures.names c.look.ensures.right commands.Close tt refl cut 0 0
    c.refused-before.result c.refused.result c.in-Err.fault (over g.N.Life.opens x y c.in-Err.fault c.in-Err.ensures.refused) status k line) c.fail.ensures.err
