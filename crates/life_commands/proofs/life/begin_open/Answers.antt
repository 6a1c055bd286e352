use Rattle.std.proofs.Common.{refl, ap, subst, sym, ◌∙◌, List, ℕ, Ok, Err}
use Rattle.store_model.specs.declared.fault.Fault.{Fault}
use Rattle.own_life.specs.State.{BeginsAs, FailsToBegin}
use Rattle.script.specs.declared.command.Command.TheVariants as commands
use Rattle.life_commands.specs.Promises.{Refused}
use Rattle.life_commands.specs.declared.status.Status.{Status}
use Rattle.life_commands.proofs.Ends.{begins, crowded, lacks_memory}
use Rattle.life_commands.proofs.Faults.{begin_later, by_memory, if_err, if_ok}
use Rattle.life_commands.proofs.life.begin_open.Goals as goal

pub returns-in_err-done-clause-err : goal.returns-in_err-done-clause-err
returns-in_err-done-clause-err g c = by_memory c.from_residual.result _ c.from_residual.ensures.1 (λ line. lacks_memory g.L.Disk g.N.Life.opens c.args.life.now c.args.life.now refl (commands.Begin c.args.name.now) line)

pub returns-in_err-refused-clause-err : goal.returns-in_err-refused-clause-err
returns-in_err-refused-clause-err g c = by_memory c.from_residual-in_err-refused.result _ c.from_residual-in_err-refused.ensures.1 (λ line. lacks_memory g.L.Disk g.N.Life.opens c.args.life.now c.args.life.now refl (commands.Begin c.args.name.now) line)

pub returns-in-Ok-clause-ok : goal.returns-in-Ok-clause-ok
returns-in-Ok-clause-ok g c = begins g.L.Disk g.N.Life.opens c.args.life.now c.begin-begun.new.self c.requires.goes c.args.name.now c.requires.free c.in-Ok.field-0 (subst (λ (n : List ℕ). BeginsAs n (Ok c.in-Ok.field-0) c.args.life.now c.begin-begun.new.self) c.copied.ensures c.in-Ok.ensures.begins) c.in-Ok.ensures.few c.in-Ok.ensures.goes c.look.ensures.right
    c.in_ok-done.done.items c.in_ok-done.ensures

pub returns-in-Err-clause-ok : goal.returns-in-Err-clause-ok
returns-in-Err-clause-ok g c =
    let x = c.args.life.now in
    let y = c.begin-begun.new.self in
    if_ok c.refuse_begin.result _ _ (λ out k.
    let crowd = c.in-Err.is ∙ ap Err k.0 in
    crowded g.L.Disk g.N.Life.opens x y c.requires.goes c.args.name.now c.requires.free c.in-Err.ensures.begins.0 c.in-Err.ensures.begins.1 (subst (λ (f : Fault). FailsToBegin x y f) k.0 c.in-Err.ensures.refused) (c.begin-begun.ensures.crowd crowd)
    out.items (ap (λ z. z.items) k.1 ∙ c.in_ok-refused.ensures)) c.refuse_begin.ensures.ok

pub returns-in-Err-clause-err : goal.returns-in-Err-clause-err
returns-in-Err-clause-err g c = if_err c.refuse_begin.result _ _ (λ status k line. subst (λ (z : Status). Refused g.L.Disk g.N.Life.opens c.args.life.now c.begin-begun.new.self (commands.Begin c.args.name.now) line z) (sym k)
    (lacks_memory g.L.Disk g.N.Life.opens c.args.life.now c.begin-begun.new.self c.in-Err.ensures.begins.0 (commands.Begin c.args.name.now) line)) c.refuse_begin.ensures.err

pub returns-in-Err-clause-later : goal.returns-in-Err-clause-later
returns-in-Err-clause-later g c = begin_later g.N.Life.opens c.args.life.now c.begin-begun.new.self c.in-Err.fault c.in-Err.ensures.refused
