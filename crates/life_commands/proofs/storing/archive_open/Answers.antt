use Rattle.std.proofs.Common.{refl, rules, inl, inr, ap, subst, ◌∙◌}
use Rattle.store_model.specs.declared.fault.Fault.{Fault}
use Rattle.own_life.specs.State.{FailsOver}
use Rattle.script.specs.declared.command.Command.TheVariants as commands
use Rattle.life_commands.proofs.Ends.{archive_cut, archive_lacks, archives_line, ends_run, fails_line, lacks_line, lacks_memory, vault_line}
use Rattle.life_commands.proofs.Faults.{by_memory, if_err, if_ok, more_refused}
use Rattle.life_commands.proofs.storing.archive_open.Goals as goal

pub returns-then-before-ge-MOST_REFUSED-clause-err : goal.returns-then-before-ge-MOST_REFUSED-clause-err
returns-then-before-ge-MOST_REFUSED-clause-err g c = λ line. lacks_memory g.L.Disk g.N.Life.opens c.args.life.now c.args.life.now refl commands.Archive line

pub returns-in_err-failed-clause-err : goal.returns-in_err-failed-clause-err
returns-in_err-failed-clause-err g c = by_memory c.from_residual.result _ c.from_residual.ensures.1 (λ line. lacks_memory g.L.Disk g.N.Life.opens c.args.life.now c.args.life.now refl commands.Archive line)

pub returns-in_ok-archive_line-in-Ok-clause-ok : goal.returns-in_ok-archive_line-in-Ok-clause-ok
returns-in_ok-archive_line-in-Ok-clause-ok g c =
    let k = c.in-Ok.ensures.archives in
    λ v s same h. archives_line g.L.Disk g.N.Life.opens c.args.life.now c.archive-made.new.self c.requires.goes c.in-Ok.ensures.names c.look.ensures.right c.in-Ok.runs k.0 k.1 (λ opening may. (k.2 opening may).0) c.in-Ok.ensures.goes c.in_ok-archive_line-in-Ok.field-0.items c.in_ok-archive_line-in-Ok.ensures v s h

pub returns-in_err-archive_line-in-Ok-clause-err : goal.returns-in_err-archive_line-in-Ok-clause-err
returns-in_err-archive_line-in-Ok-clause-err g c =
    let k = c.in-Ok.ensures.archives in
    by_memory c.from_residual-in_err-archive_line-in-Ok.result _ c.from_residual-in_err-archive_line-in-Ok.ensures.1
    (λ line. archive_lacks g.L.Disk g.N.Life.opens c.args.life.now c.archive-made.new.self c.requires.goes c.in-Ok.ensures.names c.look.ensures.right c.in-Ok.runs k.0 k.1 (λ opening may. (k.2 opening may).0) line)

pub returns-in_ok-archive_failed-in-Err-clause-ok : goal.returns-in_ok-archive_failed-in-Err-clause-ok
returns-in_ok-archive_failed-in-Err-clause-ok g c =
    let x = c.args.life.now in
    let y = c.archive-made.new.self in
    let cut = archive_cut g.L.Disk g.N.Life.opens x y c.requires.goes c.in-Err.ensures.names c.look.ensures.right c.in-Err.ensures.archives in
    let is = c.is_refused.ensures.0 c.if-is_refused.true in
    vault_line g.L.Disk g.N.Life.opens x y c.in-Err.ensures.names c.look.ensures.right commands.Archive (inr refl) cut _ _ c.in-Err.fault is.0 c.in-Err.ensures.refused c.args.armed is.1
    c.in_ok-archive_failed-in-Err.field-0.items c.in_ok-archive_failed-in-Err.ensures

pub returns-in_err-archive_failed-in-Err-clause-err : goal.returns-in_err-archive_failed-in-Err-clause-err
returns-in_err-archive_failed-in-Err-clause-err g c =
    let x = c.args.life.now in
    let y = c.archive-made.new.self in
    let cut = archive_cut g.L.Disk g.N.Life.opens x y c.requires.goes c.in-Err.ensures.names c.look.ensures.right c.in-Err.ensures.archives in
    by_memory c.from_residual-in_err-archive_failed-in-Err.result _ c.from_residual-in_err-archive_failed-in-Err.ensures.1 (lacks_line g.L.Disk g.N.Life.opens x y c.in-Err.ensures.names c.look.ensures.right commands.Archive tt (inl refl) cut)

pub returns-in-Err-2-clause-ok : goal.returns-in-Err-2-clause-ok
returns-in-Err-2-clause-ok g c =
    let x = c.args.life.now in
    let y = c.archive-made.new.self in
    let cut = archive_cut g.L.Disk g.N.Life.opens x y c.requires.goes c.in-Err.ensures.names c.look.ensures.right c.in-Err.ensures.archives in
    let more = more_refused x.calls.refused y.calls.refused c.refused-before.result c.refused.result c.refused-before.ensures c.refused.ensures (search rules) in
    if_ok c.fail.result _ _ (λ out k v s _ h. fails_line g.L.Disk g.N.Life.opens x y c.in-Err.ensures.names c.look.ensures.right commands.Archive tt (inl refl) cut tt
    (subst (λ (f : Fault). FailsOver g.N.Life.opens c.args.pages.now.pool.supply.bases.faults c.archive-made.new.pages.pool.supply.bases.faults x y f) k.0 c.in-Err.ensures.refused) (more k.2) out.items
    (ap (λ z. z.items) k.1 ∙ c.in_ok-failed.ensures) v s h) c.fail.ensures.ok

pub returns-in-Err-2-clause-err : goal.returns-in-Err-2-clause-err
returns-in-Err-2-clause-err g c =
    let x = c.args.life.now in
    let y = c.archive-made.new.self in
    let cut = archive_cut g.L.Disk g.N.Life.opens x y c.requires.goes c.in-Err.ensures.names c.look.ensures.right c.in-Err.ensures.archives in
    if_err c.fail.result _ _ (λ status k line. ends_run g.L.Disk g.N.Life.opens x y c.in-Err.ensures.names c.look.ensures.right commands.Archive tt (inl refl) cut _ _
    c.refused-before.result c.refused.result c.in-Err.fault c.in-Err.ensures.refused status k line) c.fail.ensures.err
