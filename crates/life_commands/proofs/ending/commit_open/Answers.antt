use Rattle.std.proofs.Common.{refl, rules, ap, subst, ◌∙◌}
use Rattle.store_model.specs.declared.fault.Fault.{Fault}
use Rattle.own_life.specs.State.{FailsToCommit}
use Rattle.script.specs.declared.command.Command.TheVariants as commands
use Rattle.life_commands.proofs.Ends.{commit_cut, commit_lacks, commits_line, ends_run, fails_line, lacks_memory}
use Rattle.life_commands.proofs.Faults.{by_memory, commit_fails, if_err, if_ok, more_refused, over}
use Rattle.life_commands.proofs.ending.commit_open.Goals as goal

pub returns-then-before-ge-MOST_REFUSED-clause-err : goal.returns-then-before-ge-MOST_REFUSED-clause-err
returns-then-before-ge-MOST_REFUSED-clause-err g c = λ line. lacks_memory g.L.Disk g.N.Life.opens c.args.life.now c.args.life.now refl (commands.Commit c.args.name.now) line

pub returns-in_err-failed-clause-err : goal.returns-in_err-failed-clause-err
returns-in_err-failed-clause-err g c = by_memory c.from_residual.result _ c.from_residual.ensures.1 (λ line. lacks_memory g.L.Disk g.N.Life.opens c.args.life.now c.args.life.now refl (commands.Commit c.args.name.now) line)

pub returns-in_err-commit_line-in-Ok-clause-err : goal.returns-in_err-commit_line-in-Ok-clause-err
returns-in_err-commit_line-in-Ok-clause-err g c = by_memory c.from_residual-in_err-commit_line-in-Ok.result _ c.from_residual-in_err-commit_line-in-Ok.ensures.1
    (λ line. commit_lacks g.L.Disk g.N.Life.opens c.args.life.now c.commit-committed.new.self c.requires.goes c.look.ensures.right c.args.name.now c.requires.active c.in-Ok.answer c.in-Ok.ensures.commits line)

pub returns-in_ok-commit_line-in-Ok-clause-ok : goal.returns-in_ok-commit_line-in-Ok-clause-ok
returns-in_ok-commit_line-in-Ok-clause-ok g c = commits_line g.L.Disk g.N.Life.opens c.args.life.now c.commit-committed.new.self c.requires.goes c.look.ensures.right c.args.name.now c.requires.active c.in-Ok.answer c.in-Ok.ensures.commits c.in-Ok.ensures.goes c.in-Ok.ensures.names
    c.in_ok-commit_line-in-Ok.field-0.items c.in_ok-commit_line-in-Ok.ensures

pub returns-in-Err-clause-ok : goal.returns-in-Err-clause-ok
returns-in-Err-clause-ok g c =
    let x = c.args.life.now in
    let y = c.commit-committed.new.self in
    let cut = commit_cut g.L.Disk g.N.Life.opens x y c.requires.goes c.look.ensures.right c.args.name.now c.requires.active c.in-Err.fault c.in-Err.ensures.commits in
    let more = more_refused x.calls.refused y.calls.refused c.refused-before.result c.refused.result c.refused-before.ensures c.refused.ensures (search rules) in
    if_ok c.fail.result _ _ (λ out k. fails_line g.L.Disk g.N.Life.opens x y c.in-Err.ensures.names c.look.ensures.right (commands.Commit c.args.name.now) tt refl cut tt
    (subst (λ (f : Fault). FailsToCommit g.N.Life.opens x y f) k.0 c.in-Err.ensures.refused) (more k.2) out.items
    (ap (λ z. z.items) k.1 ∙ c.in_ok-failed.ensures)) c.fail.ensures.ok

pub returns-in-Err-clause-err : goal.returns-in-Err-clause-err
returns-in-Err-clause-err g c =
    let x = c.args.life.now in
    let y = c.commit-committed.new.self in
    let cut = commit_cut g.L.Disk g.N.Life.opens x y c.requires.goes c.look.ensures.right c.args.name.now c.requires.active c.in-Err.fault c.in-Err.ensures.commits in
    if_err c.fail.result _ _ (λ status k line. ends_run g.L.Disk g.N.Life.opens x y c.in-Err.ensures.names c.look.ensures.right (commands.Commit c.args.name.now) tt refl cut 0 0
    c.refused-before.result c.refused.result c.in-Err.fault (over g.N.Life.opens x y c.in-Err.fault (commit_fails g.N.Life.opens x y c.in-Err.fault c.in-Err.ensures.refused)) status k line) c.fail.ensures.err
