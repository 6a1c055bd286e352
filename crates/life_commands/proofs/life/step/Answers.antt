use Rattle.std.proofs.Common.{refl, sym, subst, arith}
use Rattle.script.specs.declared.command.Command.{Command}
use Rattle.life_commands.specs.Causes.{LifeCause}
use Rattle.life_commands.specs.Promises.{DidArmed, Refused}
use Rattle.life_commands.specs.declared.status.Status.{Status}
use Rattle.life_commands.proofs.Ends.{bad_line, damages, in_life, lacks_memory, nothing, other_lawful}
use Rattle.life_commands.proofs.Faults.{if_err, if_ok}
use Rattle.life_commands.proofs.life.step.Goals as goal

pub returns-in-Nothing-clause-ok : goal.returns-in-Nothing-clause-ok
returns-in-Nothing-clause-ok g c = subst (λ (z : Command). DidArmed g.L.Disk g.N.Life.opens c.args.armed c.args.life.now c.args.life.now z c.new.result.items) (sym c.in-Nothing.is) (λ v s same h. nothing g.L.Disk g.N.Life.opens c.args.life.now c.new.result.items c.new.ensures.items v s h)

pub returns-in-Damage-clause-ok : goal.returns-in-Damage-clause-ok
returns-in-Damage-clause-ok g c = if_ok c.damage.result _ _ (λ lines text. subst (λ (z : Command). DidArmed g.L.Disk g.N.Life.opens c.args.armed c.args.life.now c.args.life.now z lines.items) (sym c.in-Damage.is)
    (λ v s same h. damages g.L.Disk g.N.Life.opens c.args.life.now c.in-Damage.page lines.items text v s h)) c.damage.ensures.line

pub returns-in-Damage-clause-err : goal.returns-in-Damage-clause-err
returns-in-Damage-clause-err g c = if_err c.damage.result _ _ (λ status memory. subst (λ (z : Status). Refused g.L.Disk g.N.Life.opens c.args.life.now c.args.life.now c.args.command.now c.args.line z) (sym memory)
    (lacks_memory g.L.Disk g.N.Life.opens c.args.life.now c.args.life.now refl c.args.command.now c.args.line)) c.damage.ensures.memory

pub returns-in-Damage-clause-cause : goal.returns-in-Damage-clause-cause
returns-in-Damage-clause-cause g c = if_err c.damage.result _ _ (λ status memory. subst (λ (z : Status). LifeCause c.args.life.now.calls.own c.args.life.now.calls.own z) (sym memory) tt) c.damage.ensures.memory

pub returns-in_default : goal.returns-in_default
returns-in_default g c = record {
  idle = c.requires.idle;
  ok = tt;
  lost = λ is. tt;
  err = bad_line g.L.Disk g.N.Life.opens c.args.life.now c.args.command.now c.args.line (λ v s h. other_lawful s (in_life g.L.Disk g.N.Life.opens c.args.life.now v s h) c.args.command.now
      c.in_default.not-Nothing c.in_default.not-Begin c.in_default.not-Ask c.in_default.not-Commit c.in_default.not-Abort c.in_default.not-Checkpoint c.in_default.not-Backup c.in_default.not-Archive c.in_default.not-Lose c.in_default.not-Help c.in_default.not-Stat c.in_default.not-Damage c.in_default.not-Fuse c.in_default.not-Renew c.requires.stop c.requires.close);
  cause = tt;
  later = omega arith;
}
