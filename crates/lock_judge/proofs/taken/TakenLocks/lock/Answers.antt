use Rattle.std.proofs.Common.{cond, eqb, ap, ◌∙◌}
use Rattle.std.specs.Prelude.{◌||◌}
use Rattle.std.specs.List.{list_any}
use Rattle.std.proofs.lemmas.Result.{on_ok_weaker, on_err_weaker}
use Rattle.wal_record.specs.Locks.{Held}
use Rattle.lock_judge.specs.Taken.{AreTaken, held_in}
use Rattle.lock_judge.proofs.Taking.{has_lock, has_same}
use Rattle.lock_judge.proofs.taken.TakenLocks.lock.Goals as goal

pub returns-clause-ok : goal.returns-clause-ok
unfolding AreTaken
returns-clause-ok c = λ h k. on_ok_weaker c.add.result
    (λ put. has_lock (held_in c.args.self.now.held) (held_in c.add.new.locks) h k c.args.tx c.args.range.now c.args.mode
    (λ t p. put t p ∙ ap (λ (l : Held). cond (eqb c.args.tx t) (p l || list_any p (held_in c.args.self.now.held t)) (list_any p (held_in c.args.self.now.held t))) c.in_ok-lock.ensures))
    c.add.ensures.ok

pub returns-clause-err : goal.returns-clause-err
unfolding AreTaken
returns-clause-err c = λ h k. on_err_weaker c.add.result (has_same (held_in c.args.self.now.held) (held_in c.add.new.locks) h k) c.add.ensures.err
