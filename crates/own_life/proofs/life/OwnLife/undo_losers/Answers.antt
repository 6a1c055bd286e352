use Rattle.std.proofs.Common.{arith, Bool, Ok, true, refl, subst, ◌∙◌}
use Rattle.rollback.specs.Owners.{IsLoserOf}
use Rattle.store_life.specs.Steps.{StepsBack}
use Rattle.own_life.proofs.Helped.{undoes_more, undoes_none}
use Rattle.own_life.proofs.Sequences.{goes_self, goes_then}
use Rattle.own_life.proofs.life.OwnLife.undo_losers.Goals as goal

pub loop-taken-init : goal.loop-taken-init
loop-taken-init g c = record {
  goes = goes_self c.args.self.now c.requires.open;
  undoes = undoes_none (IsLoserOf g.N.Life.opens) c.args.self.now.history;
  counted = omega arith;
  idle = c.requires.idle;
  names = refl;
}

pub undo_next-requires-clause-open : goal.undo_next-requires-clause-open
undo_next-requires-clause-open g c = c.loop-taken.invariant.goes.ended

pub undo_next-requires-clause-idle : goal.undo_next-requires-clause-idle
undo_next-requires-clause-idle g c = c.loop-taken.invariant.idle

pub loop-taken-preserved : goal.loop-taken-preserved
loop-taken-preserved g c =
    let taken : StepsBack g.N.Life.opens (Ok true) c.loop-taken.self.history c.undo_next.new.self.history = subst (λ (b : Bool). StepsBack g.N.Life.opens (Ok b) c.loop-taken.self.history c.undo_next.new.self.history) c.if-not-branch.false c.in_ok-undo_next.ensures.steps in
    record {
      goes = goes_then c.args.self.now c.loop-taken.self c.undo_next.new.self c.loop-taken.invariant.goes c.in_ok-undo_next.ensures.goes;
      undoes = undoes_more g.N.Life.opens c.loop-taken.taken c.args.self.now.history c.loop-taken.self.history c.undo_next.new.self.history c.loop-taken.invariant.undoes taken;
      counted = let low = c.loop-taken.invariant.counted in let more = c.undo_next.ensures.counted in omega (arith, low, more);
      idle = c.undo_next.ensures.idle;
      names = c.undo_next.ensures.names ∙ c.loop-taken.invariant.names;
    }
