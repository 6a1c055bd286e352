use Rattle.std.proofs.Common.{arith, ℕ, ap, refl, ◌∙◌}
use Rattle.std.specs.Prelude.{not}
use Rattle.store_pages.specs.Pages.{AreRestored, AwaitsRedo}
use Rattle.own_life.proofs.Helped.{upkeep_none, upkeep_then}
use Rattle.store_pages.proofs.Restored.{when_none}
use Rattle.own_life.proofs.Sequences.{goes_self, goes_then}
use Rattle.own_life.proofs.life.OwnLife.bring_pages.Goals as goal

pub loop-taken-init : goal.loop-taken-init
loop-taken-init g c = record {
  goes = goes_self c.args.self.now c.requires.open;
  upkeep = upkeep_none c.args.self.now.history;
  counted = omega arith;
  idle = c.requires.idle;
  names = refl;
}

pub bring_next-requires-clause-open : goal.bring_next-requires-clause-open
bring_next-requires-clause-open g c = c.loop-taken.invariant.goes.ended

pub bring_next-requires-clause-idle : goal.bring_next-requires-clause-idle
bring_next-requires-clause-idle g c = c.loop-taken.invariant.idle

pub returns-in_err-bring_next-clause-upkeep : goal.returns-in_err-bring_next-clause-upkeep
returns-in_err-bring_next-clause-upkeep g c = upkeep_then c.args.self.now.history c.loop-taken.self.history c.bring_next.new.self.history c.loop-taken.invariant.upkeep c.bring_next.ensures.upkeep

pub returns-then-is_none-clause-restored : goal.returns-then-is_none-clause-restored
returns-then-is_none-clause-restored g c = λ less. when_none (AreRestored g.N.Life.opens c.bring_next.new.self.history) c.in_ok-bring_next.field-0 (c.is_none.ensures ∙ ap not c.if-is_none.true) c.in_ok-bring_next.ensures.restored

pub returns-then-is_none-clause-redone : goal.returns-then-is_none-clause-redone
returns-then-is_none-clause-redone g c = λ less. when_none ((q : ℕ) → AwaitsRedo c.bring_next.new.pages.pool.plan q → ⊥) c.in_ok-bring_next.field-0 (c.is_none.ensures ∙ ap not c.if-is_none.true) c.in_ok-bring_next.ensures.redone

pub returns-then-is_none-clause-upkeep : goal.returns-then-is_none-clause-upkeep
returns-then-is_none-clause-upkeep g c = upkeep_then c.args.self.now.history c.loop-taken.self.history c.bring_next.new.self.history c.loop-taken.invariant.upkeep c.bring_next.ensures.upkeep

pub loop-taken-preserved : goal.loop-taken-preserved
loop-taken-preserved g c = record {
  goes = goes_then c.args.self.now c.loop-taken.self c.bring_next.new.self c.loop-taken.invariant.goes c.in_ok-bring_next.ensures.goes;
  upkeep = upkeep_then c.args.self.now.history c.loop-taken.self.history c.bring_next.new.self.history c.loop-taken.invariant.upkeep c.bring_next.ensures.upkeep;
  counted = let low = c.loop-taken.invariant.counted in let more = c.bring_next.ensures.counted in omega (arith, low, more);
  idle = c.bring_next.ensures.idle;
  names = c.bring_next.ensures.names ∙ c.loop-taken.invariant.names;
}
