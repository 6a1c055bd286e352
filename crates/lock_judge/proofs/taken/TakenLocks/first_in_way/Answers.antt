use Rattle.std.proofs.Common.{ap, sym, ◌∙◌}
use Rattle.std.specs.List.{list_any}
use Rattle.wal_record.specs.Legal.{held}
use Rattle.wal_record.specs.Locks.{conflict}
use Rattle.lock_judge.specs.Taken.{AreTaken}
use Rattle.lock_judge.proofs.First.{first_here, first_in, first_is, is_in_way, none_in_way}
use Rattle.lock_judge.proofs.taken.TakenLocks.first_in_way.Goals as goal

pub returns-then-any_conflicts-clause-some : goal.returns-then-any_conflicts-clause-some
unfolding AreTaken
returns-then-any_conflicts-clause-some c = λ h k. first_is c.args.tx (held c.args.range.now c.args.mode) h c.args.self.now.held.entries k c.len-held.ensures.ordered c.in-Some.holder.now
    (sym c.loop-holder.invariant ∙ first_here c.args.tx (held c.args.range.now c.args.mode) c.in-Some.holder.now c.in-Some.own.now _ _ c.in-Some.ensures.steps c.if-holder-tx.true
    (ap (list_any (conflict (held c.args.range.now c.args.mode))) (sym c.as_slice.ensures) ∙ sym c.any_conflicts.ensures ∙ c.if-any_conflicts.true))

pub returns-clause-none : goal.returns-clause-none
unfolding AreTaken
returns-clause-none c = λ h k. none_in_way c.args.tx (held c.args.range.now c.args.mode) h c.args.self.now.held.entries k (sym c.loop-holder.invariant ∙ ap (first_in (is_in_way c.args.tx (held c.args.range.now c.args.mode))) c.in-None.ensures.steps.0)
