use Rattle.std.proofs.Common.{◌∙◌, subst}
use Rattle.page_rows.specs.Redo.{Redone}
use Rattle.page_repair.specs.Rebuild.{AreSpelled}
use Rattle.page_repair.proofs.Following.{spelled_less}
use Rattle.page_repair.proofs.Redoing.{same_more, can_more}
use Rattle.page_repair.proofs.forward.replay.Goals as goal

pub redo-requires-clause-spelling : goal.redo-requires-clause-spelling
redo-requires-clause-spelling g c = (spelled_less c.in-Some.rest.now c.in-Some.record.now (subst AreSpelled c.in-Some.ensures.cases.0 c.loop-record.invariant.spelled)).1

pub loop-record-preserved : goal.loop-record-preserved
loop-record-preserved g c =
    let done = subst (Redone c.in-Some.record.now c.args.page c.loop-record.state c.redo.new.state) c.if-not-branch.false c.in_ok-redo.ensures.done in
    let last = c.in-Some.ensures.cases.0 in
    record {
      spelled = (spelled_less c.in-Some.rest.now c.in-Some.record.now (subst AreSpelled last c.loop-record.invariant.spelled)).0;
      rules = c.redo.ensures.rules;
      same = same_more c.args.page c.in-Some.record.now c.loop-record.left.now c.in-Some.rest.now last c.loop-record.state c.redo.new.state done ∙ c.loop-record.invariant.same;
      can = λ all. can_more c.args.page c.in-Some.record.now c.loop-record.left.now c.in-Some.rest.now last c.loop-record.state c.redo.new.state done (c.loop-record.invariant.can all);
    }
