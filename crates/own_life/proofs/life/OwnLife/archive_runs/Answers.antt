use Rattle.std.proofs.Common.{◌+◌, Bool, refl, subst, ◌∙◌, arith}
use Rattle.std.specs.Prelude.{Ok}
use Rattle.store_pages.specs.Backed.{ArchivesNext}
use Rattle.own_life.proofs.Helped.{archived_since, made_more, made_none, made_within}
use Rattle.own_life.proofs.Sequences.{goes_self, goes_then}
use Rattle.own_life.proofs.life.OwnLife.archive_runs.Goals as goal

pub loop-taken-init : goal.loop-taken-init
loop-taken-init g c = record {
  goes = goes_self c.args.self.now c.requires.open;
  made = made_none c.args.self.now.history;
  frames = refl;
  plan = refl;
  counted = omega arith;
  names = refl;
  idle = c.requires.idle;
}

pub archive_next-requires-clause-open : goal.archive_next-requires-clause-open
archive_next-requires-clause-open g c = c.loop-taken.invariant.goes.ended

pub archive_next-requires-clause-idle : goal.archive_next-requires-clause-idle
archive_next-requires-clause-idle g c = c.loop-taken.invariant.idle

pub returns-in_err-archive_next-clause-made : goal.returns-in_err-archive_next-clause-made
returns-in_err-archive_next-clause-made g c =
    let less = c.loop-taken-test.true in
    made_within (c.loop-taken.taken + 1) c.args.steps c.args.self.now.history c.archive_next.new.self.history (omega (arith, less))
    (made_more g.N.Life.opens c.loop-taken.taken c.archive_next.result c.args.self.now.history c.loop-taken.self.history c.archive_next.new.self.history c.loop-taken.self.durable c.archive_next.new.self.durable c.loop-taken.invariant.made c.archive_next.ensures.archives)

pub returns-then-not-branch-clause-made : goal.returns-then-not-branch-clause-made
returns-then-not-branch-clause-made g c =
    let less = c.loop-taken-test.true in
    made_within (c.loop-taken.taken + 1) c.args.steps c.args.self.now.history c.archive_next.new.self.history (omega (arith, less))
    (made_more g.N.Life.opens c.loop-taken.taken c.archive_next.result c.args.self.now.history c.loop-taken.self.history c.archive_next.new.self.history c.loop-taken.self.durable c.archive_next.new.self.durable c.loop-taken.invariant.made c.archive_next.ensures.archives)

pub returns-then-not-branch-clause-archived : goal.returns-then-not-branch-clause-archived
returns-then-not-branch-clause-archived g c = λ less.
    let few = subst (λ (b : Bool). ArchivesNext g.N.Life.opens (Ok b) c.loop-taken.self.history c.archive_next.new.self.history c.loop-taken.self.durable c.archive_next.new.self.durable) c.if-not-branch.true c.in_ok-archive_next.ensures.archives in
    archived_since g.N.Life.opens c.args.self.now.durable c.loop-taken.self.durable c.archive_next.new.self.durable c.archive_next.new.self.history c.loop-taken.invariant.goes.later few.1

pub loop-taken-preserved : goal.loop-taken-preserved
loop-taken-preserved g c = record {
  goes = goes_then c.args.self.now c.loop-taken.self c.archive_next.new.self c.loop-taken.invariant.goes c.in_ok-archive_next.ensures.goes;
  made = made_more g.N.Life.opens c.loop-taken.taken c.archive_next.result c.args.self.now.history c.loop-taken.self.history c.archive_next.new.self.history c.loop-taken.self.durable c.archive_next.new.self.durable c.loop-taken.invariant.made c.archive_next.ensures.archives;
  frames = c.archive_next.ensures.same.0 ∙ c.loop-taken.invariant.frames;
  plan = c.archive_next.ensures.same.1 ∙ c.loop-taken.invariant.plan;
  counted = let low = c.loop-taken.invariant.counted in let more = c.archive_next.ensures.counted in omega (arith, low, more);
  names = c.archive_next.ensures.names ∙ c.loop-taken.invariant.names;
  idle = c.archive_next.ensures.idle;
}
