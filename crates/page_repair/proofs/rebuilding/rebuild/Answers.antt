use Rattle.std.proofs.Common.{arith}
use Rattle.page_repair.proofs.Following.{none_told}
use Rattle.page_repair.proofs.RebuiltPages.{page_is, unknown_if_none, unknown_if_not}
use Rattle.page_repair.proofs.rebuilding.rebuild.Goals as goal

pub returns-then-not-branch-clause-refused : goal.returns-then-not-branch-clause-refused
returns-then-not-branch-clause-refused g c = rw (c.bad_chain.ensures) (
    unknown_if_not (g.C.Chain.answers c.args.chain.now) c.args.page c.args.head c.requires.chain c.args.base c.requires.base c.start-low.result.0 c.start-low.ensures.0 c.start-low.result.1 c.start-low.ensures.1
    c.in_ok-records.records.items c.in_ok-records.ensures.records c.replay.new.state c.in_ok-replay.field-0 c.if-not-branch.true c.in_ok-replay.ensures.done)

pub returns-in-Some-clause-rebuilt : goal.returns-in-Some-clause-rebuilt
returns-in-Some-clause-rebuilt g c =
    page_is (g.C.Chain.answers c.args.chain.now) c.args.page c.args.head c.requires.chain c.args.base c.requires.base c.start-low.result.0 c.start-low.ensures.0 c.start-low.result.1 c.start-low.ensures.1
    c.in_ok-records.records.items c.in_ok-records.ensures.records c.replay.new.state c.in_ok-replay.field-0 c.in-Some.state c.if-not-branch.false c.in_ok-replay.ensures.done c.replay.ensures.rules c.in-Some.is

pub returns-in-None-clause-refused : goal.returns-in-None-clause-refused
returns-in-None-clause-refused g c = rw (c.bad_chain-in-None.ensures) (
    unknown_if_none (g.C.Chain.answers c.args.chain.now) c.args.page c.args.head c.requires.chain c.args.base c.requires.base c.start-low.result.0 c.start-low.ensures.0 c.start-low.result.1 c.start-low.ensures.1
    c.in_ok-records.records.items c.in_ok-records.ensures.records c.replay.new.state c.in_ok-replay.field-0 c.if-not-branch.false c.in_ok-replay.ensures.done c.in-None.is)

pub returns-in_err-replay-clause-ends : goal.returns-in_err-replay-clause-ends
returns-in_err-replay-clause-ends g c = λ some. none_told c.in_ok-records.records (g.C.Chain.ended c.args.chain.now) _ (c.in_ok-records.ensures.ends (omega (arith, some, c.start-low.ensures.0)))

pub returns-then-not-branch-clause-ends : goal.returns-then-not-branch-clause-ends
returns-then-not-branch-clause-ends g c = λ some. none_told c.in_ok-records.records (g.C.Chain.ended c.args.chain.now) _ (c.in_ok-records.ensures.ends (omega (arith, some, c.start-low.ensures.0)))

pub returns-in-Some-clause-ends : goal.returns-in-Some-clause-ends
returns-in-Some-clause-ends g c = λ some. none_told c.in_ok-records.records (g.C.Chain.ended c.args.chain.now) _ (c.in_ok-records.ensures.ends (omega (arith, some, c.start-low.ensures.0)))

pub returns-in-None-clause-ends : goal.returns-in-None-clause-ends
returns-in-None-clause-ends g c = λ some. none_told c.in_ok-records.records (g.C.Chain.ended c.args.chain.now) _ (c.in_ok-records.ensures.ends (omega (arith, some, c.start-low.ensures.0)))
