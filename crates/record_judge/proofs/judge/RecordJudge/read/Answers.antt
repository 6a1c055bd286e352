use Rattle.std.proofs.Common.{◌<◌, length, take, subst, arith}
use Rattle.record_judge.specs.Judging.{IsStep}
use Rattle.record_judge.proofs.OneMore.{ends_here, read_all, read_more, read_none}
use Rattle.record_judge.proofs.judge.RecordJudge.read.Goals as goal

pub loop-entered-init : goal.loop-entered-init
loop-entered-init g c = read_none c.args.log.now c.new-judge.result c.new-judge.ensures

pub returns-then-not-is_lawful : goal.returns-then-not-is_lawful
returns-then-not-is_lawful g c =
    let i = c.loop-entered.entered-index in
    let log = c.args.log.now in
    let low : i < length log = omega (arith, c.loop-entered-test.true) in
    let added = subst (IsStep (take i log) c.entered-item.result c.loop-entered.judge c.step.new.self) c.if-not-is_lawful.true (c.in_ok-is_lawful.ensures.judged (take i log) c.loop-entered.invariant) in
    ends_here log i c.entered-item.result low c.entered-item.is added.0

pub loop-entered-preserved : goal.loop-entered-preserved
loop-entered-preserved g c =
    let i = c.loop-entered.entered-index in
    let log = c.args.log.now in
    let low : i < length log = omega (arith, c.loop-entered-test.true) in
    let added = subst (IsStep (take i log) c.entered-item.result c.loop-entered.judge c.step.new.self) c.if-not-is_lawful.false (c.in_ok-is_lawful.ensures.judged (take i log) c.loop-entered.invariant) in
    read_more log i c.entered-item.result low c.entered-item.is c.step.new.self added.1

pub returns : goal.returns
returns g c = read_all c.args.log.now c.loop-entered.entered-index c.loop-entered.judge (omega (arith, c.loop-entered-test.false)) c.loop-entered.invariant
