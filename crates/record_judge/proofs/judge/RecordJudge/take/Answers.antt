use Rattle.record_judge.proofs.Taking.{changing, contents_of, on_err, ready_still, unchanged}
use Rattle.record_judge.proofs.judge.RecordJudge.take.Goals as goal

pub finish-requires-clause-ready : goal.finish-requires-clause-ready
finish-requires-clause-ready g c = ready_still c.prepare.new.self c.change.new.self c.in_ok-change.ensures.others c.args.entered.now c.args.changed c.in_ok-prepare.ensures.ready

pub returns-clause-ok : goal.returns-clause-ok
returns-clause-ok g c = λ log k v is.
    let same = c.in_ok-prepare.ensures.same log k is in
    let now = c.in_ok-change.ensures.ok log (contents_of log c.prepare.new.self same) in
    c.finish.ensures log (changing c.prepare.new.self c.change.new.self c.in_ok-change.ensures.others log c.args.entered.now same (c.in_ok-prepare.ensures.names log k is) now) v is

pub returns-in_err-prepare-clause-err : goal.returns-in_err-prepare-clause-err
returns-in_err-prepare-clause-err g c = λ log k is. on_err _ (c.prepare.ensures.same log k is)

pub returns-in_err-change-clause-err : goal.returns-in_err-change-clause-err
returns-in_err-change-clause-err g c = λ log k is.
    let same = c.in_ok-prepare.ensures.same log k is in
    on_err _ (unchanged c.prepare.new.self c.change.new.self c.in_err-change.ensures.others log same (c.in_err-change.ensures.err log (contents_of log c.prepare.new.self same)))
