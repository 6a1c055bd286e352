use Rattle.std.proofs.Common.{take}
use Rattle.record_judge.specs.Judging.{IsRecordJudgeOf}
use Rattle.record_judge.proofs.judge.RecordJudge.read.Given as goal

abbrev pub invariant-loop-entered : goal.invariant-loop-entered
invariant-loop-entered g l = IsRecordJudgeOf (take l.entered-index l.log) l.judge
