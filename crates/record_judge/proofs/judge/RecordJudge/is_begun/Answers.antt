use Rattle.std.proofs.Common.{sym, ◌∙◌}
use Rattle.record_judge.proofs.Beginning.{begun_format, begun_other}
use Rattle.record_judge.proofs.judge.RecordJudge.is_begun.Goals as goal

pub returns-then-is_format : goal.returns-then-is_format
returns-then-is_format c = λ log k. begun_format log c.args.entered.now c.is_empty.result (sym c.is_format.ensures ∙ c.if-is_format.true) (c.is_empty.ensures log k)

pub returns-else-is_format : goal.returns-else-is_format
returns-else-is_format c = λ log k. begun_other log c.args.entered.now c.has_records.result (sym c.is_format.ensures ∙ c.if-is_format.false) (c.has_records.ensures log k)
