use Rattle.std.proofs.Common.{sym, ◌∙◌}
use Rattle.record_judge.proofs.Rooms.{limit_first, limit_more, none_there}
use Rattle.record_judge.proofs.judge.RecordJudge.limit_behind.Goals as goal

pub returns-then-has_records : goal.returns-then-has_records
returns-then-has_records c = λ log k. c.limit.ensures log k.listing ∙ sym (limit_more log c.args.entered.now ((c.has_records.ensures log k).0 c.if-has_records.true))

pub returns-else-has_records : goal.returns-else-has_records
returns-else-has_records c = λ log k. c.first_limit.ensures ∙ sym (limit_first log c.args.entered.now (none_there log c.has_records.result (c.has_records.ensures log k) c.if-has_records.false))
