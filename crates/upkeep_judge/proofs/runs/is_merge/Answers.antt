use Rattle.std.proofs.Common.{sym, ◌∙◌}
use Rattle.std.specs.Prelude.{filter}
use Rattle.wal_record.specs.Upkeep.{in_range}
use Rattle.upkeep_judge.proofs.Spans.{merge_is}
use Rattle.upkeep_judge.proofs.runs.is_merge.Goals as goal

pub returns : goal.returns
returns c = c.is_exact.ensures ∙ sym (merge_is (filter (in_range c.args.done.now) c.args.runs.now) c.args.done.now c.span_of-span.result c.span_of-span.ensures)
