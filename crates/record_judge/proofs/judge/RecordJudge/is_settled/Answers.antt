use Rattle.std.proofs.Common.{length, sym, ◌∙◌, ap}
use Rattle.wal_record.specs.OpenWrites.{open_writes}
use Rattle.record_judge.proofs.Beginning.{nothing_in}
use Rattle.record_judge.proofs.judge.RecordJudge.is_settled.Goals as goal

pub returns : goal.returns
returns c = λ log k.
    let count = c.open_count.ensures log k in (
      λ t. nothing_in (open_writes log c.args.tx) (sym count ∙ c.is_zero.ensures.0 t),
      λ none. c.is_zero.ensures.1 (count ∙ ap length none),
    )
