use Rattle.std.proofs.Common.{ℕ, length, ap, sym, ◌∙◌}
use Rattle.std.specs.Prelude.{min}
use Rattle.wal_record.specs.Chains.{tx_of}
use Rattle.wal_record.specs.OpenWrites.{open_writes}
use Rattle.wal_record.specs.declared.record.Record.{Record}
use Rattle.record_judge.specs.Rules.{freed}
use Rattle.record_judge.proofs.judge.RecordJudge.freed.Goals as goal

pub returns-in-Undo : goal.returns-in-Undo
returns-in-Undo c = λ log k. c.at_most_one.ensures ∙ ap (λ (n : ℕ). min n 1) (c.open_count.ensures log k) ∙ sym (ap (λ (r : Record). freed (length (open_writes log (tx_of r))) r) c.in-Undo.is)

pub returns-in-Commit : goal.returns-in-Commit
returns-in-Commit c = λ log k. c.open_count-in-Commit.ensures log k ∙ sym (ap (λ (r : Record). freed (length (open_writes log (tx_of r))) r) c.in-Commit.is)

pub returns-in-End : goal.returns-in-End
returns-in-End c = λ log k. c.open_count-in-End.ensures log k ∙ sym (ap (λ (r : Record). freed (length (open_writes log (tx_of r))) r) c.in-End.is)
