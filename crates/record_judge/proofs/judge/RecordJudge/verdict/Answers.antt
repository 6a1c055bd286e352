use Rattle.std.proofs.Common.{subst, sym}
use Rattle.std.specs.Prelude.{IfOk, IfSome}
use Rattle.wal_record.specs.Rules.{HasSpelling}
use Rattle.wal_record.specs.declared.record.Record.{Record}
use Rattle.record_judge.specs.Judging.{IsVerdict}
use Rattle.record_judge.proofs.Deciding.{not_checkpoint}
use Rattle.record_judge.proofs.judge.RecordJudge.verdict.Goals as goal

pub returns-in-Checkpoint-clause-spelled : goal.returns-in-Checkpoint-clause-spelled
returns-in-Checkpoint-clause-spelled g c = subst (λ (r : Record). IfOk c.lawful_checkpoint.result (λ found. IfSome found (λ x. HasSpelling r))) (sym c.in-Checkpoint.is) c.lawful_checkpoint.ensures.spelled

pub returns-in-Checkpoint-clause-verdict : goal.returns-in-Checkpoint-clause-verdict
returns-in-Checkpoint-clause-verdict g c = λ log k. subst (λ (r : Record). IfOk c.lawful_checkpoint.result (IsVerdict log r)) (sym c.in-Checkpoint.is) (c.lawful_checkpoint.ensures.verdict log k)

pub lawful_other-requires : goal.lawful_other-requires
lawful_other-requires g c = record { kind = not_checkpoint c.args.entered.now c.in_default.not-Checkpoint }
