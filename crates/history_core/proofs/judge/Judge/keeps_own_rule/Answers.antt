use Rattle.std.proofs.Common.{subst, sym}
use Rattle.std.specs.Prelude.{◌↔◌, IsTrue}
use Rattle.wal_record.specs.History.{life_log}
use Rattle.wal_record.specs.Legal.{RecordRule}
use Rattle.wal_record.specs.declared.record.Record.{Record}
use Rattle.history_core.proofs.Entered.{not_split}
use Rattle.history_core.proofs.judge.Judge.keeps_own_rule.Goals as goal

pub returns-in-Split : goal.returns-in-Split
returns-in-Split c = λ opening h k. subst (λ (r : Record). IsTrue c.may_split.result ↔ RecordRule opening h r) (sym c.in-Split.is) (c.may_split.ensures (life_log opening h) k.log.images)

pub returns-in_default : goal.returns-in_default
returns-in_default c = λ opening h k. c.keeps_record_rule.ensures opening h k (not_split c.args.entered.now c.in_default.not-Split)
