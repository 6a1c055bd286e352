use Rattle.std.proofs.Common.{◌≡◌, ℕ, subst, sym, ◌∙◌}
use Rattle.std.specs.Prelude.{◌↔◌, IsTrue}
use Rattle.wal_record.specs.Sound.{UpkeepRule}
use Rattle.wal_record.specs.declared.record.Record.{Record}
use Rattle.record_judge.proofs.judge.RecordJudge.keeps_upkeep.Goals as goal

pub returns-in-Written : goal.returns-in-Written
returns-in-Written c = λ log k other. subst (λ (r : Record). IsTrue c.names_at.result ↔ UpkeepRule log r) (sym c.in-Written.is) (let is = c.names_at.ensures log k.names (c.last-last.ensures log k.listing) in (λ t. sym is ∙ t, λ t. is ∙ t))

pub returns-in-BackupDone : goal.returns-in-BackupDone
returns-in-BackupDone c = λ log k other. subst (λ (r : Record). IsTrue c.may_stand.result ↔ UpkeepRule log r) (sym c.in-BackupDone.is) (c.may_stand.ensures log k.backups k.names (c.last-last.ensures log k.listing))

pub returns-in-Lost : goal.returns-in-Lost
returns-in-Lost c = λ log k other. subst (λ (r : Record). IsTrue c.is_count.result ↔ UpkeepRule log r) (sym c.in-Lost.is) (subst (λ (n : ℕ). IsTrue c.is_count.result ↔ (c.in-Lost.lost.pages ≡ n)) (c.pages.ensures log k.listing) c.is_count.ensures)

pub returns-in-Restored : goal.returns-in-Restored
returns-in-Restored c = λ log k other. subst (λ (r : Record). IsTrue c.is_unrestored.result ↔ UpkeepRule log r) (sym c.in-Restored.is) (let is = c.is_unrestored.ensures log k.listing in (λ t. sym is ∙ t, λ t. is ∙ t))

pub returns-in-RunDone : goal.returns-in-RunDone
returns-in-RunDone c = λ log k other. subst (λ (r : Record). IsTrue c.may_stand-in-RunDone.result ↔ UpkeepRule log r) (sym c.in-RunDone.is) (c.may_stand-in-RunDone.ensures log (c.runs.ensures log k.listing) (c.last-last.ensures log k.listing) (c.next_run.ensures log k.listing))
