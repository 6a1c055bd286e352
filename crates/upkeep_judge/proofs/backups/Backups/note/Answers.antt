use Rattle.std.proofs.Common.{◌++◌, ◌∷◌, [], subst, sym}
use Rattle.std.specs.Prelude.{OnOk}
use Rattle.wal_record.specs.declared.record.Record.{Record}
use Rattle.upkeep_judge.specs.Backups.{AreBackupsOf}
use Rattle.upkeep_judge.proofs.Keeping.{kept_other}
use Rattle.upkeep_judge.proofs.backups.Backups.note.Goals as goal

pub returns-in-BackupDone-clause-ok : goal.returns-in-BackupDone-clause-ok
returns-in-BackupDone-clause-ok c = λ log k. subst (λ (r : Record). OnOk c.note_backup.result (AreBackupsOf (log ++ r ∷ []) c.note_backup.new.self)) (sym c.in-BackupDone.is) (c.note_backup.ensures.ok log k)

pub returns-in_default-clause-ok : goal.returns-in_default-clause-ok
unfolding AreBackupsOf
returns-in_default-clause-ok c = λ log k. kept_other log c.args.self.now.number c.args.self.now.segments k c.args.entered.now c.in_default.not-BackupDone
