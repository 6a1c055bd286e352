use Rattle.std.proofs.Common.{◌++◌, ◌∷◌, [], subst, sym}
use Rattle.std.proofs.lemmas.Result.{on_err_weaker, on_ok_weaker}
use Rattle.wal_record.specs.Contents.{current}
use Rattle.wal_record.specs.declared.record.Record.{Record}
use Rattle.wal_record.specs.declared.record.Record.TheVariants as kinds
use Rattle.reply_judge.specs.Contents.{IsContentsOf}
use Rattle.record_judge.proofs.Taking.{backups_still, contents_more}
use Rattle.record_judge.proofs.judge.RecordJudge.change.Goals as goal

pub returns-in_default-clause-ok : goal.returns-in_default-clause-ok
returns-in_default-clause-ok g c = λ log k.
    on_ok_weaker c.note-in_default.result
    (λ now. record { contents = contents_more log c.args.entered.now _ now; backups = backups_still log c.args.entered.now c.args.self.now.backups k.backups c.in_default.not-BackupDone })
    (c.note-in_default.ensures.ok (current log) k.contents)

pub returns-in_default-clause-err : goal.returns-in_default-clause-err
returns-in_default-clause-err g c = λ log k. on_err_weaker c.note-in_default.result (λ now. record { contents = now; backups = k.backups }) (c.note-in_default.ensures.err (current log) k.contents)

pub returns-in-BackupDone-clause-ok : goal.returns-in-BackupDone-clause-ok
returns-in-BackupDone-clause-ok g c = λ log k.
    let same = subst (λ (r : Record). IsContentsOf (current (log ++ r ∷ [])) c.args.self.now.contents) (sym c.in-BackupDone.is) (contents_more log (kinds.BackupDone c.in-BackupDone.field-0) _ k.contents) in
    on_ok_weaker c.note.result (λ now. record { contents = same; backups = now }) (c.note.ensures.ok log k.backups)
