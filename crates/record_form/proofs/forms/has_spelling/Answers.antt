use Rattle.std.proofs.Common.{subst, sym, ◌∙◌}
use Rattle.wal_record.specs.Rules.{HasSpelling}
use Rattle.record_form.proofs.ByKind.{by_adopt, by_apply, by_commit, by_end, by_format, by_lost, by_purge, by_restored, by_run, by_undo, by_write, by_written}
use Rattle.record_form.proofs.forms.has_spelling.Goals as goal

pub returns-in-Format-clause-keeps : goal.returns-in-Format-clause-keeps
returns-in-Format-clause-keeps c = λ is. subst HasSpelling (sym c.in-Format.is) ((by_format c.in-Format.format).0 (sym c.is_limit.ensures ∙ is))

pub returns-in-Format-clause-all : goal.returns-in-Format-clause-all
returns-in-Format-clause-all c = λ other k. c.is_limit.ensures ∙ (by_format c.in-Format.format).1 (subst HasSpelling c.in-Format.is k)

pub returns-in-Write-clause-keeps : goal.returns-in-Write-clause-keeps
returns-in-Write-clause-keeps c = λ is. subst HasSpelling (sym c.in-Write.is) ((by_write c.in-Write.write).0 (sym c.write_fits.ensures ∙ is))

pub returns-in-Write-clause-all : goal.returns-in-Write-clause-all
returns-in-Write-clause-all c = λ other k. c.write_fits.ensures ∙ (by_write c.in-Write.write).1 (subst HasSpelling c.in-Write.is k)

pub returns-in-Apply-clause-keeps : goal.returns-in-Apply-clause-keeps
returns-in-Apply-clause-keeps c = λ is. subst HasSpelling (sym c.in-Apply.is) ((by_apply c.in-Apply.apply).0 (sym c.apply_fits.ensures ∙ is))

pub returns-in-Apply-clause-all : goal.returns-in-Apply-clause-all
returns-in-Apply-clause-all c = λ other k. c.apply_fits.ensures ∙ (by_apply c.in-Apply.apply).1 (subst HasSpelling c.in-Apply.is k)

pub returns-in-Undo-clause-keeps : goal.returns-in-Undo-clause-keeps
returns-in-Undo-clause-keeps c = λ is. subst HasSpelling (sym c.in-Undo.is) ((by_undo c.in-Undo.undo).0 (sym c.undo_fits.ensures ∙ is))

pub returns-in-Undo-clause-all : goal.returns-in-Undo-clause-all
returns-in-Undo-clause-all c = λ other k. c.undo_fits.ensures ∙ (by_undo c.in-Undo.undo).1 (subst HasSpelling c.in-Undo.is k)

pub returns-in-Commit-clause-keeps : goal.returns-in-Commit-clause-keeps
returns-in-Commit-clause-keeps c = λ is. subst HasSpelling (sym c.in-Commit.is) ((by_commit c.in-Commit.commit).0 (sym c.is_link.ensures ∙ is))

pub returns-in-Commit-clause-all : goal.returns-in-Commit-clause-all
returns-in-Commit-clause-all c = λ other k. c.is_link.ensures ∙ (by_commit c.in-Commit.commit).1 (subst HasSpelling c.in-Commit.is k)

pub returns-in-End-clause-keeps : goal.returns-in-End-clause-keeps
returns-in-End-clause-keeps c = λ is. subst HasSpelling (sym c.in-End.is) ((by_end c.in-End.end).0 (sym c.is_link-in-End.ensures ∙ is))

pub returns-in-End-clause-all : goal.returns-in-End-clause-all
returns-in-End-clause-all c = λ other k. c.is_link-in-End.ensures ∙ (by_end c.in-End.end).1 (subst HasSpelling c.in-End.is k)

pub returns-in-Split-clause-keeps : goal.returns-in-Split-clause-keeps
returns-in-Split-clause-keeps c = λ is. subst HasSpelling (sym c.in-Split.is) (c.is_split.ensures.0 is)

pub returns-in-Split-clause-all : goal.returns-in-Split-clause-all
returns-in-Split-clause-all c = λ other k. c.is_split.ensures.1 (subst HasSpelling c.in-Split.is k)

pub returns-in-Adopt-clause-keeps : goal.returns-in-Adopt-clause-keeps
returns-in-Adopt-clause-keeps c = λ is. subst HasSpelling (sym c.in-Adopt.is) ((by_adopt c.in-Adopt.adopt).0 (sym c.adopt_fits.ensures ∙ is))

pub returns-in-Adopt-clause-all : goal.returns-in-Adopt-clause-all
returns-in-Adopt-clause-all c = λ other k. c.adopt_fits.ensures ∙ (by_adopt c.in-Adopt.adopt).1 (subst HasSpelling c.in-Adopt.is k)

pub returns-in-Grow-clause-keeps : goal.returns-in-Grow-clause-keeps
returns-in-Grow-clause-keeps c = λ is. subst HasSpelling (sym c.in-Grow.is) (c.is_grow.ensures.0 is)

pub returns-in-Grow-clause-all : goal.returns-in-Grow-clause-all
returns-in-Grow-clause-all c = λ other k. c.is_grow.ensures.1 (subst HasSpelling c.in-Grow.is k)

pub returns-in-Purge-clause-keeps : goal.returns-in-Purge-clause-keeps
returns-in-Purge-clause-keeps c = λ is. subst HasSpelling (sym c.in-Purge.is) ((by_purge c.in-Purge.purge).0 (sym c.is_purge.ensures ∙ is))

pub returns-in-Purge-clause-all : goal.returns-in-Purge-clause-all
returns-in-Purge-clause-all c = λ other k. c.is_purge.ensures ∙ (by_purge c.in-Purge.purge).1 (subst HasSpelling c.in-Purge.is k)

pub returns-in-Written-clause-keeps : goal.returns-in-Written-clause-keeps
returns-in-Written-clause-keeps c = λ is. subst HasSpelling (sym c.in-Written.is) ((by_written c.in-Written.written).0 (sym c.is_written.ensures ∙ is))

pub returns-in-Written-clause-all : goal.returns-in-Written-clause-all
returns-in-Written-clause-all c = λ other k. c.is_written.ensures ∙ (by_written c.in-Written.written).1 (subst HasSpelling c.in-Written.is k)

pub returns-in-BackupDone-clause-keeps : goal.returns-in-BackupDone-clause-keeps
returns-in-BackupDone-clause-keeps c = λ is. subst HasSpelling (sym c.in-BackupDone.is) (c.is_backup.ensures.0 is)

pub returns-in-BackupDone-clause-all : goal.returns-in-BackupDone-clause-all
returns-in-BackupDone-clause-all c = λ other k. c.is_backup.ensures.1 (subst HasSpelling c.in-BackupDone.is k)

pub returns-in-RunDone-clause-keeps : goal.returns-in-RunDone-clause-keeps
returns-in-RunDone-clause-keeps c = λ is. subst HasSpelling (sym c.in-RunDone.is) ((by_run c.in-RunDone.done).0 (sym c.run_fits.ensures ∙ is))

pub returns-in-RunDone-clause-all : goal.returns-in-RunDone-clause-all
returns-in-RunDone-clause-all c = λ other k. c.run_fits.ensures ∙ (by_run c.in-RunDone.done).1 (subst HasSpelling c.in-RunDone.is k)

pub returns-in-Lost-clause-keeps : goal.returns-in-Lost-clause-keeps
returns-in-Lost-clause-keeps c = λ is. subst HasSpelling (sym c.in-Lost.is) ((by_lost c.in-Lost.lost).0 (sym c.is_u32.ensures ∙ is))

pub returns-in-Lost-clause-all : goal.returns-in-Lost-clause-all
returns-in-Lost-clause-all c = λ other k. c.is_u32.ensures ∙ (by_lost c.in-Lost.lost).1 (subst HasSpelling c.in-Lost.is k)

pub returns-in-Restored-clause-keeps : goal.returns-in-Restored-clause-keeps
returns-in-Restored-clause-keeps c = λ is. subst HasSpelling (sym c.in-Restored.is) ((by_restored c.in-Restored.restored).0 (sym c.is_u32-in-Restored.ensures ∙ is))

pub returns-in-Restored-clause-all : goal.returns-in-Restored-clause-all
returns-in-Restored-clause-all c = λ other k. c.is_u32-in-Restored.ensures ∙ (by_restored c.in-Restored.restored).1 (subst HasSpelling c.in-Restored.is k)
