-- The object of a page's last backup, as the log names it.
use Rattle.std.specs.Prelude.{◌≡◌, ◌≢◌, ℕ, List, true}
use Rattle.wal_record.specs.Chains.{names_at}
use Rattle.wal_record.specs.Sound.{AreLawful}
use Rattle.wal_record.specs.Upkeep.{PageBackup, page_backup, segment_of}
use Rattle.wal_record.specs.declared.record.Record.{Record}
use Rattle.page_repair.specs.Chains.{IsImageAt}
use Rattle.backup_set.specs.Backup.{IsAmong, IsBackup, backup_name}
use Rattle.backup_set.specs.declared.copy.PageCopy.{PageCopy}
use Rattle.named_objects.specs.Named.{Names}

-- The log names the object of this backup that has the page's segment. One of its copies is of the page: its image in the log
-- at the LSN that is told.
pub record NamesBackup (log : List Record) (p : ℕ) (y : PageBackup) : Type 0 where
  pub bytes : List ℕ
  pub names : Names log (backup_name y.backup (segment_of p)) bytes
  pub copies : List PageCopy
  pub are : IsBackup y.backup (segment_of p) copies bytes
  pub copy : PageCopy
  pub among : IsAmong copy copies
  pub page : copy.page ≡ p
  pub at : copy.sealed.lsn ≡ y.lsn
  pub image : IsImageAt log p copy.sealed
  pub named : names_at log copy.sealed.lsn p ≡ true

-- so it is with the last backup of a page in a lawful log
abbrev pub BackupLaw : List Record → ℕ → Type 0
BackupLaw log p = AreLawful log → (page_backup log p).backup ≢ 0 → NamesBackup log p (page_backup log p)
