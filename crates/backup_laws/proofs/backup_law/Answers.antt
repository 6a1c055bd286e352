use Rattle.backup_laws.proofs.NamedBackups.{backups}
use Rattle.backup_laws.proofs.backup_law.Goals as goal

pub returns : goal.returns
returns c = backups
