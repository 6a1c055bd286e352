use Rattle.std.proofs.Common.{[], subst, sym}
use Rattle.upkeep_judge.specs.Backups.{AreBackupsOf, AreKept}
use Rattle.upkeep_judge.proofs.Keeping.{kept_none}
use Rattle.upkeep_judge.proofs.backups.Backups.new.Goals as goal

pub returns : goal.returns
unfolding AreBackupsOf
returns c = subst (AreKept [] 0) (sym c.new.ensures) kept_none
