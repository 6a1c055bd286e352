use Rattle.page_judge.specs.Names.{AreNamesOf}
use Rattle.page_judge.proofs.Naming.{none_kept}
use Rattle.page_judge.proofs.names.PageNames.new.Goals as goal

pub returns : goal.returns
unfolding AreNamesOf
returns c = none_kept c.new.result.items
