use Rattle.reply_judge.specs.Contents.{IsContentsOf}
use Rattle.reply_judge.proofs.Keeping.{has_none}
use Rattle.reply_judge.proofs.contents.CurrentContents.new.Goals as goal

pub returns : goal.returns
unfolding IsContentsOf
returns c = has_none c.new.result c.new.ensures.empty
