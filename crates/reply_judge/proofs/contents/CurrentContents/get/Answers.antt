use Rattle.std.proofs.Common.{◌∙◌}
use Rattle.reply_judge.specs.Contents.{HasValues, IsContentsOf}
use Rattle.reply_judge.proofs.contents.CurrentContents.get.Goals as goal

pub returns : goal.returns
unfolding HasValues IsContentsOf
returns c = λ m k. c.get.ensures.value ∙ k c.args.key.now
