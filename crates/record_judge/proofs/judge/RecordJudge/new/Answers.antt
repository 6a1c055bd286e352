use Rattle.std.proofs.Common.{subst, sym}
use Rattle.reply_judge.specs.Contents.{IsContentsOf}
use Rattle.record_judge.proofs.Beginning.{current_none, nothing_lawful}
use Rattle.record_judge.proofs.judge.RecordJudge.new.Goals as goal

pub returns : goal.returns
returns c = record {
  lawful = nothing_lawful;
  listing = c.new.ensures.listing;
  contents = subst (λ m. IsContentsOf m c.new-2.result) (sym current_none) c.new-2.ensures;
  chains = c.new-3.ensures;
  images = c.new-4.ensures;
  names = c.new-5.ensures;
  backups = c.new-6.ensures;
}
