use Rattle.std.proofs.Common.{◌∙◌}
use Rattle.wal_record.specs.OpenWrites.{open_writes}
use Rattle.chain_judge.specs.Chains.{AreChainsOf, writes_in}
use Rattle.chain_judge.proofs.Changes.{changes_length}
use Rattle.chain_judge.proofs.chains.Chains.open_count.Goals as goal

pub returns : goal.returns
unfolding AreChainsOf
returns c = λ log k. c.count_in.ensures ∙ changes_length (writes_in c.args.self.now.running c.args.tx) (open_writes log c.args.tx) (k.opened c.args.tx)
