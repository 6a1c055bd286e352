use Rattle.wal_record.specs.OpenWrites.{open_writes}
use Rattle.chain_judge.specs.Chains.{AreChainsOf, writes_in}
use Rattle.chain_judge.proofs.Changes.{changes_last}
use Rattle.chain_judge.proofs.chains.Chains.takes_back.Goals as goal

pub returns : goal.returns
unfolding AreChainsOf
returns c = λ log k.
    let last = changes_last c.args.undo.now (writes_in c.args.self.now.running c.args.undo.now.tx) (open_writes log c.args.undo.now.tx) (k.opened c.args.undo.now.tx) in
    let found = c.takes_last_in.ensures in
    (λ is. last.0 (found.0 is), λ rule. found.1 (last.1 rule))
