use Rattle.std.proofs.Common.{refl}
use Rattle.chain_judge.specs.Chains.{AreChainsOf, is_in, last_in, writes_in}
use Rattle.chain_judge.proofs.Keeping.{kept_same}
use Rattle.chain_judge.proofs.chains.Chains.prepare_running.Goals as goal

pub returns-clause-same : goal.returns-clause-same
unfolding AreChainsOf
returns-clause-same c = λ log k.
    kept_same log (last_in c.args.self.now.running) (last_in c.make_room.new.running) (is_in c.args.self.now.over) (is_in c.args.self.now.over) (writes_in c.args.self.now.running) (writes_in c.make_room.new.running) k
    (λ t. (c.make_room.ensures.same t).0) (λ t. refl) (λ t. (c.make_room.ensures.same t).1)
