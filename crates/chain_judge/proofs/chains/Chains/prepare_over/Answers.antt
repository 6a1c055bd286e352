use Rattle.std.proofs.Common.{refl}
use Rattle.chain_judge.specs.Chains.{AreChainsOf, is_in, last_in, writes_in}
use Rattle.chain_judge.proofs.Keeping.{kept_same}
use Rattle.chain_judge.proofs.chains.Chains.prepare_over.Goals as goal

pub returns-clause-same : goal.returns-clause-same
unfolding AreChainsOf
returns-clause-same c = λ log k.
    kept_same log (last_in c.args.self.now.running) (last_in c.args.self.now.running) (is_in c.args.self.now.over) (is_in c.make_place.new.over) (writes_in c.args.self.now.running) (writes_in c.args.self.now.running) k
    (λ t. refl) c.make_place.ensures.same (λ t. refl)
