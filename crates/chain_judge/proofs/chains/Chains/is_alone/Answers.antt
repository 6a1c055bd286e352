use Rattle.std.proofs.Common.{sym, ◌∙◌}
use Rattle.wal_record.specs.OpenWrites.{open_writes}
use Rattle.chain_judge.specs.Chains.{AreChainsOf, writes_in}
use Rattle.chain_judge.proofs.Changes.{changes_any}
use Rattle.chain_judge.proofs.chains.Chains.is_alone.Goals as goal

pub returns : goal.returns
unfolding AreChainsOf
returns c = λ log k. (
  λ is t other. sym (changes_any c.args.key.now (writes_in c.args.self.now.running t) (open_writes log t) (k.opened t)) ∙ c.none_opens_in.ensures.yes is t other,
  λ alone. c.none_opens_in.ensures.no (λ t other. changes_any c.args.key.now (writes_in c.args.self.now.running t) (open_writes log t) (k.opened t) ∙ alone t other),
)
