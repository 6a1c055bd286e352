use Rattle.std.proofs.Common.{ℕ, List, [], ap}
use Rattle.std.specs.Prelude.{Bool, false, unwrap_or}
use Rattle.std.specs.Map.{lookup}
use Rattle.std.specs.Option.{option_map_or}
use Rattle.std.specs.Ordering.{nat_cmp}
use Rattle.std.specs.BTreeMap.{is_at}
use Rattle.chain_judge.specs.Chains.{AreChainsOf, is_in, last_in, writes_in}
use Rattle.chain_judge.specs.declared.chain.Chain.{Chain}
use Rattle.chain_judge.proofs.Keeping.{kept_none}
use Rattle.chain_judge.proofs.chains.Chains.new.Goals as goal

pub returns : goal.returns
unfolding AreChainsOf
returns c = kept_none (last_in c.new.result) (is_in c.new-2.result) (writes_in c.new.result)
    (λ t. ap (λ (es : List (ℕ × Chain)). option_map_or (λ (x : Chain). x.last) (lookup (is_at (nat_cmp t)) es) 0) c.new.ensures.empty)
    (λ t. ap (λ (es : List (ℕ × Bool)). unwrap_or (lookup (is_at (nat_cmp t)) es) false) c.new-2.ensures.empty)
    (λ t. ap (λ (es : List (ℕ × Chain)). option_map_or (λ (x : Chain). x.writes.items) (lookup (is_at (nat_cmp t)) es) []) c.new.ensures.empty)
