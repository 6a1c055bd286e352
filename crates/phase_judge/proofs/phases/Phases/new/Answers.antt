use Rattle.std.proofs.Common.{ℕ, List, Option, None, ap}
use Rattle.std.specs.Prelude.{unwrap_or}
use Rattle.std.specs.Map.{lookup}
use Rattle.std.specs.Ordering.{nat_cmp}
use Rattle.std.specs.BTreeMap.{is_at}
use Rattle.phase_judge.specs.Phases.{ArePhasesOf, is_by, phase_of, untouched}
use Rattle.phase_judge.specs.declared.stage.Started.{Started}
use Rattle.phase_judge.proofs.Moving.{kept_none}
use Rattle.phase_judge.proofs.phases.Phases.new.Goals as goal

pub returns : goal.returns
unfolding ArePhasesOf
returns c = λ opening e. kept_none opening _ _ _
    (λ t. ap (λ (es : List (ℕ × Started)). phase_of (unwrap_or (lookup (is_at (nat_cmp t)) es) untouched).stage) c.new.ensures.empty)
    (λ s t. ap (λ (es : List (ℕ × Started)). is_by s (unwrap_or (lookup (is_at (nat_cmp t)) es) untouched).session) c.new.ensures.empty)
    (λ s. ap (λ (es : List (ℕ × Option ℕ)). unwrap_or (lookup (is_at (nat_cmp s)) es) None) c.new-2.ensures.empty)
    c.args.most e
