use Rattle.std.proofs.Common.{ℕ, List, sym, subst}
use Rattle.log_blocks.specs.declared.header.Place.{Place}
use Rattle.journal.specs.State.{BeginsWith}
use Rattle.journal.proofs.Calls.{blocks_is}
use Rattle.journal.proofs.KeptBlocks.{begins_first}
use Rattle.journal.proofs.journal.Journal.first_kept.Goals as goal

pub returns : goal.returns
returns g c = subst (λ (z : List Place × ℕ). BeginsWith z.0 z.1) (λ i. (blocks_is _ _ c.self.view_is i, sym c.first_kept.ensures i)) (begins_first c.self.inside.log.log.log)
