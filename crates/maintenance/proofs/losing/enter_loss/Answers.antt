use Rattle.std.proofs.Common.{Ok, ◌∙◌}
use Rattle.wal_record.specs.declared.record.Lost.{Lost}
use Rattle.wal_record.specs.declared.record.Record.TheVariants as kinds
use Rattle.maintenance.proofs.Losses.{filled, is_askable, is_group}
use Rattle.maintenance.proofs.Marks.{entered_at, placed_at}
use Rattle.maintenance.proofs.losing.enter_loss.Goals as goal

pub enter-entered-requires-clause-group : goal.enter-entered-requires-clause-group
enter-entered-requires-clause-group g c = is_group _ c.in-Ok.ensures

pub enter-entered-requires-clause-askable : goal.enter-entered-requires-clause-askable
enter-entered-requires-clause-askable g c = is_askable _ c.in-Ok.ensures g.N.Life.opens _ _

pub returns-in-At-clause-entered : goal.returns-in-At-clause-entered
returns-in-At-clause-entered g c =
    entered_at Lost kinds.Lost _ filled _ _ _ _ c.enter-entered.new.group c.in-Ok.ensures _ _ _ _ _ _ c.in-At.field-0 _ (c.in-Ok-entered.is ∙ (λ i. Ok (c.in-At.is i))) c.enter-entered.ensures.entered c.enter-entered.ensures.filled

pub returns-in-At-clause-placed : goal.returns-in-At-clause-placed
returns-in-At-clause-placed g c =
    placed_at Lost kinds.Lost _ filled _ _ _ _ c.enter-entered.new.group c.in-Ok.ensures _ _ _ _ _ _ c.in-At.field-0 _ (c.in-Ok-entered.is ∙ (λ i. Ok (c.in-At.is i))) c.enter-entered.ensures.entered c.enter-entered.ensures.filled
