use Rattle.std.proofs.Common.{◌∙◌}
use Rattle.wal_record.specs.declared.page.Rows.TheVariants.{Branch}
use Rattle.adoption.proofs.PlacedRow.{no_row, row_placed}
use Rattle.adoption.proofs.placing.with_row_for.Goals as goal

pub unreachable-requires : goal.unreachable-requires
unreachable-requires c = no_row c.args.foster.now c.args.state.now c.requires.takes c.in_default.field-0 c.in_default.ensures.spot

pub returns : goal.returns
returns c =
    (λ i. record { level = c.args.state.now.level; low = c.copied_bound.ensures i; high = c.copied_bound-2.ensures i; foster = c.copied_foster.ensures i; rows = Branch c.in_ok-rows.rows })
    ∙ row_placed c.args.foster.now c.args.state.now c.requires.takes c.in-Gap.place c.in_ok-rows.rows c.in-Gap.ensures.spot c.in_ok-rows.ensures
