use Rattle.std.proofs.Common.{List, sym, subst, ◌∙◌, arith}
use Rattle.wal_record.specs.declared.page.BranchRow.{BranchRow}
use Rattle.page_rows.specs.Rows.{IsSpotIn, branch_at}
use Rattle.page_rows.specs.declared.spot.Spot.TheVariants.{Here, Gap}
use Rattle.page_rows.specs.declared.spot.Spot.{Spot}
use Rattle.page_rows.proofs.Changes.{may_take, no_take_first, no_take_twice}
use Rattle.page_rows.proofs.adopt_redo.place_of.Goals as goal

pub returns-in-Gap-clause-some : goal.returns-in-Gap-clause-some
returns-in-Gap-clause-some c = may_take c.args.adopt.now c.args.state.now c.in-Branch.rows c.in-Branch.is c.in-Gap.i c.requires (sym c.has_own.ensures ∙ c.if-not-has_own.false)
    (subst (λ (rows : List BranchRow). IsSpotIn branch_at c.args.adopt.now.key rows (Gap c.in-Gap.i)) c.as_slice.ensures c.in-Gap.ensures) (omega arith)

pub returns-in_default-clause-none : goal.returns-in_default-clause-none
returns-in_default-clause-none c = no_take_first c.args.adopt.now c.args.state.now c.in-Branch.rows c.in-Branch.is c.in-Gap.i
    (subst (λ (rows : List BranchRow). IsSpotIn branch_at c.args.adopt.now.key rows (Gap c.in-Gap.i)) c.as_slice.ensures c.in-Gap.ensures) (omega arith)

pub returns-in_default-2-clause-none : goal.returns-in_default-2-clause-none
returns-in_default-2-clause-none c = no_take_twice c.args.adopt.now c.args.state.now c.in-Branch.rows c.in-Branch.is c.in_default.field-0
    (subst (λ (rows : List BranchRow). IsSpotIn branch_at c.args.adopt.now.key rows (Here c.in_default.field-0)) c.as_slice.ensures
    (subst (λ (spot : Spot). IsSpotIn branch_at c.args.adopt.now.key c.as_slice.result.now spot) c.in_default.is c.branch_spot.ensures))
