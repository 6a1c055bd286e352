use Rattle.std.proofs.Common.{sym, ◌∙◌, arith}
use Rattle.store_model.proofs.Bools.{not_both}
use Rattle.page_rows.proofs.Cuts.{branch_cut, branch_cut_all, branch_cut_none, branch_cut_other}
use Rattle.page_rows.proofs.split_redo.branch_cut_point.Goals as goal

pub returns-then-kept-eq0-clause-none : goal.returns-then-kept-eq0-clause-none
returns-then-kept-eq0-clause-none c = branch_cut_all c.args.at.now c.args.rows.now c.args.upper.now c.branch_rows_below-kept.result c.branch_rows_below-kept.ensures.within c.branch_rows_below-kept.ensures.below (omega arith)

pub returns-then-kept-rows-clause-none : goal.returns-then-kept-rows-clause-none
returns-then-kept-rows-clause-none c = branch_cut_none c.args.at.now c.args.rows.now c.args.upper.now c.branch_rows_below-kept.result c.branch_rows_below-kept.ensures.within c.branch_rows_below-kept.ensures.below (omega arith)

pub returns-then-not-same_branch_rows-clause-none : goal.returns-then-not-same_branch_rows-clause-none
returns-then-not-same_branch_rows-clause-none c = branch_cut_other c.args.at.now c.args.rows.now c.args.upper.now c.branch_rows_below-kept.result c.branch_rows_below-kept.ensures.within c.branch_rows_below-kept.ensures.below
    (λ e. not_both _ (c.same_branch_rows.ensures.1 (c.split_at.ensures.back ∙ e)) c.if-not-same_branch_rows.true)

pub returns-clause-some : goal.returns-clause-some
returns-clause-some c = branch_cut c.args.at.now c.args.rows.now c.args.upper.now c.branch_rows_below-kept.result c.branch_rows_below-kept.ensures.within c.branch_rows_below-kept.ensures.below (omega arith) (omega arith)
    (sym (c.same_branch_rows.ensures.0 c.if-not-same_branch_rows.false) ∙ c.split_at.ensures.back)
