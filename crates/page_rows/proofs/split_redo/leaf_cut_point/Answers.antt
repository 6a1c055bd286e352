use Rattle.std.proofs.Common.{sym, ◌∙◌, arith}
use Rattle.store_model.proofs.Bools.{not_both}
use Rattle.page_rows.proofs.Cuts.{leaf_cut, leaf_cut_all, leaf_cut_none, leaf_cut_other}
use Rattle.page_rows.proofs.split_redo.leaf_cut_point.Goals as goal

pub returns-then-kept-eq0-clause-none : goal.returns-then-kept-eq0-clause-none
returns-then-kept-eq0-clause-none c = leaf_cut_all c.args.at.now c.args.rows.now c.args.upper.now c.leaf_rows_below-kept.result c.leaf_rows_below-kept.ensures.within c.leaf_rows_below-kept.ensures.below (omega arith)

pub returns-then-kept-rows-clause-none : goal.returns-then-kept-rows-clause-none
returns-then-kept-rows-clause-none c = leaf_cut_none c.args.at.now c.args.rows.now c.args.upper.now c.leaf_rows_below-kept.result c.leaf_rows_below-kept.ensures.within c.leaf_rows_below-kept.ensures.below (omega arith)

pub returns-then-not-same_leaf_rows-clause-none : goal.returns-then-not-same_leaf_rows-clause-none
returns-then-not-same_leaf_rows-clause-none c = leaf_cut_other c.args.at.now c.args.rows.now c.args.upper.now c.leaf_rows_below-kept.result c.leaf_rows_below-kept.ensures.within c.leaf_rows_below-kept.ensures.below
    (λ e. not_both _ (c.same_leaf_rows.ensures.1 (c.split_at.ensures.back ∙ e)) c.if-not-same_leaf_rows.true)

pub returns-clause-some : goal.returns-clause-some
returns-clause-some c = leaf_cut c.args.at.now c.args.rows.now c.args.upper.now c.leaf_rows_below-kept.result c.leaf_rows_below-kept.ensures.within c.leaf_rows_below-kept.ensures.below (omega arith) (omega arith)
    (sym (c.same_leaf_rows.ensures.0 c.if-not-same_leaf_rows.false) ∙ c.split_at.ensures.back)
