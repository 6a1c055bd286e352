use Rattle.std.proofs.Common.{ap, subst, ◌∙◌, Option, IfSome}
use Rattle.front.proofs.Keeping.{prefix_self, prefix_trans}
use Rattle.std.proofs.lemmas.Result.{err_from_is_err_and}
use Rattle.page_ops.specs.Hands.{Hand}
use Rattle.page_ops.specs.Gains.{IsSettled}
use Rattle.foster_tree.proofs.Causing.{none_met, none_then, refused_then}
use Rattle.foster_tree.specs.Nows.{pages_in}
use Rattle.foster_tree.proofs.Made.{made_since}
use Rattle.foster_tree.proofs.Desks.{desk_same, desk_then}
use Rattle.page_ops.proofs.Gaining.{goes_self, goes_then, upheld_by}
use Rattle.foster_tree.proofs.leaf.find_leaf.Goals as goal

pub loop-preserved : goal.loop-preserved
loop-preserved g c =
    let begins = prefix_trans _ _ _ c.take.ensures.begins c.descend.ensures.begins in (
      tt,
      tt,
      c.in_ok-leaf.ensures.taken ∙ ap pages_in c.in_default.is,
      made_since _ _ _ _ begins c.loop.invariant.3,
      desk_then _ _ _ c.loop.invariant.4 (desk_then _ _ _ c.take.ensures.desk c.descend.ensures.desk),
      prefix_trans _ _ _ c.loop.invariant.5 begins,
      goes_then _ _ _ _ c.loop.invariant.6 (goes_then _ _ _ _ c.take.ensures.goes c.descend.ensures.goes),
      none_then _ _ _ c.loop.invariant.7 (none_then _ _ _ c.in_ok-root.ensures.open c.in_ok-leaf.ensures.open),
    )

pub loop-init : goal.loop-init
loop-init g c = (tt, tt, c.requires.none, c.requires.made, desk_same _, prefix_self _, goes_self _ _ _ _, none_met _)

pub returns-in_err-root-clause-entered : goal.returns-in_err-root-clause-entered
returns-in_err-root-clause-entered g c = upheld_by _ _ _ _ _ _ (goes_then _ _ _ _ c.loop.invariant.6 c.take.ensures.goes) c.in_err-root.ensures.settled

pub returns-in_err-leaf-clause-entered : goal.returns-in_err-leaf-clause-entered
returns-in_err-leaf-clause-entered g c = upheld_by _ _ _ _ _ _ (goes_then _ _ _ _ c.loop.invariant.6 (goes_then _ _ _ _ c.take.ensures.goes c.descend.ensures.goes)) c.in_err-leaf.ensures.settled

pub returns-in-Some-2-clause-entered : goal.returns-in-Some-2-clause-entered
returns-in-Some-2-clause-entered g c =
    upheld_by _ _ _ _ _ _ (goes_then _ _ _ _ c.loop.invariant.6 (goes_then _ _ _ _ c.take.ensures.goes c.descend.ensures.goes))
    (subst (λ (o : Option Hand). IfSome o (λ held. IsSettled g.N.Life.opens g.N.Life.entries g.N.Life.session_entries (g.J.Entering.account c.descend.new.journal) c.descend.new.pass.log)) c.in-Some-2.is c.in_ok-leaf.ensures.found)

pub returns-in_err-root-clause-refused : goal.returns-in_err-root-clause-refused
returns-in_err-root-clause-refused g c =
    let p = err_from_is_err_and c.from_residual.result c.from_residual.ensures.1 in
    rw (p.1, p.2) (refused_then _ _ _ _ _ _ _ _ (g.P.Pages.desk c.args.pages.now) (g.P.Pages.desk c.loop.pages) _ _ c.loop.invariant.6 c.loop.invariant.7 c.loop.invariant.4 c.in_err-root.ensures.refused)

pub returns-in_err-leaf-clause-refused : goal.returns-in_err-leaf-clause-refused
returns-in_err-leaf-clause-refused g c =
    let p = err_from_is_err_and c.from_residual-in_err-leaf.result c.from_residual-in_err-leaf.ensures.1 in
    rw (p.1, p.2) (refused_then _ _ _ _ _ _ _ _ (g.P.Pages.desk c.args.pages.now) (g.P.Pages.desk c.take.new.pages) _ _ (goes_then _ _ _ _ c.loop.invariant.6 c.take.ensures.goes) (none_then _ _ _ c.loop.invariant.7 c.in_ok-root.ensures.open) (desk_then _ _ _ c.loop.invariant.4 c.take.ensures.desk) c.in_err-leaf.ensures.refused)

pub returns-in-Some-2-clause-open : goal.returns-in-Some-2-clause-open
returns-in-Some-2-clause-open g c = none_then _ _ _ c.loop.invariant.7 (none_then _ _ _ c.in_ok-root.ensures.open c.in_ok-leaf.ensures.open)
