use Rattle.std.proofs.Common.{ap, sym, subst, ◌∙◌, Option, IfSome}
use Rattle.std.specs.Prelude.{IsTrue}
use Rattle.front.proofs.Keeping.{prefix_self, prefix_trans}
use Rattle.wal_record.specs.State.{has_within}
use Rattle.std.proofs.lemmas.Result.{err_from_is_err_and}
use Rattle.page_ops.specs.Hands.{Hand}
use Rattle.foster_tree.proofs.Causing.{none_met, none_then, refused_then}
use Rattle.foster_tree.specs.Nows.{pages_in}
use Rattle.foster_tree.proofs.Desks.{desk_same, desk_then}
use Rattle.page_ops.proofs.Gaining.{goes_self, goes_of, goes_then}
use Rattle.foster_tree.proofs.leaf.descend.Goals as goal

pub loop-init : goal.loop-init
loop-init g c =
    let within = subst (λ (x : Hand). IsTrue (has_within x.state c.args.key.now)) c.root.view_is (sym c.is_within.ensures ∙ c.if-not-is_within.false) in
    (tt, tt, c.requires.taken, within, desk_same _, prefix_self _, goes_self _ _ _ _, none_met _)

pub returns-in-Here-clause-goes : goal.returns-in-Here-clause-goes
returns-in-Here-clause-goes g c = goes_then _ _ _ _ c.loop.invariant.6 (goes_of _ _ _ _ _ _ c.see_image.ensures.entered)

pub returns-in_err-next-clause-goes : goal.returns-in_err-next-clause-goes
returns-in_err-next-clause-goes g c = goes_then _ _ _ _ c.loop.invariant.6 c.step.ensures.goes

pub returns-in-None-2-clause-goes : goal.returns-in-None-2-clause-goes
returns-in-None-2-clause-goes g c = goes_then _ _ _ _ c.loop.invariant.6 c.step.ensures.goes

pub loop-preserved : goal.loop-preserved
loop-preserved g c = (
  tt,
  tt,
  c.in_ok-next.ensures.taken ∙ ap pages_in c.in-Some-2.is,
  subst (λ (o : Option Hand). IfSome o (λ next. IsTrue (has_within next.state c.args.key.now))) c.in-Some-2.is c.in_ok-next.ensures.within,
  desk_then _ _ _ c.loop.invariant.4 c.step.ensures.desk,
  prefix_trans _ _ _ c.loop.invariant.5 c.step.ensures.begins,
  goes_then _ _ _ _ c.loop.invariant.6 c.step.ensures.goes,
  none_then _ _ _ c.loop.invariant.7 c.in_ok-next.ensures.open,
)

pub returns-in-Here-clause-open : goal.returns-in-Here-clause-open
returns-in-Here-clause-open g c = none_then _ _ _ c.loop.invariant.7 c.see_image.ensures.calm.end

pub returns-in_err-next-clause-refused : goal.returns-in_err-next-clause-refused
returns-in_err-next-clause-refused g c =
    let p = err_from_is_err_and c.from_residual-in_err-next.result c.from_residual-in_err-next.ensures.1 in
    rw (p.1, p.2) (refused_then _ _ _ _ _ _ _ _ (g.P.Pages.desk c.args.pages.now) (g.P.Pages.desk c.loop.pages) _ _ c.loop.invariant.6 c.loop.invariant.7 c.loop.invariant.4 c.in_err-next.ensures.refused)

pub returns-in-None-2-clause-open : goal.returns-in-None-2-clause-open
returns-in-None-2-clause-open g c = none_then _ _ _ c.loop.invariant.7 c.in_ok-next.ensures.open
