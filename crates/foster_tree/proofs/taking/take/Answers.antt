use Rattle.front.proofs.Keeping.{prefix_self, prefix_trans}
use Rattle.foster_tree.proofs.Made.{made_upheld}
use Rattle.foster_tree.proofs.Desks.{desk_same, desk_then, desk_out, desk_of, begins_of}
use Rattle.std.proofs.lemmas.Result.{err_from_is_err_and}
use Rattle.page_ops.proofs.Gaining.{goes_self, goes_then, goes_of, settled_of}
use Rattle.foster_tree.proofs.Causing.{none_met, none_then, on_err, refused_then}
use Rattle.foster_tree.proofs.taking.take.Goals as goal

pub loop-preserved : goal.loop-preserved
loop-preserved g c =
    let took = desk_out _ _ _ c.in-Away.ensures.out in
    let brought = desk_of _ _ c.bring.ensures.out.1 c.bring.ensures.faults in (
      tt,
      tt,
      c.bring.ensures.out.0,
      made_upheld _ _ _ _ _ _ _ c.bring.ensures.entered c.loop.invariant.3,
      desk_then _ _ _ c.loop.invariant.4 (desk_then _ _ _ took brought),
      prefix_trans _ _ _ c.loop.invariant.5 (begins_of _ _ _ _ _ _ c.bring.ensures.entered),
      goes_then _ _ _ _ c.loop.invariant.6 (goes_of _ _ _ _ _ _ c.bring.ensures.entered),
      none_then _ _ _ c.loop.invariant.7 c.in_ok-bring-in-Away.ensures.open,
    )

pub returns-in_err-bring-in-Away-clause-goes : goal.returns-in_err-bring-in-Away-clause-goes
returns-in_err-bring-in-Away-clause-goes g c = goes_then _ _ _ _ c.loop.invariant.6 (goes_of _ _ _ _ _ _ c.bring.ensures.entered)

pub returns-in_err-bring-in-Away-clause-settled : goal.returns-in_err-bring-in-Away-clause-settled
returns-in_err-bring-in-Away-clause-settled g c = on_err _ _ (settled_of _ _ _ _ _ _ c.bring.ensures.entered)

pub loop-init : goal.loop-init
loop-init g c = (tt, tt, c.requires.none, c.requires.made, desk_same _, prefix_self _, goes_self _ _ _ _, none_met _)

pub returns-in_err-bring-in-Away-clause-refused : goal.returns-in_err-bring-in-Away-clause-refused
returns-in_err-bring-in-Away-clause-refused g c =
    let p = err_from_is_err_and c.from_residual.result c.from_residual.ensures.1 in
    rw (p.1, p.2) (refused_then _ _ _ _ _ _ _ _ (g.P.Pages.desk c.args.pages.now) (g.P.Pages.desk c.try_take.new.self) _ _ c.loop.invariant.6 c.loop.invariant.7 (desk_then _ _ _ c.loop.invariant.4 (desk_out _ _ _ c.in-Away.ensures.out)) c.in_err-bring-in-Away.ensures.refused)
