use Rattle.std.proofs.Common.{sym, subst}
use Rattle.std.proofs.lemmas.Result.{err_from_is_err_and}
use Rattle.page_ops.specs.Hands.{Hand}
use Rattle.foster_tree.specs.Nows.{IsNow}
use Rattle.page_ops.proofs.Gaining.{goes_of, goes_then, upheld_by, upheld_then}
use Rattle.foster_tree.proofs.Causing.{none_then, refused_then, refused_all, open_all}
use Rattle.foster_tree.proofs.Desks.{desk_out, desk_of, desk_then}
use Rattle.foster_tree.proofs.Made.{made_upheld}
use Rattle.foster_tree.proofs.Ways.{hand_made}
use Rattle.foster_tree.proofs.leaf.mend.Goals as goal

pub take-requires-clause-made : goal.take-requires-clause-made
take-requires-clause-made g c =
    let now = subst (λ (x : Hand). IsNow g.N.Life.opens c.see_image.new.pass.log x) (sym c.held.view_is) c.see_image.ensures.now in
    made_upheld _ _ _ _ _ _ _ c.renew.ensures.entered (hand_made _ _ _ now)

pub returns-in_err-renew-clause-entered : goal.returns-in_err-renew-clause-entered
returns-in_err-renew-clause-entered g c = upheld_then _ _ _ _ _ _ _ (goes_of _ _ _ _ _ _ c.see_image.ensures.entered) c.renew.ensures.entered

pub returns-in_err-again-clause-entered : goal.returns-in_err-again-clause-entered
returns-in_err-again-clause-entered g c =
    upheld_by _ _ _ _ _ _ (goes_then _ _ _ _ (goes_of _ _ _ _ _ _ c.see_image.ensures.entered) (goes_then _ _ _ _ (goes_of _ _ _ _ _ _ c.renew.ensures.entered) c.take.ensures.goes)) c.in_err-again.ensures.settled

pub returns-clause-entered : goal.returns-clause-entered
returns-clause-entered g c =
    upheld_then _ _ _ _ _ _ _ (goes_then _ _ _ _ (goes_of _ _ _ _ _ _ c.see_image.ensures.entered) (goes_then _ _ _ _ (goes_of _ _ _ _ _ _ c.renew.ensures.entered) c.take.ensures.goes)) c.renew-2.ensures.entered

pub returns-in_err-renew-clause-refused : goal.returns-in_err-renew-clause-refused
returns-in_err-renew-clause-refused g c =
    let p = err_from_is_err_and c.from_residual.result c.from_residual.ensures.1 in
    rw (p.1, p.2) (refused_then _ _ _ _ _ _ _ _ (g.P.Pages.desk c.args.pages.now) (g.P.Pages.desk c.put_back.new.self) _ _ (goes_of _ _ _ _ _ _ c.see_image.ensures.entered) c.see_image.ensures.calm.end (desk_out _ _ _ c.put_back.ensures.out) c.in_err-renew.ensures.refused)

pub returns-in_err-again-clause-refused : goal.returns-in_err-again-clause-refused
returns-in_err-again-clause-refused g c =
    let p = err_from_is_err_and c.from_residual-in_err-again.result c.from_residual-in_err-again.ensures.1 in
    rw (p.1, p.2) (refused_then _ _ _ _ _ _ _ _ (g.P.Pages.desk c.args.pages.now) (g.P.Pages.desk c.renew.new.self) _ _ (goes_then _ _ _ _ (goes_of _ _ _ _ _ _ c.see_image.ensures.entered) (goes_of _ _ _ _ _ _ c.renew.ensures.entered))
    (none_then _ _ _ c.see_image.ensures.calm.end c.in_ok-renew.ensures.open) (desk_then _ _ _ (desk_out _ _ _ c.put_back.ensures.out) (desk_of _ _ c.renew.ensures.out.1 c.renew.ensures.faults)) c.in_err-again.ensures.refused)

pub returns-clause-refused : goal.returns-clause-refused
returns-clause-refused g c =
    refused_all _ _ _ _ _ _ _ _ (g.P.Pages.desk c.args.pages.now) (g.P.Pages.desk c.take.new.pages) _ _ (goes_then _ _ _ _ (goes_of _ _ _ _ _ _ c.see_image.ensures.entered) (goes_then _ _ _ _ (goes_of _ _ _ _ _ _ c.renew.ensures.entered) c.take.ensures.goes))
    (none_then _ _ _ c.see_image.ensures.calm.end (none_then _ _ _ c.in_ok-renew.ensures.open c.in_ok-again.ensures.open))
    (desk_then _ _ _ (desk_then _ _ _ (desk_out _ _ _ c.put_back.ensures.out) (desk_of _ _ c.renew.ensures.out.1 c.renew.ensures.faults)) c.take.ensures.desk) c.renew-2.ensures.refused

pub returns-clause-open : goal.returns-clause-open
returns-clause-open g c = open_all _ _ _ _ (none_then _ _ _ c.see_image.ensures.calm.end (none_then _ _ _ c.in_ok-renew.ensures.open c.in_ok-again.ensures.open)) c.renew-2.ensures.open
