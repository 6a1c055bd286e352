use Rattle.std.proofs.lemmas.Result.{err_from_is_err_and}
use Rattle.page_ops.specs.Claims.{no_claims}
use Rattle.page_ops.specs.Seeing.{is_upkeep}
use Rattle.page_ops.proofs.Gaining.{goes_self}
use Rattle.foster_tree.proofs.Causing.{none_met, refused_then}
use Rattle.foster_tree.proofs.Desks.{desk_out}
use Rattle.foster_tree.proofs.leaf.step.Goals as goal

pub returns-then-agrees-clause-goes : goal.returns-then-agrees-clause-goes
returns-then-agrees-clause-goes g c = goes_self _ _ _ _

pub returns-in-Busy-clause-goes : goal.returns-in-Busy-clause-goes
returns-in-Busy-clause-goes g c = goes_self _ _ _ _

pub returns-in_err-mend-in-Page-clause-refused : goal.returns-in_err-mend-in-Page-clause-refused
returns-in_err-mend-in-Page-clause-refused g c =
    let p = err_from_is_err_and c.from_residual.result c.from_residual.ensures.1 in
    rw (p.1, p.2) (refused_then _ _ _ is_upkeep _ _ _ _ (g.P.Pages.desk c.args.pages.now) (g.P.Pages.desk c.try_take.new.self) _ _ (goes_self is_upkeep (g.J.Entering.account c.args.journal.now) c.args.pass.now no_claims) (none_met _) (desk_out _ _ _ c.in-Page.ensures.out) c.in_err-mend-in-Page.ensures.refused)
