use Rattle.std.proofs.Common.{ap, subst, sym, ◌∙◌}
use Rattle.foster_tree.specs.Nows.{IsNow}
use Rattle.page_ops.specs.Hands.{Hand}
use Rattle.page_ops.specs.Seeing.{is_upkeep}
use Rattle.page_ops.proofs.Gaining.{goes_of, goes_then}
use Rattle.backups.proofs.Drawing.{one_more}
use Rattle.backups.proofs.copying.copy_page.Goals as goal

pub returns-in_err-added-clause-goes : goal.returns-in_err-added-clause-goes
returns-in_err-added-clause-goes g c = goes_then is_upkeep _ _ _ c.take.ensures.goes (goes_of is_upkeep _ _ _ _ _ c.see_image.ensures.entered)

pub returns-clause-goes : goal.returns-clause-goes
returns-clause-goes g c = goes_then is_upkeep _ _ _ c.take.ensures.goes (goes_of is_upkeep _ _ _ _ _ c.see_image.ensures.entered)

pub returns-clause-copied : goal.returns-clause-copied
returns-clause-copied g c =
    let held = c.held.inside in
    let same = c.held.view_is ∙ c.see_image.ensures.same in
    one_more g.N.Life.opens c.see_image.new.pass.log c.args.page (record { page = held.page; lsn = held.lsn; state = held.state; dirty = held.dirty; right = held.right; pass = held.pass }) c.args.copies.now c.add-added.new.self (ap (λ (h : Hand). h.page) same ∙ c.in_ok-held.ensures.page)
    c.held.invariant (subst (IsNow g.N.Life.opens c.see_image.new.pass.log) (sym same) c.see_image.ensures.now) c.in_ok-added.ensures.told c.seal-image.result c.seal-image.ensures c.in_ok-added.ensures.images
