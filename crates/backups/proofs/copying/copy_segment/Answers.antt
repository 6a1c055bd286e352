use Rattle.std.proofs.Common.{◌+◌, ◌<◌, sym, subst, arith}
use Rattle.std.proofs.lemmas.Result.{err_from_is_err_and}
use Rattle.front.proofs.Keeping.{prefix_self, prefix_trans}
use Rattle.page_ops.specs.Seeing.{is_upkeep}
use Rattle.page_ops.proofs.Gaining.{goes_self, goes_then}
use Rattle.foster_tree.proofs.Causing.{none_met, none_then, refused_then}
use Rattle.foster_tree.proofs.Desks.{desk_same, desk_then}
use Rattle.foster_tree.proofs.Made.{made_since}
use Rattle.backups.specs.Copies.{AreDrawn, Drawn}
use Rattle.backups.proofs.Drawing.{nothing, more}
use Rattle.backups.proofs.copying.copy_segment.Goals as goal

pub loop-done-init : goal.loop-done-init
loop-done-init g c = record {
  none = c.requires.none;
  drawn = (0, omega arith, subst (λ (x : Drawn). AreDrawn g.N.Life.opens c.args.pass.now.log c.args.pass.now.log c.args.segment 0 x) (sym c.new-copies.ensures) (nothing g.N.Life.opens c.args.pass.now.log c.args.segment));
  desk = desk_same _;
  begins = prefix_self _;
  goes = goes_self is_upkeep _ _ _;
  calm = none_met _;
}

pub copy_page-requires-clause-made : goal.copy_page-requires-clause-made
copy_page-requires-clause-made g c =
    made_since g.N.Life.opens c.args.pass.now.log c.loop-done.pass.log (c.loop-done.done + 1) c.loop-done.invariant.begins
    (c.requires.made (c.loop-done.done + 1) (omega arith) (omega (arith, c.loop-done-test.true, c.min-last.ensures)))

pub returns-in_err-copy_page-clause-goes : goal.returns-in_err-copy_page-clause-goes
returns-in_err-copy_page-clause-goes g c = goes_then is_upkeep _ _ _ c.loop-done.invariant.goes c.copy_page.ensures.goes

pub returns-in_err-copy_page-clause-refused : goal.returns-in_err-copy_page-clause-refused
returns-in_err-copy_page-clause-refused g c =
    let p = err_from_is_err_and c.from_residual.result c.from_residual.ensures.1 in
    rw (p.1, p.2) (refused_then _ _ _ is_upkeep _ _ _ _ (g.P.Pages.desk c.args.pages.now) (g.P.Pages.desk c.loop-done.pages) _ _ c.loop-done.invariant.goes c.loop-done.invariant.calm c.loop-done.invariant.desk c.in_err-copy_page.ensures.refused)

pub loop-done-preserved : goal.loop-done-preserved
loop-done-preserved g c =
    let here = c.loop-done.invariant in
    let count = here.drawn.0 in
    let place = here.drawn.1 in
    let few : count < 16 = omega (arith, place, c.loop-done-test.true, c.min-last.ensures, c.saturating_add.ensures) in
    record {
      none = c.copy_page.ensures.none;
      drawn = (
        count + 1,
        omega (arith, place),
        more g.N.Life.opens c.args.pass.now.log c.loop-done.pass.log c.copy_page.new.pass.log c.args.segment count (c.loop-done.done + 1) c.loop-done.copies c.copy_page.new.copies here.begins c.copy_page.ensures.begins few (omega (arith, place)) here.drawn.2 c.in_ok-copy_page.ensures.copied,
      );
      desk = desk_then _ _ _ here.desk c.copy_page.ensures.desk;
      begins = prefix_trans _ _ _ here.begins c.copy_page.ensures.begins;
      goes = goes_then is_upkeep _ _ _ here.goes c.copy_page.ensures.goes;
      calm = none_then _ _ _ here.calm c.in_ok-copy_page.ensures.open;
    }
