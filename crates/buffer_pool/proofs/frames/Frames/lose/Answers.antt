use Rattle.std.proofs.Common.{sym, ap, subst, arith, ◌∙◌}
use Rattle.page_index.specs.Index.{limit_of}
use Rattle.buffer_pool.specs.Tables.{Table}
use Rattle.buffer_pool.proofs.Losing.{LosesUpTo, all_lost, one_lost}
use Rattle.buffer_pool.proofs.frames.Frames.lose.Goals as goal

pub loop-page-smaller : goal.loop-page-smaller
loop-page-smaller g c =
    let limit = c.drop_page.ensures.limit in
    let same = ap (λ (t : Table). limit_of t.index) c.self.view_is in
    omega (arith, limit, same, c.loop-page-test.true, c.limit.ensures)

pub loop-page-preserved : goal.loop-page-preserved
loop-page-preserved g c =
    let limit = c.drop_page.ensures.limit in
    let same = ap (λ (t : Table). limit_of t.index) c.self.view_is in
    (omega (arith, limit, same, c.loop-page-test.true, c.limit.ensures), one_lost c.loop-page.page _ _ _ _ (omega arith) c.loop-page.invariant.1 c.drop_page.ensures)

pub returns : goal.returns
returns g c =
    let same = ap (λ (t : Table). limit_of t.index) (c.self.view_is ∙ sym c.self-2.view_is) in
    let pages = c.self-2.invariant.pages in
    all_lost _ c.forget_written.new.self c.forget_written.ensures c.loop-page.page _ (omega (arith, pages, same, c.loop-page-test.false, c.limit.ensures))
    (subst (LosesUpTo c.loop-page.page c.args.self.now) (sym c.self-2.view_is) c.loop-page.invariant.1)
