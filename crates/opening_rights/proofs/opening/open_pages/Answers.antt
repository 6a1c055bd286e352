use Rattle.std.proofs.Common.{◌∙◌, sym, subst, ◌+◌, arith}
use Rattle.opening_rights.specs.Opened.{ArePagesOf, NoneAbove}
use Rattle.opening_rights.proofs.Pages.{none_more, numbered, pages_more, ranges_more}
use Rattle.opening_rights.proofs.opening.open_pages.Goals as goal

pub loop-page-preserved : goal.loop-page-preserved
loop-page-preserved g c =
    let before = c.loop-page.invariant in
    let home = c.open_page.ensures.home in (
      omega (arith, c.loop-page-test.true),
      home.limit ∙ before.1,
      subst (NoneAbove (c.loop-page.page + 1)) (sym c.open_page.ensures.book) (none_more c.loop-page.page c.in_ok-head.head c.loop-page.book before.2),
      λ log is lawful. subst (ArePagesOf log (c.loop-page.page + 1) c.open_page.new.index) (sym c.open_page.ensures.book)
          (pages_more log c.loop-page.page _ _ c.loop-page.index c.open_page.new.index c.loop-page.book (c.in_ok-head.ensures.head log is lawful) (c.written_lsn-written.ensures log is lawful) before.2 home (before.3 log is lawful)),
      ranges_more c.loop-page.index c.open_page.new.index (c.loop-page.page + 1) _ _ home (numbered c.loop-page.page _ c.loop-page-test.true c.requires.most) c.in_ok-head.ensures.number before.4,
    )
