use Rattle.std.proofs.Common.{◌∙◌, subst}
use Rattle.page_ops.specs.Claims.{Claims}
use Rattle.life_history.specs.Groups.{ArePagesSet, new_or}
use Rattle.life_history.proofs.Grouped.{claims_in_range}
use Rattle.life_history.proofs.raising.raise_pages.Goals as goal

pub invariant_of-rights : goal.invariant_of-rights
invariant_of-rights g c =
    claims_in_range c.args.lsn c.args.recs.now c.requires.few c.requires.numbers.0 c.requires.numbers.1 c.args.new c.requires.named _ c.rights.invariant _ _ _ c.raise_page.ensures.right c.raise_page-2.ensures.right
    (c.put_new.ensures ∙ (λ i. new_or (c.raise_page-4.ensures.right i) (c.raise_page-3.ensures.right i)))

pub returns-clause-pages : goal.returns-clause-pages
returns-clause-pages g c = subst (λ (x : Claims). ArePagesSet c.args.lsn c.args.recs.now x c.args.new c.args.book.now c.raise_page-4.new.book) c.rights.view_is (record {
  b1 = c.raise_page.new.book;
  b2 = c.raise_page-2.new.book;
  b3 = c.raise_page-3.new.book;
  first = c.raise_page.ensures.set;
  second = c.raise_page-2.ensures.set;
  third = c.raise_page-3.ensures.set;
  new = c.raise_page-4.ensures.set;
})
