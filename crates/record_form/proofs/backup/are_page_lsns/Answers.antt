use Rattle.std.proofs.Common.{arith, refl, take, slice_index_or}
use Rattle.std.specs.Prelude.{IsTrue}
use Rattle.wal_record.specs.Rules.{page_lsn_fits}
use Rattle.wal_record.specs.declared.record.PageLsn.{PageLsn}
use Rattle.record_form.proofs.Along.{along_none, along_more, along_at, along_whole, top_more, item_is}
use Rattle.record_form.proofs.Pages.{page_above, page_goes_on}
use Rattle.record_form.proofs.backup.are_page_lsns.Goals as goal

abbrev none : PageLsn
none = record { page = 0; lsn = 0 }

pub loop-page-init : goal.loop-page-init
loop-page-init c = record { last = refl; fit = along_none (λ before p. IsTrue (page_lsn_fits before p)) c.args.pages.now }

pub returns-then-not-page_follows-clause-all : goal.returns-then-not-page_follows-clause-all
returns-then-not-page_follows-clause-all c all =
    let one = page_above (take c.loop-page.page-index c.args.pages.now) (slice_index_or c.args.pages.now c.loop-page.page-index none) c.loop-page.last c.loop-page.invariant.last (along_at (λ before p. IsTrue (page_lsn_fits before p)) c.args.pages.now c.loop-page.page-index (slice_index_or c.args.pages.now c.loop-page.page-index none) (item_is c.args.pages.now c.loop-page.page-index none c.loop-page-test.true) c.loop-page-test.true all) in
    c.if-not-page_follows.ensures.all one.0 one.1 one.2

pub loop-page-preserved : goal.loop-page-preserved
loop-page-preserved c =
    let follows = c.if-not-page_follows.ensures.follows refl in
    record {
      last = top_more (λ (x : PageLsn). x.page) c.args.pages.now c.loop-page.page-index _ (slice_index_or c.args.pages.now c.loop-page.page-index none) (item_is c.args.pages.now c.loop-page.page-index none c.loop-page-test.true) (omega arith) c.loop-page-test.true;
      fit = along_more (λ before p. IsTrue (page_lsn_fits before p)) c.args.pages.now c.loop-page.page-index _ (slice_index_or c.args.pages.now c.loop-page.page-index none) (item_is c.args.pages.now c.loop-page.page-index none c.loop-page-test.true) (omega arith) c.loop-page-test.true c.loop-page.invariant.fit
          (page_goes_on (take c.loop-page.page-index c.args.pages.now) (slice_index_or c.args.pages.now c.loop-page.page-index none) c.loop-page.last c.loop-page.invariant.last follows.0 follows.1 follows.2);
    }

pub returns-clause-fit : goal.returns-clause-fit
returns-clause-fit c true = along_whole (λ before p. IsTrue (page_lsn_fits before p)) c.args.pages.now c.loop-page.page-index (omega (arith, c.loop-page-test.false)) c.loop-page.invariant.fit
