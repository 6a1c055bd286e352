use Rattle.std.proofs.Common.{◌≡◌, true, false, refl, sym, ◌∙◌, arith}
use Rattle.wal_record.specs.Chains.{names_at}
use Rattle.wal_record.specs.declared.record.PageLsn.{PageLsn}
use Rattle.upkeep_judge.proofs.Pages.{all_begin, all_end, all_more, all_not}
use Rattle.upkeep_judge.proofs.backups.are_images.Goals as goal

abbrev none : PageLsn
none = record { page = 0; lsn = 0 }

pub loop-page-init : goal.loop-page-init
loop-page-init c = λ log n last. all_begin (λ (x : PageLsn). names_at log x.lsn x.page) c.args.pages.now

pub returns-then-not-names_at : goal.returns-then-not-names_at
returns-then-not-names_at c = λ log n last.
    (λ t. absurd (cc t), λ all. (let both : true ≡ false = sym (all_not (λ (x : PageLsn). names_at log x.lsn x.page) c.args.pages.now c.loop-page.page-index none c.loop-page-test.true all) ∙ sym (c.names_at.ensures log n last) ∙ c.if-not-names_at.true in absurd (cc both)))

pub loop-page-preserved : goal.loop-page-preserved
loop-page-preserved c = λ log n last.
    all_more (λ (x : PageLsn). names_at log x.lsn x.page) c.args.pages.now c.loop-page.page-index none c.loop-page-test.true (c.loop-page.invariant log n last) (sym (c.names_at.ensures log n last) ∙ c.if-not-names_at.false)

pub returns : goal.returns
returns c = λ log n last.
    (λ t. all_end (λ (x : PageLsn). names_at log x.lsn x.page) c.args.pages.now c.loop-page.page-index (omega (arith, c.loop-page-test.false)) (c.loop-page.invariant log n last), λ all. refl)
