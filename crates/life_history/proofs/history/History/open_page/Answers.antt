use Rattle.std.proofs.Common.{arith, ap, ◌∙◌}
use Rattle.wal_record.specs.Books.{page_book}
use Rattle.life_history.proofs.Small.{kept_page, small_opened}
use Rattle.life_history.proofs.history.History.open_page.Goals as goal

pub open-requires : goal.open-requires
open-requires g c = record { fresh = c.self.invariant.2.pages c.args.page (omega (arith, c.if-page-self.false)) }

pub invariant_of-self : goal.invariant_of-self
invariant_of-self g c = (
  c.self.invariant.0,
  kept_page _ _ _ _ _ _ _ _ _ _ c.self.invariant.1 (c.self.invariant.2.pages c.args.page (omega (arith, c.if-page-self.false))) (λ opening stands. ap (λ h. page_book opening h c.args.page) c.self.view_is ∙ c.requires.fresh opening stands) c.open.ensures.book,
  small_opened _ _ _ _ _ _ (omega (arith, c.if-page-self.false)) c.open.ensures.book c.self.invariant.2,
  c.self.invariant.3,
)
