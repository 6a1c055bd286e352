use Rattle.std.proofs.Common.{◌∷◌, ◌++◌, [], ◌∙◌, ap}
use Rattle.wal_record.specs.Chains.{names}
use Rattle.log_archive.specs.Items.{on_page}
use Rattle.log_archive.specs.Shelves.{and_item}
use Rattle.log_archive.proofs.Filled.{holds_same, record_more}
use Rattle.log_archive.proofs.shelf.add_record.Goals as goal

pub returns : goal.returns
returns c = record {
  few = λ le. c.in_ok-add_one-2.ensures.few (c.in_ok-add_one.ensures.few le);
  more = λ items x same spelled holds.
      let page = c.pages_of-page.result.0 in
      let other = c.pages_of-page.result.1 in
      let one = c.in_ok-add_one.ensures.more (λ p. on_page p items) x spelled holds in
      let two = c.in_ok-add_one-2.ensures.more (and_item (λ p. on_page p items) page x) x spelled one in
      holds_same c.add_one-2.new.shelves.items (and_item (and_item (λ p. on_page p items) page x) other x) (λ p. on_page p (items ++ x ∷ [])) (record_more items x page other (λ p. ap (names p) same ∙ c.pages_of-page.ensures.named p) c.pages_of-page.ensures.apart) two;
}
