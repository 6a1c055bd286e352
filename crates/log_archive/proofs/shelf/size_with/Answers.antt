use Rattle.std.proofs.Common.{ap, ◌∙◌, arith}
use Rattle.wal_record.specs.Chains.{names}
use Rattle.log_archive.specs.Shelves.{on_shelf}
use Rattle.log_archive.proofs.Sizes.{size_more}
use Rattle.log_archive.proofs.shelf.size_with.Goals as goal

pub returns : goal.returns
returns c = λ items x same len size.
    let page = c.pages_of-page.result.0 in
    let other = c.pages_of-page.result.1 in
    let pages = c.pages_of-page.ensures in
    let more = size_more items x page other (λ p. ap (names p) same ∙ pages.named p) pages.apart pages.pages.0 pages.pages.1 in
    let one = ap (on_shelf page) len in
    let two = ap (on_shelf other) len in
    omega (arith, more, one, two, size, c.with_shelf.ensures, c.with_shelf-2.ensures)
