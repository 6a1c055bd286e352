use Rattle.std.proofs.Common.{◌∙◌, ap, List}
use Rattle.wal_record.specs.declared.analysis.PageHead.{PageHead}
use Rattle.listing_laws.specs.Summary.{entry_at}
use Rattle.log_index.proofs.Listings.{entry_told}
use Rattle.log_index.proofs.listing.Listing.written_lsn.Goals as goal

pub returns : goal.returns
returns c log h lawful = c.written_of.ensures ∙ ap (λ (hs : List PageHead). (entry_at c.args.page hs).written) c.deref.ensures.value ∙ ap (λ (e : PageHead). e.written) (entry_told log c.args.self.now h lawful c.args.page)
