use Rattle.std.proofs.Common.{◌∙◌, ap}
use Rattle.listing_laws.specs.Summary.{entry_at}
use Rattle.log_index.proofs.Listings.{entry_told}
use Rattle.log_index.proofs.listing.Listing.entry.Goals as goal

pub returns : goal.returns
returns c log h lawful = c.entry_of.ensures ∙ ap (entry_at c.args.page) c.deref.ensures.value ∙ entry_told log c.args.self.now h lawful c.args.page
