use Rattle.std.proofs.Common.{◌∙◌, ap, length}
use Rattle.log_index.proofs.Listings.{pages_told}
use Rattle.log_index.proofs.listing.Listing.pages.Goals as goal

pub returns : goal.returns
returns c log h = ap length c.as_slice.ensures.value ∙ pages_told log c.args.self.now h
