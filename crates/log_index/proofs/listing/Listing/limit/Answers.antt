use Rattle.log_index.proofs.Listings.{limit_told}
use Rattle.log_index.proofs.listing.Listing.limit.Goals as goal

pub returns : goal.returns
returns c log h = limit_told log c.args.self.now h
