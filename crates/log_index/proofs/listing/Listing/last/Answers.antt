use Rattle.log_index.proofs.Listings.{last_told}
use Rattle.log_index.proofs.listing.Listing.last.Goals as goal

pub returns : goal.returns
returns c log h = last_told log c.args.self.now h
