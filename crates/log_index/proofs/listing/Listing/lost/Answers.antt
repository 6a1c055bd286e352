use Rattle.log_index.proofs.Listings.{lost_told}
use Rattle.log_index.proofs.listing.Listing.lost.Goals as goal

pub returns : goal.returns
returns c log h = lost_told log c.args.self.now h
