use Rattle.log_index.proofs.Listings.{pending_told}
use Rattle.log_index.proofs.listing.Listing.pending.Goals as goal

pub returns : goal.returns
returns c log h = pending_told log c.args.self.now h
