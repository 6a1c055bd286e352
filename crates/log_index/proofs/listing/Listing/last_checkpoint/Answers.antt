use Rattle.log_index.proofs.Listings.{last_checkpoint_told}
use Rattle.log_index.proofs.listing.Listing.last_checkpoint.Goals as goal

pub returns : goal.returns
returns c log h = last_checkpoint_told log c.args.self.now h
