use Rattle.log_index.proofs.Listings.{next_tx_told}
use Rattle.log_index.proofs.listing.Listing.next_tx.Goals as goal

pub returns : goal.returns
returns c log h = next_tx_told log c.args.self.now h
