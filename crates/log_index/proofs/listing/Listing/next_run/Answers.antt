use Rattle.log_index.proofs.Listings.{next_run_told}
use Rattle.log_index.proofs.listing.Listing.next_run.Goals as goal

pub returns : goal.returns
returns c log h = next_run_told log c.args.self.now h
