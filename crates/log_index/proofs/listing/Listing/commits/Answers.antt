use Rattle.log_index.proofs.Listings.{commits_told}
use Rattle.log_index.proofs.listing.Listing.commits.Goals as goal

pub returns : goal.returns
returns c log h = commits_told log c.args.self.now h
