use Rattle.std.proofs.Common.{◌∙◌}
use Rattle.log_index.proofs.Listings.{runs_told}
use Rattle.log_index.proofs.listing.Listing.runs.Goals as goal

pub returns : goal.returns
returns c log h = c.as_slice.ensures.value ∙ runs_told log c.args.self.now h
