use Rattle.std.proofs.Common.{◌∙◌}
use Rattle.log_index.proofs.Listings.{analysis_told}
use Rattle.log_index.proofs.listing.Listing.analysis.Goals as goal

pub returns : goal.returns
returns c log h = c.in_ok-analysis_parts.ensures ∙ analysis_told log c.args.self.now h
