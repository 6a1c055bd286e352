use Rattle.std.proofs.Common.{◌∙◌}
use Rattle.log_index.proofs.Listings.{checkpoint_told}
use Rattle.log_index.proofs.listing.Listing.checkpoint.Goals as goal

pub returns : goal.returns
returns c log h = c.in_ok-checkpoint_parts.ensures ∙ checkpoint_told log c.args.self.now h
