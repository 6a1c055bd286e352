use Rattle.log_index.proofs.Listings.{same_listing}
use Rattle.log_index.proofs.listing.Listing.prepare.Goals as goal

pub returns-in_err-prepare_parts-clause-same : goal.returns-in_err-prepare_parts-clause-same
returns-in_err-prepare_parts-clause-same c log h = same_listing log c.args.self.now c.prepare_parts.new.self c.prepare_parts.ensures.summary c.prepare_parts.ensures.pending h

pub returns-clause-same : goal.returns-clause-same
returns-clause-same c log h = same_listing log c.args.self.now c.prepare_parts.new.self c.prepare_parts.ensures.summary c.prepare_parts.ensures.pending h
