use Rattle.log_index.proofs.Listings.{checkpoint_listing}
use Rattle.log_index.proofs.listing.Listing.from_checkpoint.Goals as goal

pub returns-clause-listing : goal.returns-clause-listing
returns-clause-listing c before lawful at = checkpoint_listing before c.args.checkpoint.now c.args.lsn c.in_ok-from_parts.field-0 lawful at c.in_ok-from_parts.ensures.summary c.in_ok-from_parts.ensures.pending
