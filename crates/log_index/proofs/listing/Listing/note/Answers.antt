use Rattle.log_index.proofs.Listings.{more_listing}
use Rattle.log_index.proofs.listing.Listing.note.Goals as goal

pub returns-clause-more : goal.returns-clause-more
returns-clause-more c log h lawful at short = more_listing log c.args.entry.now c.args.lsn c.args.self.now c.note_parts.new.self c.note_parts.ensures.summary c.note_parts.ensures.pending h lawful at short
