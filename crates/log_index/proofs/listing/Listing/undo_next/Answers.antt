use Rattle.std.proofs.Common.{◌∙◌, ap}
use Rattle.wal_record.specs.Checkpoints.{last_open}
use Rattle.log_index.proofs.Listings.{writes_told}
use Rattle.log_index.proofs.listing.Listing.undo_next.Goals as goal

pub returns : goal.returns
returns c log h lawful = c.undo_next.ensures ∙ ap last_open (writes_told log c.args.self.now h lawful c.args.tx)
