use Rattle.std.proofs.Common.{◌∙◌, ap, sym}
use Rattle.wal_record.specs.OpenWrites.{has_items}
use Rattle.listing_laws.proofs.Transactions.{some_open}
use Rattle.log_index.proofs.Listings.{writes_told}
use Rattle.log_index.proofs.listing.Listing.is_loser.Goals as goal

pub returns : goal.returns
returns c log h lawful = c.has_writes.ensures ∙ ap has_items (writes_told log c.args.self.now h lawful c.args.tx) ∙ sym (some_open log c.args.tx)
