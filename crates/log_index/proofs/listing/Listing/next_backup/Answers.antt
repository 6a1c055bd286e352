use Rattle.log_index.proofs.Listings.{next_backup_told}
use Rattle.log_index.proofs.listing.Listing.next_backup.Goals as goal

pub returns : goal.returns
returns c log h = next_backup_told log c.args.self.now h
