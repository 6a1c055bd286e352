use Rattle.std.proofs.Common.{◌∙◌, ap}
use Rattle.wal_record.specs.Upkeep.{archived}
use Rattle.log_index.proofs.Listings.{runs_told}
use Rattle.log_index.proofs.listing.Listing.archived.Goals as goal

pub returns : goal.returns
returns c log h = c.archived.ensures ∙ ap archived (c.deref.ensures.value ∙ runs_told log c.args.self.now h)
