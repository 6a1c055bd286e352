use Rattle.std.proofs.Common.{◌∙◌, ap}
use Rattle.std.specs.List.{list_any}
use Rattle.store_model.specs.Range.{has_key}
use Rattle.wal_record.specs.declared.record.OpenWrite.{OpenWrite}
use Rattle.log_index.proofs.Listings.{writes_told}
use Rattle.log_index.proofs.listing.Listing.has_open_in.Goals as goal

pub returns : goal.returns
returns c log h lawful = c.has_open_in.ensures ∙ ap (list_any (λ (w : OpenWrite). has_key c.args.range.now w.key)) (writes_told log c.args.self.now h lawful c.args.tx)
