use Rattle.std.proofs.Common.{ap, ◌∙◌}
use Rattle.wal_record.specs.Upkeep.{archived}
use Rattle.log_index.proofs.Listings.{none_told, recycle_told}
use Rattle.log_index.proofs.listing.Listing.recycle_point.Goals as goal

pub returns-then-self-eq0 : goal.returns-then-self-eq0
returns-then-self-eq0 c log h lawful = none_told log c.args.self.now h lawful c.if-self-eq0.true

pub returns : goal.returns
returns c log h lawful = c.min.ensures ∙ recycle_told log c.args.self.now h lawful c.if-self-eq0.false c.archived.result c.saturating_add-next.result c.oldest_open-needed.result (c.archived.ensures ∙ ap archived c.deref.ensures.value) c.saturating_add-next.ensures
    c.oldest_open-needed.ensures
