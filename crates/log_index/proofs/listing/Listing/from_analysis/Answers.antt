use Rattle.std.proofs.Common.{◌≡◌, ◌<◌, subst}
use Rattle.std.specs.Prelude.{◌^◌}
use Rattle.wal_record.specs.declared.record.Checkpoint.{Checkpoint}
use Rattle.listing_laws.specs.Summary.{pending_in}
use Rattle.log_index.specs.Table.{AreListed}
use Rattle.log_index.specs.Listing.{summary}
use Rattle.log_index.proofs.Listings.{analysis_listing}
use Rattle.log_index.proofs.listing.Listing.from_analysis.Goals as goal

pub returns-clause-listing : goal.returns-clause-listing
returns-clause-listing c log lawful is at last_at =
    analysis_listing log c.args.analysis.now c.args.last c.args.checkpoint c.in_ok-from_parts.field-0 lawful is at last_at
    (subst (λ (l : Checkpoint). AreListed l.transactions → summary c.in_ok-from_parts.field-0 ≡ record { last = c.args.last; checkpoint = c.args.checkpoint; listed = l }) c.in_ok-listed.ensures c.in_ok-from_parts.ensures.summary)
    (subst (λ (l : Checkpoint). pending_in l.transactions < 2 ^ 64 → (c.in_ok-from_parts.field-0).pending ≡ pending_in l.transactions) c.in_ok-listed.ensures c.in_ok-from_parts.ensures.pending)
