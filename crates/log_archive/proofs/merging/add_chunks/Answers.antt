use Rattle.log_archive.proofs.Merged.{starts_walk, walk_ends, walks_on}
use Rattle.log_archive.proofs.merging.add_chunks.Goals as goal

pub loop-entry-init : goal.loop-entry-init
loop-entry-init c = record { walks = starts_walk c.args.head c.args.entries.now c.args.bytes.now c.args.shelves.now.items; few = λ h. h }

pub loop-entry-preserved : goal.loop-entry-preserved
loop-entry-preserved c =
    let inv = c.loop-entry.invariant in
    record {
      walks = walks_on c.args.head c.args.entries.now c.args.bytes.now c.loop-entry.rest.now c.in_ok-rest.rest.now c.args.shelves.now.items c.loop-entry.shelves.items _ c.loop-entry.entry-index (record { page = 0; count = 0; offset = 0 }) c.loop-entry-test.true inv.walks c.in_ok-rest.ensures.added (λ h. c.in_ok-rest.ensures.few (inv.few h));
      few = λ h. c.in_ok-rest.ensures.few (inv.few h);
    }

pub returns-clause-added : goal.returns-clause-added
returns-clause-added c = λ chunks has f holds. walk_ends c.args.head c.args.entries.now c.args.bytes.now c.loop-entry.rest.now c.args.shelves.now.items c.loop-entry.shelves.items c.loop-entry.entry-index c.loop-entry-test.false c.loop-entry.invariant.walks chunks has f holds
