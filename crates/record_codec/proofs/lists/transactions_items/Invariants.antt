use Rattle.std.proofs.Common.{◌≡◌, ◌-◌, []}
use Rattle.wal_record.specs.Reading.{items_at, unfinished_at}
use Rattle.record_codec.proofs.lists.transactions_items.Given as goal

abbrev pub invariant-loop : goal.invariant-loop
invariant-loop l = items_at unfinished_at (l.count - l.counter) l.found l.rest ≡ items_at unfinished_at l.count [] l.bytes
