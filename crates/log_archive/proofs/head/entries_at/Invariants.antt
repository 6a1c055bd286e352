use Rattle.std.proofs.Common.{◌≡◌, ◌-◌, []}
use Rattle.wal_record.specs.Reading.{items_at}
use Rattle.log_archive.specs.Reading.{entry_at}
use Rattle.log_archive.proofs.head.entries_at.Given as goal

abbrev pub invariant-loop : goal.invariant-loop
invariant-loop l = items_at entry_at (l.count - l.counter) l.found l.rest ≡ items_at entry_at l.count [] l.bytes
