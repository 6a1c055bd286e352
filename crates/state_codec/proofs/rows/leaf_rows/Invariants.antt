use Rattle.std.proofs.Common.{◌≡◌, ◌+◌, ◌-◌, ◌≤◌, []}
use Rattle.std.specs.List.{sum_by}
use Rattle.wal_record.specs.State.{leaf_row_size}
use Rattle.wal_record.specs.Reading.{items_at, leaf_row_at}
use Rattle.state_codec.proofs.rows.leaf_rows.Given as goal

abbrev pub invariant-loop : goal.invariant-loop
invariant-loop l = record {
  same : items_at (leaf_row_at (record { low = l.low; high = l.end }) l.used) (l.count - l.counter) l.found l.rest ≡ items_at (leaf_row_at (record { low = l.low; high = l.end }) l.used) l.count [] l.bytes;
  taken : l.taken ≡ l.used + sum_by leaf_row_size l.found;
  small : l.taken ≤ 4051;
}
