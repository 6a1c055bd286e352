use Rattle.std.proofs.Common.{◌≡◌, ◌+◌, ◌++◌, length, take, drop}
use Rattle.std.specs.Prelude.{flat_map}
use Rattle.std.specs.List.{sum_by}
use Rattle.wal_record.specs.State.{leaf_row_size}
use Rattle.wal_record.specs.Spelling.{leaf_row_bytes}
use Rattle.page_image.proofs.writing.put_leaf_items.Given as goal

abbrev pub invariant-loop-item : goal.invariant-loop-item
invariant-loop-item l = record {
  bytes : l.draft ++ flat_map leaf_row_bytes (drop l.item-index l.items) ≡ l.fn.draft ++ flat_map leaf_row_bytes l.items;
  len : length l.draft ≡ length l.fn.draft + sum_by leaf_row_size (take l.item-index l.items);
}
