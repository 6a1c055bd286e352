use Rattle.std.proofs.Common.{◌≡◌, ◌++◌, drop}
use Rattle.std.specs.Prelude.{flat_map}
use Rattle.wal_record.specs.Spelling.{leaf_row_bytes}
use Rattle.state_codec.proofs.state_writing.put_leaf_items.Given as goal

abbrev pub invariant-loop-item : goal.invariant-loop-item
invariant-loop-item l = l.out.items ++ flat_map leaf_row_bytes (drop l.item-index l.items) ≡ l.fn.out.items ++ flat_map leaf_row_bytes l.items
