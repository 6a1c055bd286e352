use Rattle.std.proofs.Common.{◌≡◌, ◌++◌, drop}
use Rattle.std.specs.Prelude.{flat_map}
use Rattle.wal_record.specs.Spelling.{page_head_bytes}
use Rattle.record_codec.proofs.list_writing.put_page_heads_items.Given as goal

abbrev pub invariant-loop-item : goal.invariant-loop-item
invariant-loop-item l = l.out.items ++ flat_map page_head_bytes (drop l.item-index l.items) ≡ l.fn.out.items ++ flat_map page_head_bytes l.items
