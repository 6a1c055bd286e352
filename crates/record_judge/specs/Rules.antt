-- The rules of a lawful record that need no page.
use Rattle.std.specs.Prelude.{◌≡◌, ℕ, List, not, min}
use Rattle.wal_record.specs.Chains.{link_of, page_links}
use Rattle.wal_record.specs.OpenWrites.{has_items}
use Rattle.wal_record.specs.Sound.{LinkRule, PageRule, RoomRule, UpkeepRule, ValueRule, is_format}
use Rattle.wal_record.specs.declared.record.Record.{Record}
use Rattle.wal_record.specs.declared.record.Record.TheVariants as kinds

pub record KeepsRules (log : List Record) (r : Record) : Type 0 where
  pub first : is_format r ≡ not (has_items log)
  pub chain : LinkRule log (link_of r)
  pub heads : PageRule log (page_links r)
  pub value : ValueRule log r
  pub room : RoomRule log r
  pub upkeep : UpkeepRule log r

-- ---- room

-- how many places the record takes
abbrev pub added : Record → ℕ
added (kinds.Format f) = 1
added (kinds.Write w) = 1
added (kinds.Apply a) = 1
added (kinds.Split s) = 1
added (kinds.Grow g) = 1
added _ = 0

-- how many it gives back, where its transaction has so many open writes
abbrev pub freed : ℕ → Record → ℕ
freed n (kinds.Undo u) = min n 1
freed n (kinds.Commit c) = n
freed n (kinds.End e) = n
freed n _ = 0
