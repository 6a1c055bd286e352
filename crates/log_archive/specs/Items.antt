-- The items of an archive run: records with their LSNs, page by page.
use Rattle.std.specs.Prelude.{ℕ, suc, ◌-◌, List, [], ◌∷◌, take, drop, filter, flat_map, nat_le, ◌==◌, if◌then◌else◌}
use Rattle.std.specs.List.{range_with_len}
use Rattle.store_model.specs.declared.limits.TheConstants.{MOST_PAGES}
use Rattle.wal_record.specs.Chains.{names}
use Rattle.wal_record.specs.declared.record.Record.{Record}
use Rattle.log_archive.specs.declared.item.Numbered.{Numbered}

-- the records with their LSNs, the first of which is this one
abbrev pub numbered : ℕ → List Record → List Numbered
numbered first [] = []
numbered first (r ∷ rs) = record { lsn = first; rec = r } ∷ numbered (suc first) rs

-- the records of a log from this LSN on, before the next one
abbrev pub part : ℕ → ℕ → List Record → List Record
part first next log = take (next - first) (drop (first - 1) log)

-- the items whose records name the page
abbrev pub on_page : ℕ → List Numbered → List Numbered
on_page page items = filter (λ (x : Numbered). names page x.rec) items

-- the items from an LSN on
abbrev pub from_lsn : ℕ → List Numbered → List Numbered
from_lsn from items = filter (λ (x : Numbered). nat_le from x.lsn) items

-- a page, and the items that name it by rising LSN
pub record Chunk : Type 0 where
  pub page : ℕ
  pub items : List Numbered

abbrev pub chunk : ℕ → List Numbered → List Chunk
chunk page [] = []
chunk page (x ∷ xs) = record { page = page; items = x ∷ xs } ∷ []

-- the pages up to this one that have items, by rising page
unfoldable pub chunks_upto : (ℕ → List Numbered) → ℕ → List Chunk
chunks_upto items_on most = flat_map (λ page. chunk page (items_on page)) (range_with_len 1 most)

-- all pages that have items
unfoldable pub chunks_by : (ℕ → List Numbered) → List Chunk
chunks_by items_on = chunks_upto items_on MOST_PAGES

abbrev pub chunks_of : List Numbered → List Chunk
chunks_of items = chunks_by (λ page. on_page page items)

-- the items of the page, none where it isn't there
abbrev pub items_on : ℕ → List Chunk → List Numbered
items_on page [] = []
items_on page (c ∷ cs) = if c.page == page then c.items else items_on page cs
