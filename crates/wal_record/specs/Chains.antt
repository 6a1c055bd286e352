-- The chains of a log: which pages and which transaction a record names, the last record of each, and
-- the number of pages. Chains of transactions serve undo (Mohan et al. 1992), chains of pages
-- single-page repair (Graefe and Kuno 2012). The record at place n, from 1, has the LSN n.
use Rattle.std.specs.Prelude.{ℕ, ◌+◌, zero, suc, max, List, [], ◌∷◌, length, Option, Some, None, slice_get, Bool, false, ◌||◌, ◌==◌, if◌then◌else◌}
use Rattle.std.specs.Option.{option_map_or}
use Rattle.store_model.specs.Along.{along}
use Rattle.wal_record.specs.declared.record.Record.{Record}
use Rattle.wal_record.specs.declared.record.Record.TheVariants as kinds

-- ---- pages

-- the record names the page, and is on its chain
abbrev pub names : ℕ → Record → Bool
names p (kinds.Format f) = p == 1
names p (kinds.Write w) = p == w.page
names p (kinds.Apply a) = p == a.page
names p (kinds.Undo u) = p == u.page
names p (kinds.Split s) = (p == s.page) || (p == s.child)
names p (kinds.Adopt a) = (p == a.parent) || (p == a.fosterer)
names p (kinds.Grow g) = (p == 1) || (p == g.child)
names p (kinds.Purge g) = p == g.page
names p _ = false

-- a field of a record that tells the record before it of a page, and that page
pub record PageLink : Type 0 where
  pub page : ℕ
  pub prev : ℕ

abbrev pub page_links : Record → List PageLink
page_links (kinds.Write w) = record { page = w.page; prev = w.page_prev } ∷ []
page_links (kinds.Apply a) = record { page = a.page; prev = a.page_prev } ∷ []
page_links (kinds.Undo u) = record { page = u.page; prev = u.page_prev } ∷ []
page_links (kinds.Split s) = record { page = s.page; prev = s.page_prev } ∷ []
page_links (kinds.Adopt a) = record { page = a.parent; prev = a.parent_prev } ∷ record { page = a.fosterer; prev = a.fosterer_prev } ∷ []
page_links (kinds.Grow g) = record { page = 1; prev = g.page_prev } ∷ []
page_links (kinds.Purge g) = record { page = g.page; prev = g.page_prev } ∷ []
page_links _ = []

-- the page head: the LSN of the last record that names the page, 0 for none
unfoldable pub head : List Record → ℕ → ℕ
head log p = along (λ before h r. if names p r then length before + 1 else h) 0 log

abbrev pub pages_step : ℕ → Record → ℕ
pages_step n (kinds.Format f) = suc n
pages_step n (kinds.Split s) = suc n
pages_step n (kinds.Grow g) = suc n
pages_step n _ = n

-- the page count: Format, Split and Grow each make a page
unfoldable pub pages : List Record → ℕ
pages log = along (λ before n r. pages_step n r) 0 log

-- ---- transactions

-- the transaction that a record names, and the LSN of that one's record before it
pub record Link : Type 0 where
  pub tx : ℕ
  pub prev : ℕ

abbrev pub link_of : Record → Option Link
link_of (kinds.Write w) = Some (record { tx = w.tx; prev = w.prev })
link_of (kinds.Apply a) = Some (record { tx = a.tx; prev = a.prev })
link_of (kinds.Undo u) = Some (record { tx = u.tx; prev = u.prev })
link_of (kinds.Commit c) = Some (record { tx = c.tx; prev = c.prev })
link_of (kinds.End e) = Some (record { tx = e.tx; prev = e.prev })
link_of _ = None

abbrev pub is_link_of : ℕ → Option Link → Bool
is_link_of t None = false
is_link_of t (Some l) = l.tx == t

-- the transaction's last record: its LSN, 0 for none
unfoldable pub last : List Record → ℕ → ℕ
last log t = along (λ before n r. if is_link_of t (link_of r) then length before + 1 else n) 0 log

-- the record is the transaction's commit or end
abbrev pub finishes : ℕ → Record → Bool
finishes t (kinds.Commit c) = c.tx == t
finishes t (kinds.End e) = e.tx == t
finishes t _ = false

abbrev pub tx_or_none : Option Link → ℕ
tx_or_none None = 0
tx_or_none (Some l) = l.tx

-- the transaction that the record names, 0 for none
abbrev pub tx_of : Record → ℕ
tx_of r = tx_or_none (link_of r)

-- the greatest number of a transaction that the log names, 0 for none
unfoldable pub greatest : List Record → ℕ
greatest log = along (λ before n r. max n (tx_of r)) 0 log

-- ---- places

-- the record with this LSN, if the log has one
abbrev pub record_with : List Record → ℕ → Option Record
record_with log zero = None
record_with log (suc n) = slice_get log n

-- the record with this LSN names the page
abbrev pub names_at : List Record → ℕ → ℕ → Bool
names_at log lsn p = option_map_or (names p) (record_with log lsn) false
