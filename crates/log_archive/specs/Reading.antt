-- Reading an archive run from the left, up to the first field that is cut or breaks its rule. A fault is the number of
-- bytes left where that field begins. Where a page's items begin is known when those before them are read; so an offset
-- is judged then.
use Rattle.std.specs.Prelude.{ℕ, zero, suc, ◌+◌, ◌*◌, ◌-◌, List, [], ◌∷◌, ◌++◌, length, Result, Ok, Err, Bool, ◌==◌, ◌&&◌, nat_lt, nat_le, if◌then◌else◌}
use Rattle.std.specs.Int.{w32, w64}
use Rattle.store_model.specs.declared.limits.TheConstants.{MOST_PAGES}
use Rattle.wal_record.specs.Chains.{names}
use Rattle.wal_record.specs.Rules.{is_number, is_page, rises_above}
use Rattle.wal_record.specs.Reading.{Read, ◌>>=◌, any_number, number_at, items_at, record_at}
use Rattle.wal_record.specs.declared.record.Record.{Record}
use Rattle.vault_objects.specs.Fields.{is_this}
use Rattle.log_archive.specs.declared.item.Numbered.{Numbered}
use Rattle.log_archive.specs.declared.directory.Entry.{Entry}
use Rattle.log_archive.specs.declared.directory.Head.{Head}
use Rattle.log_archive.specs.declared.directory.Outline.{Outline}
use Rattle.log_archive.specs.declared.layout.TheConstants.{MARK, DIRECTORY_AT, ENTRY_BYTES, OFFSET_IN}

abbrev pub is_last : ℕ → ℕ → Bool
is_last first n = is_number n && nat_le first n

abbrev pub is_count_of_pages : ℕ → Bool
is_count_of_pages n = nat_le n MOST_PAGES

-- the head of this run
unfoldable pub head_at : ℕ → List ℕ → Read Head
head_at run bytes = do
  mark ← number_at w32 (is_this MARK) bytes
  number ← number_at w64 (is_this run) mark.1
  first ← number_at w64 is_number number.1
  last ← number_at w64 (is_last first.0) first.1
  pages ← number_at w32 is_count_of_pages last.1
  Ok (record { first = first.0; last = last.0; pages = pages.0 }, pages.1)

abbrev pub is_next_page : List Entry → ℕ → Bool
is_next_page before n = is_page n && rises_above (λ (e : Entry). e.page) before n

unfoldable pub entry_at : List Entry → List ℕ → Read Entry
entry_at before bytes = do
  page ← number_at w32 (is_next_page before) bytes
  count ← number_at w32 (nat_le 1) page.1
  offset ← number_at w64 any_number count.1
  Ok (record { page = page.0; count = count.0; offset = offset.0 }, offset.1)

abbrev pub is_next_lsn : ℕ → ℕ → ℕ → Bool
is_next_lsn last above n = nat_lt above n && nat_le n last

-- The record of an item whose length is told to be this, where so many bytes were left at that field. It has to have that
-- length, and to name the page.
abbrev pub judged : ℕ → ℕ → ℕ → ℕ → List ℕ → Read Record → Read Numbered
judged page lsn size left bytes (Ok r) =
    if length bytes == size + length r.1 then (if names page r.0 then Ok (record { lsn = lsn; rec = r.0 }, r.1) else Err (length bytes)) else Err left
judged page lsn size left bytes (Err e) = Err e

-- an item of the page, above this LSN
unfoldable pub item_at : ℕ → ℕ → ℕ → List ℕ → Read Numbered
item_at page last above bytes = do
  lsn ← number_at w64 (is_next_lsn last above) bytes
  size ← number_at w32 any_number lsn.1
  judged page lsn.0 size.0 (length lsn.1) size.1 (record_at size.1)

-- what follows so many items
unfoldable pub behind_items : ℕ → ℕ → ℕ → ℕ → List ℕ → Result (List ℕ) ℕ
behind_items page last zero above bytes = Ok bytes
behind_items page last (suc n) above bytes = item_at page last above bytes >>= λ x. behind_items page last n x.0.lsn x.1

-- those of so many items that have this LSN or a greater one, behind the ones found before
unfoldable pub collected : ℕ → ℕ → ℕ → ℕ → ℕ → List Numbered → List ℕ → Result (List Numbered) ℕ
collected page last from zero above found bytes = Ok found
collected page last from (suc n) above found bytes = item_at page last above bytes >>= λ x. collected page last from n x.0.lsn (if nat_le from x.0.lsn then found ++ x.0 ∷ [] else found) x.1

-- what follows the items of an entry in an object of this size, of which so many entries stand before: they begin where
-- the entry says
unfoldable pub chunk_at : ℕ → Head → ℕ → Entry → List ℕ → Result (List ℕ) ℕ
chunk_at size head place e bytes =
    if e.offset + length bytes == size then behind_items e.page head.last e.count (head.first - 1) bytes else Err (size - (DIRECTORY_AT + ENTRY_BYTES * place + OFFSET_IN))

-- the items of these entries, behind which nothing follows
unfoldable pub chunks_at : ℕ → Head → ℕ → List Entry → List ℕ → Result ℕ ℕ
chunks_at size head place [] bytes = if length bytes == 0 then Ok 0 else Err (length bytes)
chunks_at size head place (e ∷ es) bytes = chunk_at size head place e bytes >>= λ rest. chunks_at size head (suc place) es rest

abbrev pub with_entries : Head → List Entry → Result ℕ ℕ → Result Outline ℕ
with_entries head entries (Ok n) = Ok (record { head = head; entries = entries })
with_entries head entries (Err left) = Err left

-- the object of this run, read from the left
unfoldable pub run_at : ℕ → List ℕ → Result Outline ℕ
run_at run bytes = do
  head ← head_at run bytes
  entries ← items_at entry_at head.0.pages [] head.1
  with_entries head.0 entries.0 (chunks_at (length bytes) head.0 0 entries.0 entries.1)
