-- The bytes of an archive run: a head, a directory of pages, and the items page by page (Graefe, Guy and Sauer 2015).
use Rattle.std.specs.Prelude.{◌≡◌, ℕ, ◌+◌, ◌*◌, ◌-◌, ◌^◌, ◌<◌, ◌≤◌, List, [], ◌∷◌, ◌++◌, length, flat_map, IsTrue}
use Rattle.std.specs.Int.{w32, w64}
use Rattle.store_model.specs.declared.object.ObjectName.{ObjectName}
use Rattle.store_model.specs.declared.object.ObjectKind.TheVariants as names_of
use Rattle.wal_record.specs.Chains.{names}
use Rattle.wal_record.specs.Rules.{HasSpelling, is_number, is_page}
use Rattle.wal_record.specs.Spelling.{number_bytes, spelling}
use Rattle.log_archive.specs.Items.{Chunk, chunks_of}
use Rattle.log_archive.specs.declared.item.Numbered.{Numbered}
use Rattle.log_archive.specs.declared.directory.Entry.{Entry}
use Rattle.log_archive.specs.declared.layout.TheConstants.{MARK, DIRECTORY_AT, ENTRY_BYTES}

-- an LSN, the length of the record, and the record
abbrev pub item_bytes : Numbered → List ℕ
item_bytes x = number_bytes w64 x.lsn ++ number_bytes w32 (length (spelling x.rec)) ++ spelling x.rec

abbrev pub items_bytes : List Numbered → List ℕ
items_bytes items = flat_map item_bytes items

abbrev pub chunks_bytes : List Chunk → List ℕ
chunks_bytes chunks = flat_map (λ (c : Chunk). items_bytes c.items) chunks

-- how many bytes the items of a run have, those of each page together
abbrev pub items_size : List Numbered → ℕ
items_size items = length (chunks_bytes (chunks_of items))

-- a page, how many items it has, and where the first of them begins
abbrev pub entry_bytes : Entry → List ℕ
entry_bytes e = number_bytes w32 e.page ++ number_bytes w32 e.count ++ number_bytes w64 e.offset

-- the entries of these chunks, whose items begin at this byte
abbrev pub directory : ℕ → List Chunk → List Entry
directory at [] = []
directory at (c ∷ cs) = record { page = c.page; count = length c.items; offset = at } ∷ directory (at + length (items_bytes c.items)) cs

-- four letters, the run's number, its first and last LSN, and how many pages come
abbrev pub head_bytes : ℕ → ℕ → ℕ → ℕ → List ℕ
head_bytes run first last pages = number_bytes w32 MARK ++ number_bytes w64 run ++ number_bytes w64 first ++ number_bytes w64 last ++ number_bytes w32 pages

abbrev pub items_at_byte : List Chunk → ℕ
items_at_byte chunks = DIRECTORY_AT + ENTRY_BYTES * length chunks

-- the object of a run
abbrev pub run_bytes : ℕ → ℕ → ℕ → List Chunk → List ℕ
run_bytes run first last chunks = head_bytes run first last (length chunks) ++ (flat_map entry_bytes (directory (items_at_byte chunks) chunks) ++ chunks_bytes chunks)

-- a record that has bytes in the log's form
abbrev pub IsSpelled : Numbered → Type 0
IsSpelled x = HasSpelling x.rec

-- an item of the page, above this LSN
pub record IsItem (page last above : ℕ) (x : Numbered) : Type 0 where
  pub rises : above < x.lsn
  pub within : x.lsn ≤ last
  pub on_page : IsTrue (names page x.rec)
  pub spelled : HasSpelling x.rec

abbrev pub AreItems : ℕ → ℕ → ℕ → List Numbered → Type 0
AreItems page last above [] = Unit {0}
AreItems page last above (x ∷ xs) = IsItem page last above x × AreItems page last x.lsn xs

-- a page above this one, with at least one item
pub record IsChunk (first last above : ℕ) (c : Chunk) : Type 0 where
  pub page : IsTrue (is_page c.page)
  pub rises : above < c.page
  pub some : 1 ≤ length c.items
  pub fit : AreItems c.page last (first - 1) c.items

abbrev pub AreChunks : ℕ → ℕ → ℕ → List Chunk → Type 0
AreChunks first last above [] = Unit {0}
AreChunks first last above (c ∷ cs) = IsChunk first last above c × AreChunks first last c.page cs

-- the bytes are the object of a run with this range of LSNs and these chunks
pub record IsRun (run first last : ℕ) (chunks : List Chunk) (bytes : List ℕ) : Type 0 where
  pub begins : IsTrue (is_number first)
  pub ends : IsTrue (is_number last)
  pub order : first ≤ last
  pub fit : AreChunks first last 0 chunks
  pub spelled : bytes ≡ run_bytes run first last chunks
  pub short : length bytes < 2 ^ 32

abbrev pub run_name : ℕ → ObjectName
run_name run = record { kind = names_of.Run; id = run; part = 0 }
