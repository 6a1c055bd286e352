-- What is spelled is read again: items, entries, the head, and the whole object of a run.
use Rattle.std.proofs.Common.{◌≡◌, ◌≢◌, inl, inr, ℕ, suc, ◌+◌, ◌-◌, ◌*◌, ◌^◌, ◌<◌, ◌≤◌, Bool, true, false, cond, leb, ltb, List, [], ◌∷◌, ◌++◌, length, drop, Result, Ok, Err, refl, sym, ap, subst, ◌∙◌, append_assoc, arith}
use Rattle.std.specs.Prelude.{IsTrue, flat_map, nat_le}
use Rattle.std.specs.List.{All}
use Rattle.std.specs.Option.{option_map_or}
use Rattle.std.specs.Int.{w32, w64}
use Rattle.std.proofs.lemmas.Bool.Decides.{nat_tests}
use Rattle.std.proofs.lemmas.List.{append-nil, drop-drop, drop_at, length-append}
use Rattle.store_model.proofs.Bools.{and_true}
use Rattle.wal_record.specs.Chains.{names}
use Rattle.wal_record.specs.Rules.{is_number, is_page, rises_above}
use Rattle.wal_record.specs.Spelling.{number_bytes, spelling}
use Rattle.wal_record.specs.Reading.{Read, ◌>>=◌, any_number, items_at, number_at, record_at}
use Rattle.state_codec.proofs.Fields.{ok_is}
use Rattle.state_codec.proofs.FieldKinds.{a_number, lt_is_true}
use Rattle.state_codec.proofs.Rising.{last_push}
use Rattle.record_codec.proofs.AnyKind.{record_field}
use Rattle.vault_objects.specs.Fields.{is_this}
use Rattle.vault_objects.proofs.Numbers.{is_eq, is_same, number32, number64}
use Rattle.log_archive.specs.Items.{Chunk, from_lsn, items_on}
use Rattle.log_archive.specs.Reading.{behind_items, chunk_at, chunks_at, collected, entry_at, head_at, is_count_of_pages, is_last, is_next_lsn, is_next_page, item_at, judged, run_at, with_entries}
use Rattle.log_archive.specs.Answers.{IsEntryOf}
use Rattle.log_archive.specs.Run.{AreChunks, AreItems, IsItem, IsRun, chunks_bytes, directory, entry_bytes, head_bytes, item_bytes, items_bytes}
use Rattle.log_archive.specs.declared.directory.Entry.{Entry}
use Rattle.log_archive.specs.declared.directory.Head.{Head}
use Rattle.log_archive.specs.declared.directory.Outline.{Outline}
use Rattle.log_archive.specs.declared.item.Numbered.{Numbered}
use Rattle.log_archive.proofs.Loops.{not_eq}

pub le_is_true : (m n : ℕ) → m ≤ n → leb m n ≡ true
le_is_true m n h = grind (arith, nat_tests)

page_below : (n : ℕ) → IsTrue (is_page n) → (n < 2 ^ 32) × (1 ≤ n) × (n ≤ 16384)
page_below n h = (grind (arith, nat_tests), grind (arith, nat_tests), grind (arith, nat_tests))

pub number_below : (n : ℕ) → IsTrue (is_number n) → n < 2 ^ 64
number_below n h = grind (arith, nat_tests)

three : (a b c d : List ℕ) → (a ++ b ++ c) ++ d ≡ a ++ (b ++ (c ++ d))
three a b c d = simp append_assoc

five : (a b c d e f : List ℕ) → (a ++ b ++ c ++ d ++ e) ++ f ≡ a ++ (b ++ (c ++ (d ++ (e ++ f))))
five a b c d e f = simp append_assoc

-- ---- items

judged_same : (page : ℕ) (x : Numbered) (left : ℕ) (rest : List ℕ) → IsTrue (names page x.rec) → judged page x.lsn (length (spelling x.rec)) left (spelling x.rec ++ rest) (Ok (x.rec, rest)) ≡ Ok (x, rest)
judged_same page x left rest named =
    ap (λ (b : Bool). cond b (cond (names page x.rec) (Ok (x, rest)) (Err (length (spelling x.rec ++ rest)))) (Err left)) (is_eq (length (spelling x.rec ++ rest)) (length (spelling x.rec) + length rest) (length-append (spelling x.rec) rest))
    ∙ ap (λ (b : Bool). cond b (Ok (x, rest)) (Err (length (spelling x.rec ++ rest)))) named

with_size : ℕ → ℕ → ℕ → ℕ × List ℕ → Read Numbered
with_size page lsn left size = judged page lsn size.0 left size.1 (record_at size.1)

with_lsn : ℕ → ℕ × List ℕ → Read Numbered
with_lsn page lsn = number_at w32 any_number lsn.1 >>= with_size page lsn.0 (length lsn.1)

item_is : (page last above : ℕ) (bytes : List ℕ) → item_at page last above bytes ≡ (number_at w64 (is_next_lsn last above) bytes >>= with_lsn page)
unfolding item_at with_lsn with_size
item_is page last above bytes = refl

pub item_again : (page last above : ℕ) (x : Numbered) (rest : List ℕ) → IsItem page last above x → last < 2 ^ 64 → length (spelling x.rec) < 2 ^ 32 → item_at page last above (item_bytes x ++ rest) ≡ Ok (x, rest)
unfolding with_lsn with_size
item_again page last above x rest is big small =
    let r2 : List ℕ = spelling x.rec ++ rest in
    let r1 : List ℕ = number_bytes w32 (length (spelling x.rec)) ++ r2 in
    let within = is.within in
    ap (item_at page last above) (three (number_bytes w64 x.lsn) (number_bytes w32 (length (spelling x.rec))) (spelling x.rec) rest)
    ∙ item_is page last above (number_bytes w64 x.lsn ++ r1)
    ∙ ap (λ (r : Read ℕ). r >>= with_lsn page) ((number64 (is_next_lsn last above)).again x.lsn r1 (and_true _ _ (lt_is_true _ _ is.rises) (le_is_true _ _ is.within), omega arith))
    ∙ ap (λ (r : Read ℕ). r >>= with_size page x.lsn (length r1)) ((number32 any_number).again (length (spelling x.rec)) r2 (refl, small))
    ∙ ap (judged page x.lsn (length (spelling x.rec)) (length r1) r2) (record_field.again x.rec rest is.spelled)
    ∙ judged_same page x (length r1) rest is.on_page

lsn_long : (n : ℕ) → length (number_bytes w64 n) ≡ 8
unfolding number_bytes
lsn_long n = refl

-- an item's record is shorter than the item, which has 8 bytes at least
item_size : (x : Numbered) → 8 + length (spelling x.rec) ≤ length (item_bytes x)
item_size x = omega (arith, lsn_long x.lsn, length-append (number_bytes w64 x.lsn ++ number_bytes w32 (length (spelling x.rec))) (spelling x.rec), length-append (number_bytes w64 x.lsn) (number_bytes w32 (length (spelling x.rec))))

count_size : (xs : List Numbered) → length xs ≤ length (items_bytes xs)
count_size [] = omega arith
count_size (x ∷ xs) = let h = count_size xs in omega (arith, item_size x, length-append (item_bytes x) (items_bytes xs))

pub behind_again : (page last above : ℕ) (xs : List Numbered) (rest : List ℕ) → AreItems page last above xs → last < 2 ^ 64 → length (items_bytes xs) < 2 ^ 32 → behind_items page last (length xs) above (items_bytes xs ++ rest) ≡ Ok rest
unfolding behind_items
behind_again page last above [] rest fit big small = refl
behind_again page last above (x ∷ xs) rest fit big small =
    let parts = length-append (item_bytes x) (items_bytes xs) in
    let one = item_size x in
    ap (λ (t : List ℕ). item_at page last above t >>= λ (y : Numbered × List ℕ). behind_items page last (length xs) y.0.lsn y.1) (append_assoc (item_bytes x) (items_bytes xs) rest)
    ∙ ap (λ (r : Read Numbered). r >>= λ (y : Numbered × List ℕ). behind_items page last (length xs) y.0.lsn y.1) (item_again page last above x (items_bytes xs ++ rest) fit.0 big (omega arith))
    ∙ behind_again page last x.lsn xs rest fit.1 big (omega arith)

kept : (b : Bool) (found l : List Numbered) (x : Numbered) → cond b (found ++ x ∷ []) found ++ l ≡ found ++ cond b (x ∷ l) l
kept true found l x = append_assoc found (x ∷ []) l
kept false found l x = refl

pub collect_again : (page last from above : ℕ) (xs found : List Numbered) (rest : List ℕ) → AreItems page last above xs → last < 2 ^ 64 → length (items_bytes xs) < 2 ^ 32 → collected page last from (length xs) above found (items_bytes xs ++ rest) ≡ Ok (found ++ from_lsn from xs)
unfolding collected
collect_again page last from above [] found rest fit big small = ap (λ (l : List Numbered). let r : Result (List Numbered) ℕ = Ok l in r) (sym (append-nil found))
collect_again page last from above (x ∷ xs) found rest fit big small =
    let parts = length-append (item_bytes x) (items_bytes xs) in
    let one = item_size x in
    let more : List Numbered = cond (leb from x.lsn) (found ++ x ∷ []) found in
    ap (λ (t : List ℕ). item_at page last above t >>= λ (y : Numbered × List ℕ). collected page last from (length xs) y.0.lsn (cond (leb from y.0.lsn) (found ++ y.0 ∷ []) found) y.1) (append_assoc (item_bytes x) (items_bytes xs) rest)
    ∙ ap (λ (r : Read Numbered). r >>= λ (y : Numbered × List ℕ). collected page last from (length xs) y.0.lsn (cond (leb from y.0.lsn) (found ++ y.0 ∷ []) found) y.1) (item_again page last above x (items_bytes xs ++ rest) fit.0 big (omega arith))
    ∙ collect_again page last from x.lsn xs more rest fit.1 big (omega arith)
    ∙ ap (λ (l : List Numbered). let r : Result (List Numbered) ℕ = Ok l in r) (kept (leb from x.lsn) found (from_lsn from xs) x)

-- ---- the directory

with_count : ℕ → ℕ × List ℕ → Read Entry
with_count page count = number_at w64 any_number count.1 >>= λ (offset : ℕ × List ℕ). Ok (record { page = page; count = count.0; offset = offset.0 }, offset.1)

with_page : ℕ × List ℕ → Read Entry
with_page page = number_at w32 (nat_le 1) page.1 >>= with_count page.0

entry_is : (before : List Entry) (bytes : List ℕ) → entry_at before bytes ≡ (number_at w32 (is_next_page before) bytes >>= with_page)
unfolding entry_at with_page with_count
entry_is before bytes = refl

entry_again : (before : List Entry) (e : Entry) (rest : List ℕ) → IsTrue (is_next_page before e.page) → e.page < 2 ^ 32 → 1 ≤ e.count → e.count < 2 ^ 32 → e.offset < 2 ^ 64 → entry_at before (entry_bytes e ++ rest) ≡ Ok (e, rest)
unfolding with_page with_count
entry_again before e rest next page some count offset =
    let r2 : List ℕ = number_bytes w64 e.offset ++ rest in
    let r1 : List ℕ = number_bytes w32 e.count ++ r2 in
    ap (entry_at before) (three (number_bytes w32 e.page) (number_bytes w32 e.count) (number_bytes w64 e.offset) rest)
    ∙ entry_is before (number_bytes w32 e.page ++ r1)
    ∙ ap (λ (r : Read ℕ). r >>= with_page) ((number32 (is_next_page before)).again e.page r1 (next, page))
    ∙ ap (λ (r : Read ℕ). r >>= with_count e.page) ((number32 (nat_le 1)).again e.count r2 (le_is_true 1 e.count some, count))
    ∙ ap (λ (r : Read ℕ). r >>= λ (o : ℕ × List ℕ). Ok (record { page = e.page; count = e.count; offset = o.0 }, o.1)) ((number64 any_number).again e.offset rest (refl, offset))

rises_behind : (before : List Entry) (e : Entry) (n : ℕ) → e.page < n → rises_above (λ (x : Entry). x.page) (before ++ e ∷ []) n ≡ true
rises_behind before e n lt =
    subst (λ o. option_map_or (λ (x : Entry). ltb x.page n) o true ≡ true) (sym (last_push before e)) (lt_is_true e.page n lt)

entries_again : (first last above at : ℕ) (before : List Entry) (cs : List Chunk) (rest : List ℕ) → AreChunks first last above cs → ((n : ℕ) → above < n → rises_above (λ (x : Entry). x.page) before n ≡ true) → at + length (chunks_bytes cs) < 2 ^ 32
    → items_at entry_at (length cs) before (flat_map entry_bytes (directory at cs) ++ rest) ≡ Ok (before ++ directory at cs, rest)
unfolding items_at
entries_again first last above at before [] rest fit rises small = ap (λ (ys : List Entry). let r : Read (List Entry) = Ok (ys, rest) in r) (sym (append-nil before))
entries_again first last above at before (c ∷ cs) rest fit rises small =
    let parts = length-append (items_bytes c.items) (chunks_bytes cs) in
    let next : ℕ = at + length (items_bytes c.items) in
    let e : Entry = record { page = c.page; count = length c.items; offset = at } in
    let more : List ℕ = flat_map entry_bytes (directory next cs) in
    let p = page_below c.page fit.0.page in
    let some = fit.0.some in
    ap (λ (t : List ℕ). entry_at before t >>= λ (y : Entry × List ℕ). items_at entry_at (length cs) (before ++ y.0 ∷ []) y.1) (append_assoc (entry_bytes e) more rest)
    ∙ ap (λ (r : Read Entry). r >>= λ (y : Entry × List ℕ). items_at entry_at (length cs) (before ++ y.0 ∷ []) y.1)
    (entry_again before e (more ++ rest) (and_true _ _ fit.0.page (rises c.page fit.0.rises)) p.0 some (let k = count_size c.items in omega arith) (omega arith))
    ∙ entries_again first last c.page next (before ++ e ∷ []) cs rest fit.1 (λ n lt. rises_behind before e n lt) (omega arith)
    ∙ ap (λ (ys : List Entry). let r : Read (List Entry) = Ok (ys, rest) in r) (append_assoc before (e ∷ []) (directory next cs))

few_chunks : (first last above : ℕ) (cs : List Chunk) → AreChunks first last above cs → above ≤ 16384 → above + length cs ≤ 16384
few_chunks first last above [] fit le = omega arith
few_chunks first last above (c ∷ cs) fit le =
    let p = page_below c.page fit.0.page in
    let r = fit.0.rises in
    let h = few_chunks first last c.page cs fit.1 p.2 in
    omega arith

-- ---- the head

with_last : ℕ → ℕ × List ℕ → Read Head
with_last first last = number_at w32 is_count_of_pages last.1 >>= λ (pages : ℕ × List ℕ). Ok (record { first = first; last = last.0; pages = pages.0 }, pages.1)

with_first : ℕ × List ℕ → Read Head
with_first first = number_at w64 (is_last first.0) first.1 >>= with_last first.0

with_run : ℕ × List ℕ → Read Head
with_run number = number_at w64 is_number number.1 >>= with_first

with_mark : ℕ → ℕ × List ℕ → Read Head
with_mark run mark = number_at w64 (is_this run) mark.1 >>= with_run

the_mark : ℕ
the_mark = 1381322289

head_is : (run : ℕ) (bytes : List ℕ) → head_at run bytes ≡ (number_at w32 (is_this the_mark) bytes >>= with_mark run)
unfolding head_at with_mark with_run with_first with_last the_mark
head_is run bytes = refl

head_again : (run first last pages : ℕ) (rest : List ℕ) → run < 2 ^ 64 → IsTrue (is_number first) → IsTrue (is_number last) → first ≤ last → pages ≤ 16384 → head_at run (head_bytes run first last pages ++ rest) ≡ Ok (record { first = first; last = last; pages = pages }, rest)
unfolding with_mark with_run with_first with_last the_mark
head_again run first last pages rest r f l le n =
    let r4 : List ℕ = number_bytes w32 pages ++ rest in
    let r3 : List ℕ = number_bytes w64 last ++ r4 in
    let r2 : List ℕ = number_bytes w64 first ++ r3 in
    let r1 : List ℕ = number_bytes w64 run ++ r2 in
    ap (head_at run) (five (number_bytes w32 the_mark) (number_bytes w64 run) (number_bytes w64 first) (number_bytes w64 last) (number_bytes w32 pages) rest)
    ∙ head_is run (number_bytes w32 the_mark ++ r1)
    ∙ ap (λ (x : Read ℕ). x >>= with_mark run) ((number32 (is_this the_mark)).again the_mark r1 (is_same the_mark, omega arith))
    ∙ ap (λ (x : Read ℕ). x >>= with_run) ((number64 (is_this run)).again run r2 (is_same run, r))
    ∙ ap (λ (x : Read ℕ). x >>= with_first) (a_number.again first r3 f)
    ∙ ap (λ (x : Read ℕ). x >>= with_last first) ((number64 (is_last first)).again last r4 (and_true _ _ l (le_is_true first last le), number_below last l))
    ∙ ap (λ (x : Read ℕ). x >>= λ (p : ℕ × List ℕ). Ok (record { first = first; last = last; pages = p.0 }, p.1)) ((number32 is_count_of_pages).again pages rest (le_is_true pages 16384 n, omega arith))

-- ---- the whole object

chunks_again : (size above place at : ℕ) (head : Head) (cs : List Chunk) → AreChunks head.first head.last above cs → at + length (chunks_bytes cs) ≡ size → size < 2 ^ 32 → head.last < 2 ^ 64 → chunks_at size head place (directory at cs) (chunks_bytes cs) ≡ Ok 0
unfolding chunks_at chunk_at
chunks_again size above place at head [] fit total small big = refl
chunks_again size above place at head (c ∷ cs) fit total small big =
    let bytes : List ℕ = items_bytes c.items ++ chunks_bytes cs in
    let next : ℕ = at + length (items_bytes c.items) in
    let parts = length-append (items_bytes c.items) (chunks_bytes cs) in
    let wrong : ℕ = size - (32 + 16 * place + 8) in
    ap (λ (b : Bool). cond b (behind_items c.page head.last (length c.items) (head.first - 1) bytes) (Err wrong) >>= λ (rest : List ℕ). chunks_at size head (suc place) (directory next cs) rest) (is_eq (at + length bytes) size (omega arith))
    ∙ ap (λ (r : Result (List ℕ) ℕ). r >>= λ (rest : List ℕ). chunks_at size head (suc place) (directory next cs) rest) (behind_again c.page head.last (head.first - 1) c.items (chunks_bytes cs) fit.0.fit big (omega arith))
    ∙ chunks_again size c.page (suc place) next head cs fit.1 (omega arith) small big

entry_size : (e : Entry) → length (entry_bytes e) ≡ 16
unfolding number_bytes
entry_size e = simp length-append

directory_size : (at : ℕ) (cs : List Chunk) → length (flat_map entry_bytes (directory at cs)) ≡ 16 * length cs
directory_size at [] = refl
directory_size at (c ∷ cs) =
    let e : Entry = record { page = c.page; count = length c.items; offset = at } in
    let next : ℕ = at + length (items_bytes c.items) in
    let h = directory_size next cs in
    omega (arith, entry_size e, length-append (entry_bytes e) (flat_map entry_bytes (directory next cs)))

head_size : (run first last pages : ℕ) → length (head_bytes run first last pages) ≡ 32
unfolding number_bytes
head_size run first last pages = simp length-append

module _ (run first last : ℕ) (chunks : List Chunk) (bytes : List ℕ) (is : IsRun run first last chunks bytes) where
  start : ℕ
  start = 32 + 16 * length chunks

  dir : List ℕ
  dir = flat_map entry_bytes (directory (32 + 16 * length chunks) chunks)

  pub total_size : (32 + 16 * length chunks) + length (chunks_bytes chunks) ≡ length bytes
  total_size = omega (
    arith,
    ap length is.spelled,
    head_size run first last (length chunks),
    directory_size (32 + 16 * length chunks) chunks,
    length-append (head_bytes run first last (length chunks)) (flat_map entry_bytes (directory (32 + 16 * length chunks) chunks) ++ chunks_bytes chunks),
    length-append (flat_map entry_bytes (directory (32 + 16 * length chunks) chunks)) (chunks_bytes chunks),
  )

  pub the_items : drop (32 + 16 * length chunks) bytes ≡ chunks_bytes chunks
  the_items =
      let front : List ℕ = head_bytes run first last (length chunks) ++ flat_map entry_bytes (directory (32 + 16 * length chunks) chunks) in
      let size : length front ≡ 32 + 16 * length chunks = omega (arith, head_size run first last (length chunks), directory_size (32 + 16 * length chunks) chunks, length-append (head_bytes run first last (length chunks)) (flat_map entry_bytes (directory (32 + 16 * length chunks) chunks))) in
      ap (drop (32 + 16 * length chunks)) (is.spelled ∙ sym (append_assoc (head_bytes run first last (length chunks)) (flat_map entry_bytes (directory (32 + 16 * length chunks) chunks)) (chunks_bytes chunks)))
      ∙ drop_at front (chunks_bytes chunks) (32 + 16 * length chunks) size

  pub run_again : run < 2 ^ 64 → run_at run bytes ≡ Ok (record { head = record { first = first; last = last; pages = length chunks }; entries = directory (32 + 16 * length chunks) chunks })
  unfolding run_at
  run_again r =
      let hd : Head = record { first = first; last = last; pages = length chunks } in
      let es : List Entry = directory (32 + 16 * length chunks) chunks in
      let body : List ℕ = flat_map entry_bytes es ++ chunks_bytes chunks in
      let few : 0 + length chunks ≤ 16384 = few_chunks first last 0 chunks is.fit (omega arith) in
      let size = total_size in
      let short = is.short in
      let head : head_at run bytes ≡ Ok (hd, body) = ap (head_at run) is.spelled ∙ head_again run first last (length chunks) body r is.begins is.ends is.order (omega arith) in
      let entries : items_at entry_at (length chunks) [] body ≡ Ok (es, chunks_bytes chunks) = entries_again first last 0 (32 + 16 * length chunks) [] chunks (chunks_bytes chunks) is.fit (λ n lt. refl) (omega arith) in
      let items : chunks_at (length bytes) hd 0 es (chunks_bytes chunks) ≡ Ok 0 = chunks_again (length bytes) 0 0 (32 + 16 * length chunks) hd chunks is.fit size short (number_below last is.ends) in
      ap (λ (x : Read Head). x >>= λ (h : Head × List ℕ). items_at entry_at h.0.pages [] h.1 >>= λ (y : List Entry × List ℕ). with_entries h.0 y.0 (chunks_at (length bytes) h.0 0 y.0 y.1)) head
      ∙ ap (λ (x : Read (List Entry)). x >>= λ (y : List Entry × List ℕ). with_entries hd y.0 (chunks_at (length bytes) hd 0 y.0 y.1)) entries
      ∙ ap (with_entries hd es) items

-- ---- one page of it

-- where a page's items stand behind others
pub record StandsBehind (first last page at : ℕ) (cs : List Chunk) (e : Entry) : Type 0 where
  pub items : List Numbered
  pub mine : items_on page cs ≡ items
  pub count : e.count ≡ length items
  pub fit : AreItems page last (first - 1) items
  pub before : List ℕ
  pub after : List ℕ
  pub parts : chunks_bytes cs ≡ before ++ (items_bytes items ++ after)
  pub place : e.offset ≡ at + length before

page_above : (first last above at : ℕ) (cs : List Chunk) (e : Entry) → AreChunks first last above cs → IsEntryOf e (directory at cs) → above < e.page
page_above first last above at [] e fit among = absurd among
page_above first last above at (c ∷ cs) e fit (inl is) = let p : e.page ≡ c.page = ap (λ (x : Entry). x.page) is in let r = fit.0.rises in omega arith
page_above first last above at (c ∷ cs) e fit (inr more) = let r = fit.0.rises in let h = page_above first last c.page (at + length (items_bytes c.items)) cs e fit.1 more in omega arith

pub entry_stands : (first last above page at : ℕ) (cs : List Chunk) (e : Entry) → AreChunks first last above cs → IsEntryOf e (directory at cs) → e.page ≡ page → StandsBehind first last page at cs e
entry_stands first last above page at [] e fit among named = absurd among
entry_stands first last above page at (c ∷ cs) e fit (inl is) named =
    let p : c.page ≡ page = sym (ap (λ (x : Entry). x.page) is) ∙ named in
    record {
      items = c.items;
      mine = ap (λ (b : Bool). cond b c.items (items_on page cs)) (is_eq c.page page p);
      count = ap (λ (x : Entry). x.count) is;
      fit = subst (λ (n : ℕ). AreItems n last (first - 1) c.items) p fit.0.fit;
      before = [];
      after = chunks_bytes cs;
      parts = refl;
      place = let o : e.offset ≡ at = ap (λ (x : Entry). x.offset) is in omega arith;
    }
entry_stands first last above page at (c ∷ cs) e fit (inr more) named =
    let next : ℕ = at + length (items_bytes c.items) in
    let h = entry_stands first last c.page page next cs e fit.1 more named in
    let r = page_above first last c.page next cs e fit.1 more in
    let other : c.page ≢ page = λ same. omega (arith, r, same, named) in
    record {
      items = h.items;
      mine = ap (λ (b : Bool). cond b c.items (items_on page cs)) (not_eq c.page page other) ∙ h.mine;
      count = h.count;
      fit = h.fit;
      before = items_bytes c.items ++ h.before;
      after = h.after;
      parts = ap (λ (l : List ℕ). items_bytes c.items ++ l) h.parts ∙ sym (append_assoc (items_bytes c.items) h.before (items_bytes h.items ++ h.after));
      place = let o = h.place in omega (arith, length-append (items_bytes c.items) h.before);
    }

pub no_entry_none : (page at : ℕ) (cs : List Chunk) → All (λ (e : Entry). e.page ≢ page) (directory at cs) → items_on page cs ≡ []
no_entry_none page at [] none = refl
no_entry_none page at (c ∷ cs) none =
    let next : ℕ = at + length (items_bytes c.items) in
    let e : Entry = record { page = c.page; count = length c.items; offset = at } in
    ap (λ (b : Bool). cond b c.items (items_on page cs)) (not_eq c.page page (none 0 e (omega arith))) ∙ no_entry_none page next cs (λ k d lt. none (suc k) d (omega arith))

module _ (run first last : ℕ) (chunks : List Chunk) (bytes : List ℕ) (is : IsRun run first last chunks bytes) (r : run < 2 ^ 64) (o : Outline) (reads : run_at run bytes ≡ Ok o) where
  pub outline_is : o ≡ record { head = record { first = first; last = last; pages = length chunks }; entries = directory (32 + 16 * length chunks) chunks }
  outline_is = ok_is _ _ (sym reads ∙ run_again run first last chunks bytes is r)

  pub pages_are : o.head.pages ≡ length chunks
  pages_are = ap (λ (x : Outline). x.head.pages) outline_is

  pub none_there : (page : ℕ) → All (λ (e : Entry). e.page ≢ page) o.entries → items_on page chunks ≡ []
  none_there page none = no_entry_none page (32 + 16 * length chunks) chunks (subst (λ (x : Outline). All (λ (e : Entry). e.page ≢ page) x.entries) outline_is none)

  pub collects : (page from : ℕ) (e : Entry) (rest : List ℕ) → e.page ≡ page → IsEntryOf e o.entries → rest ≡ drop e.offset bytes → collected page o.head.last from e.count (o.head.first - 1) [] rest ≡ Ok (from_lsn from (items_on page chunks))
  collects page from e rest named among behind =
      let h = entry_stands first last 0 page (32 + 16 * length chunks) chunks e is.fit (subst (λ (x : Outline). IsEntryOf e x.entries) outline_is among) named in
      let text : List ℕ = items_bytes h.items ++ h.after in
      let there : rest ≡ text =
      behind ∙ ap (λ (n : ℕ). drop n bytes) h.place ∙ sym (drop-drop (length h.before) (32 + 16 * length chunks) bytes) ∙ ap (drop (length h.before)) (the_items run first last chunks bytes is ∙ h.parts) ∙ drop_at h.before text (length h.before) refl in
      let total = total_size run first last chunks bytes is in
      let short = is.short in
      let small : length (items_bytes h.items) < 2 ^ 32 = omega (arith, total, short, ap length h.parts, length-append h.before text, length-append (items_bytes h.items) h.after) in
      let l : o.head.last ≡ last = ap (λ (x : Outline). x.head.last) outline_is in
      let f : o.head.first ≡ first = ap (λ (x : Outline). x.head.first) outline_is in
      (λ i. collected page (l i) from (h.count i) (f i - 1) [] (there i)) ∙ collect_again page last from (first - 1) h.items [] h.after h.fit (number_below last is.ends) small
      ∙ ap (λ (xs : List Numbered). let x : Result (List Numbered) ℕ = Ok (from_lsn from xs) in x) (sym h.mine)
