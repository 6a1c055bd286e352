-- Shelves that are filled, and the chunks that they hold page by page.
use Rattle.std.proofs.Common.{◌≡◌, ℕ, zero, suc, ◌+◌, ◌-◌, ◌*◌, ◌<◌, ◌≤◌, Bool, true, false, cond, eqb, List, [], ◌∷◌, ◌++◌, length, get_or, Option, Some, refl, sym, ap, ◌∙◌, append_assoc, arith}
use Rattle.std.specs.Prelude.{flat_map, min, ◌||◌}
use Rattle.std.specs.List.{range_with_len}
use Rattle.std.proofs.lemmas.Grind.{flat_map-append}
use Rattle.std.proofs.lemmas.List.{append-nil, length-append, get_or_default, get_or_past, nil_from_length}
use Rattle.std.proofs.lemmas.List.Elements.{filter-append}
use Rattle.wal_record.specs.Chains.{names}
use Rattle.log_archive.specs.Items.{Chunk, chunk, chunks_by, chunks_upto, on_page}
use Rattle.log_archive.specs.Run.{chunks_bytes, directory, entry_bytes, head_bytes, item_bytes, items_bytes, run_bytes}
use Rattle.log_archive.specs.Shelves.{Holds, Shelved, and_item, is_that, nothing, shelf_at, shelf_of, with_more}
use Rattle.log_archive.specs.declared.directory.Entry.{Entry}
use Rattle.log_archive.specs.declared.item.Numbered.{Numbered}

-- ---- pages in order

range_more : (a n : ℕ) → range_with_len a (suc n) ≡ range_with_len a n ++ (a + n) ∷ []
range_more a zero = let e : a ≡ a + 0 = omega arith in ap (λ (k : ℕ). k ∷ []) e
range_more a (suc n) = let e : a + 1 + n ≡ a + suc n = omega arith in ap (λ (l : List ℕ). a ∷ l) (range_more (a + 1) n) ∙ ap (λ (k : ℕ). a ∷ (range_with_len (a + 1) n ++ k ∷ [])) e

pub upto_none : (f : ℕ → List Numbered) → chunks_upto f 0 ≡ []
unfolding chunks_upto
upto_none f = refl

pub upto_more : (f : ℕ → List Numbered) (n : ℕ) → chunks_upto f (n + 1) ≡ chunks_upto f n ++ chunk (suc n) (f (suc n))
unfolding chunks_upto
upto_more f n =
    let g : ℕ → List Chunk = λ page. chunk page (f page) in
    let e : n + 1 ≡ suc n = omega arith in
    let k : 1 + n ≡ suc n = omega arith in
    ap (λ (m : ℕ). flat_map g (range_with_len 1 m)) e ∙ ap (flat_map g) (range_more 1 n) ∙ flat_map-append g (range_with_len 1 n) ((1 + n) ∷ []) ∙ ap (λ (m : ℕ). flat_map g (range_with_len 1 n) ++ (g m ++ [])) k
    ∙ ap (λ (l : List Chunk). flat_map g (range_with_len 1 n) ++ l) (append-nil (g (suc n)))

module _ (shelves : List Shelved) (f : ℕ → List Numbered) (holds : Holds shelves f) where
  pub shelf_is : (i : ℕ) (s : Shelved) → i < length shelves → s ≡ get_or shelves i s → s ≡ shelf_of (f (suc i))
  shelf_is i s lt is = is ∙ get_or_default shelves i s nothing lt ∙ holds.each i

  past : (p : ℕ) → length shelves ≤ p → f (suc p) ≡ []
  past p le = nil_from_length (f (suc p)) (ap (λ (s : Shelved). s.count) (sym (holds.each p) ∙ get_or_past shelves p nothing le))

  none_past : (d n : ℕ) → n ≡ length shelves + d → chunks_upto f n ≡ chunks_upto f (length shelves)
  none_past zero n is = let e : n ≡ length shelves = omega arith in ap (chunks_upto f) e
  none_past (suc d) n is =
      let e : n ≡ (length shelves + d) + 1 = omega arith in
      let gone : chunk (suc (length shelves + d)) (f (suc (length shelves + d))) ≡ [] = ap (chunk (suc (length shelves + d))) (past (length shelves + d) (omega arith)) in
      ap (chunks_upto f) e ∙ upto_more f (length shelves + d) ∙ ap (λ (l : List Chunk). chunks_upto f (length shelves + d) ++ l) gone ∙ append-nil _ ∙ none_past d (length shelves + d) refl

  pub upto_all : chunks_by f ≡ chunks_upto f (length shelves)
  unfolding chunks_by
  upto_all = none_past (16384 - length shelves) 16384 (let few = holds.few in omega arith)

-- ---- what is written of a page

one_chunk : (page : ℕ) (items : List Numbered) → length (chunk page items) ≡ min 1 (length items)
one_chunk page [] = omega arith
one_chunk page (x ∷ xs) = omega arith

pub chunk_bytes : (page : ℕ) (items : List Numbered) → chunks_bytes (chunk page items) ≡ items_bytes items
chunk_bytes page [] = refl
chunk_bytes page (x ∷ xs) = append-nil _

pub count_more : (shelves : List Shelved) (f : ℕ → List Numbered) → Holds shelves f → (i : ℕ) (s : Shelved) → i < length shelves → s ≡ get_or shelves i s → length (chunks_upto f (i + 1)) ≡ length (chunks_upto f i) + min s.count 1
count_more shelves f holds i s lt is =
    let here = ap (λ (t : Shelved). t.count) (shelf_is shelves f holds i s lt is) in
    ap length (upto_more f i) ∙ length-append (chunks_upto f i) (chunk (suc i) (f (suc i))) ∙ (let one = one_chunk (suc i) (f (suc i)) in omega arith)

pub bytes_more : (shelves : List Shelved) (f : ℕ → List Numbered) → Holds shelves f → (i : ℕ) (s : Shelved) → i < length shelves → s ≡ get_or shelves i s → chunks_bytes (chunks_upto f (i + 1)) ≡ chunks_bytes (chunks_upto f i) ++ s.bytes
bytes_more shelves f holds i s lt is =
    ap chunks_bytes (upto_more f i) ∙ flat_map-append (λ (c : Chunk). items_bytes c.items) (chunks_upto f i) (chunk (suc i) (f (suc i)))
    ∙ ap (λ (l : List ℕ). chunks_bytes (chunks_upto f i) ++ l) (chunk_bytes (suc i) (f (suc i)) ∙ sym (ap (λ (t : Shelved). t.bytes) (shelf_is shelves f holds i s lt is)))

directory_append : (at : ℕ) (xs ys : List Chunk) → directory at (xs ++ ys) ≡ directory at xs ++ directory (at + length (chunks_bytes xs)) ys
directory_append at [] ys = let e : at ≡ at + 0 = omega arith in ap (λ (n : ℕ). directory n ys) e
directory_append at (c ∷ cs) ys =
    let next : ℕ = at + length (items_bytes c.items) in
    let e : next + length (chunks_bytes cs) ≡ at + length (chunks_bytes (c ∷ cs)) = omega (arith, length-append (items_bytes c.items) (chunks_bytes cs)) in
    ap (λ (l : List Entry). record { page = c.page; count = length c.items; offset = at } ∷ l) (directory_append next cs ys ∙ ap (λ (n : ℕ). directory next cs ++ directory n ys) e)

pub entries_more : (f : ℕ → List Numbered) (at i offset : ℕ) → offset ≡ at + length (chunks_bytes (chunks_upto f i))
    → flat_map entry_bytes (directory at (chunks_upto f (i + 1))) ≡ flat_map entry_bytes (directory at (chunks_upto f i)) ++ flat_map entry_bytes (directory offset (chunk (suc i) (f (suc i))))
entries_more f at i offset is =
    ap (λ (l : List Chunk). flat_map entry_bytes (directory at l)) (upto_more f i) ∙ ap (flat_map entry_bytes) (directory_append at (chunks_upto f i) (chunk (suc i) (f (suc i))))
    ∙ flat_map-append entry_bytes (directory at (chunks_upto f i)) (directory (at + length (chunks_bytes (chunks_upto f i))) (chunk (suc i) (f (suc i))))
    ∙ ap (λ (n : ℕ). flat_map entry_bytes (directory at (chunks_upto f i)) ++ flat_map entry_bytes (directory n (chunk (suc i) (f (suc i))))) (sym is)

pub no_entry : (s : Shelved) (page offset : ℕ) (items : List Numbered) → s ≡ shelf_of items → s.count ≡ 0 → flat_map entry_bytes (directory offset (chunk page items)) ≡ []
no_entry s page offset [] is none = refl
no_entry s page offset (x ∷ xs) is none = let e = ap (λ (t : Shelved). t.count) is in absurd (omega arith)

pub one_entry : (s : Shelved) (page offset : ℕ) (items : List Numbered) → s ≡ shelf_of items → 0 < s.count → flat_map entry_bytes (directory offset (chunk page items)) ≡ entry_bytes (record { page = page; count = s.count; offset = offset })
one_entry s page offset [] is some = let e = ap (λ (t : Shelved). t.count) is in absurd (omega arith)
one_entry s page offset (x ∷ xs) is some =
    append-nil _ ∙ ap (λ (n : ℕ). entry_bytes (record { page = page; count = n; offset = offset })) (sym (ap (λ (t : Shelved). t.count) is))

-- ---- filling

pub at_push : (xs : List Shelved) (p : ℕ) → shelf_at (xs ++ nothing ∷ []) p ≡ shelf_at xs p
at_push [] zero = refl
at_push [] (suc p) = refl
at_push (x ∷ xs) zero = refl
at_push (x ∷ xs) (suc p) = at_push xs p

pub holds_same : (shelves : List Shelved) (f g : ℕ → List Numbered) → ((p : ℕ) → f p ≡ g p) → Holds shelves f → Holds shelves g
holds_same shelves f g same holds = record { each = λ p. holds.each p ∙ ap shelf_of (same (suc p)); few = holds.few }

items_more : (items : List Numbered) (x : Numbered) → items_bytes (items ++ x ∷ []) ≡ items_bytes items ++ item_bytes x
items_more items x = flat_map-append item_bytes items (x ∷ []) ∙ ap (λ (l : List ℕ). items_bytes items ++ l) (append-nil (item_bytes x))

pub one_more : (old new : List Shelved) (page : ℕ) (bytes : List ℕ) (f : ℕ → List Numbered) (x : Numbered) → ((p : ℕ) → shelf_at new p ≡ with_more page 1 bytes p (shelf_at old p)) → length new ≤ 16384 → bytes ≡ item_bytes x → Holds old f → Holds new (and_item f (Some page) x)
one_more old new page bytes f x more few is holds = record { each = λ p. each p; few = few }
  where
    by : (p : ℕ) (b : Bool) → eqb (suc p) page ≡ b → shelf_at new p ≡ shelf_of (and_item f (Some page) x (suc p))
    by p true h =
        let a : with_more page 1 bytes p (shelf_at old p) ≡ record { count = (shelf_at old p).count + 1; bytes = (shelf_at old p).bytes ++ bytes } =
        ap (λ (b : Bool). cond b (record { count = (shelf_at old p).count + 1; bytes = (shelf_at old p).bytes ++ bytes }) (shelf_at old p)) h in
        let c : and_item f (Some page) x (suc p) ≡ f (suc p) ++ x ∷ [] = ap (λ (b : Bool). cond b (f (suc p) ++ x ∷ []) (f (suc p))) h in
        let count : (shelf_at old p).count + 1 ≡ length (f (suc p) ++ x ∷ []) = let e = ap (λ (s : Shelved). s.count) (holds.each p) in omega (arith, length-append (f (suc p)) (x ∷ [])) in
        let spelled : (shelf_at old p).bytes ++ bytes ≡ items_bytes (f (suc p) ++ x ∷ []) = ap (λ (s : Shelved). s.bytes ++ bytes) (holds.each p) ∙ ap (λ (l : List ℕ). items_bytes (f (suc p)) ++ l) is ∙ sym (items_more (f (suc p)) x) in
        more p ∙ a ∙ (λ i. record { count = count i; bytes = spelled i }) ∙ ap shelf_of (sym c)
    by p false h =
        let a : with_more page 1 bytes p (shelf_at old p) ≡ shelf_at old p = ap (λ (b : Bool). cond b (record { count = (shelf_at old p).count + 1; bytes = (shelf_at old p).bytes ++ bytes }) (shelf_at old p)) h in
        let c : and_item f (Some page) x (suc p) ≡ f (suc p) = ap (λ (b : Bool). cond b (f (suc p) ++ x ∷ []) (f (suc p))) h in
        more p ∙ a ∙ holds.each p ∙ ap shelf_of (sym c)

    each : (p : ℕ) → shelf_at new p ≡ shelf_of (and_item f (Some page) x (suc p))
    each p = by p (eqb (suc p) page) refl

-- a record on the shelves of the pages that it names
pub record_more : (items : List Numbered) (x : Numbered) (page other : Option ℕ) → ((p : ℕ) → names p x.rec ≡ (is_that p page || is_that p other)) → ((p : ℕ) → is_that p page ≡ true → is_that p other ≡ false)
    → (p : ℕ) → and_item (and_item (λ q. on_page q items) page x) other x p ≡ on_page p (items ++ x ∷ [])
record_more items x page other named apart p = by (is_that p page) (is_that p other) refl refl
  where
    by : (a b : Bool) → is_that p page ≡ a → is_that p other ≡ b → and_item (and_item (λ q. on_page q items) page x) other x p ≡ on_page p (items ++ x ∷ [])
    by true true ha hb = let no : true ≡ false = sym hb ∙ apart p ha in absurd cc
    by true false ha hb =
        let n : names p x.rec ≡ true = named p ∙ (λ i. ha i || hb i) in
        let l : and_item (and_item (λ q. on_page q items) page x) other x p ≡ on_page p items ++ x ∷ [] = (λ i. cond (hb i) (cond (ha i) (on_page p items ++ x ∷ []) (on_page p items) ++ x ∷ []) (cond (ha i) (on_page p items ++ x ∷ []) (on_page p items))) in
        l ∙ sym (filter-append (λ (y : Numbered). names p y.rec) items (x ∷ []) ∙ ap (λ (b : Bool). on_page p items ++ cond b (x ∷ []) []) n)
    by false true ha hb =
        let n : names p x.rec ≡ true = named p ∙ (λ i. ha i || hb i) in
        let l : and_item (and_item (λ q. on_page q items) page x) other x p ≡ on_page p items ++ x ∷ [] = (λ i. cond (hb i) (cond (ha i) (on_page p items ++ x ∷ []) (on_page p items) ++ x ∷ []) (cond (ha i) (on_page p items ++ x ∷ []) (on_page p items))) in
        l ∙ sym (filter-append (λ (y : Numbered). names p y.rec) items (x ∷ []) ∙ ap (λ (b : Bool). on_page p items ++ cond b (x ∷ []) []) n)
    by false false ha hb =
        let n : names p x.rec ≡ false = named p ∙ (λ i. ha i || hb i) in
        let l : and_item (and_item (λ q. on_page q items) page x) other x p ≡ on_page p items = (λ i. cond (hb i) (cond (ha i) (on_page p items ++ x ∷ []) (on_page p items) ++ x ∷ []) (cond (ha i) (on_page p items ++ x ∷ []) (on_page p items))) in
        l ∙ sym (filter-append (λ (y : Numbered). names p y.rec) items (x ∷ []) ∙ ap (λ (b : Bool). on_page p items ++ cond b (x ∷ []) []) n ∙ append-nil (on_page p items))

-- the parts of an object, one behind the other
pub object_is : (shelves : List Shelved) (f : ℕ → List Numbered) → Holds shelves f → (run first last pages at : ℕ) (b0 b1 b2 b3 : List ℕ) → pages ≡ length (chunks_upto f (length shelves)) → at ≡ 32 + 16 * pages
    → b0 ≡ [] → b1 ≡ b0 ++ head_bytes run first last pages → b2 ≡ b1 ++ flat_map entry_bytes (directory at (chunks_upto f (length shelves))) → b3 ≡ b2 ++ chunks_bytes (chunks_upto f (length shelves)) → b3 ≡ run_bytes run first last (chunks_by f)
object_is shelves f holds run first last pages at b0 b1 b2 b3 count place none e1 e2 e3 =
    let cs : List Chunk = chunks_upto f (length shelves) in
    let head : List ℕ = head_bytes run first last pages in
    let dir : List ℕ = flat_map entry_bytes (directory at cs) in
    let one : b1 ≡ head = e1 ∙ ap (λ (l : List ℕ). l ++ head) none in
    let two : b3 ≡ head ++ (dir ++ chunks_bytes cs) = e3 ∙ ap (λ (l : List ℕ). l ++ chunks_bytes cs) (e2 ∙ ap (λ (l : List ℕ). l ++ dir) one) ∙ append_assoc head dir (chunks_bytes cs) in
    let starts : at ≡ 32 + 16 * length cs = omega (arith, count, place) in
    let spelled : head ++ (dir ++ chunks_bytes cs) ≡ run_bytes run first last cs =
    ap (λ (n : ℕ). head_bytes run first last n ++ (dir ++ chunks_bytes cs)) count ∙ ap (λ (n : ℕ). head_bytes run first last (length cs) ++ (flat_map entry_bytes (directory n cs) ++ chunks_bytes cs)) starts in
    two ∙ spelled ∙ ap (run_bytes run first last) (sym (upto_all shelves f holds))
