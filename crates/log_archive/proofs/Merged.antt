-- The chunks of runs, added to shelves one by one.
use Rattle.std.proofs.Common.{◌≡◌, ◌≢◌, inl, inr, ℕ, zero, suc, ◌+◌, ◌-◌, ◌*◌, ◌^◌, ◌<◌, ◌≤◌, Bool, true, false, cond, eqb, List, [], ◌∷◌, ◌++◌, length, get_or, take, drop, Result, Ok, Err, refl, sym, ap, subst, ◌∙◌, arith}
use Rattle.std.specs.Prelude.{flat_map}
use Rattle.std.proofs.lemmas.Grind.{flat_map-append}
use Rattle.std.proofs.lemmas.List.{append-nil, drop_more, length-append, take_all, take_at, take_more, take-append-drop}
use Rattle.vault_objects.proofs.Numbers.{eq_is, is_eq}
use Rattle.state_codec.proofs.Fields.{ok_is}
use Rattle.std.specs.Prelude.{Some, OnOk, slice_get, ⊤}
use Rattle.media.specs.Objects.{Stored, Synced, bytes_of, synced}
use Rattle.store_model.specs.declared.object.ObjectName.{ObjectName}
use Rattle.store_model.specs.declared.fault.Fault.{Fault}
use Rattle.wal_record.specs.declared.analysis.Run.{Run}
use Rattle.vault_objects.specs.Causes.{FailsAtVault}
use Rattle.vault_objects.specs.Stored.{MayStore, Stores}
use Rattle.log_archive.specs.Answers.{FailsToFind, IsFirstFault}
use Rattle.log_archive.specs.Items.{Chunk, items_on}
use Rattle.log_archive.specs.Merging.{AreParts, HasChunks, IsAdded, IsBadPart, IsPart, items_in, last_in}
use Rattle.log_archive.specs.Reading.{behind_items, run_at}
use Rattle.log_archive.specs.Run.{AreChunks, IsRun, chunks_bytes, directory, item_bytes, items_bytes, run_name}
use Rattle.log_archive.specs.Shelves.{Holds, Shelved, shelf_at, shelf_of, with_more}
use Rattle.log_archive.specs.declared.directory.Entry.{Entry}
use Rattle.log_archive.specs.declared.directory.Head.{Head}
use Rattle.log_archive.specs.declared.directory.Outline.{Outline}
use Rattle.log_archive.specs.declared.item.Numbered.{Numbered}
use Rattle.log_archive.proofs.Again.{behind_again, number_below, outline_is, the_items, total_size}
use Rattle.log_archive.proofs.Filled.{holds_same}
use Rattle.log_archive.proofs.Finding.{only}
use Rattle.log_archive.proofs.Loops.{not_eq}

false_true : false ≡ true → ⊥
false_true e = absurd cc

-- ---- one chunk more

other_on : (page : ℕ) (cs : List Chunk) (c : Chunk) → c.page ≢ page → items_on page (cs ++ c ∷ []) ≡ items_on page cs
other_on page [] c other = ap (λ (b : Bool). cond b c.items []) (not_eq c.page page other)
other_on page (d ∷ ds) c other = ap (λ (l : List Numbered). cond (eqb d.page page) d.items l) (other_on page ds c other)

above_last : (first last above : ℕ) (cs : List Chunk) (c : Chunk) → AreChunks first last above (cs ++ c ∷ []) → above < c.page
above_last first last above [] c fit = fit.0.rises
above_last first last above (d ∷ ds) c fit = let r = fit.0.rises in let h = above_last first last d.page ds c fit.1 in omega arith

none_before : (first last above page : ℕ) (cs : List Chunk) (c : Chunk) → AreChunks first last above (cs ++ c ∷ []) → c.page ≡ page → items_on page cs ≡ []
none_before first last above page [] c fit same = refl
none_before first last above page (d ∷ ds) c fit same =
    let h = above_last first last d.page ds c fit.1 in
    ap (λ (b : Bool). cond b d.items (items_on page ds)) (not_eq d.page page (λ e. omega (arith, h, same, e))) ∙ none_before first last d.page page ds c fit.1 same

this_on : (first last above page : ℕ) (cs : List Chunk) (c : Chunk) → AreChunks first last above (cs ++ c ∷ []) → c.page ≡ page → items_on page (cs ++ c ∷ []) ≡ c.items
this_on first last above page [] c fit same = ap (λ (b : Bool). cond b c.items []) (is_eq c.page page same)
this_on first last above page (d ∷ ds) c fit same =
    let h = above_last first last d.page ds c fit.1 in
    ap (λ (b : Bool). cond b d.items (items_on page (ds ++ c ∷ []))) (not_eq d.page page (λ e. omega (arith, h, same, e))) ∙ this_on first last d.page page ds c fit.1 same

fit_front : (first last above : ℕ) (xs ys : List Chunk) → AreChunks first last above (xs ++ ys) → AreChunks first last above xs
fit_front first last above [] ys fit = tt
fit_front first last above (x ∷ xs) ys fit = (fit.0, fit_front first last x.page xs ys fit.1)

fit_at : (first last above : ℕ) (cs : List Chunk) (i : ℕ) (d : Chunk) → AreChunks first last above cs → i < length cs → (b : ℕ) × AreChunks first last b (get_or cs i d ∷ drop (suc i) cs)
fit_at first last above [] i d fit lt = absurd (omega arith)
fit_at first last above (c ∷ cs) zero d fit lt = (above, fit)
fit_at first last above (c ∷ cs) (suc i) d fit lt = fit_at first last c.page cs i d fit.1 (omega arith)

module _ (first last : ℕ) (chunks : List Chunk) (fit : AreChunks first last 0 chunks) (i : ℕ) (d : Chunk) (lt : i < length chunks) where
  pub front_fit : AreChunks first last 0 (take i chunks ++ get_or chunks i d ∷ [])
  front_fit = subst (AreChunks first last 0) (take_more chunks i d lt) (fit_front first last 0 (take (i + 1) chunks) (drop (i + 1) chunks) (subst (AreChunks first last 0) (sym (take-append-drop (i + 1) chunks)) fit))

  pub chunk_added : (old new : List Shelved) (f : ℕ → List Numbered) (page count : ℕ) (span : List ℕ) → page ≡ (get_or chunks i d).page → count ≡ length (get_or chunks i d).items → span ≡ items_bytes (get_or chunks i d).items
      → ((p : ℕ) → shelf_at new p ≡ with_more page count span p (shelf_at old p)) → length new ≤ 16384 → Holds old (λ p. f p ++ items_on p (take i chunks)) → Holds new (λ p. f p ++ items_on p (take (i + 1) chunks))
  chunk_added old new f page count span pe ce se more few holds = record { each = λ p. each p; few = few }
    where
      by : (p : ℕ) (b : Bool) → eqb (suc p) page ≡ b → shelf_at new p ≡ shelf_of (f (suc p) ++ items_on (suc p) (take i chunks ++ get_or chunks i d ∷ []))
      by p true h =
          let same : (get_or chunks i d).page ≡ suc p = sym pe ∙ sym (eq_is (suc p) page h) in
          let none = none_before first last 0 (suc p) (take i chunks) (get_or chunks i d) front_fit same in
          let mine = this_on first last 0 (suc p) (take i chunks) (get_or chunks i d) front_fit same in
          let had : shelf_at old p ≡ shelf_of (f (suc p)) = holds.each p ∙ ap (λ (l : List Numbered). shelf_of (f (suc p) ++ l)) none ∙ ap shelf_of (append-nil (f (suc p))) in
          let n : (shelf_at old p).count + count ≡ length (f (suc p) ++ (get_or chunks i d).items) = let e = ap (λ (s : Shelved). s.count) had in omega (arith, ce, length-append (f (suc p)) (get_or chunks i d).items) in
          let l : (shelf_at old p).bytes ++ span ≡ items_bytes (f (suc p) ++ (get_or chunks i d).items) = ap (λ (s : Shelved). s.bytes ++ span) had ∙ ap (λ (t : List ℕ). items_bytes (f (suc p)) ++ t) se ∙ sym (flat_map-append item_bytes (f (suc p)) (get_or chunks i d).items) in
          more p ∙ ap (λ (b : Bool). cond b (record { count = (shelf_at old p).count + count; bytes = (shelf_at old p).bytes ++ span }) (shelf_at old p)) h
          ∙ (λ j. record { count = n j; bytes = l j }) ∙ ap (λ (t : List Numbered). shelf_of (f (suc p) ++ t)) (sym mine)
      by p false h =
          let other : (get_or chunks i d).page ≢ suc p = λ same. false_true (sym h ∙ is_eq (suc p) page (sym same ∙ sym pe)) in
          more p ∙ ap (λ (b : Bool). cond b (record { count = (shelf_at old p).count + count; bytes = (shelf_at old p).bytes ++ span }) (shelf_at old p)) h
          ∙ holds.each p ∙ ap (λ (t : List Numbered). shelf_of (f (suc p) ++ t)) (sym (other_on (suc p) (take i chunks) (get_or chunks i d) other))

      each : (p : ℕ) → shelf_at new p ≡ shelf_of (f (suc p) ++ items_on (suc p) (take (i + 1) chunks))
      each p = by p (eqb (suc p) page) refl ∙ ap (λ (t : List Chunk). shelf_of (f (suc p) ++ items_on (suc p) t)) (sym (take_more chunks i d lt))

-- ---- the walk over a run's entries

entry_at : (at : ℕ) (cs : List Chunk) (i : ℕ) (d : Chunk) (z : Entry) → i < length cs → ((get_or (directory at cs) i z).page ≡ (get_or cs i d).page) × ((get_or (directory at cs) i z).count ≡ length (get_or cs i d).items)
entry_at at [] i d z lt = absurd (omega arith)
entry_at at (c ∷ cs) zero d z lt = (refl, refl)
entry_at at (c ∷ cs) (suc i) d z lt = entry_at (at + length (items_bytes c.items)) cs i d z (omega arith)

pub length-directory : (at : ℕ) (cs : List Chunk) → length (directory at cs) ≡ length cs
length-directory at [] = refl
length-directory at (c ∷ cs) = ap suc (length-directory (at + length (items_bytes c.items)) cs)

-- so far the items of the first entries were added
pub record Walks (head : Head) (entries : List Entry) (bytes rest : List ℕ) (start now : List Shelved) (i : ℕ) : Type 0 where
  pub left : (chunks : List Chunk) → HasChunks head entries bytes chunks → rest ≡ chunks_bytes (drop i chunks)
  pub added : (chunks : List Chunk) → HasChunks head entries bytes chunks → (f : ℕ → List Numbered) → Holds start f → Holds now (λ p. f p ++ items_on p (take i chunks))

pub starts_walk : (head : Head) (entries : List Entry) (bytes : List ℕ) (shelves : List Shelved) → Walks head entries bytes bytes shelves shelves 0
starts_walk head entries bytes shelves = record {
  left = λ chunks has. has.spelled;
  added = λ chunks has f holds. holds_same shelves f _ (λ p. sym (append-nil (f p))) holds;
}

size_left : (cs : List Chunk) (i : ℕ) → length (chunks_bytes (drop i cs)) ≤ length (chunks_bytes cs)
size_left [] zero = omega arith
size_left [] (suc i) = omega arith
size_left (c ∷ cs) zero = omega arith
size_left (c ∷ cs) (suc i) = let h = size_left cs i in omega (arith, length-append (items_bytes c.items) (chunks_bytes cs))

module _ (head : Head) (entries : List Entry) (bytes rest after : List ℕ) (start old new : List Shelved) (i : ℕ) (z : Entry) (lt : i < length entries) (w : Walks head entries bytes rest start old i) (a : IsAdded head (get_or entries i z) rest after old new) (few : length start ≤ 16384 → length new ≤ 16384) where
  module _ (chunks : List Chunk) (has : HasChunks head entries bytes chunks) where
    within : i < length chunks
    within = omega (arith, lt, ap length has.listed, length-directory has.at chunks)

    entry : ((get_or entries i z).page ≡ (get_or chunks i (record { page = 0; items = [] })).page) × ((get_or entries i z).count ≡ length (get_or chunks i (record { page = 0; items = [] })).items)
    entry = subst (λ (es : List Entry). ((get_or es i z).page ≡ (get_or chunks i (record { page = 0; items = [] })).page) × ((get_or es i z).count ≡ length (get_or chunks i (record { page = 0; items = [] })).items)) (sym has.listed) (entry_at has.at chunks i (record { page = 0; items = [] }) z within)

    parts : rest ≡ items_bytes (get_or chunks i (record { page = 0; items = [] })).items ++ chunks_bytes (drop (i + 1) chunks)
    parts = w.left chunks has ∙ ap chunks_bytes (drop_more chunks i (record { page = 0; items = [] }) within)

    behind : after ≡ chunks_bytes (drop (i + 1) chunks)
    behind =
        let fits = fit_at head.first head.last 0 chunks i (record { page = 0; items = [] }) has.fit within in
        let short = has.short in
        let size = size_left chunks i in
        let small : length (items_bytes (get_or chunks i (record { page = 0; items = [] })).items) < 2 ^ 32 =
        omega (arith, short, size, ap length has.spelled, ap length (w.left chunks has), ap length parts, length-append (items_bytes (get_or chunks i (record { page = 0; items = [] })).items) (chunks_bytes (drop (i + 1) chunks))) in
        ok_is after (chunks_bytes (drop (i + 1) chunks)) (sym a.read
        ∙ (λ j. behind_items (entry.0 j) head.last (entry.1 j) (head.first - 1) (parts j))
        ∙ behind_again (get_or chunks i (record { page = 0; items = [] })).page head.last (head.first - 1) (get_or chunks i (record { page = 0; items = [] })).items (chunks_bytes (drop (i + 1) chunks)) fits.1.0.fit has.last small)

    span : take (length rest - length after) rest ≡ items_bytes (get_or chunks i (record { page = 0; items = [] })).items
    span =
        let n : length rest - length after ≡ length (items_bytes (get_or chunks i (record { page = 0; items = [] })).items) =
        omega (arith, ap length parts, ap length behind, length-append (items_bytes (get_or chunks i (record { page = 0; items = [] })).items) (chunks_bytes (drop (i + 1) chunks))) in
        (λ j. take (n j) (parts j)) ∙ take_at (items_bytes (get_or chunks i (record { page = 0; items = [] })).items) (chunks_bytes (drop (i + 1) chunks)) _ refl

  pub walks_on : Walks head entries bytes after start new (i + 1)
  walks_on = record {
    left = λ chunks has. behind chunks has;
    added = λ chunks has f holds.
        chunk_added head.first head.last chunks has.fit i (record { page = 0; items = [] }) (within chunks has) old new f (get_or entries i z).page (get_or entries i z).count (take (length rest - length after) rest)
        (entry chunks has).0 (entry chunks has).1 (span chunks has) a.shelved (few holds.few) (w.added chunks has f holds);
  }

pub walk_ends : (head : Head) (entries : List Entry) (bytes rest : List ℕ) (start now : List Shelved) (i : ℕ) → length entries ≤ i → Walks head entries bytes rest start now i
    → (chunks : List Chunk) → HasChunks head entries bytes chunks → (f : ℕ → List Numbered) → Holds start f → Holds now (λ p. f p ++ items_on p chunks)
walk_ends head entries bytes rest start now i le w chunks has f holds =
    let all : take i chunks ≡ chunks = take_all i chunks (omega (arith, le, ap length has.listed, length-directory has.at chunks)) in
    holds_same now _ _ (λ p. ap (λ (cs : List Chunk). f p ++ items_on p cs) all) (w.added chunks has f holds)

-- ---- parts

module _ (run first last : ℕ) (chunks : List Chunk) (bytes : List ℕ) (is : IsRun run first last chunks bytes) (r : run < 2 ^ 64) (o : Outline) (reads : run_at run bytes ≡ Ok o) where
  pub has_chunks : (items : List ℕ) → items ≡ drop (32 + 16 * o.head.pages) bytes → HasChunks o.head o.entries items chunks
  has_chunks items behind =
      let e = outline_is run first last chunks bytes is r o reads in
      let spelled : items ≡ chunks_bytes chunks = behind ∙ ap (λ (n : ℕ). drop (32 + 16 * n) bytes) (ap (λ (x : Outline). x.head.pages) e) ∙ the_items run first last chunks bytes is in
      let total = total_size run first last chunks bytes is in
      let short = is.short in
      record {
        at = 32 + 16 * length chunks;
        fit = subst (λ (x : Outline). AreChunks x.head.first x.head.last 0 chunks) (sym e) is.fit;
        listed = ap (λ (x : Outline). x.entries) e;
        spelled = spelled;
        short = omega (arith, total, short, ap length spelled);
        last = subst (λ (x : Outline). x.head.last < 2 ^ 64) (sym e) (number_below last is.ends);
      }

-- the chunks of the run at a place
pub record PartAt (told : ObjectName → Stored) (parts : List Run) (css : List (List Chunk)) (i : ℕ) (z : Run) : Type 0 where
  pub chunks : List Chunk
  pub is : IsRun (get_or parts i z).run (get_or parts i z).first (get_or parts i z).last chunks (bytes_of (told (run_name (get_or parts i z).run)))
  pub next : take (suc i) css ≡ take i css ++ chunks ∷ []

pub part_at : (told : ObjectName → Stored) (parts : List Run) (css : List (List Chunk)) (i : ℕ) (z : Run) → AreParts told parts css → i < length parts → PartAt told parts css i z
part_at told [] css i z are lt = absurd (omega arith)
part_at told (r ∷ rs) [] i z are lt = absurd are
part_at told (r ∷ rs) (cs ∷ css) zero z are lt = record { chunks = cs; is = are.0; next = refl }
part_at told (r ∷ rs) (cs ∷ css) (suc i) z are lt =
    let h = part_at told rs css i z are.1 (omega arith) in
    record { chunks = h.chunks; is = h.is; next = ap (λ (l : List (List Chunk)). cs ∷ l) h.next }

pub parts_length : (told : ObjectName → Stored) (parts : List Run) (css : List (List Chunk)) → AreParts told parts css → length css ≡ length parts
parts_length told [] [] are = refl
parts_length told [] (cs ∷ css) are = absurd are
parts_length told (r ∷ rs) [] are = absurd are
parts_length told (r ∷ rs) (cs ∷ css) are = ap suc (parts_length told rs css are.1)

pub items_more : (css : List (List Chunk)) (i : ℕ) (cs : List Chunk) (p : ℕ) → take (suc i) css ≡ take i css ++ cs ∷ [] → items_in (take i css) p ++ items_on p cs ≡ items_in (take (i + 1) css) p
items_more css i cs p next =
    let e : i + 1 ≡ suc i = omega arith in
    sym (ap (λ (n : ℕ). items_in (take n css) p) e ∙ ap (flat_map (items_on p)) next ∙ flat_map-append (items_on p) (take i css) (cs ∷ []) ∙ ap (λ (l : List Numbered). items_in (take i css) p ++ l) (append-nil (items_on p cs)))

pub is_part : (parts : List Run) (i : ℕ) (z : Run) → i < length parts → IsPart (get_or parts i z) parts
is_part [] i z lt = absurd (omega arith)
is_part (r ∷ rs) zero z lt = inl refl
is_part (r ∷ rs) (suc i) z lt = inr (is_part rs i z (omega arith))

pub bad_part : (tells : Type 0) (told : ObjectName → Stored) (parts : List Run) (part : Run) (bytes : List ℕ) (before now : ℕ) (fault : Fault) → IsPart part parts → (tells → bytes ≡ bytes_of (told (run_name part.run)))
    → FailsToFind (λ object byte. (object ≡ run_name part.run) × IsFirstFault part.run bytes byte) fault → FailsAtVault (IsBadPart tells told parts) before now fault
bad_part tells told parts part bytes before now fault among got fails = elim (only _ fault fails) [
  | inl memory ↦ subst (FailsAtVault (IsBadPart tells told parts) before now) (sym memory) tt
  | inr bad ↦ subst (FailsAtVault (IsBadPart tells told parts) before now) (sym bad.2) (record {
    part = part;
    among = among;
    named = bad.3.0;
    cause = λ t. subst (λ (b : List ℕ). IsFirstFault part.run b bad.1) (got t) bad.3.1;
  })
]

pub stores_same : (r : Result ⊤ Fault) (n m : ObjectName) (b d : List ℕ) (old mid new : ObjectName → Stored) → OnOk r (Stores n b mid new) → ((name : ObjectName) → mid name ≡ old name) → n ≡ m → b ≡ d → OnOk r (Stores m d old new)
stores_same (Ok u) n m b d old mid new stores same names spelled = record {
  object = subst (λ (x : ObjectName). new x ≡ Synced d) names (stores.object ∙ ap Synced spelled);
  others = λ other ne. stores.others other (λ e. ne (e ∙ names)) ∙ ap synced (same other);
}
stores_same (Err e) n m b d old mid new stores same names spelled = tt

pub may_same : (n m : ObjectName) (b : List ℕ) (old mid new : ObjectName → Stored) → MayStore n b mid new → ((name : ObjectName) → mid name ≡ old name) → n ≡ m → MayStore m b old new
may_same n m b old mid new may same names = subst (λ (x : ObjectName). MayStore x b old new) names (record {
  object = elim may.object [ inl kept ↦ inl (kept ∙ same n) | inr more ↦ inr more ];
  others = λ other ne. elim (may.others other ne) [ inl kept ↦ inl (kept ∙ same other) | inr sync ↦ inr (sync ∙ ap synced (same other)) ];
})

last_at : (parts : List Run) (n : ℕ) (x : Run) → n + 1 ≡ length parts → Some x ≡ slice_get parts n → x.last ≡ last_in parts
last_at [] n x size e = absurd (omega arith)
last_at (r ∷ []) zero x size e = let same : x ≡ r = cc in ap (λ (y : Run). y.last) same
last_at (r ∷ []) (suc n) x size e = absurd (omega arith)
last_at (r ∷ s ∷ rs) zero x size e = absurd (omega arith)
last_at (r ∷ s ∷ rs) (suc n) x size e = last_at (s ∷ rs) n x (omega arith) e

pub last_is : (parts : List Run) (x : Run) → Some x ≡ slice_get parts (length parts - 1) → x.last ≡ last_in parts
last_is [] x e = absurd cc
last_is (r ∷ rs) x e = last_at (r ∷ rs) (length (r ∷ rs) - 1) x (omega arith) e

pub whatever : {P : Type 0} (r : Result ⊤ Fault) → P → OnOk r P
whatever (Ok u) p = p
whatever (Err e) p = tt
