-- A run that is made of records: it keeps its form, and has of each page exactly the records that name it.
use Rattle.std.proofs.Common.{◌≡◌, ◌≢◌, inl, inr, ℕ, zero, suc, ◌+◌, ◌-◌, ◌^◌, ◌<◌, ◌≤◌, Bool, true, false, cond, List, [], ◌∷◌, ◌++◌, length, refl, sym, ap, ◌∙◌, arith}
use Rattle.std.specs.Prelude.{IsTrue, flat_map}
use Rattle.std.specs.List.{All, range_with_len}
use Rattle.std.proofs.lemmas.Bool.{cases_lt}
use Rattle.std.proofs.lemmas.Bool.Decides.{nat_tests}
use Rattle.std.proofs.lemmas.List.{append-nil}
use Rattle.std.proofs.lemmas.List.Elements.{filter-append}
use Rattle.vault_objects.proofs.Numbers.{is_eq}
use Rattle.wal_record.specs.Chains.{names}
use Rattle.wal_record.specs.Rules.{HasSpelling, is_number, is_page}
use Rattle.wal_record.specs.declared.record.Record.{Record}
use Rattle.log_archive.specs.Items.{Chunk, chunk, chunks_by, chunks_of, chunks_upto, items_on, numbered, on_page}
use Rattle.log_archive.specs.Merging.{items_in}
use Rattle.log_archive.specs.Run.{AreChunks, AreItems, IsRun, run_bytes}
use Rattle.log_archive.specs.declared.item.Numbered.{Numbered}
use Rattle.log_archive.proofs.Loops.{not_eq}

one_at_least : (n : ℕ) → IsTrue (is_number n) → 1 ≤ n
one_at_least n h = grind (arith, nat_tests)

page_is : (p : ℕ) → 1 ≤ p → p ≤ 16384 → IsTrue (is_page p)
page_is p one most = grind (arith, nat_tests)

pub page_bounds : (p : ℕ) → IsTrue (is_page p) → (1 ≤ p) × (p ≤ 16384)
page_bounds p h = (grind (arith, nat_tests), grind (arith, nat_tests))

-- ---- the items of a page

kept_or_not : (p last above lsn : ℕ) (r : Record) (rest : List Numbered) (b : Bool) → names p r ≡ b → above < lsn → lsn ≤ last → HasSpelling r → AreItems p last lsn rest → AreItems p last above rest → AreItems p last above (cond b (record { lsn = lsn; rec = r } ∷ rest) rest)
kept_or_not p last above lsn r rest true h lt le spelled behind without = (record { rises = lt; within = le; on_page = h; spelled = spelled }, behind)
kept_or_not p last above lsn r rest false h lt le spelled behind without = without

items_fit : (p last above first : ℕ) (rs : List Record) → All HasSpelling rs → above < first → first + length rs ≤ last + 1 → AreItems p last above (on_page p (numbered first rs))
items_fit p last above first [] spelled lt le = tt
items_fit p last above first (r ∷ rs) spelled lt le =
    kept_or_not p last above first r (on_page p (numbered (suc first) rs)) (names p r) refl lt (omega arith) (spelled 0 r (omega arith))
    (items_fit p last first (suc first) rs (λ k d l. spelled (suc k) d (omega arith)) (omega arith) (omega arith))
    (items_fit p last above (suc first) rs (λ k d l. spelled (suc k) d (omega arith)) (omega arith) (omega arith))

-- ---- pages in order

chunk_or_none : (first last above a : ℕ) (items : List Numbered) (rest : List Chunk) → IsTrue (is_page a) → above < a → AreItems a last (first - 1) items → AreChunks first last above rest → AreChunks first last a rest → AreChunks first last above (chunk a items ++ rest)
chunk_or_none first last above a [] rest page lt fits without behind = without
chunk_or_none first last above a (x ∷ xs) rest page lt fits without behind = (record { page = page; rises = lt; some = omega arith; fit = fits }, behind)

module _ (first last : ℕ) (f : ℕ → List Numbered) (fit : (p : ℕ) → IsTrue (is_page p) → AreItems p last (first - 1) (f p)) where
  chunks_fit : (above a n : ℕ) → above < a → 1 ≤ a → a + n ≤ 16385 → AreChunks first last above (flat_map (λ p. chunk p (f p)) (range_with_len a n))
  chunks_fit above a zero lt one le = tt
  chunks_fit above a (suc n) lt one le =
      chunk_or_none first last above a (f a) (flat_map (λ p. chunk p (f p)) (range_with_len (a + 1) n)) (page_is a one (omega arith)) lt (fit a (page_is a one (omega arith)))
      (chunks_fit above (a + 1) n (omega arith) (omega arith) (omega arith)) (chunks_fit a (a + 1) n (omega arith) (omega arith) (omega arith))

  pub all_fit : AreChunks first last 0 (chunks_by f)
  unfolding chunks_by chunks_upto
  all_fit = chunks_fit 0 1 16384 (omega arith) (omega arith) (omega arith)

skips : (page a : ℕ) (items : List Numbered) (rest : List Chunk) → a ≢ page → items_on page (chunk a items ++ rest) ≡ items_on page rest
skips page a [] rest other = refl
skips page a (x ∷ xs) rest other = ap (λ (b : Bool). cond b (x ∷ xs) (items_on page rest)) (not_eq a page other)

takes_this : (page a : ℕ) (items : List Numbered) (rest : List Chunk) → a ≡ page → items_on page rest ≡ [] → items_on page (chunk a items ++ rest) ≡ items
takes_this page a [] rest same none = none
takes_this page a (x ∷ xs) rest same none = ap (λ (b : Bool). cond b (x ∷ xs) (items_on page rest)) (is_eq a page same)

module _ (f : ℕ → List Numbered) where
  none_on : (page a n : ℕ) → page < a → items_on page (flat_map (λ p. chunk p (f p)) (range_with_len a n)) ≡ []
  none_on page a zero lt = refl
  none_on page a (suc n) lt = skips page a (f a) (flat_map (λ p. chunk p (f p)) (range_with_len (a + 1) n)) (λ same. omega arith) ∙ none_on page (a + 1) n (omega arith)

  one_on : (page a n : ℕ) → a ≤ page → page < a + n → items_on page (flat_map (λ p. chunk p (f p)) (range_with_len a n)) ≡ f page
  one_on page a zero le lt = absurd (omega arith)
  one_on page a (suc n) le lt = elim (cases_lt a page) [
    | inl before ↦ skips page a (f a) (flat_map (λ p. chunk p (f p)) (range_with_len (a + 1) n)) (λ same. omega arith) ∙ one_on page (a + 1) n (omega arith) (omega arith)
    | inr here ↦ let same : a ≡ page = omega arith in takes_this page a (f a) (flat_map (λ p. chunk p (f p)) (range_with_len (a + 1) n)) same (none_on page (a + 1) n (omega arith)) ∙ ap f same
  ]

  pub on_all : (page : ℕ) → IsTrue (is_page page) → items_on page (chunks_by f) ≡ f page
  unfolding chunks_by chunks_upto
  on_all page is = let b = page_bounds page is in one_on page 1 16384 b.0 (omega (arith, b.1))

-- ---- runs

pub made_is_run : (run first last : ℕ) (rs : List Record) → IsTrue (is_number first) → IsTrue (is_number last) → first ≤ last → first + length rs ≡ last + 1 → All HasSpelling rs → length (run_bytes run first last (chunks_of (numbered first rs))) < 2 ^ 32
    → IsRun run first last (chunks_of (numbered first rs)) (run_bytes run first last (chunks_of (numbered first rs)))
made_is_run run first last rs f l le count spelled short = record {
  begins = f;
  ends = l;
  order = le;
  fit = all_fit first last (λ p. on_page p (numbered first rs)) (λ p is. items_fit p last (first - 1) first rs spelled (let o = one_at_least first f in omega arith) (omega arith));
  spelled = refl;
  short = short;
}

-- ---- merges

numbered_append : (first : ℕ) (rs more : List Record) → numbered first (rs ++ more) ≡ numbered first rs ++ numbered (first + length rs) more
numbered_append first [] more = let e : first ≡ first + 0 = omega arith in ap (λ (n : ℕ). numbered n more) e
numbered_append first (r ∷ rs) more =
    let e : suc first + length rs ≡ first + suc (length rs) = omega arith in
    ap (λ (l : List Numbered). record { lsn = first; rec = r } ∷ l) (numbered_append (suc first) rs more ∙ ap (λ (n : ℕ). numbered (suc first) rs ++ numbered n more) e)

module _ (f g : ℕ → List Numbered) (same : (p : ℕ) → IsTrue (is_page p) → f p ≡ g p) where
  same_range : (a n : ℕ) → 1 ≤ a → a + n ≤ 16385 → flat_map (λ p. chunk p (f p)) (range_with_len a n) ≡ flat_map (λ p. chunk p (g p)) (range_with_len a n)
  same_range a zero one le = refl
  same_range a (suc n) one le =
      ap (λ (l : List Numbered). chunk a l ++ flat_map (λ p. chunk p (f p)) (range_with_len (a + 1) n)) (same a (page_is a one (omega arith)))
      ∙ ap (λ (l : List Chunk). chunk a (g a) ++ l) (same_range (a + 1) n (omega arith) (omega arith))

  pub same_chunks : chunks_by f ≡ chunks_by g
  unfolding chunks_by chunks_upto
  same_chunks = same_range 1 16384 (omega arith) (omega arith)

pub merged_is : (first : ℕ) (rs more : List Record) → chunks_by (items_in (chunks_of (numbered first rs) ∷ chunks_of (numbered (first + length rs) more) ∷ [])) ≡ chunks_of (numbered first (rs ++ more))
merged_is first rs more = same_chunks _ _ (λ p is.
    let one = on_all (λ q. on_page q (numbered first rs)) p is in
    let two = on_all (λ q. on_page q (numbered (first + length rs) more)) p is in
    (λ i. one i ++ (two i ++ [])) ∙ ap (λ (l : List Numbered). on_page p (numbered first rs) ++ l) (append-nil (on_page p (numbered (first + length rs) more)))
    ∙ sym (filter-append (λ (x : Numbered). names p x.rec) (numbered first rs) (numbered (first + length rs) more)) ∙ ap (on_page p) (sym (numbered_append first rs more)))
