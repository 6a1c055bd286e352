-- How many bytes the items of a run have: one item more.
use Rattle.std.proofs.Common.{◌≡◌, ℕ, zero, suc, ◌+◌, eqb, Bool, true, false, cond, List, [], ◌∷◌, ◌++◌, length, Option, Some, None, refl, ap, ◌∙◌, arith}
use Rattle.std.specs.Prelude.{IfSome, IsTrue, ◌||◌, nat_le}
use Rattle.std.proofs.lemmas.Bool.Decides.{nat_tests}
use Rattle.std.proofs.lemmas.Grind.{flat_map-append}
use Rattle.std.proofs.lemmas.List.{append-nil, length-append}
use Rattle.std.proofs.lemmas.List.Elements.{filter-append}
use Rattle.wal_record.specs.Chains.{names}
use Rattle.wal_record.specs.Rules.{is_page}
use Rattle.log_archive.specs.Items.{Chunk, chunk, chunks_by, chunks_upto, on_page}
use Rattle.log_archive.specs.Run.{chunks_bytes, item_bytes, items_bytes, items_size}
use Rattle.log_archive.specs.Shelves.{is_that, on_shelf}
use Rattle.log_archive.specs.declared.item.Numbered.{Numbered}
use Rattle.log_archive.proofs.Filled.{chunk_bytes, upto_more, upto_none}

-- the bytes of the items of the pages up to this one
abbrev size_upto : (ℕ → List Numbered) → ℕ → ℕ
size_upto f n = length (chunks_bytes (chunks_upto f n))

none_upto : (f : ℕ → List Numbered) → size_upto f 0 ≡ 0
none_upto f = ap (λ (cs : List Chunk). length (chunks_bytes cs)) (upto_none f)

size_step : (f : ℕ → List Numbered) (n : ℕ) → size_upto f (suc n) ≡ size_upto f n + length (items_bytes (f (suc n)))
size_step f n =
    let e : suc n ≡ n + 1 = omega arith in
    let cs : List Chunk = chunks_upto f n in
    let last : List Chunk = chunk (suc n) (f (suc n)) in
    ap (size_upto f) e ∙ ap (λ (l : List Chunk). length (chunks_bytes l)) (upto_more f n) ∙ ap length (flat_map-append (λ (c : Chunk). items_bytes c.items) cs last) ∙ length-append (chunks_bytes cs) (chunks_bytes last)
    ∙ ap (λ (l : List ℕ). length (chunks_bytes cs) + length l) (chunk_bytes (suc n) (f (suc n)))

-- ---- of one page

last_bytes : (b : Bool) (x : Numbered) → length (items_bytes (cond b (x ∷ []) [])) ≡ cond b (length (item_bytes x)) 0
last_bytes true x = ap length (append-nil (item_bytes x))
last_bytes false x = refl

page_more : (p : ℕ) (items : List Numbered) (x : Numbered) → length (items_bytes (on_page p (items ++ x ∷ []))) ≡ length (items_bytes (on_page p items)) + cond (names p x.rec) (length (item_bytes x)) 0
page_more p items x =
    let last : List Numbered = cond (names p x.rec) (x ∷ []) [] in
    ap (λ (l : List Numbered). length (items_bytes l)) (filter-append (λ (y : Numbered). names p y.rec) items (x ∷ [])) ∙ ap length (flat_map-append item_bytes (on_page p items) last) ∙ length-append (items_bytes (on_page p items)) (items_bytes last)
    ∙ ap (λ (n : ℕ). length (items_bytes (on_page p items)) + n) (last_bytes (names p x.rec) x)

-- ---- of the pages up to one

-- what an item of so many bytes has on the shelf of this page, where that is one of these
abbrev shelf_upto : Option ℕ → ℕ → ℕ → ℕ
shelf_upto None n size = 0
shelf_upto (Some q) n size = cond (nat_le q n) size 0

shelf_step : (q : Option ℕ) (n size : ℕ) → shelf_upto q (suc n) size ≡ shelf_upto q n size + cond (is_that (suc n) q) size 0
shelf_step None n size = omega arith
shelf_step (Some q) n size = by (nat_le q (suc n)) (nat_le q n) (eqb (suc n) q) (λ i. nat_le q (suc n)) (λ i. nat_le q n) (λ i. eqb (suc n) q)
  where
    by : (a b c : Bool) → nat_le q (suc n) ≡ a → nat_le q n ≡ b → eqb (suc n) q ≡ c → cond a size 0 ≡ cond b size 0 + cond c size 0
    by true true true ha hb hc = absurd (grind (arith, nat_tests))
    by true true false ha hb hc = omega arith
    by true false true ha hb hc = omega arith
    by true false false ha hb hc = absurd (grind (arith, nat_tests))
    by false true true ha hb hc = absurd (grind (arith, nat_tests))
    by false true false ha hb hc = absurd (grind (arith, nat_tests))
    by false false true ha hb hc = absurd (grind (arith, nat_tests))
    by false false false ha hb hc = omega arith

either_size : (a b : Bool) (size : ℕ) → (a ≡ true → b ≡ false) → cond (a || b) size 0 ≡ cond a size 0 + cond b size 0
either_size true true size apart = let e : true ≡ false = apart (λ i. true) in absurd (cc e)
either_size true false size apart = omega arith
either_size false true size apart = omega arith
either_size false false size apart = omega arith

shelf_begins : (q : Option ℕ) (size : ℕ) → IfSome q (λ p. IsTrue (is_page p)) → shelf_upto q 0 size ≡ 0
shelf_begins None size page = omega arith
shelf_begins (Some q) size page = let none : nat_le q 0 ≡ false = grind (arith, nat_tests) in ap (λ (b : Bool). cond b size 0) none

shelf_ends : (q : Option ℕ) (size : ℕ) → IfSome q (λ p. IsTrue (is_page p)) → shelf_upto q 16384 size ≡ on_shelf q size
shelf_ends None size page = omega arith
shelf_ends (Some q) size page = let all : nat_le q 16384 ≡ true = grind (arith, nat_tests) in ap (λ (b : Bool). cond b size 0) all

-- ---- an item more

module _ (items : List Numbered) (x : Numbered) (page other : Option ℕ) (named : (p : ℕ) → names p x.rec ≡ (is_that p page || is_that p other)) (apart : (p : ℕ) → is_that p page ≡ true → is_that p other ≡ false)
    (one : IfSome page (λ p. IsTrue (is_page p))) (two : IfSome other (λ p. IsTrue (is_page p))) where
  abbrev size : ℕ
  size = length (item_bytes x)

  abbrev before : ℕ → List Numbered
  before p = on_page p items

  abbrev behind : ℕ → List Numbered
  behind p = on_page p (items ++ x ∷ [])

  more_upto : (n : ℕ) → size_upto behind n ≡ size_upto before n + shelf_upto page n size + shelf_upto other n size
  more_upto zero =
      let a = none_upto before in
      let b = none_upto behind in
      let c = shelf_begins page size one in
      let d = shelf_begins other size two in
      omega (arith, a, b, c, d)
  more_upto (suc n) =
      let a = size_step before n in
      let b = size_step behind n in
      let c = shelf_step page n size in
      let d = shelf_step other n size in
      let e = page_more (suc n) items x in
      let f = ap (λ (t : Bool). cond t size 0) (named (suc n)) ∙ either_size (is_that (suc n) page) (is_that (suc n) other) size (apart (suc n)) in
      let g = more_upto n in
      omega (arith, a, b, c, d, e, f, g)

  pub size_more : items_size (items ++ x ∷ []) ≡ items_size items + on_shelf page size + on_shelf other size
  unfolding chunks_by
  size_more =
      let a = more_upto 16384 in
      let b = shelf_ends page size one in
      let c = shelf_ends other size two in
      omega (arith, a, b, c)

none_from : (n : ℕ) → size_upto (λ p. []) n ≡ 0
none_from zero = none_upto (λ p. [])
none_from (suc n) = let a = size_step (λ p. []) n in let b = none_from n in omega (arith, a, b)

pub no_size : items_size [] ≡ 0
unfolding chunks_by
no_size = none_from 16384
