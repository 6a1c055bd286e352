-- Whether pairs are those of a range, as they are compared one by one.
use Rattle.std.proofs.Common.{◌≡◌, ◌≢◌, ℕ, eqb, length, arith, cond, List, [], ◌∷◌, ◌++◌, Bool, true, false, None, Some, Less, refl, sym, ap, ◌∙◌}
use Rattle.std.specs.Prelude.{◌↔◌, IsTrue, map, filter}
use Rattle.std.specs.List.{AllByRecursion}
use Rattle.std.specs.List.Sorted.{IsStrictlySortedBy}
use Rattle.std.specs.Ordering.{nat_cmp, is_lt, eq_by_cmp}
use Rattle.std.specs.Cmp.Lexicographic.{slice_cmp}
use Rattle.std.specs.FinMap.Entries.{below_all, find, is_sorted, find-where_key}
use Rattle.std.specs.Map.{lookup, keys_of}
use Rattle.std.specs.BTreeMap.{BTreeMap, is_at}
use Rattle.std.proofs.lemmas.Map.Lookups.{exact_bytes}
use Rattle.store_model.specs.Range.{Interval, has_key}
use Rattle.store_model.specs.Contents.{Contents, pair_of, pairs_in}
use Rattle.store_model.specs.declared.pair.Pair.{Pair}
use Rattle.store_model.proofs.Bools.{and_true, not_both}
use Rattle.store_model.proofs.Scans.{pairs_in_is}
use Rattle.log_laws.proofs.Central.{eqb_differ}
use Rattle.reply_judge.specs.Contents.{HasValues, own_pairs}

abbrev Entries : Type 0
Entries = List (List ℕ × List ℕ)

abbrev within : Interval → Entries → Entries
within r es = filter (λ (e : List ℕ × List ℕ). has_key r e.0) es

-- the pairs of the range
abbrev pub expected : Interval → Entries → List Pair
expected r es = map pair_of (within r es)

-- ---- they are those of the contents

below_within : (r : Interval) (x : List ℕ) (es : Entries) → AllByRecursion (λ y. slice_cmp nat_cmp x y ≡ Less) (keys_of es) → below_all (slice_cmp nat_cmp) x (within r es) ≡ true
below_within r x [] h = refl
below_within r x (e ∷ es) h = by (has_key r e.0) (below_within r x es h.1)
  where
    by : (c : Bool) → below_all (slice_cmp nat_cmp) x (within r es) ≡ true → below_all (slice_cmp nat_cmp) x (cond c (e ∷ within r es) (within r es)) ≡ true
    by true rest = and_true (is_lt (slice_cmp nat_cmp x e.0)) (below_all (slice_cmp nat_cmp) x (within r es)) (ap is_lt h.0) rest
    by false rest = rest

sorted_within : (r : Interval) (es : Entries) → IsStrictlySortedBy (slice_cmp nat_cmp) (keys_of es) → is_sorted (slice_cmp nat_cmp) (within r es) ≡ true
unfolding IsStrictlySortedBy
sorted_within r [] h = refl
sorted_within r (e ∷ es) h = by (has_key r e.0) (below_within r e.0 es h.0) (sorted_within r es h.1)
  where
    by : (c : Bool) → below_all (slice_cmp nat_cmp) e.0 (within r es) ≡ true → is_sorted (slice_cmp nat_cmp) (within r es) ≡ true → is_sorted (slice_cmp nat_cmp) (cond c (e ∷ within r es) (within r es)) ≡ true
    by true below rest = and_true (below_all (slice_cmp nat_cmp) e.0 (within r es)) (is_sorted (slice_cmp nat_cmp) (within r es)) below rest
    by false below rest = rest

find_lookup : (q : List ℕ) (es : Entries) → find (slice_cmp nat_cmp) q es ≡ lookup (is_at (slice_cmp nat_cmp q)) es
find_lookup q [] = refl
find_lookup q (e ∷ es) = ap (cond (eq_by_cmp (slice_cmp nat_cmp) q e.0) (Some e.1)) (find_lookup q es)

pub scan_is : (r : Interval) (m : Contents) (pairs : BTreeMap (List ℕ) (List ℕ)) → HasValues m pairs → IsStrictlySortedBy (slice_cmp nat_cmp) (keys_of pairs.entries) → pairs_in r m ≡ expected r pairs.entries
unfolding HasValues
scan_is r m pairs k sorted = pairs_in_is r m (within r pairs.entries) (sorted_within r pairs.entries sorted) (λ key.
    find-where_key (slice_cmp nat_cmp) (has_key r) key (λ x e. ap (has_key r) (sym (exact_bytes key x e))) pairs.entries
    ∙ ap (λ o. cond (has_key r key) o None) (find_lookup key pairs.entries ∙ k key))

-- ---- one by one

split : (r : Interval) (e : List ℕ × List ℕ) (es : Entries) → expected r (e ∷ es) ≡ own_pairs r e.0 e.1 ++ expected r es
split r e es = by (has_key r e.0)
  where
    by : (c : Bool) → map pair_of (cond c (e ∷ within r es) (within r es)) ≡ cond c (pair_of e ∷ []) [] ++ expected r es
    by true = refl
    by false = refl

abbrev tail_of : List Pair → List Pair
tail_of [] = []
tail_of (p ∷ ps) = ps

same_rest : (r : Interval) (key value : List ℕ) (xs ys : List Pair) → own_pairs r key value ++ xs ≡ own_pairs r key value ++ ys → xs ≡ ys
same_rest r key value xs ys = by (has_key r key)
  where
    by : (c : Bool) → cond c (pair_of (key, value) ∷ []) [] ++ xs ≡ cond c (pair_of (key, value) ∷ []) [] ++ ys → xs ≡ ys
    by true same = ap tail_of same
    by false same = same

module _ (Q : Type 0) (r : Interval) (key value : List ℕ) (left : List Pair) (old new : Entries) (steps : old ≡ (key, value) ∷ new) (k : left ≡ expected r old ↔ Q) where
  whole : expected r old ≡ own_pairs r key value ++ expected r new
  whole = ap (expected r) steps ∙ split r (key, value) new

  pub goes_on : (rest : List Pair) → left ≡ own_pairs r key value ++ rest → rest ≡ expected r new ↔ Q
  goes_on rest here = (
    λ same. k.0 (here ∙ ap (λ (ps : List Pair). own_pairs r key value ++ ps) same ∙ sym whole),
    λ q. same_rest r key value rest (expected r new) (sym here ∙ k.1 q ∙ whole),
  )

  pub fails : ((rest : List Pair) → left ≢ own_pairs r key value ++ rest) → IsTrue false ↔ Q
  fails apart = (λ is. absurd (cc is), λ q. absurd (apart (expected r new) (k.1 q ∙ whole)))

empty_exact : (left : List Pair) (b : Bool) → b ≡ eqb (length left) 0 → IsTrue b ↔ (left ≡ [])
empty_exact [] b is = (λ t. refl, λ e. is)
empty_exact (p ∷ ps) b is =
    let filled : eqb (length (p ∷ ps)) 0 ≡ false = eqb_differ (length (p ∷ ps)) 0 (λ e. omega (arith, e)) in
    (λ t. absurd (not_both b t (is ∙ filled)), λ e. absurd (cc e))

pub ends : (Q : Type 0) (r : Interval) (left : List Pair) (old : Entries) (b : Bool) → old ≡ [] → b ≡ eqb (length left) 0 → left ≡ expected r old ↔ Q → IsTrue b ↔ Q
ends Q r left old b done is k =
    let exact = empty_exact left b is in
    (λ t. k.0 (exact.0 t ∙ sym (ap (expected r) done)), λ q. exact.1 (k.1 q ∙ ap (expected r) done))
