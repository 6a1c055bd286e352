-- Laws of bounds and ranges.
use Rattle.std.proofs.Common.{◌≡◌, ℕ, true, false, List, Option, Some, None, refl, ap, subst, ◌∙◌, Ordering, Less, Equal, Greater}
use Rattle.std.specs.Prelude.{not}
use Rattle.std.specs.Ordering.{nat_cmp, is_lt, ordering_reverse}
use Rattle.std.specs.Cmp.Lexicographic.{slice_cmp, nat_list_cmp_total}
use Rattle.std.proofs.lemmas.Map.Lookups.{exact_bytes}
use Rattle.store_model.specs.Range.{Interval, has_key, is_below, overlap}
use Rattle.store_model.proofs.Bools.{both_true, and_true, not_true, not_both, false_unless}

less : (o : Ordering) → is_lt o ≡ true → o ≡ Less
less Less e = refl
less Equal e = absurd cc
less Greater e = absurd cc

-- a bound that a key isn't below is below one that the key is below
pub between : (low high : Option (List ℕ)) (key : List ℕ) → is_below (Some key) low ≡ false → is_below (Some key) high ≡ true → is_below low high ≡ true
between None high key p q = absurd cc
between (Some a) None key p q = refl
between (Some a) (Some b) key p q = by (slice_cmp nat_cmp key a) refl
  where
    by : (o : Ordering) → slice_cmp nat_cmp key a ≡ o → is_lt (slice_cmp nat_cmp a b) ≡ true
    by Less e = absurd (not_both (is_lt (slice_cmp nat_cmp key a)) (ap is_lt e) p)
    by Equal e = subst (λ (k : List ℕ). is_lt (slice_cmp nat_cmp k b) ≡ true) (exact_bytes key a e) q
    by Greater e = ap is_lt (nat_list_cmp_total.trans a key b (nat_list_cmp_total.antisymm a key ∙ ap ordering_reverse e) (less (slice_cmp nat_cmp key b) q))

-- a key that isn't below a bound isn't below one under it
pub not_beneath : (k : List ℕ) (low least : Option (List ℕ)) → is_below (Some k) low ≡ false → is_below low least ≡ false → is_below (Some k) least ≡ false
not_beneath k low least p q = false_unless (is_below (Some k) least) (λ g. not_both (is_below low least) (between low least k p g) q)

-- two ranges that have a key in common overlap
pub overlap_at : (a b : Interval) (key : List ℕ) → has_key a key ≡ true → has_key b key ≡ true → overlap a b ≡ true
overlap_at a b key p q =
    let pa = both_true (not (is_below (Some key) a.low)) (is_below (Some key) a.high) p in
    let pb = both_true (not (is_below (Some key) b.low)) (is_below (Some key) b.high) q in
    and_true (is_below a.low b.high) (is_below b.low a.high)
    (between a.low b.high key (not_true (is_below (Some key) a.low) pa.0) pb.1)
    (between b.low a.high key (not_true (is_below (Some key) b.low) pb.0) pa.1)
