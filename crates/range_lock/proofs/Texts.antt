-- The order of texts and of bounds.
use Rattle.std.proofs.Common.{◌≡◌, ℕ, zero, suc, true, false, List, [], ◌∷◌, ◌++◌, take, Option, Some, None, refl, ap, ◌∙◌, Ordering, Less, Equal, Greater, arith}
use Rattle.std.specs.Ordering.{nat_cmp, is_lt, ordering_then, ordering_reverse}
use Rattle.std.specs.Cmp.{nat_cmp_total, nat_cmp_is}
use Rattle.std.specs.Cmp.Lexicographic.{slice_cmp, nat_list_cmp_total}
use Rattle.store_model.specs.Range.{is_below}
use Rattle.range_lock.specs.Order.{bound_cmp}

pub less : (o : Ordering) → is_lt o ≡ true → o ≡ Less
less Less e = refl
less Equal e = absurd cc
less Greater e = absurd cc

pub turned : (a b : List ℕ) (o : Ordering) → slice_cmp nat_cmp a b ≡ o → slice_cmp nat_cmp b a ≡ ordering_reverse o
turned a b o e = nat_list_cmp_total.antisymm b a ∙ ap ordering_reverse e

pub above_is : (a b : Option (List ℕ)) → is_below b a ≡ true → bound_cmp a b ≡ Greater
above_is None None e = absurd cc
above_is None (Some b) e = refl
above_is (Some a) None e = absurd cc
above_is (Some a) (Some b) e = turned b a Less (less (slice_cmp nat_cmp b a) e)

tied_texts : (a b : List ℕ) (o : Ordering) → slice_cmp nat_cmp a b ≡ o → is_lt (slice_cmp nat_cmp a b) ≡ false → is_lt (slice_cmp nat_cmp b a) ≡ false → o ≡ Equal
tied_texts a b Less e p q = let t : is_lt (slice_cmp nat_cmp a b) ≡ true = ap is_lt e in absurd cc
tied_texts a b Equal e p q = refl
tied_texts a b Greater e p q = let t : is_lt (slice_cmp nat_cmp b a) ≡ true = ap is_lt (turned a b Greater e) in absurd cc

pub tied_is : (a b : Option (List ℕ)) → is_below a b ≡ false → is_below b a ≡ false → bound_cmp a b ≡ Equal
tied_is None None p q = refl
tied_is None (Some b) p q = absurd cc
tied_is (Some a) None p q = absurd cc
tied_is (Some a) (Some b) p q = tied_texts a b (slice_cmp nat_cmp a b) refl p q

front_by : (o p r : Ordering) → (p ≡ Less → r ≡ Less) → ordering_then o p ≡ Less → ordering_then o r ≡ Less
front_by Less p r h e = refl
front_by Equal p r h e = h e
front_by Greater p r h e = absurd cc

-- a text below the beginning of another is below it
pub below_front : (n : ℕ) (q low : List ℕ) → slice_cmp nat_cmp q (take n low) ≡ Less → slice_cmp nat_cmp q low ≡ Less
below_front zero [] low e = absurd cc
below_front zero (x ∷ q) low e = absurd cc
below_front (suc n) [] [] e = e
below_front (suc n) (x ∷ q) [] e = e
below_front (suc n) [] (y ∷ low) e = refl
below_front (suc n) (x ∷ q) (y ∷ low) e = front_by (nat_cmp x y) (slice_cmp nat_cmp q (take n low)) (slice_cmp nat_cmp q low) (below_front n q low) e

between_by : (o o' p r : Ordering) → o' ≡ ordering_reverse o → (p ≡ Less → is_lt r ≡ false) → ordering_then o p ≡ Less → is_lt (ordering_then o' r) ≡ false
between_by Less o' p r back h e = rw back refl
between_by Equal o' p r back h e = rw back (h e)
between_by Greater o' p r back h e = absurd cc

-- between a text and the one with a zero byte behind it there is none
pub none_between : (k low : List ℕ) → slice_cmp nat_cmp k low ≡ Less → is_lt (slice_cmp nat_cmp low (k ++ 0 ∷ [])) ≡ false
none_between [] [] e = absurd cc
none_between [] (zero ∷ []) e = refl
none_between [] (zero ∷ y ∷ low) e = refl
none_between [] (suc y ∷ low) e = rw (← nat_cmp_is (suc y) 0 Greater (omega arith)) refl
none_between (x ∷ k) [] e = absurd cc
none_between (x ∷ k) (y ∷ low) e = between_by (nat_cmp x y) (nat_cmp y x) (slice_cmp nat_cmp k low) (slice_cmp nat_cmp low (k ++ 0 ∷ [])) (nat_cmp_total.antisymm y x) (none_between k low) e

pub below_front_bound : (n : ℕ) (q low : List ℕ) (bound : Option (List ℕ)) → bound ≡ Some low → slice_cmp nat_cmp q (take n low) ≡ Less → is_below (Some q) bound ≡ true
below_front_bound n q low bound is e = rw (is, below_front n q low e) refl
