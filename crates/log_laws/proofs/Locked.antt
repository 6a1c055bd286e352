-- Ranges, and keys that are locked.
use Rattle.std.proofs.Common.{◌≡◌, ℕ, arith, Bool, true, false, List, [], ◌∷◌, ◌++◌, Option, Some, None, refl, sym, ap, subst, ◌∙◌, Ordering, Less, Equal, Greater}
use Rattle.std.specs.Prelude.{◌||◌, ◌&&◌, not, zero, suc, map}
use Rattle.std.specs.List.{list_any}
use Rattle.std.specs.Ordering.{nat_cmp, is_lt, ordering_reverse, ordering_then}
use Rattle.std.specs.Cmp.Lexicographic.{slice_cmp, nat_list_cmp_total}
use Rattle.std.proofs.lemmas.Map.Lookups.{exact_bytes, exact_unsigned}
use Rattle.std.proofs.lemmas.Cmp.{tied_itself}
use Rattle.std.specs.Cmp.{nat_cmp_is}
use Rattle.store_model.proofs.Order.{below_longer}
use Rattle.store_model.specs.Range.{Interval, has_key, is_below, point, overlap}
use Rattle.log_laws.specs.Locks.{meets}
use Rattle.store_model.proofs.Bools.{both_true, and_true, not_true, not_from, or_left, or_right, not_both, false_unless}
use Rattle.store_model.proofs.Ranges.{not_beneath, overlap_at}
use Rattle.wal_record.specs.declared.record.Record.{Record}
use Rattle.wal_record.specs.OpenWrites.{writes, key_of}
use Rattle.wal_record.specs.Locks.{Held, conflict, covers, covers_key, covers_write, is_exclusive, point_lock, loser_locks}
use Rattle.log_laws.proofs.Central.{neither, equal_key, own_key, value_after, Olds}

less : (o : Ordering) → is_lt o ≡ true → o ≡ Less
less Less e = refl
less Equal e = absurd cc
less Greater e = absurd cc

pub below_trans : (a b c : Option (List ℕ)) → is_below a b ≡ true → is_below b c ≡ true → is_below a c ≡ true
below_trans None b c p q = absurd cc
below_trans (Some a) None c p q = absurd cc
below_trans (Some a) (Some b) None p q = refl
below_trans (Some a) (Some b) (Some c) p q = ap is_lt (nat_list_cmp_total.trans a b c (less _ p) (less _ q))

-- a lock that conflicts with none of these, and covers a write, shares its key with none
pub writer_apart : (l : Held) (ls : List Held) (key : List ℕ) → list_any (conflict l) ls ≡ false → covers_write key l ≡ true → list_any (covers_key key) ls ≡ false
writer_apart l [] key p q = refl
writer_apart l (k ∷ ls) key p q =
    let n = neither (conflict l k) (list_any (conflict l) ls) p in
    let w = both_true (has_key l.range key) (is_exclusive l.mode) q in
    let here : covers_key key k ≡ false = false_unless (covers_key key k) (λ g. not_both (conflict l k) (and_true (overlap l.range k.range) (is_exclusive l.mode || is_exclusive k.mode) (overlap_at l.range k.range key w.0 g) (or_left (is_exclusive l.mode) (is_exclusive k.mode) w.1)) n.0) in
    ap (λ (b : Bool). b || list_any (covers_key key) ls) here ∙ writer_apart l ls key n.1 q

pub reader_apart : (l : Held) (ls : List Held) (key : List ℕ) → list_any (conflict l) ls ≡ false → covers_key key l ≡ true → list_any (covers_write key) ls ≡ false
reader_apart l [] key p q = refl
reader_apart l (k ∷ ls) key p q =
    let n = neither (conflict l k) (list_any (conflict l) ls) p in
    let here : covers_write key k ≡ false = false_unless (covers_write key k) (λ g.
    let w = both_true (has_key k.range key) (is_exclusive k.mode) g in
    not_both (conflict l k) (and_true (overlap l.range k.range) (is_exclusive l.mode || is_exclusive k.mode) (overlap_at l.range k.range key q w.0) (or_right (is_exclusive l.mode) (is_exclusive k.mode) w.1)) n.0) in
    ap (λ (b : Bool). b || list_any (covers_write key) ls) here ∙ reader_apart l ls key n.1 q

covers_more : (l : Held) (key : List ℕ) (more wide : Bool) (b : Bool) → covers_write key l ≡ b → (more ≡ true → wide ≡ true) → (b || more) ≡ true → (covers_key key l || wide) ≡ true
covers_more l key more wide true e h g = or_left (covers_key key l) wide (both_true (has_key l.range key) (is_exclusive l.mode) e).0
covers_more l key more wide false e h g = or_right (covers_key key l) wide (h g)

-- who covers a write covers the key
pub write_covers : (ls : List Held) (key : List ℕ) → list_any (covers_write key) ls ≡ true → list_any (covers_key key) ls ≡ true
write_covers [] key p = absurd cc
write_covers (l ∷ ls) key p = covers_more l key (list_any (covers_write key) ls) (list_any (covers_key key) ls) (covers_write key l) refl (write_covers ls key) p

point_above : (key : List ℕ) → is_below (Some key) (Some (key ++ 0 ∷ [])) ≡ true
point_above key = below_longer key 0

-- a key below a bound is below one that isn't below that bound
pub above : (k : List ℕ) (high top : Option (List ℕ)) → is_below (Some k) high ≡ true → is_below top high ≡ false → is_below (Some k) top ≡ true
above k high None p q = refl
above k high (Some t) p q = by (slice_cmp nat_cmp k t) refl
  where
    by : (o : Ordering) → slice_cmp nat_cmp k t ≡ o → is_lt (slice_cmp nat_cmp k t) ≡ true
    by Less e = ap is_lt e
    by Equal e = absurd (not_both (is_below (Some t) high) (subst (λ (x : List ℕ). is_below (Some x) high ≡ true) (exact_bytes k t e) p) q)
    by Greater e = absurd (not_both (is_below (Some t) high) (below_trans (Some t) (Some k) high (ap is_lt (nat_list_cmp_total.antisymm t k ∙ ap ordering_reverse e)) p) q)

-- a lock that covers a range covers its keys
inside : (r : Interval) (l : Held) (key : List ℕ) → covers r l ≡ true → has_key r key ≡ true → covers_key key l ≡ true
inside r l key c h =
    let pc = both_true (not (is_below r.low l.range.low)) (not (is_below l.range.high r.high)) c in
    let ph = both_true (not (is_below (Some key) r.low)) (is_below (Some key) r.high) h in
    and_true (not (is_below (Some key) l.range.low)) (is_below (Some key) l.range.high)
    (not_from (is_below (Some key) l.range.low) (not_beneath key r.low l.range.low (not_true _ ph.0) (not_true _ pc.0)))
    (above key r.high l.range.high ph.1 (not_true _ pc.1))

pub covered : (r : Interval) (ls : List Held) (key : List ℕ) → list_any (covers r) ls ≡ true → has_key r key ≡ true → list_any (covers_key key) ls ≡ true
covered r [] key c h = absurd cc
covered r (l ∷ ls) key c h = by (covered r ls key) (covers r l) refl c
  where
    by : (list_any (covers r) ls ≡ true → has_key r key ≡ true → list_any (covers_key key) ls ≡ true) → (b : Bool) → covers r l ≡ b → (b || list_any (covers r) ls) ≡ true → (covers_key key l || list_any (covers_key key) ls) ≡ true
    by more true e g = or_left (covers_key key l) (list_any (covers_key key) ls) (inside r l key e h)
    by more false e g = or_right (covers_key key l) (list_any (covers_key key) ls) (more g h)

pub in_point : (key : List ℕ) → has_key (point key) key ≡ true
in_point key = and_true (not (is_below (Some key) (Some key))) (is_below (Some key) (Some (key ++ 0 ∷ [])))
    (not_from (is_below (Some key) (Some key)) (ap is_lt (tied_itself nat_list_cmp_total key))) (point_above key)

not_below_zero : (y : ℕ) → nat_cmp y 0 ≡ Less → ⊥
not_below_zero zero e = cc
not_below_zero (suc y) e = let d : Greater ≡ Less = nat_cmp_is (suc y) 0 Greater (omega arith) ∙ e in absurd cc

same_number : (y x : ℕ) → nat_cmp y x ≡ Equal → y ≡ x
same_number y x e = exact_unsigned y x e

-- no key lies between a key and the key with a zero byte more
pub nothing_between : (q k : List ℕ) → is_lt (slice_cmp nat_cmp q k) ≡ false → is_lt (slice_cmp nat_cmp q (k ++ 0 ∷ [])) ≡ true → q ≡ k
nothing_between [] [] p g = refl
nothing_between [] (x ∷ xs) p g = absurd cc
nothing_between (y ∷ ys) [] p g = absurd (none (nat_cmp y 0) refl g)
  where
    not_less : (xs : List ℕ) → is_lt (slice_cmp nat_cmp xs []) ≡ true → ⊥
    not_less [] e = cc
    not_less (x ∷ xs) e = cc

    none : (o : Ordering) → nat_cmp y 0 ≡ o → is_lt (ordering_then o (slice_cmp nat_cmp ys [])) ≡ true → ⊥
    none Less e h = not_below_zero y e
    none Equal e h = not_less ys h
    none Greater e h = cc
nothing_between (y ∷ ys) (x ∷ xs) p g = by (nothing_between ys xs) (nat_cmp y x) refl p g
  where
    by : (is_lt (slice_cmp nat_cmp ys xs) ≡ false → is_lt (slice_cmp nat_cmp ys (xs ++ 0 ∷ [])) ≡ true → ys ≡ xs) → (o : Ordering) → nat_cmp y x ≡ o
        → is_lt (ordering_then o (slice_cmp nat_cmp ys xs)) ≡ false → is_lt (ordering_then o (slice_cmp nat_cmp ys (xs ++ 0 ∷ []))) ≡ true → y ∷ ys ≡ x ∷ xs
    by more Less e p g = absurd cc
    by more Equal e p g = λ i. same_number y x e i ∷ more p g i
    by more Greater e p g = absurd cc

pub point_only : (q k : List ℕ) → has_key (point k) q ≡ true → q ≡ k
point_only q k h =
    let p = both_true (not (is_below (Some q) (Some k))) (is_below (Some q) (Some (k ++ 0 ∷ []))) h in
    nothing_between q k (not_true _ p.0) p.1

-- ---- the locks of losers

-- an open write's key is locked
pub loser_holds : (b : Bool) (ws : List Record) (key : List ℕ) → b ≡ true → (val : List ℕ → Option (List ℕ)) → Olds val ws → list_any (writes key) ws ≡ true → list_any (covers_write key) (loser_locks b ws) ≡ true
loser_holds false ws key e val g h = absurd cc
loser_holds true [] key e val g h = absurd cc
loser_holds true (w ∷ ws) key e val g h = by (loser_holds true ws key refl (λ k. value_after k (val k) w) g.2) (writes key w) refl h
  where
    by : (list_any (writes key) ws ≡ true → list_any (covers_write key) (map point_lock ws) ≡ true) → (b : Bool) → writes key w ≡ b → (b || list_any (writes key) ws) ≡ true
        → (covers_write key (point_lock w) || list_any (covers_write key) (map point_lock ws)) ≡ true
    by more true e h = or_left (covers_write key (point_lock w)) _ (and_true (has_key (point (key_of w)) key) true (subst (λ (k : List ℕ). has_key (point (key_of w)) k ≡ true) (sym (equal_key key (key_of w) (sym (g.0 key) ∙ e))) (in_point (key_of w))) refl)
    by more false e h = or_right (covers_write key (point_lock w)) _ (more h)

-- a locked key has an open write
pub loser_opens : (b : Bool) (ws : List Record) (key : List ℕ) (val : List ℕ → Option (List ℕ)) → Olds val ws → list_any (covers_key key) (loser_locks b ws) ≡ true → list_any (writes key) ws ≡ true
loser_opens false ws key val g h = absurd cc
loser_opens true [] key val g h = absurd cc
loser_opens true (w ∷ ws) key val g h = by (loser_opens true ws key (λ k. value_after k (val k) w) g.2) (has_key (point (key_of w)) key) refl h
  where
    by : (list_any (covers_key key) (map point_lock ws) ≡ true → list_any (writes key) ws ≡ true) → (b : Bool) → has_key (point (key_of w)) key ≡ b → (b || list_any (covers_key key) (map point_lock ws)) ≡ true
        → (writes key w || list_any (writes key) ws) ≡ true
    by more true e h = or_left (writes key w) _ (g.0 key ∙ own_key key (key_of w) (point_only key (key_of w) e))
    by more false e h = or_right (writes key w) _ (more h)

-- a list of fewer writes has fewer locks
pub loser_fewer : (p : Held → Bool) (b : Bool) (ws vs : List Record) → list_any p (loser_locks b ws) ≡ true → list_any p (loser_locks b (ws ++ vs)) ≡ true
loser_fewer p false ws vs h = h
loser_fewer p true [] vs h = absurd cc
loser_fewer p true (w ∷ ws) vs h = by (loser_fewer p true ws vs) (p (point_lock w)) h
  where
    by : (list_any p (map point_lock ws) ≡ true → list_any p (map point_lock (ws ++ vs)) ≡ true) → (b : Bool) → (b || list_any p (map point_lock ws)) ≡ true → (b || list_any p (map point_lock (ws ++ vs))) ≡ true
    by more true h = refl
    by more false h = more h

-- ---- lists of locks that don't conflict

and_swaps : (a b : Bool) → (a && b) ≡ (b && a)
and_swaps true true = refl
and_swaps true false = refl
and_swaps false true = refl
and_swaps false false = refl

or_swaps : (a b : Bool) → (a || b) ≡ (b || a)
or_swaps true true = refl
or_swaps true false = refl
or_swaps false true = refl
or_swaps false false = refl

conflict_swaps : (k l : Held) → conflict k l ≡ conflict l k
conflict_swaps k l =
    ap (λ (b : Bool). b && (is_exclusive k.mode || is_exclusive l.mode)) (and_swaps (is_below k.range.low l.range.high) (is_below l.range.low k.range.high))
    ∙ ap (λ (b : Bool). overlap l.range k.range && b) (or_swaps (is_exclusive k.mode) (is_exclusive l.mode))

neither_or : (a b : Bool) → a ≡ false → b ≡ false → (a || b) ≡ false
neither_or true b p q = absurd cc
neither_or false b p q = q

-- one lock more on the right, which conflicts with none on the left
pub meets_more : (ls ks : List Held) (l : Held) → list_any (conflict l) ls ≡ false → meets ls ks ≡ false → meets ls (l ∷ ks) ≡ false
meets_more [] ks l p q = refl
meets_more (k ∷ ls) ks l p q =
    let a = neither (conflict l k) (list_any (conflict l) ls) p in
    let b = neither (list_any (conflict k) ks) (meets ls ks) q in
    neither_or (conflict k l || list_any (conflict k) ks) (meets ls (l ∷ ks)) (neither_or (conflict k l) (list_any (conflict k) ks) (conflict_swaps k l ∙ a.0) b.0) (meets_more ls ks l a.1 b.1)

any_more : (p q : Held → Bool) → ((l : Held) → p l ≡ true → q l ≡ true) → (ls : List Held) → list_any p ls ≡ true → list_any q ls ≡ true
any_more p q h [] g = absurd cc
any_more p q h (l ∷ ls) g = by (any_more p q h ls) (p l) refl g
  where
    by : (list_any p ls ≡ true → list_any q ls ≡ true) → (b : Bool) → p l ≡ b → (b || list_any p ls) ≡ true → (q l || list_any q ls) ≡ true
    by more true e g = or_left (q l) (list_any q ls) (h l e)
    by more false e g = or_right (q l) (list_any q ls) (more g)

-- the left list has whatever lock the right one has
abbrev pub IsWithin : List Held → List Held → Type 0
IsWithin less ls = (p : Held → Bool) → list_any p less ≡ true → list_any p ls ≡ true

pub meets_less : (ls ks less few : List Held) → IsWithin less ls → IsWithin few ks → meets ls ks ≡ false → meets less few ≡ false
meets_less ls ks less few f g apart = false_unless (meets less few) (λ h.
    not_both (meets ls ks)
    (any_more (λ (l : Held). list_any (conflict l) few) (λ (l : Held). list_any (conflict l) ks) (λ l e. g (conflict l) e) ls (f (λ (l : Held). list_any (conflict l) few) h)) apart)
