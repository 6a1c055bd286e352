-- Ranges of a single key, and the locks on them.
use Rattle.std.proofs.Common.{◌≡◌, ℕ, Bool, true, false, List, [], ◌∷◌, ◌++◌, map, Option, Some, None, refl, sym, ap, subst, ◌∙◌, Ordering, Less, Equal, Greater, inl, inr}
use Rattle.std.specs.Prelude.{◌↔◌, ◌≢◌, ◌⊎◌, ◌||◌, ◌&&◌, not, IsTrue}
use Rattle.std.specs.List.{list_any}
use Rattle.std.specs.Ordering.{nat_cmp, is_lt, eq_by_cmp}
use Rattle.std.specs.Cmp.{tied_itself}
use Rattle.std.specs.Cmp.Lexicographic.{slice_cmp, nat_list_cmp_total}
use Rattle.std.proofs.lemmas.Map.Lookups.{exact_bytes}
use Rattle.store_model.specs.Range.{Interval, IsBelow, is_below, point, includes}
use Rattle.store_model.specs.declared.range.Mode.{Mode}
use Rattle.store_model.proofs.Bools.{both_true, and_true, or_left, or_right, not_true, not_from, not_both, false_unless}
use Rattle.store_model.specs.declared.range.Mode.TheVariants.{Shared, Exclusive}
use Rattle.range_lock.specs.Lock.{Lock, IsAmong, is_exclusive, covers}
use Rattle.range_lock.specs.Among.{Removes}
use Rattle.range_lock.specs.Point.{PointLock}
use Rattle.range_lock.specs.Tables.{lock_at_point, IsCoveredAtPoint}
use Rattle.range_lock.proofs.Texts.{less, turned, none_between}
use Rattle.range_lock.proofs.Members.{among_left, among_right, among_either, is_equal, point_held, held_point}

-- ---- what lies within a point is that point

same_text : (a b : List ℕ) (o : Ordering) → slice_cmp nat_cmp a b ≡ o → is_lt (slice_cmp nat_cmp a b) ≡ false → is_lt (slice_cmp nat_cmp b a) ≡ false → a ≡ b
same_text a b Less e p q = absurd (not_both (is_lt (slice_cmp nat_cmp a b)) (ap is_lt e) p)
same_text a b Equal e p q = exact_bytes a b e
same_text a b Greater e p q = absurd (not_both (is_lt (slice_cmp nat_cmp b a)) (ap is_lt (turned a b Greater e)) q)

-- below what isn't above c is below c
below_up_to : (a b c : List ℕ) (o : Ordering) → slice_cmp nat_cmp b c ≡ o → is_lt (slice_cmp nat_cmp a b) ≡ true → is_lt (slice_cmp nat_cmp c b) ≡ false → is_lt (slice_cmp nat_cmp a c) ≡ true
below_up_to a b c Less e p q = ap is_lt (nat_list_cmp_total.trans a b c (less _ p) e)
below_up_to a b c Equal e p q = subst (λ (x : List ℕ). is_lt (slice_cmp nat_cmp a x) ≡ true) (exact_bytes b c e) p
below_up_to a b c Greater e p q = absurd (not_both (is_lt (slice_cmp nat_cmp c b)) (ap is_lt (turned b c Greater e)) q)

above_from : (a b c : List ℕ) (o : Ordering) → slice_cmp nat_cmp a b ≡ o → is_lt (slice_cmp nat_cmp b a) ≡ false → is_lt (slice_cmp nat_cmp b c) ≡ true → is_lt (slice_cmp nat_cmp a c) ≡ true
above_from a b c Less e p q = ap is_lt (nat_list_cmp_total.trans a b c e (less _ q))
above_from a b c Equal e p q = subst (λ (x : List ℕ). is_lt (slice_cmp nat_cmp x c) ≡ true) (sym (exact_bytes a b e)) q
above_from a b c Greater e p q = absurd (not_both (is_lt (slice_cmp nat_cmp b a)) (ap is_lt (turned a b Greater e)) p)

within : (k : List ℕ) (low high : Option (List ℕ)) → is_below low high ≡ true → is_below low (Some k) ≡ false → is_below (Some (k ++ 0 ∷ [])) high ≡ false → (low ≡ Some k) × (high ≡ Some (k ++ 0 ∷ []))
within k None high p q r = absurd cc
within k (Some a) None p q r = absurd cc
within k (Some a) (Some b) p q r =
    let next = k ++ 0 ∷ [] in
    let a_below : is_lt (slice_cmp nat_cmp a next) ≡ true = below_up_to a b next _ refl p r in
    let k_not : is_lt (slice_cmp nat_cmp k a) ≡ false = false_unless _ (λ g. not_both (is_lt (slice_cmp nat_cmp a next)) a_below (none_between k a (less _ g))) in
    let low_is : a ≡ k = same_text a k _ refl q k_not in
    let k_below : is_lt (slice_cmp nat_cmp k b) ≡ true = above_from k a b _ refl q p in
    let b_not : is_lt (slice_cmp nat_cmp b next) ≡ false = none_between k b (less _ k_below) in
    (ap (λ (t : List ℕ). Some t) low_is, ap (λ (t : List ℕ). Some t) (same_text b next _ refl b_not r))

pub within_point : (k : List ℕ) (r : Interval) → IsBelow r.low r.high → includes (point k) r ≡ true → r ≡ point k
within_point k r below inside =
    let both = both_true _ _ inside in
    let w = within k r.low r.high below (not_true _ both.0) (not_true _ both.1) in
    λ i. record { low = w.0 i; high = w.1 i }

not_below_itself : (a : List ℕ) → is_below (Some a) (Some a) ≡ false
not_below_itself a = ap is_lt (tied_itself nat_list_cmp_total a)

pub includes_itself : (k : List ℕ) → includes (point k) (point k) ≡ true
includes_itself k = and_true _ _ (not_from _ (not_below_itself k)) (not_from _ (not_below_itself (k ++ 0 ∷ [])))

some_text : (a b : List ℕ) → ◌≡◌ {A = Option (List ℕ)} (Some a) (Some b) → a ≡ b
some_text a b e = cc

one_key : (a b : List ℕ) → point a ≡ point b → a ≡ b
one_key a b e = some_text a b (ap (λ (r : Interval). r.low) e)

-- ---- covering by a lock on a key

module _ (held : Mode) (p : PointLock) (range : Interval) (mode : Mode) where
  covers_same : range ≡ point p.key → (is_exclusive held || not (is_exclusive mode)) ≡ true → covers (lock_at_point held p) range mode ≡ true
  covers_same is h = rw is (and_true _ _ (includes_itself p.key) h)

  -- the lock covers it only where the range is that of its key
  only_same : (l : Lock) → l ≡ lock_at_point held p → covers l range mode ≡ true → IsBelow range.low range.high → (range ≡ point p.key) × ((is_exclusive held || not (is_exclusive mode)) ≡ true)
  only_same l is h below = let both = both_true _ _ (ap (λ (x : Lock). covers x range mode) (sym is) ∙ h) in (within_point p.key range below both.0, both.1)

enough : (e s m : Bool) → (e || (s && not m)) ≡ true → (e ≡ true) ⊎ ((s ≡ true) × (m ≡ false))
enough true s m h = inl refl
enough false true false h = inr (refl, refl)
enough false true true h = absurd cc
enough false false m h = absurd cc

module _ (shared exclusive : List PointLock) (tx : ℕ) (range : Interval) (mode : Mode) (below : IsBelow range.low range.high) where
  pub covered_exactly : (key : List ℕ) (e s r : Bool) → range ≡ point key → IsTrue e ↔ IsAmong (record { key = key; tx = tx }) exclusive → IsTrue s ↔ IsAmong (record { key = key; tx = tx }) shared
      → r ≡ (e || (s && not (is_exclusive mode))) → IsTrue r ↔ IsCoveredAtPoint shared exclusive tx range mode
  covered_exactly key e s r is is_e is_s is_r = (to, from)
    where
      at_shared : List Lock
      at_shared = map (lock_at_point Shared) shared

      at_exclusive : List Lock
      at_exclusive = map (lock_at_point Exclusive) exclusive

      lock : PointLock
      lock = record { key = key; tx = tx }

      to : IsTrue r → IsCoveredAtPoint shared exclusive tx range mode
      to h = elim (enough e s (is_exclusive mode) (sym is_r ∙ h)) [
        | inl he ↦ (lock_at_point Exclusive lock, among_right _ at_shared at_exclusive (point_held Exclusive exclusive lock (is_e.0 he)), refl, covers_same Exclusive lock range mode is refl)
        | inr hs ↦ (lock_at_point Shared lock, among_left _ at_shared at_exclusive (point_held Shared shared lock (is_s.0 hs.0)), refl, covers_same Shared lock range mode is (not_from _ hs.1))
      ]

      same : (held : Mode) (p : PointLock) (l : Lock) → l ≡ lock_at_point held p → range ≡ point p.key → l.tx ≡ tx → p ≡ lock
      same held p l at k t = λ i. record { key = one_key p.key key (sym k ∙ is) i; tx = (ap (λ (x : Lock). x.tx) (sym at) ∙ t) i }

      from : IsCoveredAtPoint shared exclusive tx range mode → IsTrue r
      from g = elim (among_either g.0 at_shared at_exclusive g.1) [
        | inl m ↦ let p = held_point Shared shared g.0 m in
            let c = only_same Shared p.0 range mode g.0 p.2 g.3 below in
            is_r ∙ or_right e _ (and_true s _ (is_s.1 (subst (λ (q : PointLock). IsAmong q shared) (same Shared p.0 g.0 p.2 c.0 g.2) p.1)) c.1)
        | inr m ↦ let p = held_point Exclusive exclusive g.0 m in
            let c = only_same Exclusive p.0 range mode g.0 p.2 g.3 below in
            is_r ∙ or_left e _ (is_e.1 (subst (λ (q : PointLock). IsAmong q exclusive) (same Exclusive p.0 g.0 p.2 c.0 g.2) p.1))
      ]

  pub covered_by_none : ((key : List ℕ) → range ≢ point key) → IsCoveredAtPoint shared exclusive tx range mode → ⊥
  covered_by_none none g = elim (among_either g.0 (map (lock_at_point Shared) shared) (map (lock_at_point Exclusive) exclusive) g.1) [
    | inl m ↦ let p = held_point Shared shared g.0 m in none p.0.key (only_same Shared p.0 range mode g.0 p.2 g.3 below).0
    | inr m ↦ let p = held_point Exclusive exclusive g.0 m in none p.0.key (only_same Exclusive p.0 range mode g.0 p.2 g.3 below).0
  ]

-- ---- removal

module _ (s n : List PointLock) (key : List ℕ) (tx : ℕ) (h : Removes s n (record { key = key; tx = tx })) where
  pub removed_others : (p : PointLock) → p.tx ≢ tx → IsAmong p s → IsAmong p n
  removed_others p other m = (h p).1 (λ e. other (ap (λ (q : PointLock). q.tx) e), m)

  pub removed_fewer : (p : PointLock) → IsAmong p n → IsAmong p s
  removed_fewer p m = ((h p).0 m).1

  pub removed_gone : (p : PointLock) → p.tx ≡ tx → IsAmong p n → eq_by_cmp (slice_cmp nat_cmp) p.key key ≡ false
  removed_gone p t m = false_unless _ (λ g. ((h p).0 m).0 (λ i. record { key = exact_bytes p.key key (is_equal (slice_cmp nat_cmp p.key key) g) i; tx = t i }))

-- ---- one key more

or_false_both : (a b c : Bool) → (b ≡ false → c ≡ false) → (a || b) ≡ false → (a || c) ≡ false
or_false_both true b c h e = absurd cc
or_false_both false b c h e = h e

pub none_last : (t : List ℕ → Bool) (key : List ℕ) → t key ≡ false → (ks : List (List ℕ)) → list_any t ks ≡ false → list_any t (ks ++ key ∷ []) ≡ false
none_last t key none [] g = rw none refl
none_last t key none (k ∷ ks) g = or_false_both (t k) (list_any t ks) (list_any t (ks ++ key ∷ [])) (none_last t key none ks) g
