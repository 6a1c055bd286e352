-- The search for the first lock in conflict: in pieces, and only where locks can conflict.
use Rattle.std.proofs.Common.{◌≡◌, ℕ, zero, suc, ◌+◌, ◌<◌, ◌≤◌, length, drop, get_or, add-one, drop-cons, Bool, true, false, cond, List, [], ◌∷◌, ◌++◌, map, Option, Some, None, refl, sym, ap, subst, ◌∙◌, Ordering, Less, Equal, Greater, arith}
use Rattle.std.specs.Prelude.{◌&&◌, ◌||◌}
use Rattle.std.specs.List.{filter, AllByRecursion}
use Rattle.std.specs.List.Sorted.{IsStrictlySortedBy}
use Rattle.std.specs.Ordering.{nat_cmp, is_lt, is_le, ordering_then}
use Rattle.std.specs.Cmp.{nat_cmp_is}
use Rattle.std.specs.Cmp.Lexicographic.{slice_cmp, nat_list_cmp_total}
use Rattle.std.proofs.lemmas.Map.Lookups.{exact_bytes}
use Rattle.std.proofs.lemmas.List.{drop_all}
use Rattle.std.proofs.lemmas.Map.Keys.{sorted_head}
use Rattle.store_model.specs.Range.{is_below, overlap}
use Rattle.store_model.proofs.Bools.{false_unless, not_both}
use Rattle.range_lock.specs.Lock.{Lock, is_exclusive, conflict}
use Rattle.range_lock.specs.Nearest.{nearest, step}
use Rattle.std.specs.declared.ops.Bound.{Bound}
use Rattle.std.specs.declared.ops.Bound.TheVariants.{Unbounded}
use Rattle.std.specs.BTreeMap.Range.{is_from_start, range_contains}
use Rattle.store_model.specs.declared.range.Mode.{Mode}
use Rattle.range_lock.specs.Tables.{lock_at_point, lock_on_range}
use Rattle.range_lock.specs.declared.rival.Rival.{Rival}
use Rattle.range_lock.specs.Point.{PointLock, point_cmp}
use Rattle.range_lock.specs.declared.entry.RangeLock.{RangeLock}
use Rattle.range_lock.proofs.Texts.{less, turned, none_between}

pub nearest-nil : (asked : Lock) (best : Option Rival) → nearest asked [] best ≡ best
unfolding nearest
nearest-nil asked best = refl

pub nearest-cons : (asked l : Lock) (ls : List Lock) (best : Option Rival) → nearest asked (l ∷ ls) best ≡ nearest asked ls (step asked best l)
unfolding nearest
nearest-cons asked l ls best = refl

pub nearest-append : (asked : Lock) (xs ys : List Lock) (best : Option Rival) → nearest asked (xs ++ ys) best ≡ nearest asked ys (nearest asked xs best)
unfolding nearest
nearest-append asked [] ys best = refl
nearest-append asked (x ∷ xs) ys best = nearest-append asked xs ys (step asked best x)

-- a lock that doesn't conflict is passed over
pub nearest-free : (asked l : Lock) (ls : List Lock) (best : Option Rival) → conflict asked l ≡ false → nearest asked (l ∷ ls) best ≡ nearest asked ls best
unfolding nearest
nearest-free asked l ls best e = rw e refl

-- a point below the range, or not below its end, is in no conflict with it
pub and_false : (a b : Bool) → b ≡ false → (a && b) ≡ false
and_false true b e = e
and_false false b e = refl

pub false_and : (a b : Bool) → a ≡ false → (a && b) ≡ false
false_and true b e = absurd cc
false_and false b e = refl

apart : (asked l : Lock) → overlap asked.range l.range ≡ false → conflict asked l ≡ false
apart asked l e = and_false _ _ (false_and _ _ e)

pub not_below_next : (k : List ℕ) (low : Option (List ℕ)) → is_below (Some k) low ≡ true → is_below low (Some (k ++ 0 ∷ [])) ≡ false
not_below_next k None e = refl
not_below_next k (Some low) e = none_between k low (less (slice_cmp nat_cmp k low) e)

-- ---- where the search may begin

none_above : (t : ℕ) → is_le (nat_cmp 0 t) ≡ true
none_above zero = refl
none_above (suc t) = rw (← nat_cmp_is 0 (suc t) Less (omega arith)) refl

key_first : (o p : Ordering) → is_le p ≡ true → is_le (ordering_then o p) ≡ false → o ≡ Greater
key_first Less p h e = absurd cc
key_first Equal p h e = absurd (not_both (is_le p) h e)
key_first Greater p h e = refl

-- the first lock at a key is not above a lock only where its key isn't
pub below_start : (k : PointLock) → k.tx ≡ 0 → (p : PointLock) → is_le (point_cmp k p) ≡ false → slice_cmp nat_cmp p.key k.key ≡ Less
below_start k first p e =
    turned k.key p.key Greater (key_first (slice_cmp nat_cmp k.key p.key) _ (subst (λ (t : ℕ). is_le (nat_cmp t p.tx) ≡ true) (sym first) (none_above p.tx)) e)

pub and-true : (b : Bool) → (b && true) ≡ false → b ≡ false
and-true true e = absurd cc
and-true false e = refl

-- ---- where it may end

-- one lock is not below the range's end, and so are those after it
pub after : (a b : List ℕ) (o : Ordering) → slice_cmp nat_cmp a b ≡ o → (o ≡ Greater → ⊥) → (high : Option (List ℕ)) → is_below (Some a) high ≡ false → is_below (Some b) high ≡ false
after a b Greater e h high p = absurd (h refl)
after a b Equal e h high p = subst (λ (k : List ℕ). is_below (Some k) high ≡ false) (exact_bytes a b e) p
after a b Less e h None p = p
after a b Less e h (Some t) p = false_unless (is_below (Some b) (Some t)) (λ g. not_both (is_below (Some a) (Some t)) (ap is_lt (nat_list_cmp_total.trans a b t e (less (slice_cmp nat_cmp b t) g))) p)

pub not_greater : (o p : Ordering) → ordering_then o p ≡ Less → o ≡ Greater → ⊥
not_greater Less p e g = absurd cc
not_greater Equal p e g = absurd cc
not_greater Greater p e g = absurd cc

pub sorted_after : (p : PointLock) (ps qs : List PointLock) → ps ≡ p ∷ qs → IsStrictlySortedBy point_cmp ps → IsStrictlySortedBy point_cmp qs
unfolding IsStrictlySortedBy
sorted_after p ps qs is sorted = (subst (IsStrictlySortedBy point_cmp) is sorted).1

pub ruleset nearest_appended = (nearest-append, nearest-nil)

-- ---- locks on keys, held in one mode

module _ (held : Mode) where
  pub free_above : (asked : Lock) (p : PointLock) → is_below (Some p.key) asked.range.high ≡ false → conflict asked (lock_at_point held p) ≡ false
  free_above asked p e = apart asked (lock_at_point held p) (and_false _ _ e)

  pub free_below : (asked : Lock) (p : PointLock) → is_below (Some p.key) asked.range.low ≡ true → conflict asked (lock_at_point held p) ≡ false
  free_below asked p e = apart asked (lock_at_point held p) (false_and _ _ (not_below_next p.key asked.range.low e))

  pub nearest-both : (asked : Lock) (xs ys : List PointLock) (best : Option Rival)
      → nearest asked (map (lock_at_point held) (xs ++ ys)) best ≡ nearest asked (map (lock_at_point held) ys) (nearest asked (map (lock_at_point held) xs) best)
  unfolding nearest
  nearest-both asked [] ys best = refl
  nearest-both asked (x ∷ xs) ys best = nearest-both asked xs ys (step asked best (lock_at_point held x))

  filter_by : (asked : Lock) (passes : PointLock → Bool) (p : PointLock) (ps : List PointLock) → (passes p ≡ false → conflict asked (lock_at_point held p) ≡ false)
      → ((best : Option Rival) → nearest asked (map (lock_at_point held) (filter passes ps)) best ≡ nearest asked (map (lock_at_point held) ps) best)
      → (best : Option Rival) (b : Bool) → passes p ≡ b → nearest asked (map (lock_at_point held) (cond b (p ∷ filter passes ps) (filter passes ps))) best ≡ nearest asked (map (lock_at_point held) (p ∷ ps)) best
  filter_by asked passes p ps free others best true e =
      nearest-cons asked (lock_at_point held p) (map (lock_at_point held) (filter passes ps)) best ∙ others (step asked best (lock_at_point held p)) ∙ sym (nearest-cons asked (lock_at_point held p) (map (lock_at_point held) ps) best)
  filter_by asked passes p ps free others best false e = others best ∙ sym (nearest-free asked (lock_at_point held p) (map (lock_at_point held) ps) best (free e))

  -- what a test passes over is in no conflict
  pub nearest-filter : (asked : Lock) (passes : PointLock → Bool) → ((p : PointLock) → passes p ≡ false → conflict asked (lock_at_point held p) ≡ false)
      → (ps : List PointLock) (best : Option Rival) → nearest asked (map (lock_at_point held) (filter passes ps)) best ≡ nearest asked (map (lock_at_point held) ps) best
  nearest-filter asked passes free [] best = refl
  nearest-filter asked passes free (p ∷ ps) best = filter_by asked passes p ps (free p) (nearest-filter asked passes free ps) best (passes p) refl

  -- the search may begin where only locks below the range are passed over
  pub nearest-from : (asked : Lock) (start : Bound PointLock) → ((p : PointLock) → is_from_start point_cmp start p ≡ false → is_below (Some p.key) asked.range.low ≡ true)
      → (ps : List PointLock) (best : Option Rival) → nearest asked (map (lock_at_point held) (filter (range_contains point_cmp start Unbounded) ps)) best ≡ nearest asked (map (lock_at_point held) ps) best
  nearest-from asked start h = nearest-filter asked (range_contains point_cmp start Unbounded) (λ p e. free_below asked p (h p (and-true (is_from_start point_cmp start p) e)))

  pub nearest-above : (asked : Lock) (p : PointLock) → is_below (Some p.key) asked.range.high ≡ false
      → (ps : List PointLock) (best : Option Rival) → AllByRecursion (λ q. point_cmp p q ≡ Less) ps → nearest asked (map (lock_at_point held) ps) best ≡ best
  nearest-above asked p e [] best h = nearest-nil asked best
  nearest-above asked p e (q ∷ ps) best h =
      let o = slice_cmp nat_cmp p.key q.key in
      let free = free_above asked q (after p.key q.key o refl (not_greater o _ h.0) asked.range.high e) in
      nearest-free asked (lock_at_point held q) (map (lock_at_point held) ps) best free ∙ nearest-above asked p e ps best h.1

  pub nearest-from_above : (asked : Lock) (p : PointLock) (ps : List PointLock) (best : Option Rival) → is_below (Some p.key) asked.range.high ≡ false
      → IsStrictlySortedBy point_cmp (p ∷ ps) → nearest asked (map (lock_at_point held) (p ∷ ps)) best ≡ best
  nearest-from_above asked p ps best e sorted =
      nearest-free asked (lock_at_point held p) (map (lock_at_point held) ps) best (free_above asked p e) ∙ nearest-above asked p e ps best (sorted_head point_cmp p ps sorted)

  -- two shared locks never conflict
  pub nearest-shared : (asked : Lock) → (is_exclusive asked.mode || is_exclusive held) ≡ false → (ps : List PointLock) (best : Option Rival) → nearest asked (map (lock_at_point held) ps) best ≡ best
  nearest-shared asked e [] best = nearest-nil asked best
  nearest-shared asked e (p ∷ ps) best =
      nearest-free asked (lock_at_point held p) (map (lock_at_point held) ps) best (and_false _ _ (and_false _ _ e)) ∙ nearest-shared asked e ps best

  -- ---- one turn of the search

  module _ (asked : Lock) (ps : List PointLock) (best : Option Rival) (total : Option Rival) (so_far : nearest asked (map (lock_at_point held) ps) best ≡ total) where
    pub ended : ps ≡ [] → best ≡ total
    ended is = sym (nearest-nil asked best) ∙ ap (λ (qs : List PointLock). nearest asked (map (lock_at_point held) qs) best) (sym is) ∙ so_far

    module _ (p : PointLock) (qs : List PointLock) (is : ps ≡ p ∷ qs) where
      whole : nearest asked (map (lock_at_point held) (p ∷ qs)) best ≡ total
      whole = ap (λ (rs : List PointLock). nearest asked (map (lock_at_point held) rs) best) (sym is) ∙ so_far

      pub stepped : (new : Option Rival) → new ≡ step asked best (lock_at_point held p) → nearest asked (map (lock_at_point held) qs) new ≡ total
      stepped new is_new = ap (nearest asked (map (lock_at_point held) qs)) is_new ∙ sym (nearest-cons asked (lock_at_point held p) (map (lock_at_point held) qs) best) ∙ whole

      pub cut : is_below (Some p.key) asked.range.high ≡ false → IsStrictlySortedBy point_cmp ps → best ≡ total
      cut e sorted = sym (nearest-from_above asked p qs best e (subst (IsStrictlySortedBy point_cmp) is sorted)) ∙ whole

-- one turn among the range locks of a holder
pub turn : (asked : Lock) (holder : ℕ) (held : List RangeLock) (i : ℕ) (item : RangeLock) (best new total : Option Rival) → i < length held → item ≡ get_or held i item → new ≡ step asked best (lock_on_range holder item)
    → nearest asked (map (lock_on_range holder) (drop i held)) best ≡ total → nearest asked (map (lock_on_range holder) (drop (i + 1) held)) new ≡ total
turn asked holder held i item best new total lt is is_new so_far =
    let split : drop i held ≡ item ∷ drop (i + 1) held = rw add-one (drop-cons held i item lt ∙ ap (λ (x : RangeLock). x ∷ drop (suc i) held) (sym is)) in
    ap (nearest asked (map (lock_on_range holder) (drop (i + 1) held))) is_new
    ∙ sym (nearest-cons asked (lock_on_range holder item) (map (lock_on_range holder) (drop (i + 1) held)) best)
    ∙ ap (λ (rs : List RangeLock). nearest asked (map (lock_on_range holder) rs) best) (sym split) ∙ so_far

pub all_turned : (asked : Lock) (holder : ℕ) (held : List RangeLock) (i : ℕ) (best total : Option Rival) → length held ≤ i
    → nearest asked (map (lock_on_range holder) (drop i held)) best ≡ total → best ≡ total
all_turned asked holder held i best total le so_far =
    sym (nearest-nil asked best) ∙ ap (λ (rs : List RangeLock). nearest asked (map (lock_on_range holder) rs) best) (sym (drop_all i held le)) ∙ so_far
