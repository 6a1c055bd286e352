-- Who holds a lock that bars a range.
use Rattle.std.proofs.Common.{◌≡◌, ℕ, Bool, true, false, cond, List, [], ◌∷◌, ◌++◌, map, Some, refl, sym, ap, subst, ◌∙◌, Less, inl, inr}
use Rattle.std.specs.Prelude.{◌↔◌, ◌||◌, ◌&&◌, flat_map, nat_eq}
use Rattle.std.specs.List.{list_any, filter, AllByRecursion}
use Rattle.std.specs.List.Sorted.{IsStrictlySortedBy}
use Rattle.std.specs.Ordering.{nat_cmp, is_eq}
use Rattle.std.specs.Cmp.{tied_itself, nat_cmp_total, both_ways}
use Rattle.std.specs.Cmp.Lexicographic.{slice_cmp}
use Rattle.std.specs.BTreeMap.{is_at}
use Rattle.std.specs.BTreeMap.Range.{is_from_start, range_contains}
use Rattle.std.specs.BTreeSet as sorted
use Rattle.std.specs.BTreeSet.{BTreeSet}
use Rattle.std.specs.declared.ops.Bound.{Bound}
use Rattle.std.specs.declared.ops.Bound.TheVariants.{Unbounded}
use Rattle.std.proofs.lemmas.Bool.{eqb-true, eq-eqb}
use Rattle.std.proofs.lemmas.Map.Keys.{sorted_head}
use Rattle.std.proofs.lemmas.Map.Lookups.{exact_unsigned}
use Rattle.store_model.specs.Range.{Interval, is_below, point}
use Rattle.store_model.specs.declared.range.Mode.{Mode}
use Rattle.store_model.proofs.Bools.{both_true, and_true}
use Rattle.range_lock.specs.Lock.{Lock, IsAmong, bars}
use Rattle.range_lock.specs.Tables.{lock_at_point, lock_on_range, locks_on_ranges, bars_by, StartsBelow}
use Rattle.range_lock.specs.Point.{PointLock, point_cmp}
use Rattle.range_lock.specs.declared.entry.RangeLock.{RangeLock}
use Rattle.range_lock.proofs.Conflicts.{not_below_next, and_false, false_and, after, not_greater, and-true}
use Rattle.range_lock.proofs.Members.{either_true, or_true_left, or_true_right, is_equal}

-- ---- tests

either_side : (a b c : Bool) → ((b || a) || c) ≡ (a || (b || c))
either_side true true c = refl
either_side true false c = refl
either_side false true c = refl
either_side false false c = refl

pub or_regrouped : (a b c : Bool) → (a || (b || c)) ≡ ((a || b) || c)
or_regrouped true b c = refl
or_regrouped false b c = refl

pub any_append : {A : Type 0} (t : A → Bool) (xs ys : List A) → list_any t (xs ++ ys) ≡ (list_any t xs || list_any t ys)
any_append t [] ys = refl
any_append t (x ∷ xs) ys = ap (λ b. t x || b) (any_append t xs ys) ∙ or_regrouped (t x) (list_any t xs) (list_any t ys)

pub any_among : {A : Type 0} (t : A → Bool) (xs : List A) → list_any t xs ≡ true → (x : A) × IsAmong x xs × (t x ≡ true)
any_among t [] h = absurd cc
any_among t (x ∷ xs) h = elim (either_true (t x) (list_any t xs) h) [ inl e ↦ (x, inl refl, e) | inr m ↦ let r = any_among t xs m in (r.0, inr r.1, r.2) ]

pub among_any : {A : Type 0} (t : A → Bool) (x : A) (xs : List A) → IsAmong x xs → t x ≡ true → list_any t xs ≡ true
among_any t x [] h e = absurd h
among_any t x (y ∷ xs) (inl is) e = or_true_left (t y) _ (ap t (sym is) ∙ e)
among_any t x (y ∷ xs) (inr m) e = or_true_right (t y) _ (among_any t x xs m e)

-- ---- a set of numbers

pub at_number : (h tx : ℕ) → is_at (nat_cmp h) tx ≡ nat_eq h tx
at_number h tx = both_ways _ _ (λ e. eq-eqb h tx (exact_unsigned h tx (is_equal (nat_cmp h tx) e))) (λ e. subst (λ (n : ℕ). is_eq (nat_cmp h n) ≡ true) (eqb-true h tx e) (ap is_eq (tied_itself nat_cmp_total h)))

with_one : (b o : Bool) → cond b true o ≡ (b || o)
with_one true o = refl
with_one false o = refl

pub number_added : (s n : BTreeSet ℕ) (h : ℕ) → sorted.Updates nat_cmp s n h true → (tx : ℕ) → sorted.contains nat_cmp n tx ≡ (nat_eq h tx || sorted.contains nat_cmp s tx)
number_added s n h up tx = up.0 tx ∙ with_one (is_at (nat_cmp h) tx) _ ∙ ap (λ (b : Bool). b || sorted.contains nat_cmp s tx) (at_number h tx)

pub among_numbers : (tx : ℕ) (ks : List ℕ) → list_any (is_at (nat_cmp tx)) ks ≡ true → IsAmong tx ks
among_numbers tx ks h = let r = any_among (is_at (nat_cmp tx)) ks h in subst (λ (n : ℕ). IsAmong n ks) (sym (exact_unsigned tx r.0 (is_equal (nat_cmp tx r.0) r.2))) r.1

pub numbers_among : (tx : ℕ) (ks : List ℕ) → IsAmong tx ks → list_any (is_at (nat_cmp tx)) ks ≡ true
numbers_among tx ks h = among_any (is_at (nat_cmp tx)) tx ks h (ap is_eq (tied_itself nat_cmp_total tx))

-- one item of a search: its holder was added where it bars the range
pub added : (found next : Bool) (same b rest total : Bool) → next ≡ (same || found) → b ≡ true → (found || ((same && b) || rest)) ≡ total → (next || rest) ≡ total
added found next same true rest total is e so_far = ap (λ (x : Bool). x || rest) is ∙ either_side found same rest ∙ ap (λ (x : Bool). found || (x || rest)) (sym (and-one same)) ∙ so_far
  where
    and-one : (a : Bool) → (a && true) ≡ a
    and-one true = refl
    and-one false = refl
added found next same false rest total is e so_far = absurd cc

pub passed_by : (found same b rest total : Bool) → b ≡ false → (found || ((same && b) || rest)) ≡ total → (found || rest) ≡ total
passed_by found same true rest total e so_far = absurd cc
passed_by found same false rest total e so_far = ap (λ (x : Bool). found || (x || rest)) (sym (and_false same false refl)) ∙ so_far

-- ---- range locks

pub any_of_holder : (range : Interval) (mode : Mode) (tx holder : ℕ) (held : List RangeLock)
    → list_any (bars_by range mode tx) (map (lock_on_range holder) held) ≡ (nat_eq holder tx && list_any (λ (r : RangeLock). bars range mode (lock_on_range 0 r)) held)
any_of_holder range mode tx holder [] = sym (and_false _ _ refl)
any_of_holder range mode tx holder (r ∷ held) =
    ap (λ (b : Bool). (nat_eq holder tx && bars range mode (lock_on_range 0 r)) || b) (any_of_holder range mode tx holder held) ∙ spread (nat_eq holder tx) _ _
  where
    spread : (a b c : Bool) → ((a && b) || (a && c)) ≡ (a && (b || c))
    spread true b c = refl
    spread false b c = refl

pub split_holder : (range : Interval) (mode : Mode) (tx holder : ℕ) (held : List RangeLock) (es rest : List (ℕ × List RangeLock)) → es ≡ (holder, held) ∷ rest
    → list_any (bars_by range mode tx) (flat_map locks_on_ranges es) ≡ ((nat_eq holder tx && list_any (λ (r : RangeLock). bars range mode (lock_on_range 0 r)) held) || list_any (bars_by range mode tx) (flat_map locks_on_ranges rest))
split_holder range mode tx holder held es rest is =
    ap (λ (x : List (ℕ × List RangeLock)). list_any (bars_by range mode tx) (flat_map locks_on_ranges x)) is
    ∙ any_append (bars_by range mode tx) (map (lock_on_range holder) held) (flat_map locks_on_ranges rest)
    ∙ ap (λ (b : Bool). b || list_any (bars_by range mode tx) (flat_map locks_on_ranges rest)) (any_of_holder range mode tx holder held)

-- ---- locks on keys, held in one mode

module _ (held : Mode) where
  pub any_both : (t : Lock → Bool) (xs ys : List PointLock) → list_any t (map (lock_at_point held) (xs ++ ys)) ≡ (list_any t (map (lock_at_point held) xs) || list_any t (map (lock_at_point held) ys))
  any_both t [] ys = refl
  any_both t (x ∷ xs) ys = ap (λ (b : Bool). t (lock_at_point held x) || b) (any_both t xs ys) ∙ or_regrouped (t (lock_at_point held x)) _ _

  pub bars_below : (range : Interval) (mode : Mode) (p : PointLock) → is_below (Some p.key) range.low ≡ true → bars range mode (lock_at_point held p) ≡ false
  bars_below range mode p e = false_and _ _ (false_and _ _ (not_below_next p.key range.low e))

  pub bars_above : (range : Interval) (mode : Mode) (p : PointLock) → is_below (Some p.key) range.high ≡ false → bars range mode (lock_at_point held p) ≡ false
  bars_above range mode p e = false_and _ _ (and_false _ _ e)

  filtered : (t : Lock → Bool) (passes : PointLock → Bool) (p : PointLock) (b : Bool) → passes p ≡ b → (passes p ≡ false → t (lock_at_point held p) ≡ false) → (ps qs : List PointLock)
      → list_any t (map (lock_at_point held) qs) ≡ list_any t (map (lock_at_point held) ps) → list_any t (map (lock_at_point held) (cond b (p ∷ qs) qs)) ≡ list_any t (map (lock_at_point held) (p ∷ ps))
  filtered t passes p true at free ps qs h = ap (λ (b : Bool). t (lock_at_point held p) || b) h
  filtered t passes p false at free ps qs h = h ∙ ap (λ (b : Bool). b || list_any t (map (lock_at_point held) ps)) (sym (free at))

  any_filter : (t : Lock → Bool) (passes : PointLock → Bool) → ((p : PointLock) → passes p ≡ false → t (lock_at_point held p) ≡ false)
      → (ps : List PointLock) → list_any t (map (lock_at_point held) (filter passes ps)) ≡ list_any t (map (lock_at_point held) ps)
  any_filter t passes free [] = refl
  any_filter t passes free (p ∷ ps) = filtered t passes p (passes p) refl (free p) ps (filter passes ps) (any_filter t passes free ps)

  pub any_from : (range : Interval) (mode : Mode) (tx : ℕ) (start : Bound PointLock) → StartsBelow start range.low → (ps : List PointLock)
      → list_any (bars_by range mode tx) (map (lock_at_point held) (filter (range_contains point_cmp start Unbounded) ps)) ≡ list_any (bars_by range mode tx) (map (lock_at_point held) ps)
  any_from range mode tx start h = any_filter (bars_by range mode tx) (range_contains point_cmp start Unbounded) (λ p e. and_false _ _ (bars_below range mode p (h p (and-true (is_from_start point_cmp start p) e))))

  none_above : (range : Interval) (mode : Mode) (tx : ℕ) (p : PointLock) → is_below (Some p.key) range.high ≡ false → (ps : List PointLock) → AllByRecursion (λ q. point_cmp p q ≡ Less) ps → list_any (bars_by range mode tx) (map (lock_at_point held) ps) ≡ false
  none_above range mode tx p e [] h = refl
  none_above range mode tx p e (q ∷ ps) h =
      let o = slice_cmp nat_cmp p.key q.key in
      let free = bars_above range mode q (after p.key q.key o refl (not_greater o _ h.0) range.high e) in
      ap (λ (b : Bool). b || list_any (bars_by range mode tx) (map (lock_at_point held) ps)) (and_false (nat_eq q.tx tx) _ free) ∙ none_above range mode tx p e ps h.1

  pub any_above : (range : Interval) (mode : Mode) (tx : ℕ) (p : PointLock) (ps qs : List PointLock) → qs ≡ p ∷ ps → is_below (Some p.key) range.high ≡ false → IsStrictlySortedBy point_cmp qs → list_any (bars_by range mode tx) (map (lock_at_point held) qs) ≡ false
  any_above range mode tx p ps qs is e sorted_qs =
      ap (λ (x : List PointLock). list_any (bars_by range mode tx) (map (lock_at_point held) x)) is
      ∙ ap (λ (b : Bool). b || list_any (bars_by range mode tx) (map (lock_at_point held) ps)) (and_false (nat_eq p.tx tx) _ (bars_above range mode p e))
      ∙ none_above range mode tx p e ps (sorted_head point_cmp p ps (subst (IsStrictlySortedBy point_cmp) is sorted_qs))

pub or_nothing : (a b total : Bool) → b ≡ false → (a || b) ≡ total → a ≡ total
or_nothing true b total e h = h
or_nothing false b total e h = sym e ∙ h

-- what the code's test says of a point lock
pub told_bars : (range : Interval) (mode held : Mode) (p : PointLock) (at : Interval) (b r : Bool) → at ≡ point p.key → r ≡ bars range mode (record { tx = 0; range = at; mode = held }) → r ≡ b
    → bars range mode (lock_at_point held p) ≡ b
told_bars range mode held p at b r is_at is e = sym (ap (λ (i : Interval). bars range mode (record { tx = 0; range = i; mode = held })) is_at) ∙ sym is ∙ e

-- ---- those that are found

pub holders_exactly : (locks : List Lock) (range : Interval) (mode : Mode) (txs : List ℕ) (tx : ℕ) → list_any (is_at (nat_cmp tx)) txs ≡ list_any (bars_by range mode tx) locks
    → IsAmong tx txs ↔ ((l : Lock) × IsAmong l locks × (l.tx ≡ tx) × (bars range mode l ≡ true))
holders_exactly locks range mode txs tx same = (
  λ h. let r = any_among (bars_by range mode tx) locks (sym same ∙ numbers_among tx txs h) in
      let both = both_true _ _ r.2 in
      (r.0, r.1, eqb-true r.0.tx tx both.0, both.1),
  λ g. among_numbers tx txs (same ∙ among_any (bars_by range mode tx) g.0 locks g.1 (and_true _ _ (eq-eqb g.0.tx tx g.2) g.3)),
)
