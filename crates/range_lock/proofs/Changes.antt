-- What a change of one table does to all that is held.
use Rattle.std.proofs.Common.{◌≡◌, ℕ, Bool, true, false, List, [], ◌∷◌, ◌++◌, map, Option, Some, None, Result, Ok, Err, refl, sym, ap, subst, ◌∙◌, inl, inr}
use Rattle.std.specs.Prelude.{◌⊎◌, ◌↔◌, ◌≢◌, flat_map, unwrap_or, OnOk, OnErr}
use Rattle.std.specs.List.{list_any}
use Rattle.std.specs.Ordering.{nat_cmp, is_eq, eq_by_cmp}
use Rattle.std.specs.Cmp.{tied_itself}
use Rattle.std.specs.Cmp.Lexicographic.{slice_cmp, nat_list_cmp_total}
use Rattle.std.specs.BTreeMap as tree
use Rattle.std.specs.BTreeMap.{BTreeMap, is_at, insert_entry}
use Rattle.std.specs.Map.{lookup, remove_entry}
use Rattle.std.proofs.lemmas.Map.Lookups.{exact_unsigned}
use Rattle.store_model.proofs.Bools.{not_both, false_unless}
use Rattle.store_model.specs.Range.{Interval}
use Rattle.store_model.specs.declared.range.Mode.{Mode}
use Rattle.store_model.specs.declared.range.Mode.TheVariants.{Shared, Exclusive}
use Rattle.range_lock.specs.Lock.{Lock, IsAmong, AreCompatible, covers}
use Rattle.range_lock.specs.Among.{HasTheSame, Adds, Removes}
use Rattle.range_lock.specs.Point.{PointLock}
use Rattle.range_lock.specs.Tables.{all_locks, lock_at_point, locks_at_points, lock_on_range, locks_on_ranges, is_listed}
use Rattle.range_lock.specs.declared.entry.RangeLock.{RangeLock}
use Rattle.range_lock.proofs.Members.{among_left, among_right, among_either, is_equal, or_true_right, point_held, held_point, among_inserted, among_fewer, not_of}

-- ---- the keys of a transaction

last_any : (t : List ℕ → Bool) (ks : List (List ℕ)) (k : List ℕ) → t k ≡ true → list_any t (ks ++ k ∷ []) ≡ true
last_any t [] k h = rw h refl
last_any t (x ∷ ks) k h = or_true_right (t x) _ (last_any t ks k h)

pub listed_last : (keys : BTreeMap ℕ (List (List ℕ))) (tx : ℕ) (key k : List ℕ) (old ks : List (List ℕ)) → tree.get nat_cmp keys tx ≡ Some ks → ks ≡ old ++ k ∷ [] → k ≡ key
    → (p : PointLock) → p.tx ≡ tx → p.key ≡ key → is_listed keys p ≡ true
listed_last keys tx key k old ks got is same p at_tx at_key =
    let found : unwrap_or (tree.get nat_cmp keys p.tx) [] ≡ old ++ k ∷ [] = ap (λ (t : ℕ). unwrap_or (tree.get nat_cmp keys t) []) at_tx ∙ ap (λ (o : Option (List (List ℕ))). unwrap_or o []) got ∙ is in
    let tie : eq_by_cmp (slice_cmp nat_cmp) p.key k ≡ true = subst (λ (q : List ℕ). eq_by_cmp (slice_cmp nat_cmp) p.key q ≡ true) (at_key ∙ sym same) (ap is_eq (tied_itself nat_list_cmp_total p.key)) in
    ap (list_any (eq_by_cmp (slice_cmp nat_cmp) p.key)) found ∙ last_any _ old k tie

-- ---- a list of locks that gains one, beside others

module _ {A : Type 0} (old new others : List A) (k : A) (h : Adds old new k) where
  pub adds_left : Adds (old ++ others) (new ++ others) k
  adds_left l = (
    λ g. elim (among_either l new others g) [
      | inl m ↦ elim ((h l).0 m) [ inl e ↦ inl e | inr n ↦ inr (among_left l old others n) ]
      | inr m ↦ inr (among_right l old others m)
    ],
    λ g. elim g [
      | inl e ↦ among_left l new others ((h l).1 (inl e))
      | inr m ↦ elim (among_either l old others m) [ inl n ↦ among_left l new others ((h l).1 (inr n)) | inr n ↦ among_right l new others n ]
    ],
  )

  pub adds_right : Adds (others ++ old) (others ++ new) k
  adds_right l = (
    λ g. elim (among_either l others new g) [
      | inl m ↦ inr (among_left l others old m)
      | inr m ↦ elim ((h l).0 m) [ inl e ↦ inl e | inr n ↦ inr (among_right l others old n) ]
    ],
    λ g. elim g [
      | inl e ↦ among_right l others new ((h l).1 (inl e))
      | inr m ↦ elim (among_either l others old m) [ inl n ↦ among_left l others new n | inr n ↦ among_right l others new ((h l).1 (inr n)) ]
    ],
  )

module _ {A : Type 0} (old new others : List A) (k : A) (h : Removes old new k) where
  pub removes_left : (IsAmong k others → ⊥) → Removes (old ++ others) (new ++ others) k
  removes_left none l = (
    λ g. elim (among_either l new others g) [
      | inl m ↦ let r = (h l).0 m in (r.0, among_left l old others r.1)
      | inr m ↦ (λ e. none (subst (λ (x : A). IsAmong x others) e m), among_right l old others m)
    ],
    λ g. elim (among_either l old others g.1) [ inl m ↦ among_left l new others ((h l).1 (g.0, m)) | inr m ↦ among_right l new others m ],
  )

  pub removes_right : (IsAmong k others → ⊥) → Removes (others ++ old) (others ++ new) k
  removes_right none l = (
    λ g. elim (among_either l others new g) [
      | inl m ↦ (λ e. none (subst (λ (x : A). IsAmong x others) e m), among_left l others old m)
      | inr m ↦ let r = (h l).0 m in (r.0, among_right l others old r.1)
    ],
    λ g. elim (among_either l others old g.1) [ inl m ↦ among_left l others new m | inr m ↦ among_right l others new ((h l).1 (g.0, m)) ],
  )

-- what was added and removed again
pub undone : {A : Type 0} (old mid new : List A) (k : A) → (IsAmong k old → ⊥) → Adds old mid k → Removes mid new k → HasTheSame old new
undone old mid new k none put out x = (
  λ h. let r = (out x).0 h in elim ((put x).0 r.1) [ inl e ↦ absurd (r.0 e) | inr m ↦ m ],
  λ h. (out x).1 (λ e. none (subst (λ y. IsAmong y old) e h), (put x).1 (inr h)),
)

module _ {A : Type 0} (old new others : List A) (h : HasTheSame old new) where
  same_left : HasTheSame (old ++ others) (new ++ others)
  same_left l = (
    λ g. elim (among_either l new others g) [ inl m ↦ among_left l old others ((h l).0 m) | inr m ↦ among_right l old others m ],
    λ g. elim (among_either l old others g) [ inl m ↦ among_left l new others ((h l).1 m) | inr m ↦ among_right l new others m ],
  )

  same_right : HasTheSame (others ++ old) (others ++ new)
  same_right l = (
    λ g. elim (among_either l others new g) [ inl m ↦ among_left l others old m | inr m ↦ among_right l others old ((h l).0 m) ],
    λ g. elim (among_either l others old g) [ inl m ↦ among_left l others new m | inr m ↦ among_right l others new ((h l).1 m) ],
  )

pub has_same : {A : Type 0} (old new : List A) → new ≡ old → HasTheSame old new
has_same old new e x = (λ h. subst (IsAmong x) e h, λ h. subst (IsAmong x) (sym e) h)

-- a lock that was there already
pub adds_nothing : (old : List Lock) (k : Lock) → IsAmong k old → Adds old old k
adds_nothing old k h l = (λ g. inr g, λ g. elim g [ inl e ↦ subst (λ (x : Lock). IsAmong x old) (sym e) h | inr m ↦ m ])

-- after one was added, or memory ran out
pub at_most : {A R E : Type 0} (r : Result R E) (old new : List A) (k : A) → OnOk r (Adds old new k) → OnErr r (HasTheSame old new) → (x : A) → IsAmong x new → (x ≡ k) ⊎ IsAmong x old
at_most (Ok a) old new k ok err x g = (ok x).0 g
at_most (Err e) old new k ok err x g = inr ((err x).0 g)

-- ---- locks on keys, held in one mode

points_add : (mode : Mode) (s n : List PointLock) (k : PointLock) → Adds s n k
    → Adds (map (lock_at_point mode) s) (map (lock_at_point mode) n) (lock_at_point mode k)
points_add mode s n k h l = (
  λ g. let p = held_point mode n l g in
      elim ((h p.0).0 p.1) [
        | inl e ↦ inl (p.2 ∙ ap (lock_at_point mode) e)
        | inr c ↦ inr (subst (λ (x : Lock). IsAmong x (map (lock_at_point mode) s)) (sym p.2) (point_held mode s p.0 c))
      ],
  λ g. elim g [
    | inl e ↦ subst (λ (x : Lock). IsAmong x (map (lock_at_point mode) n)) (sym e) (point_held mode n k ((h k).1 (inl refl)))
    | inr m ↦ let p = held_point mode s l m in subst (λ (x : Lock). IsAmong x (map (lock_at_point mode) n)) (sym p.2) (point_held mode n p.0 ((h p.0).1 (inr p.1)))
  ],
)

points_same : (mode : Mode) (s n : List PointLock) → HasTheSame s n → HasTheSame (map (lock_at_point mode) s) (map (lock_at_point mode) n)
points_same mode s n h l = (
  λ g. let p = held_point mode n l g in subst (λ (x : Lock). IsAmong x (map (lock_at_point mode) s)) (sym p.2) (point_held mode s p.0 ((h p.0).0 p.1)),
  λ g. let p = held_point mode s l g in subst (λ (x : Lock). IsAmong x (map (lock_at_point mode) n)) (sym p.2) (point_held mode n p.0 ((h p.0).1 p.1)),
)

module _ (s e n : List PointLock) (ranges : BTreeMap ℕ (List RangeLock)) where
  abbrev others : List Lock
  others = flat_map locks_on_ranges ranges.entries

  pub shared_add : (k : PointLock) (mode : Mode) → mode ≡ Shared → Adds s n k → Adds (all_locks s e ranges) (all_locks n e ranges) (lock_at_point mode k)
  shared_add k mode is h =
      let at_e = map (lock_at_point Exclusive) e in
      rw is (adds_left (locks_at_points s e) (locks_at_points n e) others _ (adds_left (map (lock_at_point Shared) s) (map (lock_at_point Shared) n) at_e _ (points_add Shared s n k h)))

  pub shared_same : HasTheSame s n → HasTheSame (all_locks s e ranges) (all_locks n e ranges)
  shared_same h =
      same_left (locks_at_points s e) (locks_at_points n e) others (same_left (map (lock_at_point Shared) s) (map (lock_at_point Shared) n) (map (lock_at_point Exclusive) e) (points_same Shared s n h))

  pub exclusive_add : (k : PointLock) (mode : Mode) → mode ≡ Exclusive → Adds e n k → Adds (all_locks s e ranges) (all_locks s n ranges) (lock_at_point mode k)
  exclusive_add k mode is h =
      let at_s = map (lock_at_point Shared) s in
      rw is (adds_left (locks_at_points s e) (locks_at_points s n) others _ (adds_right (map (lock_at_point Exclusive) e) (map (lock_at_point Exclusive) n) at_s _ (points_add Exclusive e n k h)))

  pub exclusive_same : HasTheSame e n → HasTheSame (all_locks s e ranges) (all_locks s n ranges)
  exclusive_same h =
      same_left (locks_at_points s e) (locks_at_points s n) others (same_right (map (lock_at_point Exclusive) e) (map (lock_at_point Exclusive) n) (map (lock_at_point Shared) s) (points_same Exclusive e n h))

-- ---- range locks

pub range_add : (s e : List PointLock) (rs rn : List (ℕ × List RangeLock)) (k : Lock) → Adds (flat_map locks_on_ranges rs) (flat_map locks_on_ranges rn) k
    → Adds (locks_at_points s e ++ flat_map locks_on_ranges rs) (locks_at_points s e ++ flat_map locks_on_ranges rn) k
range_add s e rs rn k h = adds_right (flat_map locks_on_ranges rs) (flat_map locks_on_ranges rn) (locks_at_points s e) k h

pub any_err : {A E P : Type 0} (r : Result A E) → P → OnErr r P
any_err (Ok x) p = tt
any_err (Err e) p = p

single : (tx : ℕ) (lock : RangeLock) (l : Lock) → IsAmong l (map (lock_on_range tx) (lock ∷ [])) → l ≡ lock_on_range tx lock
single tx lock l h = elim h [ inl e ↦ e | inr m ↦ absurd m ]

-- the first range lock of a transaction
pub among_first : (tx : ℕ) (lock : RangeLock) (none v : List RangeLock) (l : Lock) (es : List (ℕ × List RangeLock)) → v ≡ none ++ lock ∷ [] → none ≡ [] → lookup (is_at (nat_cmp tx)) es ≡ None
    → IsAmong l (flat_map locks_on_ranges (insert_entry nat_cmp es tx v)) ↔ ((l ≡ lock_on_range tx lock) ⊎ IsAmong l (flat_map locks_on_ranges es))
among_first tx lock none v l es is empty absent =
    let one : v ≡ lock ∷ [] = is ∙ ap (λ (rs : List RangeLock). rs ++ lock ∷ []) empty in
    let h = subst (λ (rs : List RangeLock). IsAmong l (flat_map locks_on_ranges (insert_entry nat_cmp es tx rs)) ↔ (IsAmong l (map (lock_on_range tx) rs) ⊎ IsAmong l (flat_map locks_on_ranges es))) one (among_inserted tx v l es absent) in (
      λ g. elim (h.0 (subst (λ (rs : List RangeLock). IsAmong l (flat_map locks_on_ranges (insert_entry nat_cmp es tx rs))) one g)) [ inl m ↦ inl (single tx lock l m) | inr m ↦ inr m ],
      λ g. subst (λ (rs : List RangeLock). IsAmong l (flat_map locks_on_ranges (insert_entry nat_cmp es tx rs))) (sym one) (h.1 (elim g [ inl e ↦ inl (inl e) | inr m ↦ inr m ])),
    )

-- ---- release

pub compatible_fewer : (old new : List Lock) → AreCompatible old → ((l : Lock) → IsAmong l new → IsAmong l old) → AreCompatible new
compatible_fewer old new h fewer a b p q = h a b (fewer a p) (fewer b q)

-- the new locks are the old ones but for this transaction's
abbrev pub Drops : List Lock → List Lock → ℕ → Type 0
Drops old new tx = (l : Lock) → IsAmong l new ↔ ((l.tx ≡ tx → ⊥) × IsAmong l old)

drops_both : (old new old_2 new_2 : List Lock) (tx : ℕ) → Drops old new tx → Drops old_2 new_2 tx → Drops (old ++ old_2) (new ++ new_2) tx
drops_both old new old_2 new_2 tx h g l = (
  λ a. elim (among_either l new new_2 a) [
    | inl m ↦ let r = (h l).0 m in (r.0, among_left l old old_2 r.1)
    | inr m ↦ let r = (g l).0 m in (r.0, among_right l old old_2 r.1)
  ],
  λ a. elim (among_either l old old_2 a.1) [
    | inl m ↦ among_left l new new_2 ((h l).1 (a.0, m))
    | inr m ↦ among_right l new new_2 ((g l).1 (a.0, m))
  ],
)

-- all of the transaction's locks on keys are gone, and no other
pub record AreGone (s n : List PointLock) (tx : ℕ) : Type 0 where
  pub others : (p : PointLock) → p.tx ≢ tx → IsAmong p s → IsAmong p n
  pub fewer : (p : PointLock) → IsAmong p n → IsAmong p s
  pub gone : (p : PointLock) → p.tx ≡ tx → IsAmong p n → ⊥

points_drop : (mode : Mode) (s n : List PointLock) (tx : ℕ) → AreGone s n tx → Drops (map (lock_at_point mode) s) (map (lock_at_point mode) n) tx
points_drop mode s n tx h l = (
  λ g. let p = held_point mode n l g in (
    λ t. h.gone p.0 (sym (ap (λ (x : Lock). x.tx) p.2) ∙ t) p.1,
    subst (λ (x : Lock). IsAmong x (map (lock_at_point mode) s)) (sym p.2) (point_held mode s p.0 (h.fewer p.0 p.1)),
  ),
  λ g. let p = held_point mode s l g.1 in
      let other : p.0.tx ≢ tx = λ t. g.0 (ap (λ (x : Lock). x.tx) p.2 ∙ t) in
      subst (λ (x : Lock). IsAmong x (map (lock_at_point mode) n)) (sym p.2) (point_held mode n p.0 (h.others p.0 other p.1)),
)

ranges_drop : (tx : ℕ) (rs rn : List (ℕ × List RangeLock)) → rn ≡ remove_entry (is_at (nat_cmp tx)) rs → lookup (is_at (nat_cmp tx)) rn ≡ None → Drops (flat_map locks_on_ranges rs) (flat_map locks_on_ranges rn) tx
ranges_drop tx rs rn entries absent l = (
  λ g. (λ t. not_of tx l rn absent g t, (among_fewer tx l rs).0 (subst (λ (es : List (ℕ × List RangeLock)). IsAmong l (flat_map locks_on_ranges es)) entries g)),
  λ g. subst (λ (es : List (ℕ × List RangeLock)). IsAmong l (flat_map locks_on_ranges es)) (sym entries) ((among_fewer tx l rs).1 g.0 g.1),
)

pub released : (tx : ℕ) (s s_new e e_new : List PointLock) (rs rn : BTreeMap ℕ (List RangeLock)) → AreGone s s_new tx → AreGone e e_new tx
    → rn.entries ≡ remove_entry (is_at (nat_cmp tx)) rs.entries → lookup (is_at (nat_cmp tx)) rn.entries ≡ None
    → Drops (all_locks s e rs) (all_locks s_new e_new rn) tx
released tx s s_new e e_new rs rn gone_s gone_e entries absent =
    drops_both (locks_at_points s e) (locks_at_points s_new e_new) (flat_map locks_on_ranges rs.entries) (flat_map locks_on_ranges rn.entries) tx
    (drops_both (map (lock_at_point Shared) s) (map (lock_at_point Shared) s_new) (map (lock_at_point Exclusive) e) (map (lock_at_point Exclusive) e_new) tx
    (points_drop Shared s s_new tx gone_s) (points_drop Exclusive e e_new tx gone_e))
    (ranges_drop tx rs.entries rn.entries entries absent)

-- a lock that was listed under the keys that are gone through is removed
pub was_listed : (keys : BTreeMap ℕ (List (List ℕ))) (tx : ℕ) (ks : List (List ℕ)) (p : PointLock) → tree.get nat_cmp keys tx ≡ Some ks → p.tx ≡ tx → is_listed keys p ≡ true → list_any (eq_by_cmp (slice_cmp nat_cmp) p.key) ks ≡ false → ⊥
was_listed keys tx ks p got t listed none =
    let found : unwrap_or (tree.get nat_cmp keys p.tx) [] ≡ ks = ap (λ (m : ℕ). unwrap_or (tree.get nat_cmp keys m) []) t ∙ ap (λ (o : Option (List (List ℕ))). unwrap_or o []) got in
    not_both _ (ap (list_any (eq_by_cmp (slice_cmp nat_cmp) p.key)) (sym found) ∙ listed) none

pub never_listed : (keys : BTreeMap ℕ (List (List ℕ))) (tx : ℕ) (p : PointLock) → tree.get nat_cmp keys tx ≡ None → p.tx ≡ tx → is_listed keys p ≡ true → ⊥
never_listed keys tx p got t listed =
    let found : unwrap_or (tree.get nat_cmp keys p.tx) [] ≡ [] = ap (λ (m : ℕ). unwrap_or (tree.get nat_cmp keys m) []) t ∙ ap (λ (o : Option (List (List ℕ))). unwrap_or o []) got in
    not_both _ (ap (list_any (eq_by_cmp (slice_cmp nat_cmp) p.key)) (sym found) ∙ listed) refl

pub still_listed : (old new : BTreeMap ℕ (List (List ℕ))) (tx : ℕ) (p : PointLock) → ((q : ℕ) → is_at (nat_cmp tx) q ≡ false → tree.get nat_cmp new q ≡ tree.get nat_cmp old q) → p.tx ≢ tx → is_listed old p ≡ true → is_listed new p ≡ true
still_listed old new tx p same other listed =
    let at : is_at (nat_cmp tx) p.tx ≡ false = false_unless _ (λ g. other (sym (exact_unsigned tx p.tx (is_equal (nat_cmp tx p.tx) g)))) in
    ap (λ (o : Option (List (List ℕ))). list_any (eq_by_cmp (slice_cmp nat_cmp) p.key) (unwrap_or o [])) (same p.tx at) ∙ listed

-- ---- covering, by one of these locks or of those

abbrev IsCoveredBy : List Lock → ℕ → Interval → Mode → Type 0
IsCoveredBy locks tx range mode = (l : Lock) × IsAmong l locks × (l.tx ≡ tx) × (covers l range mode ≡ true)

module _ (xs ys : List Lock) (tx : ℕ) (range : Interval) (mode : Mode) where
  pub covered_left : IsCoveredBy xs tx range mode → IsCoveredBy (xs ++ ys) tx range mode
  covered_left g = (g.0, among_left g.0 xs ys g.1, g.2, g.3)

  pub covered_right : IsCoveredBy ys tx range mode → IsCoveredBy (xs ++ ys) tx range mode
  covered_right g = (g.0, among_right g.0 xs ys g.1, g.2, g.3)

  pub covered_either : IsCoveredBy (xs ++ ys) tx range mode → IsCoveredBy xs tx range mode ⊎ IsCoveredBy ys tx range mode
  covered_either g = elim (among_either g.0 xs ys g.1) [ inl m ↦ inl (g.0, m, g.2, g.3) | inr m ↦ inr (g.0, m, g.2, g.3) ]
