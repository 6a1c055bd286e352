-- What is among the locks that the tables stand for, before and after a change.
use Rattle.std.proofs.Common.{◌≡◌, ℕ, zero, suc, ◌<◌, length, get_or, Bool, true, false, cond, List, [], ◌∷◌, ◌++◌, map, Option, Some, None, refl, sym, ap, subst, ◌∙◌, Ordering, Less, Equal, Greater, inl, inr, arith}
use Rattle.std.specs.Prelude.{◌⊎◌, ◌↔◌, ◌||◌, flat_map}
use Rattle.std.specs.Ordering.{nat_cmp, is_eq, ordering_then, match_ordering}
use Rattle.std.specs.Cmp.{tied_itself, nat_cmp_total}
use Rattle.std.specs.Cmp.Lexicographic.{slice_cmp, nat_list_cmp_total}
use Rattle.std.specs.BTreeMap.{is_at, insert_entry}
use Rattle.std.specs.List.{list_any, AllByRecursion}
use Rattle.std.specs.List.Sorted.{IsStrictlySortedBy}
use Rattle.std.proofs.lemmas.Map.Keys.{sorted_head}
use Rattle.std.specs.Map.{lookup, set_value, remove_entry, keys_of}
use Rattle.std.proofs.lemmas.Map.Lookups.{exact_bytes, exact_unsigned}
use Rattle.store_model.proofs.Bools.{not_both}
use Rattle.store_model.specs.declared.range.Mode.{Mode}
use Rattle.range_lock.specs.Lock.{Lock, IsAmong}
use Rattle.range_lock.specs.Point.{PointLock, point_cmp}
use Rattle.range_lock.specs.Tables.{lock_at_point, lock_on_range, locks_on_ranges}
use Rattle.range_lock.specs.declared.entry.RangeLock.{RangeLock}

-- ---- lists

module _ {A : Type 0} where
  pub among_left : (x : A) (xs ys : List A) → IsAmong x xs → IsAmong x (xs ++ ys)
  among_left x [] ys h = absurd h
  among_left x (y ∷ xs) ys (inl e) = inl e
  among_left x (y ∷ xs) ys (inr h) = inr (among_left x xs ys h)

  pub among_right : (x : A) (xs ys : List A) → IsAmong x ys → IsAmong x (xs ++ ys)
  among_right x [] ys h = h
  among_right x (y ∷ xs) ys h = inr (among_right x xs ys h)

  pub among_either : (x : A) (xs ys : List A) → IsAmong x (xs ++ ys) → IsAmong x xs ⊎ IsAmong x ys
  among_either x [] ys h = inr h
  among_either x (y ∷ xs) ys (inl e) = inl (inl e)
  among_either x (y ∷ xs) ys (inr h) = elim (among_either x xs ys h) [ inl l ↦ inl (inr l) | inr r ↦ inr r ]

among_mapped : {A B : Type 0} (f : A → B) (x : A) (xs : List A) → IsAmong x xs → IsAmong (f x) (map f xs)
among_mapped f x [] h = absurd h
among_mapped f x (y ∷ xs) (inl e) = inl (ap f e)
among_mapped f x (y ∷ xs) (inr h) = inr (among_mapped f x xs h)

among_map : {A B : Type 0} (f : A → B) (z : B) (xs : List A) → IsAmong z (map f xs) → (x : A) × IsAmong x xs × (z ≡ f x)
among_map f z [] h = absurd h
among_map f z (y ∷ xs) (inl e) = (y, inl refl, e)
among_map f z (y ∷ xs) (inr h) = let r = among_map f z xs h in (r.0, inr r.1, r.2)

pub among_at : {A : Type 0} (xs : List A) (i : ℕ) (x : A) → i < length xs → x ≡ get_or xs i x → IsAmong x xs
among_at [] i x lt is = absurd (omega arith)
among_at (y ∷ xs) zero x lt is = inl is
among_at (y ∷ xs) (suc i) x lt is = inr (among_at xs i x (omega arith) is)

-- ---- point locks

tied : (o p : Ordering) → ordering_then o p ≡ Equal → (o ≡ Equal) × (p ≡ Equal)
tied Less p e = absurd cc
tied Equal p e = (refl, e)
tied Greater p e = absurd cc

pub exact_point : (a b : PointLock) → point_cmp a b ≡ Equal → a ≡ b
exact_point a b e =
    let p = tied (slice_cmp nat_cmp a.key b.key) _ e in
    λ i. record { key = exact_bytes a.key b.key p.0 i; tx = exact_unsigned a.tx b.tx p.1 i }

point_itself : (a : PointLock) → point_cmp a a ≡ Equal
point_itself a = rw (tied_itself nat_list_cmp_total a.key, tied_itself nat_cmp_total a.tx) refl

pub is_equal : (o : Ordering) → is_eq o ≡ true → o ≡ Equal
is_equal Less e = absurd cc
is_equal Equal e = refl
is_equal Greater e = absurd cc

pub either_true : (a b : Bool) → (a || b) ≡ true → (a ≡ true) ⊎ (b ≡ true)
either_true true b e = inl refl
either_true false b e = inr e

pub or_true_left : (a b : Bool) → a ≡ true → (a || b) ≡ true
or_true_left true b e = refl
or_true_left false b e = absurd cc

pub or_true_right : (a b : Bool) → b ≡ true → (a || b) ≡ true
or_true_right true b e = refl
or_true_right false b e = e

pub point_among : (p : PointLock) (ks : List PointLock) → list_any (is_at (point_cmp p)) ks ≡ true → IsAmong p ks
point_among p [] e = absurd cc
point_among p (k ∷ ks) e = elim (either_true (is_at (point_cmp p) k) (list_any (is_at (point_cmp p)) ks) e) [ inl h ↦ inl (exact_point p k (is_equal (point_cmp p k) h)) | inr h ↦ inr (point_among p ks h) ]

pub among_point : (p : PointLock) (ks : List PointLock) → IsAmong p ks → list_any (is_at (point_cmp p)) ks ≡ true
among_point p [] h = absurd h
among_point p (k ∷ ks) (inl e) = or_true_left _ _ (subst (λ (q : PointLock). is_eq (point_cmp p q) ≡ true) e (ap is_eq (point_itself p)))
among_point p (k ∷ ks) (inr h) = or_true_right _ _ (among_point p ks h)

module _ (mode : Mode) (s : List PointLock) where
  pub point_held : (p : PointLock) → IsAmong p s → IsAmong (lock_at_point mode p) (map (lock_at_point mode) s)
  point_held p h = among_mapped (lock_at_point mode) p s h

  pub held_point : (l : Lock) → IsAmong l (map (lock_at_point mode) s) → (p : PointLock) × IsAmong p s × (l ≡ lock_at_point mode p)
  held_point l h = among_map (lock_at_point mode) l s h

-- ---- range locks

abbrev Entry : Type 0
Entry = ℕ × List RangeLock

abbrev locks_of : List Entry → List Lock
locks_of es = flat_map locks_on_ranges es

abbrev has_tx : ℕ → Entry → Bool
has_tx k e = is_at (nat_cmp k) e.0

own_tx : (l : Lock) (e : Entry) → IsAmong l (locks_on_ranges e) → l.tx ≡ e.0
own_tx l e h = ap (λ (m : Lock). m.tx) (among_map (lock_on_range e.0) l e.1 h).2

tx_is : (k : ℕ) (e : Entry) → has_tx k e ≡ true → k ≡ e.0
tx_is k e h = exact_unsigned k e.0 (is_equal (nat_cmp k e.0) h)

is_tx : (k : ℕ) (e : Entry) → e.0 ≡ k → has_tx k e ≡ true
is_tx k e h = subst (λ (n : ℕ). is_eq (nat_cmp n e.0) ≡ true) h (ap is_eq (tied_itself nat_cmp_total e.0))

grown : (tx : ℕ) (old : List RangeLock) (r : RangeLock) (l : Lock) → IsAmong l (map (lock_on_range tx) (old ++ r ∷ [])) ↔ ((l ≡ lock_on_range tx r) ⊎ IsAmong l (map (lock_on_range tx) old))
grown tx [] r l = (λ g. elim g [ inl e ↦ inl e | inr m ↦ absurd m ], λ g. elim g [ inl e ↦ inl e | inr m ↦ absurd m ])
grown tx (x ∷ old) r l =
    let h = grown tx old r l in (
      λ g. elim g [ inl e ↦ inr (inl e) | inr m ↦ elim (h.0 m) [ inl e ↦ inl e | inr n ↦ inr (inr n) ] ],
      λ g. elim g [ inl e ↦ inr (h.1 (inl e)) | inr m ↦ elim m [ inl e ↦ inl e | inr n ↦ inr (h.1 (inr n)) ] ],
    )

missed : (b : Bool) (v : List RangeLock) (o : Option (List RangeLock)) → cond b (Some v) o ≡ None → (b ≡ false) × (o ≡ None)
missed true v o e = absurd cc
missed false v o e = (refl, e)

-- a transaction that had no range locks
placed : (k : ℕ) (v : List RangeLock) (e : Entry) (es others : List Entry) (l : Lock) (o : Ordering) → is_eq o ≡ false
    → (IsAmong l (locks_of others) ↔ (IsAmong l (map (lock_on_range k) v) ⊎ IsAmong l (locks_of es)))
    → IsAmong l (locks_of (match_ordering o ((k, v) ∷ e ∷ es) ((e.0, v) ∷ es) (e ∷ others))) ↔ (IsAmong l (map (lock_on_range k) v) ⊎ IsAmong l (locks_of (e ∷ es)))
placed k v e es others l Less apart h = (
  λ g. among_either l (map (lock_on_range k) v) (locks_of (e ∷ es)) g,
  λ g. elim g [ inl m ↦ among_left l (map (lock_on_range k) v) (locks_of (e ∷ es)) m | inr m ↦ among_right l (map (lock_on_range k) v) (locks_of (e ∷ es)) m ],
)
placed k v e es others l Equal apart h = absurd cc
placed k v e es others l Greater apart h = (
  λ g. elim (among_either l (locks_on_ranges e) (locks_of others) g) [
    | inl m ↦ inr (among_left l (locks_on_ranges e) (locks_of es) m)
    | inr m ↦ elim (h.0 m) [ inl n ↦ inl n | inr n ↦ inr (among_right l (locks_on_ranges e) (locks_of es) n) ]
  ],
  λ g. elim g [
    | inl m ↦ among_right l (locks_on_ranges e) (locks_of others) (h.1 (inl m))
    | inr m ↦ elim (among_either l (locks_on_ranges e) (locks_of es) m) [
      | inl n ↦ among_left l (locks_on_ranges e) (locks_of others) n
      | inr n ↦ among_right l (locks_on_ranges e) (locks_of others) (h.1 (inr n))
    ]
  ],
)

pub among_inserted : (k : ℕ) (v : List RangeLock) (l : Lock) (es : List Entry) → lookup (is_at (nat_cmp k)) es ≡ None
    → IsAmong l (locks_of (insert_entry nat_cmp es k v)) ↔ (IsAmong l (map (lock_on_range k) v) ⊎ IsAmong l (locks_of es))
among_inserted k v l [] none = (
  λ g. elim (among_either l (map (lock_on_range k) v) [] g) [ inl m ↦ inl m | inr m ↦ absurd m ],
  λ g. elim g [ inl m ↦ among_left l (map (lock_on_range k) v) [] m | inr m ↦ absurd m ],
)
among_inserted k v l (e ∷ es) none =
    let m = missed (has_tx k e) e.1 (lookup (is_at (nat_cmp k)) es) none in
    placed k v e es (insert_entry nat_cmp es k v) l (nat_cmp k e.0) m.0 (among_inserted k v l es m.1)

some_is : (a b : List RangeLock) → ◌≡◌ {A = Option (List RangeLock)} (Some a) (Some b) → a ≡ b
some_is a b e = cc

-- one range lock more of a transaction that had some
longer : (k : ℕ) (r : RangeLock) (old new : List RangeLock) (e : Entry) (es others : List Entry) (l : Lock) (b : Bool) → has_tx k e ≡ b → new ≡ old ++ r ∷ [] → cond b (Some e.1) (lookup (is_at (nat_cmp k)) es) ≡ Some old
    → ((lookup (is_at (nat_cmp k)) es ≡ Some old) → IsAmong l (locks_of others) ↔ ((l ≡ lock_on_range k r) ⊎ IsAmong l (locks_of es)))
    → IsAmong l (locks_of (cond b ((e.0, new) ∷ es) (e ∷ others))) ↔ ((l ≡ lock_on_range k r) ⊎ IsAmong l (locks_of (e ∷ es)))
longer k r old new e es others l true at is found h =
    let same : e.1 ≡ old = some_is e.1 old found in
    let tx : e.0 ≡ k = sym (tx_is k e at) in
    let mine = grown e.0 old r l in
    let at_k : lock_on_range e.0 r ≡ lock_on_range k r = ap (λ (n : ℕ). lock_on_range n r) tx in (
      λ g. elim (among_either l (map (lock_on_range e.0) new) (locks_of es) g) [
        | inl m ↦ elim (mine.0 (subst (λ (rs : List RangeLock). IsAmong l (map (lock_on_range e.0) rs)) is m)) [
          | inl q ↦ inl (q ∙ at_k)
          | inr n ↦ inr (among_left l (locks_on_ranges e) (locks_of es) (subst (λ (rs : List RangeLock). IsAmong l (map (lock_on_range e.0) rs)) (sym same) n))
        ]
        | inr m ↦ inr (among_right l (locks_on_ranges e) (locks_of es) m)
      ],
      λ g. elim g [
        | inl q ↦ among_left l (map (lock_on_range e.0) new) (locks_of es) (subst (λ (rs : List RangeLock). IsAmong l (map (lock_on_range e.0) rs)) (sym is) (mine.1 (inl (q ∙ sym at_k))))
        | inr m ↦ elim (among_either l (locks_on_ranges e) (locks_of es) m) [
          | inl n ↦ among_left l (map (lock_on_range e.0) new) (locks_of es) (subst (λ (rs : List RangeLock). IsAmong l (map (lock_on_range e.0) rs)) (sym is) (mine.1 (inr (subst (λ (rs : List RangeLock). IsAmong l (map (lock_on_range e.0) rs)) same n))))
          | inr n ↦ among_right l (map (lock_on_range e.0) new) (locks_of es) n
        ]
      ],
    )
longer k r old new e es others l false at is found h =
    let t = h found in (
      λ g. elim (among_either l (locks_on_ranges e) (locks_of others) g) [
        | inl m ↦ inr (among_left l (locks_on_ranges e) (locks_of es) m)
        | inr m ↦ elim (t.0 m) [ inl n ↦ inl n | inr n ↦ inr (among_right l (locks_on_ranges e) (locks_of es) n) ]
      ],
      λ g. elim g [
        | inl m ↦ among_right l (locks_on_ranges e) (locks_of others) (t.1 (inl m))
        | inr m ↦ elim (among_either l (locks_on_ranges e) (locks_of es) m) [
          | inl n ↦ among_left l (locks_on_ranges e) (locks_of others) n
          | inr n ↦ among_right l (locks_on_ranges e) (locks_of others) (t.1 (inr n))
        ]
      ],
    )

pub among_longer : (k : ℕ) (r : RangeLock) (old new : List RangeLock) (l : Lock) (es : List Entry) → new ≡ old ++ r ∷ [] → lookup (is_at (nat_cmp k)) es ≡ Some old
    → IsAmong l (locks_of (set_value (is_at (nat_cmp k)) es new)) ↔ ((l ≡ lock_on_range k r) ⊎ IsAmong l (locks_of es))
among_longer k r old new l [] is found = absurd cc
among_longer k r old new l (e ∷ es) is found = longer k r old new e es (set_value (is_at (nat_cmp k)) es new) l (has_tx k e) refl is found (among_longer k r old new l es is)

-- a transaction without range locks, and a transaction that loses them
pub not_of : (k : ℕ) (l : Lock) (es : List Entry) → lookup (is_at (nat_cmp k)) es ≡ None → IsAmong l (locks_of es) → l.tx ≡ k → ⊥
not_of k l [] none h tx = h
not_of k l (e ∷ es) none h tx =
    let m = missed (has_tx k e) e.1 (lookup (is_at (nat_cmp k)) es) none in
    elim (among_either l (locks_on_ranges e) (locks_of es) h) [
      | inl g ↦ absurd (not_both (has_tx k e) (is_tx k e (sym (own_tx l e g) ∙ tx)) m.0)
      | inr g ↦ not_of k l es m.1 g tx
    ]

fewer : (k : ℕ) (e : Entry) (es others : List Entry) (l : Lock) (b : Bool) → has_tx k e ≡ b
    → (IsAmong l (locks_of others) → IsAmong l (locks_of es)) × ((l.tx ≡ k → ⊥) → IsAmong l (locks_of es) → IsAmong l (locks_of others))
    → (IsAmong l (locks_of (cond b es (e ∷ others))) → IsAmong l (locks_of (e ∷ es))) × ((l.tx ≡ k → ⊥) → IsAmong l (locks_of (e ∷ es)) → IsAmong l (locks_of (cond b es (e ∷ others))))
fewer k e es others l true at h = (
  λ g. among_right l (locks_on_ranges e) (locks_of es) g,
  λ other g. elim (among_either l (locks_on_ranges e) (locks_of es) g) [ inl m ↦ absurd (other (own_tx l e m ∙ sym (tx_is k e at))) | inr m ↦ m ],
)
fewer k e es others l false at h = (
  λ g. elim (among_either l (locks_on_ranges e) (locks_of others) g) [ inl m ↦ among_left l (locks_on_ranges e) (locks_of es) m | inr m ↦ among_right l (locks_on_ranges e) (locks_of es) (h.0 m) ],
  λ other g. elim (among_either l (locks_on_ranges e) (locks_of es) g) [ inl m ↦ among_left l (locks_on_ranges e) (locks_of others) m | inr m ↦ among_right l (locks_on_ranges e) (locks_of others) (h.1 other m) ],
)

pub among_fewer : (k : ℕ) (l : Lock) (es : List Entry)
    → (IsAmong l (locks_of (remove_entry (is_at (nat_cmp k)) es)) → IsAmong l (locks_of es)) × ((l.tx ≡ k → ⊥) → IsAmong l (locks_of es) → IsAmong l (locks_of (remove_entry (is_at (nat_cmp k)) es)))
among_fewer k l [] = (λ h. h, λ other h. h)
among_fewer k l (e ∷ es) = fewer k e es (remove_entry (is_at (nat_cmp k)) es) l (has_tx k e) refl (among_fewer k l es)

-- ---- one transaction's range locks

entry_by : (tx : ℕ) (r : RangeLock) (held : List RangeLock) (e : Entry) (es : List Entry) (b : Bool) → has_tx tx e ≡ b → cond b (Some e.1) (lookup (is_at (nat_cmp tx)) es) ≡ Some held → IsAmong r held
    → (lookup (is_at (nat_cmp tx)) es ≡ Some held → IsAmong (lock_on_range tx r) (locks_of es)) → IsAmong (lock_on_range tx r) (locks_of (e ∷ es))
entry_by tx r held e es true at found h others =
    among_left (lock_on_range tx r) (locks_on_ranges e) (locks_of es)
    (subst (λ (n : ℕ). IsAmong (lock_on_range n r) (locks_on_ranges e)) (sym (tx_is tx e at)) (among_mapped (lock_on_range e.0) r e.1 (subst (IsAmong r) (sym (some_is e.1 held found)) h)))
entry_by tx r held e es false at found h others = among_right (lock_on_range tx r) (locks_on_ranges e) (locks_of es) (others found)

pub among_entry : (tx : ℕ) (r : RangeLock) (held : List RangeLock) (es : List Entry) → lookup (is_at (nat_cmp tx)) es ≡ Some held → IsAmong r held → IsAmong (lock_on_range tx r) (locks_of es)
among_entry tx r held [] found h = absurd cc
among_entry tx r held (e ∷ es) found h = entry_by tx r held e es (has_tx tx e) refl found h (λ f. among_entry tx r held es f h)

-- entries behind one with a lesser transaction are of greater ones
behind : (k : ℕ) (es : List Entry) (l : Lock) → AllByRecursion (λ n. nat_cmp k n ≡ Less) (keys_of es) → IsAmong l (locks_of es) → nat_cmp k l.tx ≡ Less
behind k [] l all h = absurd h
behind k (e ∷ es) l all h =
    elim (among_either l (locks_on_ranges e) (locks_of es) h) [
      | inl g ↦ subst (λ (n : ℕ). nat_cmp k n ≡ Less) (sym (own_tx l e g)) all.0
      | inr g ↦ behind k es l all.1 g
    ]

not_less : (o : Ordering) → o ≡ Less → o ≡ Equal → ⊥
not_less Less p e = cc
not_less Equal p e = cc
not_less Greater p e = cc

sorted_rest : (c : ℕ → ℕ → Ordering) (k : ℕ) (ks : List ℕ) → IsStrictlySortedBy c (k ∷ ks) → IsStrictlySortedBy c ks
unfolding IsStrictlySortedBy
sorted_rest c k ks h = h.1

among_by : (tx : ℕ) (held : List RangeLock) (l : Lock) (e : Entry) (es : List Entry) (b : Bool) → IsStrictlySortedBy nat_cmp (keys_of (e ∷ es)) → l.tx ≡ tx → has_tx tx e ≡ b
    → cond b (Some e.1) (lookup (is_at (nat_cmp tx)) es) ≡ Some held → IsAmong l (locks_of (e ∷ es))
    → (lookup (is_at (nat_cmp tx)) es ≡ Some held → IsAmong l (locks_of es) → (r : RangeLock) × IsAmong r held × (l ≡ lock_on_range tx r)) → (r : RangeLock) × IsAmong r held × (l ≡ lock_on_range tx r)
among_by tx held l e es true sorted t at found h others =
    elim (among_either l (locks_on_ranges e) (locks_of es) h) [
      | inl g ↦ let m = among_map (lock_on_range e.0) l e.1 g in
          (m.0, subst (IsAmong m.0) (some_is e.1 held found) m.1, m.2 ∙ ap (λ (n : ℕ). lock_on_range n m.0) (sym (tx_is tx e at)))
      | inr g ↦ let below = behind e.0 es l (sorted_head nat_cmp e.0 (keys_of es) sorted) g in
          absurd (not_less (nat_cmp e.0 l.tx) below (ap (λ (n : ℕ). nat_cmp n l.tx) (sym (tx_is tx e at) ∙ sym t) ∙ tied_itself nat_cmp_total l.tx))
    ]
among_by tx held l e es false sorted t at found h others =
    elim (among_either l (locks_on_ranges e) (locks_of es) h) [
      | inl g ↦ absurd (not_both (has_tx tx e) (is_tx tx e (sym (own_tx l e g) ∙ t)) at)
      | inr g ↦ others found g
    ]

pub entry_among : (tx : ℕ) (held : List RangeLock) (l : Lock) (es : List Entry) → IsStrictlySortedBy nat_cmp (keys_of es) → lookup (is_at (nat_cmp tx)) es ≡ Some held → l.tx ≡ tx → IsAmong l (locks_of es)
    → (r : RangeLock) × IsAmong r held × (l ≡ lock_on_range tx r)
entry_among tx held l [] sorted found t h = absurd h
entry_among tx held l (e ∷ es) sorted found t h = among_by tx held l e es (has_tx tx e) sorted t refl found h (λ f g. entry_among tx held l es (sorted_rest nat_cmp e.0 (keys_of es) sorted) f t g)
