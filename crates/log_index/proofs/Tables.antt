-- What a change of the table does to the transactions that it lists.
use Rattle.std.proofs.Common.{◌≡◌, ◌≢◌, ℕ, ◌<◌, ◌≤◌, Bool, true, false, cond, eqb, List, [], ◌∷◌, ◌++◌, Option, Some, None, Ordering, Less, Equal, Greater, refl, sym, ap, subst, ◌∙◌, arith, inl, inr}
use Rattle.std.specs.Prelude.{◌⊎◌, ◌-◌, take, option_to_list, is_some}
use Rattle.std.specs.Ordering.{nat_cmp, match_ordering, is_eq}
use Rattle.std.specs.List.{AllByRecursion}
use Rattle.std.specs.List.Sorted.{IsStrictlySortedBy}
use Rattle.std.specs.Map.{lookup, set_value, remove_entry, keys_of}
use Rattle.std.specs.BTreeMap.{is_at, insert_entry}
use Rattle.std.proofs.lemmas.Bool.{cases_eq}
use Rattle.std.proofs.lemmas.Map.Steps.{set_value_same}
use Rattle.wal_record.specs.OpenWrites.{has_items, without_last}
use Rattle.wal_record.specs.declared.record.OpenWrite.{OpenWrite}
use Rattle.wal_record.specs.declared.record.Unfinished.{Unfinished}
use Rattle.log_laws.proofs.Central.{eqb_self, eqb_differ}
use Rattle.listing_laws.specs.Summary.{put, put_open, without, writes_in}
use Rattle.listing_laws.proofs.Listing.{cmp_less, cmp_equal, cmp_greater}
use Rattle.listing_laws.proofs.Transactions.{nothing}
use Rattle.log_index.specs.Table.{unfinished_of, listed_before, listed_in}
use Rattle.log_index.specs.declared.table.Tracked.{Tracked}

abbrev Entries : Type 0
Entries = List (ℕ × Tracked)

-- ---- order

-- each key is above this number
abbrev pub Above : ℕ → Entries → Type 0
Above t [] = Unit {0}
Above t (e ∷ es) = (t < e.0) × Above t es

-- keys rise
abbrev pub Rising : Entries → Type 0
Rising [] = Unit {0}
Rising (e ∷ es) = Above e.0 es × Rising es

-- a number is below, at or above another
abbrev pub Compares : ℕ → ℕ → Type 0
Compares m n = (m < n) ⊎ ((m ≡ n) ⊎ (n < m))

pub tri : (m n : ℕ) → Compares m n
tri m n = elim (cases_eq m n) [ inl e ↦ inr (inl e) | inr d ↦ elim (cases_eq (m - n) 0) [ inl z ↦ inl (omega (arith, d, z)) | inr p ↦ inr (inr (omega (arith, p))) ] ]

less_of : (m n : ℕ) → nat_cmp m n ≡ Less → m < n
less_of m n h = elim (tri m n) [
  | inl l ↦ l
  | inr r ↦ elim r [
    | inl e ↦ (let x : Equal ≡ Less = sym (cmp_equal m n e) ∙ h in absurd cc)
    | inr g ↦ (let x : Greater ≡ Less = sym (cmp_greater m n g) ∙ h in absurd cc)
  ]
]

keys_above : (t : ℕ) (es : Entries) → AllByRecursion (λ y. nat_cmp t y ≡ Less) (keys_of es) → Above t es
keys_above t [] h = tt
keys_above t (e ∷ es) h = (less_of t e.0 h.0, keys_above t es h.1)

pub rising : (es : Entries) → IsStrictlySortedBy nat_cmp (keys_of es) → Rising es
unfolding IsStrictlySortedBy
rising [] h = tt
rising (e ∷ es) h = (keys_above e.0 es h.0, rising es h.1)

higher : (t u : ℕ) (es : Entries) → u ≤ t → Above t es → Above u es
higher t u [] l h = tt
higher t u (e ∷ es) l h = ((let x = h.0 in omega (arith, l, x)), higher t u es l h.1)

-- ---- look-ups

at_same : (t k : ℕ) → t ≡ k → is_at (nat_cmp t) k ≡ true
at_same t k e = ap is_eq (cmp_equal t k e)

at_less : (t k : ℕ) → t < k → is_at (nat_cmp t) k ≡ false
at_less t k l = ap is_eq (cmp_less t k l)

at_greater : (t k : ℕ) → k < t → is_at (nat_cmp t) k ≡ false
at_greater t k l = ap is_eq (cmp_greater t k l)

none_above : (t : ℕ) (es : Entries) → Above t es → lookup (is_at (nat_cmp t)) es ≡ None
none_above t [] h = refl
none_above t (e ∷ es) h = ap (λ (b : Bool). cond b (Some e.1) (lookup (is_at (nat_cmp t)) es)) (at_less t e.0 h.0) ∙ none_above t es h.1

-- ---- what stands behind greater numbers

pub above_put : (x : Unfinished) (es : Entries) → Above x.tx es → put x (listed_in es) ≡ x ∷ listed_in es
unfolding listed_in
above_put x [] h = refl
above_put x (e ∷ es) h = by (above_put x es h.1) (has_items e.1.writes.items)
  where
    by : put x (listed_in es) ≡ x ∷ listed_in es → (b : Bool) → put x (cond b (unfinished_of e.0 e.1 ∷ listed_in es) (listed_in es)) ≡ x ∷ cond b (unfinished_of e.0 e.1 ∷ listed_in es) (listed_in es)
    by rest true = ap (λ (o : Ordering). match_ordering o (x ∷ unfinished_of e.0 e.1 ∷ listed_in es) (x ∷ listed_in es) (unfinished_of e.0 e.1 ∷ put x (listed_in es))) (cmp_less x.tx e.0 h.0)
    by rest false = rest

above_without : (t : ℕ) (es : Entries) → Above t es → without t (listed_in es) ≡ listed_in es
unfolding listed_in
above_without t [] h = refl
above_without t (e ∷ es) h = by (above_without t es h.1) (has_items e.1.writes.items)
  where
    by : without t (listed_in es) ≡ listed_in es → (b : Bool) → without t (cond b (unfinished_of e.0 e.1 ∷ listed_in es) (listed_in es)) ≡ cond b (unfinished_of e.0 e.1 ∷ listed_in es) (listed_in es)
    by rest true =
        ap (λ (c : Bool). cond c (listed_in es) (unfinished_of e.0 e.1 ∷ without t (listed_in es))) (eqb_differ e.0 t (λ d. let l = h.0 in omega (arith, d, l)))
        ∙ ap (λ (us : List Unfinished). unfinished_of e.0 e.1 ∷ us) rest
    by rest false = rest

above_writes : (t : ℕ) (es : Entries) → Above t es → writes_in t (listed_in es) ≡ []
unfolding listed_in
above_writes t [] h = refl
above_writes t (e ∷ es) h = by (above_writes t es h.1) (has_items e.1.writes.items)
  where
    by : writes_in t (listed_in es) ≡ [] → (b : Bool) → writes_in t (cond b (unfinished_of e.0 e.1 ∷ listed_in es) (listed_in es)) ≡ []
    by rest true = ap (λ (c : Bool). cond c e.1.writes.items (writes_in t (listed_in es))) (eqb_differ e.0 t (λ d. let l = h.0 in omega (arith, d, l))) ∙ rest
    by rest false = rest

-- ---- a transaction is found

inside : (x y : Tracked) → Some x ≡ Some y → x ≡ y
inside x y e = ap (or_this x) e
  where
    or_this : Tracked → Option Tracked → Tracked
    or_this a None = a
    or_this a (Some b) = b

-- what a look-up in a table whose first entry is e finds
found_first : (t : ℕ) (e : ℕ × Tracked) (es : Entries) (x : Tracked) → t ≡ e.0 → lookup (is_at (nat_cmp t)) (e ∷ es) ≡ Some x → e.1 ≡ x
found_first t e es x same h = inside e.1 x (sym (ap (λ (b : Bool). cond b (Some e.1) (lookup (is_at (nat_cmp t)) es)) (at_same t e.0 same)) ∙ h)

found_later : (t : ℕ) (e : ℕ × Tracked) (es : Entries) (x : Tracked) → e.0 < t → lookup (is_at (nat_cmp t)) (e ∷ es) ≡ Some x → lookup (is_at (nat_cmp t)) es ≡ Some x
found_later t e es x l h = sym (ap (λ (b : Bool). cond b (Some e.1) (lookup (is_at (nat_cmp t)) es)) (at_greater t e.0 l)) ∙ h

not_below : (t : ℕ) (e : ℕ × Tracked) (es : Entries) (x : Tracked) → Rising (e ∷ es) → t < e.0 → lookup (is_at (nat_cmp t)) (e ∷ es) ≡ Some x → ⊥
not_below t e es x r l h = let z : None ≡ Some x = sym (none_above t (e ∷ es) (l, higher e.0 t es (omega (arith, l)) r.0)) ∙ h in cc

pub writes_found : (t : ℕ) (es : Entries) (x : Tracked) → Rising es → lookup (is_at (nat_cmp t)) es ≡ Some x → writes_in t (listed_in es) ≡ x.writes.items
unfolding listed_in
writes_found t [] x r h = absurd cc
writes_found t (e ∷ es) x r h = elim (tri t e.0) [
  | inl l ↦ absurd (not_below t e es x r l h)
  | inr c ↦ elim c [ inl same ↦ at same (has_items e.1.writes.items) refl | inr l ↦ past l (writes_found t es x r.1 (found_later t e es x l h)) (has_items e.1.writes.items) ]
]
  where
    at : t ≡ e.0 → (b : Bool) → has_items e.1.writes.items ≡ b → writes_in t (cond b (unfinished_of e.0 e.1 ∷ listed_in es) (listed_in es)) ≡ x.writes.items
    at same true some =
        ap (λ (c : Bool). cond c e.1.writes.items (writes_in t (listed_in es))) (subst (λ (k : ℕ). eqb k t ≡ true) same (eqb_self t))
        ∙ ap (λ (y : Tracked). y.writes.items) (found_first t e es x same h)
    at same false none =
        above_writes t es (subst (λ (k : ℕ). Above k es) (sym same) r.0)
        ∙ sym (nothing e.1.writes.items none)
        ∙ ap (λ (y : Tracked). y.writes.items) (found_first t e es x same h)

    past : e.0 < t → writes_in t (listed_in es) ≡ x.writes.items → (b : Bool) → writes_in t (cond b (unfinished_of e.0 e.1 ∷ listed_in es) (listed_in es)) ≡ x.writes.items
    past l rest true = ap (λ (c : Bool). cond c e.1.writes.items (writes_in t (listed_in es))) (eqb_differ e.0 t (λ d. omega (arith, l, d))) ∙ rest
    past l rest false = rest

-- ---- a transaction is written

pub written : (t : ℕ) (es : Entries) (x w : Tracked) → Rising es → lookup (is_at (nat_cmp t)) es ≡ Some x → listed_in (set_value (is_at (nat_cmp t)) es w) ≡ put_open w.last t w.writes.items (listed_in es)
unfolding listed_in
written t [] x w r h = absurd cc
written t (e ∷ es) x w r h = elim (tri t e.0) [
  | inl l ↦ absurd (not_below t e es x r l h)
  | inr c ↦ elim c [
    | inl same ↦ ap listed_in (set_here same) ∙ at same (has_items w.writes.items) (has_items e.1.writes.items)
    | inr l ↦ ap listed_in (set_later l) ∙ ap (λ (us : List Unfinished). listed_before us e) (written t es x w r.1 (found_later t e es x l h)) ∙ past l (has_items w.writes.items) (has_items e.1.writes.items)
  ]
]
  where
    u : Unfinished
    u = unfinished_of t w

    set_here : t ≡ e.0 → set_value (is_at (nat_cmp t)) (e ∷ es) w ≡ (e.0, w) ∷ es
    set_here same = ap (λ (b : Bool). cond b ((e.0, w) ∷ es) (e ∷ set_value (is_at (nat_cmp t)) es w)) (at_same t e.0 same)

    set_later : e.0 < t → set_value (is_at (nat_cmp t)) (e ∷ es) w ≡ e ∷ set_value (is_at (nat_cmp t)) es w
    set_later l = ap (λ (b : Bool). cond b ((e.0, w) ∷ es) (e ∷ set_value (is_at (nat_cmp t)) es w)) (at_greater t e.0 l)

    at : t ≡ e.0 → (a b : Bool) → cond a (unfinished_of e.0 w ∷ listed_in es) (listed_in es) ≡ cond a (put u (cond b (unfinished_of e.0 e.1 ∷ listed_in es) (listed_in es))) (without t (cond b (unfinished_of e.0 e.1 ∷ listed_in es) (listed_in es)))
    at same true true =
        ap (λ (k : ℕ). unfinished_of k w ∷ listed_in es) (sym same)
        ∙ sym (ap (λ (o : Ordering). match_ordering o (u ∷ unfinished_of e.0 e.1 ∷ listed_in es) (u ∷ listed_in es) (unfinished_of e.0 e.1 ∷ put u (listed_in es))) (cmp_equal t e.0 same))
    at same true false = ap (λ (k : ℕ). unfinished_of k w ∷ listed_in es) (sym same) ∙ sym (above_put u es (subst (λ (k : ℕ). Above k es) (sym same) r.0))
    at same false true = sym (ap (λ (c : Bool). cond c (listed_in es) (unfinished_of e.0 e.1 ∷ without t (listed_in es))) (subst (λ (k : ℕ). eqb k t ≡ true) same (eqb_self t)))
    at same false false = sym (above_without t es (subst (λ (k : ℕ). Above k es) (sym same) r.0))

    past : e.0 < t → (a b : Bool)
        → cond b (unfinished_of e.0 e.1 ∷ cond a (put u (listed_in es)) (without t (listed_in es))) (cond a (put u (listed_in es)) (without t (listed_in es)))
        ≡ cond a (put u (cond b (unfinished_of e.0 e.1 ∷ listed_in es) (listed_in es))) (without t (cond b (unfinished_of e.0 e.1 ∷ listed_in es) (listed_in es)))
    past l true true = sym (ap (λ (o : Ordering). match_ordering o (u ∷ unfinished_of e.0 e.1 ∷ listed_in es) (u ∷ listed_in es) (unfinished_of e.0 e.1 ∷ put u (listed_in es))) (cmp_greater t e.0 l))
    past l false true = sym (ap (λ (c : Bool). cond c (listed_in es) (unfinished_of e.0 e.1 ∷ without t (listed_in es))) (eqb_differ e.0 t (λ d. omega (arith, l, d))))
    past l a false = refl

-- ---- a transaction is removed

pub removed : (t : ℕ) (es : Entries) → Rising es → listed_in (remove_entry (is_at (nat_cmp t)) es) ≡ without t (listed_in es)
unfolding listed_in
removed t [] r = refl
removed t (e ∷ es) r = elim (cases_eq t e.0) [
  | inl same ↦ ap listed_in (gone same) ∙ at same (has_items e.1.writes.items)
  | inr d ↦ ap listed_in (later d) ∙ ap (λ (us : List Unfinished). listed_before us e) (removed t es r.1) ∙ past d (has_items e.1.writes.items)
]
  where
    gone : t ≡ e.0 → remove_entry (is_at (nat_cmp t)) (e ∷ es) ≡ es
    gone same = ap (λ (b : Bool). cond b es (e ∷ remove_entry (is_at (nat_cmp t)) es)) (at_same t e.0 same)

    apart : t ≢ e.0 → is_at (nat_cmp t) e.0 ≡ false
    apart d = elim (tri t e.0) [ inl l ↦ at_less t e.0 l | inr c ↦ elim c [ inl s ↦ absurd (d s) | inr l ↦ at_greater t e.0 l ] ]

    later : t ≢ e.0 → remove_entry (is_at (nat_cmp t)) (e ∷ es) ≡ e ∷ remove_entry (is_at (nat_cmp t)) es
    later d = ap (λ (b : Bool). cond b es (e ∷ remove_entry (is_at (nat_cmp t)) es)) (apart d)

    at : t ≡ e.0 → (b : Bool) → listed_in es ≡ without t (cond b (unfinished_of e.0 e.1 ∷ listed_in es) (listed_in es))
    at same true = sym (ap (λ (c : Bool). cond c (listed_in es) (unfinished_of e.0 e.1 ∷ without t (listed_in es))) (subst (λ (k : ℕ). eqb k t ≡ true) same (eqb_self t)))
    at same false = sym (above_without t es (subst (λ (k : ℕ). Above k es) (sym same) r.0))

    past : t ≢ e.0 → (b : Bool) → cond b (unfinished_of e.0 e.1 ∷ without t (listed_in es)) (without t (listed_in es)) ≡ without t (cond b (unfinished_of e.0 e.1 ∷ listed_in es) (listed_in es))
    past d true = sym (ap (λ (c : Bool). cond c (listed_in es) (unfinished_of e.0 e.1 ∷ without t (listed_in es))) (eqb_differ e.0 t (λ s. d (sym s))))
    past d false = refl

-- ---- one without open writes is put in

pub prepared : (t : ℕ) (es : Entries) (x : Tracked) → has_items x.writes.items ≡ false → lookup (is_at (nat_cmp t)) es ≡ None → listed_in (insert_entry nat_cmp es t x) ≡ listed_in es
unfolding listed_in
prepared t [] x none h = ap (λ (b : Bool). cond b (unfinished_of t x ∷ []) []) none
prepared t (e ∷ es) x none h = elim (tri t e.0) [
  | inl l ↦ ap listed_in (placed (cmp_less t e.0 l)) ∙ ap (λ (b : Bool). cond b (unfinished_of t x ∷ listed_in (e ∷ es)) (listed_in (e ∷ es))) none
  | inr c ↦ elim c [
    | inl same ↦ (let z : Some e.1 ≡ None = sym (ap (λ (b : Bool). cond b (Some e.1) (lookup (is_at (nat_cmp t)) es)) (at_same t e.0 same)) ∙ h in absurd cc)
    | inr l ↦ ap listed_in (placed (cmp_greater t e.0 l))
        ∙ ap (λ (us : List Unfinished). listed_before us e) (prepared t es x none (sym (ap (λ (b : Bool). cond b (Some e.1) (lookup (is_at (nat_cmp t)) es)) (at_greater t e.0 l)) ∙ h))
  ]
]
  where
    placed : {o : Ordering} → nat_cmp t e.0 ≡ o → insert_entry nat_cmp (e ∷ es) t x ≡ match_ordering o ((t, x) ∷ e ∷ es) ((e.0, x) ∷ es) (e ∷ insert_entry nat_cmp es t x)
    placed {o} h = ap (λ (p : Ordering). match_ordering p ((t, x) ∷ e ∷ es) ((e.0, x) ∷ es) (e ∷ insert_entry nat_cmp es t x)) h

-- ---- the changes that calls make

module _ (t : ℕ) (es : Entries) (sorted : IsStrictlySortedBy nat_cmp (keys_of es)) (x w : Tracked) (h : lookup (is_at (nat_cmp t)) es ≡ Some x) where
  pub writes_more : (item : OpenWrite) → w.writes.items ≡ x.writes.items ++ item ∷ [] → listed_in (set_value (is_at (nat_cmp t)) es w) ≡ put_open w.last t (writes_in t (listed_in es) ++ item ∷ []) (listed_in es)
  writes_more item more =
      written t es x w (rising es sorted) h
      ∙ ap (λ (ws : List OpenWrite). put_open w.last t ws (listed_in es)) (more ∙ ap (λ (ws : List OpenWrite). ws ++ item ∷ []) (sym (writes_found t es x (rising es sorted) h)))

  pub writes_less : w.writes.items ≡ without_last x.writes.items → listed_in (set_value (is_at (nat_cmp t)) es w) ≡ put_open w.last t (without_last (writes_in t (listed_in es))) (listed_in es)
  writes_less less =
      written t es x w (rising es sorted) h
      ∙ ap (λ (ws : List OpenWrite). put_open w.last t ws (listed_in es)) (less ∙ ap without_last (sym (writes_found t es x (rising es sorted) h)))

-- a value of the same content changes nothing
pub roomier : (t : ℕ) (es : Entries) → IsStrictlySortedBy nat_cmp (keys_of es) → (x w : Tracked) → lookup (is_at (nat_cmp t)) es ≡ Some x → w.last ≡ x.last → w.writes.items ≡ x.writes.items → listed_in (set_value (is_at (nat_cmp t)) es w) ≡ listed_in es
roomier t es sorted x w h last same =
    written t es x w (rising es sorted) h
    ∙ (λ i. put_open (last i) t (same i) (listed_in es))
    ∙ sym (written t es x x (rising es sorted) h)
    ∙ ap listed_in (set_value_same (is_at (nat_cmp t)) es x h)

-- a list without its last item
pub popped : (xs ys : List OpenWrite) (n : ℕ) (o : Option OpenWrite) → xs ≡ ys ++ option_to_list o → (o ≡ None → n ≡ 0) → ys ≡ take (n - 1) xs → ys ≡ without_last xs
popped xs ys n None e z rest =
    let zero : n ≡ 0 = z refl in
    let none : ys ≡ [] = rest ∙ ap (λ (k : ℕ). take (k - 1) xs) zero in
    let all : xs ≡ [] = e ∙ ap (λ (l : List OpenWrite). l ++ []) none in
    none ∙ sym (ap without_last all)
popped xs ys n (Some w) e z rest = sym (ap without_last e ∙ front ys w)
  where
    front : (ys : List OpenWrite) (w : OpenWrite) → without_last (ys ++ w ∷ []) ≡ ys
    front [] w = refl
    front (y ∷ []) w = refl
    front (y ∷ v ∷ ys) w = ap (λ (l : List OpenWrite). y ∷ l) (front (v ∷ ys) w)

pub popped_some : (xs ys : List OpenWrite) (n : ℕ) (o : Option OpenWrite) → xs ≡ ys ++ option_to_list o → (o ≡ None → n ≡ 0) → ys ≡ take (n - 1) xs → has_items xs ≡ is_some o
popped_some xs ys n None e z rest =
    let zero : n ≡ 0 = z refl in
    let none : ys ≡ [] = rest ∙ ap (λ (k : ℕ). take (k - 1) xs) zero in
    ap has_items (e ∙ ap (λ (l : List OpenWrite). l ++ []) none)
popped_some xs ys n (Some w) e z rest = ap has_items e ∙ some ys
  where
    some : (ys : List OpenWrite) → has_items (ys ++ w ∷ []) ≡ true
    some [] = refl
    some (y ∷ ys) = refl

-- one that isn't in the table has no open writes
pub not_found : (t : ℕ) (es : Entries) → lookup (is_at (nat_cmp t)) es ≡ None → writes_in t (listed_in es) ≡ []
unfolding listed_in
not_found t [] h = refl
not_found t (e ∷ es) h = elim (cases_eq e.0 t) [
  | inl same ↦ (let z : Some e.1 ≡ None = sym (ap (λ (b : Bool). cond b (Some e.1) (lookup (is_at (nat_cmp t)) es)) (at_same t e.0 (sym same))) ∙ h in absurd cc)
  | inr d ↦ by d (not_found t es (sym (ap (λ (b : Bool). cond b (Some e.1) (lookup (is_at (nat_cmp t)) es)) (apart d)) ∙ h)) (has_items e.1.writes.items)
]
  where
    apart : e.0 ≢ t → is_at (nat_cmp t) e.0 ≡ false
    apart d = elim (tri t e.0) [ inl l ↦ at_less t e.0 l | inr c ↦ elim c [ inl s ↦ absurd (d (sym s)) | inr l ↦ at_greater t e.0 l ] ]

    by : e.0 ≢ t → writes_in t (listed_in es) ≡ [] → (b : Bool) → writes_in t (cond b (unfinished_of e.0 e.1 ∷ listed_in es) (listed_in es)) ≡ []
    by d rest true = ap (λ (c : Bool). cond c e.1.writes.items (writes_in t (listed_in es))) (eqb_differ e.0 t d) ∙ rest
    by d rest false = rest
