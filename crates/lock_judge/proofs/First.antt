-- The first of entries in rising order of which a test holds, and the transaction in the way that it names.
use Rattle.std.proofs.Common.{◌≡◌, ◌≢◌, ℕ, eqb, cond, ◌<◌, ◌≤◌, List, [], ◌∷◌, Option, Some, None, Bool, true, false, Less, Equal, Greater, refl, sym, ap, ◌∙◌, arith}
use Rattle.std.specs.Prelude.{◌&&◌, not, unwrap_or, nat_lt}
use Rattle.std.specs.Ordering.{nat_cmp, is_eq}
use Rattle.std.specs.Cmp.{nat_cmp_is}
use Rattle.std.specs.List.{AllByRecursion, list_any}
use Rattle.std.specs.List.Sorted.{IsStrictlySortedBy}
use Rattle.std.specs.Map.{lookup, keys_of}
use Rattle.std.specs.BTreeMap.{is_at}
use Rattle.std.proofs.lemmas.Bool.{eqb-true}
use Rattle.std.proofs.lemmas.Bool.Decides.{nat_tests}
use Rattle.store_model.proofs.Bools.{both_true}
use Rattle.wal_record.specs.Locks.{Held, conflict}
use Rattle.wal_record.specs.declared.entry.Entry.{Entry}
use Rattle.log_laws.proofs.Central.{differ, eqb_differ, eqb_self}
use Rattle.lock_judge.specs.Taken.{IsFirstInWay, NoneInWay}
use Rattle.lock_judge.proofs.Taking.{Has}

abbrev Entries : Type 0
Entries = List (ℕ × List Held)

abbrev pub first_in : (ℕ → List Held → Bool) → Entries → Option ℕ
first_in test [] = None
first_in test (e ∷ es) = cond (test e.0 e.1) (Some e.0) (first_in test es)

-- what the entries have at this number
abbrev pub held_at : Entries → ℕ → List Held
held_at es t = unwrap_or (lookup (is_at (nat_cmp t)) es) []

-- ---- order

tied : (t k : ℕ) → t ≡ k → is_at (nat_cmp t) k ≡ true
tied t k e = ap is_eq (sym (nat_cmp_is t k Equal e))

untied : (t k : ℕ) → t ≢ k → is_at (nat_cmp t) k ≡ false
untied t k e = by (nat_lt t k) refl
  where
    by : (c : Bool) → nat_lt t k ≡ c → is_at (nat_cmp t) k ≡ false
    by true is = ap is_eq (sym (nat_cmp_is t k Less (grind (arith, nat_tests, is))))
    by false is = ap is_eq (sym (nat_cmp_is t k Greater (grind (arith, nat_tests, is, e))))

less_of : (m n : ℕ) → nat_cmp m n ≡ Less → m < n
less_of m n h = by (nat_lt m n) refl (eqb m n) refl
  where
    by : (c : Bool) → nat_lt m n ≡ c → (d : Bool) → eqb m n ≡ d → m < n
    by true is d e = grind (arith, nat_tests, is)
    by false is true e = (let x : Equal ≡ Less = nat_cmp_is m n Equal (eqb-true m n e) ∙ h in absurd cc)
    by false is false e = (let x : Greater ≡ Less = nat_cmp_is m n Greater (let d = differ m n e in grind (arith, nat_tests, is, d)) ∙ h in absurd cc)

-- each number is above this one
abbrev pub Above : ℕ → Entries → Type 0
Above t [] = Unit {0}
Above t (e ∷ es) = (t < e.0) × Above t es

abbrev pub Rising : Entries → Type 0
Rising [] = Unit {0}
Rising (e ∷ es) = Above e.0 es × Rising es

keys_above : (t : ℕ) (es : Entries) → AllByRecursion (λ y. nat_cmp t y ≡ Less) (keys_of es) → Above t es
keys_above t [] h = tt
keys_above t (e ∷ es) h = (less_of t e.0 h.0, keys_above t es h.1)

pub rising : (es : Entries) → IsStrictlySortedBy nat_cmp (keys_of es) → Rising es
unfolding IsStrictlySortedBy
rising [] h = tt
rising (e ∷ es) h = (keys_above e.0 es h.0, rising es h.1)

-- ---- look-ups

at_head : (o : ℕ) (e : ℕ × List Held) (es : Entries) → o ≡ e.0 → held_at (e ∷ es) o ≡ e.1
at_head o e es same = ap (λ (c : Bool). unwrap_or (cond c (Some e.1) (lookup (is_at (nat_cmp o)) es)) []) (tied o e.0 same)

at_tail : (o : ℕ) (e : ℕ × List Held) (es : Entries) → o ≢ e.0 → held_at (e ∷ es) o ≡ held_at es o
at_tail o e es apart = ap (λ (c : Bool). unwrap_or (cond c (Some e.1) (lookup (is_at (nat_cmp o)) es)) []) (untied o e.0 apart)

at_below : (o t : ℕ) (es : Entries) → o ≤ t → Above t es → held_at es o ≡ []
at_below o t [] low above = refl
at_below o t (e ∷ es) low above = at_tail o e es (λ same. let high = above.0 in absurd (omega (arith, low, same, high))) ∙ at_below o t es low above.1

module _ (test : ℕ → List Held → Bool) (empty : (t : ℕ) → test t [] ≡ false) where
  pub first_none : (es : Entries) → first_in test es ≡ None → (o : ℕ) → test o (held_at es o) ≡ false
  first_none [] none o = empty o
  first_none (e ∷ es) none o = by (λ more. first_none es more o) (test e.0 e.1) refl none
    where
      by : (first_in test es ≡ None → test o (held_at es o) ≡ false) → (c : Bool) → test e.0 e.1 ≡ c → cond c (Some e.0) (first_in test es) ≡ None → test o (held_at (e ∷ es) o) ≡ false
      by more true is none = absurd (cc none)
      by more false is none = at (eqb o e.0) refl
        where
          at : (d : Bool) → eqb o e.0 ≡ d → test o (held_at (e ∷ es) o) ≡ false
          at true same = let here = eqb-true o e.0 same in ap (test o) (at_head o e es here) ∙ ap (λ (t : ℕ). test t e.1) here ∙ is
          at false apart = ap (test o) (at_tail o e es (differ o e.0 apart)) ∙ more none

  first_above : (k t : ℕ) (es : Entries) → Above k es → first_in test es ≡ Some t → k < t
  first_above k t [] above some = absurd (cc some)
  first_above k t (e ∷ es) above some = by (first_above k t es above.1) (test e.0 e.1) some
    where
      some_is : (x y : ℕ) → Some x ≡ Some y → x ≡ y
      some_is x y e = ap (λ (o : Option ℕ). unwrap_or o x) e

      by : (first_in test es ≡ Some t → k < t) → (c : Bool) → cond c (Some e.0) (first_in test es) ≡ Some t → k < t
      by more true is = let same = some_is e.0 t is in let high = above.0 in omega (arith, same, high)
      by more false is = more is

  pub first_some : (t : ℕ) (es : Entries) → Rising es → first_in test es ≡ Some t → (test t (held_at es t) ≡ true) × ((o : ℕ) → o < t → test o (held_at es o) ≡ false)
  first_some t [] rises some = absurd (cc some)
  first_some t (e ∷ es) rises some = by (first_some t es rises.1) (test e.0 e.1) refl some
    where
      some_is : (x y : ℕ) → Some x ≡ Some y → x ≡ y
      some_is x y e = ap (λ (o : Option ℕ). unwrap_or o x) e

      by : (first_in test es ≡ Some t → (test t (held_at es t) ≡ true) × ((o : ℕ) → o < t → test o (held_at es o) ≡ false))
          → (c : Bool) → test e.0 e.1 ≡ c → cond c (Some e.0) (first_in test es) ≡ Some t → (test t (held_at (e ∷ es) t) ≡ true) × ((o : ℕ) → o < t → test o (held_at (e ∷ es) o) ≡ false)
      by rest true is some =
          let same = sym (some_is e.0 t some) in (
            ap (test t) (at_head t e es same) ∙ ap (λ (x : ℕ). test x e.1) same ∙ is,
            λ o low. ap (test o) (at_tail o e es (λ here. absurd (omega (arith, low, same, here))) ∙ at_below o e.0 es (omega (arith, low, same)) rises.0) ∙ empty o,
          )
      by rest false is some =
          let high = first_above e.0 t es rises.0 some in
          let more = rest some in
          (ap (test t) (at_tail t e es (λ here. absurd (omega (arith, high, here)))) ∙ more.0, λ o low. at o low (eqb o e.0) refl more.1)
        where
          at : (o : ℕ) → o < t → (d : Bool) → eqb o e.0 ≡ d → ((x : ℕ) → x < t → test x (held_at es x) ≡ false) → test o (held_at (e ∷ es) o) ≡ false
          at o low true same more = let here = eqb-true o e.0 same in ap (test o) (at_head o e es here) ∙ ap (λ (x : ℕ). test x e.1) here ∙ is
          at o low false apart more = ap (test o) (at_tail o e es (differ o e.0 apart)) ∙ more o low

-- ---- who is in the way

module _ (tx : ℕ) (lock : Held) where
  -- another transaction, with a lock in conflict
  abbrev pub is_in_way : ℕ → List Held → Bool
  is_in_way t ls = not (eqb t tx) && list_any (conflict lock) ls

  and_false : (c : Bool) → (c && false) ≡ false
  and_false true = refl
  and_false false = refl

  nothing : (t : ℕ) → is_in_way t [] ≡ false
  nothing t = and_false (not (eqb t tx))

  free : (o : ℕ) (ls : List Held) → o ≢ tx → is_in_way o ls ≡ false → list_any (conflict lock) ls ≡ false
  free o ls apart is = sym (ap (λ (c : Bool). not c && list_any (conflict lock) ls) (eqb_differ o tx apart)) ∙ is

  not_own : (t : ℕ) → not (eqb t tx) ≡ true → t ≢ tx
  not_own t is = λ same. let own : eqb t tx ≡ true = ap (λ (x : ℕ). eqb x tx) same ∙ eqb_self tx in (let both : false ≡ true = sym (ap not own) ∙ is in absurd (cc both))

  pub first_here : (t : ℕ) (ls : List Held) (left rest : Entries) → left ≡ (t, ls) ∷ rest → t ≢ tx → list_any (conflict lock) ls ≡ true → first_in is_in_way left ≡ Some t
  first_here t ls left rest steps apart is =
      ap (first_in is_in_way) steps ∙ ap (λ (c : Bool). cond c (Some t) (first_in is_in_way rest)) (λ i. not (eqb_differ t tx apart i) && is i)

  module _ (h : List Entry) (es : Entries) (k : Has (held_at es) h) where
    pub none_in_way : first_in is_in_way es ≡ None → NoneInWay h tx lock
    none_in_way none o apart = sym (k o (conflict lock)) ∙ free o (held_at es o) apart (first_none is_in_way nothing es none o)

    pub first_is : IsStrictlySortedBy nat_cmp (keys_of es) → (t : ℕ) → first_in is_in_way es ≡ Some t → IsFirstInWay h tx lock t
    first_is sorted t some =
        let found = first_some is_in_way nothing t es (rising es sorted) some in
        let parts = both_true (not (eqb t tx)) (list_any (conflict lock) (held_at es t)) found.0 in
        record {
          other = not_own t parts.0;
          conflicts = sym (k t (conflict lock)) ∙ parts.1;
          least = λ o apart low. sym (k o (conflict lock)) ∙ free o (held_at es o) apart (found.1 o low);
        }
