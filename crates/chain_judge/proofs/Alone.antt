-- Entries that are gone through, and what is then said of each transaction.
use Rattle.std.proofs.Common.{◌≡◌, ◌≢◌, ℕ, eqb, cond, List, [], ◌∷◌, Option, Some, None, Bool, true, false, Less, Greater, refl, sym, ap, ◌∙◌, arith}
use Rattle.std.specs.Prelude.{◌||◌, ◌&&◌, not, nat_lt}
use Rattle.std.specs.List.{list_any}
use Rattle.std.specs.Map.{lookup}
use Rattle.std.specs.Option.{option_map_or}
use Rattle.std.specs.Ordering.{nat_cmp, is_eq}
use Rattle.std.specs.Cmp.{nat_cmp_is}
use Rattle.std.specs.BTreeMap.{BTreeMap, is_at}
use Rattle.std.proofs.lemmas.Bool.{eqb-true}
use Rattle.std.proofs.lemmas.Bool.Decides.{nat_tests}
use Rattle.chain_judge.specs.Chains.{is_at_key, writes_in}
use Rattle.chain_judge.specs.declared.chain.Chain.{Chain}

abbrev Entries : Type 0
Entries = List (ℕ × Chain)

-- a test of one of the transactions of these entries
abbrev pub any_tx : (ℕ → Bool) → Entries → Bool
any_tx p [] = false
any_tx p (e ∷ es) = p e.0 || any_tx p es

untied : (t k : ℕ) → t ≢ k → is_at (nat_cmp t) k ≡ false
untied t k e = by (nat_lt t k) refl
  where
    by : (c : Bool) → nat_lt t k ≡ c → is_at (nat_cmp t) k ≡ false
    by true is = ap is_eq (sym (nat_cmp_is t k Less (grind (arith, nat_tests, is))))
    by false is = ap is_eq (sym (nat_cmp_is t k Greater (grind (arith, nat_tests, is, e))))

either_false : (a b : Bool) → (a || b) ≡ false → (a ≡ false) × (b ≡ false)
either_false true b e = absurd cc
either_false false b e = (refl, e)

self : (n : ℕ) → eqb n n ≡ true
self n = grind (arith, nat_tests)

differs : (t k : ℕ) → eqb t k ≡ false → t ≢ k
differs t k is same = (let yes : eqb t k ≡ true = ap (eqb t) (sym same) ∙ self t in let both : true ≡ false = sym yes ∙ is in absurd (cc both))

skipped : (b : Bool) (o found : Option Chain) (v : Chain) → b ≡ false → cond b o found ≡ Some v → found ≡ Some v
skipped true o found v is some = absurd (cc is)
skipped false o found v is some = some

module _ (p : ℕ → Bool) where
  found : (t : ℕ) (es : Entries) (v : Chain) → lookup (is_at (nat_cmp t)) es ≡ Some v → any_tx p es ≡ false → p t ≡ false
  found t [] v some none = absurd (cc some)
  found t (e ∷ es) v some none =
      let rest = either_false (p e.0) (any_tx p es) none in
      by (eqb t e.0) refl rest.0 (λ apart. found t es v (skipped (is_at (nat_cmp t) e.0) (Some e.1) (lookup (is_at (nat_cmp t)) es) v (untied t e.0 apart) some) rest.1)
    where
      by : (b : Bool) → eqb t e.0 ≡ b → p e.0 ≡ false → (t ≢ e.0 → p t ≡ false) → p t ≡ false
      by true is here more = ap p (eqb-true t e.0 is) ∙ here
      by false is here more = more (differs t e.0 is)

module _ (key : List ℕ) (tx : ℕ) (m : BTreeMap ℕ Chain) where
  -- another transaction, with an open write of the key
  abbrev pub opens_too : ℕ → Bool
  opens_too t = not (eqb t tx) && list_any (is_at_key key) (writes_in m t)

  apart : (t : ℕ) → t ≢ tx → eqb t tx ≡ false
  apart t e = grind (arith, nat_tests, e)

  pub none_too : any_tx opens_too m.entries ≡ false → (t : ℕ) → t ≢ tx → list_any (is_at_key key) (writes_in m t) ≡ false
  none_too none t other = by (lookup (is_at (nat_cmp t)) m.entries) refl
    where
      other_too : list_any (is_at_key key) (writes_in m t) ≡ opens_too t
      other_too = ap (λ (b : Bool). not b && list_any (is_at_key key) (writes_in m t)) (sym (apart t other))

      by : (o : Option Chain) → lookup (is_at (nat_cmp t)) m.entries ≡ o → list_any (is_at_key key) (writes_in m t) ≡ false
      by None is = ap (λ (o : Option Chain). list_any (is_at_key key) (option_map_or (λ (c : Chain). c.writes.items) o [])) is
      by (Some v) is = other_too ∙ found opens_too t m.entries v is none

  pub one_passed : (e : ℕ × Chain) (es left : Entries) → left ≡ e ∷ es → opens_too e.0 ≡ false → any_tx opens_too es ≡ any_tx opens_too left
  one_passed e es left is none = sym (ap (any_tx opens_too) is ∙ ap (λ (b : Bool). b || any_tx opens_too es) none)

  pub same_tx : (t : ℕ) → t ≡ tx → opens_too t ≡ false
  same_tx t is = let own : eqb t tx ≡ true = ap (λ (n : ℕ). eqb n tx) is ∙ self tx in ap (λ (b : Bool). not b && list_any (is_at_key key) (writes_in m t)) own

  and_false : (b : Bool) → (b && false) ≡ false
  and_false true = refl
  and_false false = refl

  pub no_write : (t : ℕ) → list_any (is_at_key key) (writes_in m t) ≡ false → opens_too t ≡ false
  no_write t none = ap (λ (b : Bool). not (eqb t tx) && b) none ∙ and_false (not (eqb t tx))
