-- Own entries among others.
use Rattle.std.proofs.Common.{◌≡◌, ◌||◌, ℕ, Bool, true, false, List, [], ◌∷◌, ◌++◌, refl, sym, ap, ◌∙◌, append_assoc, subst}
use Rattle.std.specs.List.{All, list_all, list_any}
use Rattle.std.proofs.lemmas.List.Elements.{All-cons, All-nil, All-append}
use Rattle.std.proofs.lemmas.Bool.{eqb-true}
use Rattle.std.specs.Prelude.{◌==◌}
use Rattle.store_model.proofs.Bools.{both_true}
use Rattle.wal_record.specs.declared.entry.Entry.{Entry}
use Rattle.page_ops.specs.Groups.{Each}
use Rattle.command_laws.specs.Commands.{Among, Amid}

-- what a test tells of each item
pub each_by : (f : Entry → Bool) (P : Entry → Type 0) → ((e : Entry) → f e ≡ true → P e) → (es : List Entry) → list_all f es ≡ true → All P es
each_by f P tells [] h = All-nil P
each_by f P tells (e ∷ es) h = let both = both_true (f e) (list_all f es) h in All-cons P e es (tells e both.0) (each_by f P tells es both.1)

-- a number that is among some, of each of which P holds
pub one_of : (P : ℕ → Type 0) (t : ℕ) (ts : List ℕ) → list_any (λ l. t == l) ts ≡ true → Each P ts → P t
one_of P t [] h each = absurd cc
one_of P t (l ∷ ts) h each = by (t == l) refl h (λ k. one_of P t ts k each.1)
  where
    by : (b : Bool) → (t == l) ≡ b → (b || list_any (λ l. t == l) ts) ≡ true → (list_any (λ l. t == l) ts ≡ true → P t) → P t
    by true e k more = subst P (sym (eqb-true t l e)) each.0
    by false e k more = more k

module _ (P : Entry → Type 0) where
  -- the own entries alone
  pub among_own : (own : List Entry) → Among P own own
  among_own [] = refl
  among_own (e ∷ own) = ([], All-nil P, own, refl, among_own own)

  -- behind others
  pub among_behind : (before : List Entry) → All P before → (first : Entry) (own es : List Entry) → Among P (first ∷ own) es → Among P (first ∷ own) (before ++ es)
  among_behind before all first own es a = (before ++ a.0, All-append P before a.0 all a.1, a.2, ap (λ (l : List Entry). before ++ l) a.3 ∙ sym (append_assoc before a.0 (first ∷ a.2)), a.4)

  pub amid_behind : (before : List Entry) → All P before → (own : List Entry) → Amid P own (before ++ own)
  amid_behind before all [] = All-append P before [] all (All-nil P)
  amid_behind before all (first ∷ own) = among_behind before all first own (first ∷ own) (among_own (first ∷ own))
