-- Open writes as they are kept, one by one.
use Rattle.std.proofs.Common.{◌≡◌, ℕ, suc, ◌-◌, List, [], ◌∷◌, ◌++◌, length, Option, Some, None, Bool, refl, sym, ap, subst, ◌∙◌, arith}
use Rattle.std.specs.Prelude.{◌↔◌, ◌||◌, slice_get}
use Rattle.std.specs.List.{list_any}
use Rattle.store_model.specs.Lists.{last_of}
use Rattle.wal_record.specs.OpenWrites.{without_last, writes}
use Rattle.wal_record.specs.Sound.{TakesBack, UndoRule}
use Rattle.wal_record.specs.State.{same_key}
use Rattle.wal_record.specs.declared.record.Undo.{Undo}
use Rattle.wal_record.specs.declared.record.Record.{Record}
use Rattle.wal_record.specs.declared.record.Record.TheVariants as kinds
use Rattle.chain_judge.specs.Chains.{AreChanges, IsChange, TakesLast, is_at_key}
use Rattle.chain_judge.specs.declared.chain.OpenChange.{OpenChange}

pub changes_push : (xs : List OpenChange) (rs : List Record) (x : OpenChange) (r : Record) → AreChanges xs rs → IsChange x r → AreChanges (xs ++ x ∷ []) (rs ++ r ∷ [])
changes_push [] [] x r k is = (is, tt)
changes_push [] (q ∷ rs) x r k is = absurd k
changes_push (y ∷ xs) [] x r k is = absurd k
changes_push (y ∷ xs) (q ∷ rs) x r k is = (k.0, changes_push xs rs x r k.1 is)

pub changes_less : (xs : List OpenChange) (rs : List Record) → AreChanges xs rs → AreChanges (without_last xs) (without_last rs)
changes_less [] [] k = tt
changes_less [] (q ∷ rs) k = absurd k
changes_less (y ∷ xs) [] k = absurd k
changes_less (y ∷ []) (q ∷ []) k = tt
changes_less (y ∷ []) (q ∷ p ∷ rs) k = absurd k.1
changes_less (y ∷ z ∷ xs) (q ∷ []) k = absurd k.1
changes_less (y ∷ z ∷ xs) (q ∷ p ∷ rs) k = (k.0, changes_less (z ∷ xs) (p ∷ rs) k.1)

pub changes_length : (xs : List OpenChange) (rs : List Record) → AreChanges xs rs → length xs ≡ length rs
changes_length [] [] k = refl
changes_length [] (q ∷ rs) k = absurd k
changes_length (y ∷ xs) [] k = absurd k
changes_length (y ∷ xs) (q ∷ rs) k = ap suc (changes_length xs rs k.1)

one_key : (key : List ℕ) (x : OpenChange) (r : Record) → IsChange x r → is_at_key key x ≡ writes key r
one_key key x (kinds.Write w) is = ap (same_key key) is.0
one_key key x (kinds.Apply a) is = ap (same_key key) is.0
one_key key x r is = absurd is

pub changes_any : (key : List ℕ) (xs : List OpenChange) (rs : List Record) → AreChanges xs rs → list_any (is_at_key key) xs ≡ list_any (writes key) rs
changes_any key [] [] k = refl
changes_any key [] (q ∷ rs) k = absurd k
changes_any key (y ∷ xs) [] k = absurd k
changes_any key (y ∷ xs) (q ∷ rs) k = ap (λ (b : Bool). b || list_any (is_at_key key) xs) (one_key key y q k.0) ∙ ap (λ (b : Bool). writes key q || b) (changes_any key xs rs k.1)

-- ---- the last one

abbrev end_of : {A : Type 0} → List A → Option A
end_of [] = None
end_of (x ∷ []) = Some x
end_of (x ∷ y ∷ ys) = end_of (y ∷ ys)

end_is : {A : Type 0} (xs : List A) → last_of xs ≡ end_of xs
end_is [] = refl
end_is (x ∷ []) = refl
end_is (x ∷ y ∷ ys) =
    let e : length (x ∷ y ∷ ys) - 1 ≡ suc (length (y ∷ ys) - 1) = omega arith in
    ap (slice_get (x ∷ y ∷ ys)) e ∙ end_is (y ∷ ys)

no_push : (front : List Record) (back : Record) → [] ≡ front ++ back ∷ [] → ⊥
no_push [] back e = cc
no_push (x ∷ front) back e = cc

abbrev first_of : Record → List Record → Record
first_of d [] = d
first_of d (x ∷ xs) = x

abbrev rest_of : List Record → List Record
rest_of [] = []
rest_of (x ∷ xs) = xs

one_back : (r : Record) (front : List Record) (back : Record) → r ∷ [] ≡ front ++ back ∷ [] → back ≡ r
one_back r [] back e = sym (ap (first_of r) e)
one_back r (x ∷ front) back e = absurd (no_push front back (ap rest_of e))

module _ (u : Undo) where
  takes : (x : OpenChange) (r : Record) → IsChange x r → TakesLast u (Some x) → TakesBack u r
  takes x (kinds.Write w) is t = (t.0 ∙ is.0, t.1 ∙ is.1, t.2 ∙ is.2)
  takes x (kinds.Apply a) is t = (t.0 ∙ is.0, t.1 ∙ is.1, t.2 ∙ is.2)
  takes x r is t = absurd is

  taken : (x : OpenChange) (r : Record) → IsChange x r → TakesBack u r → TakesLast u (Some x)
  taken x (kinds.Write w) is t = (t.0 ∙ sym is.0, t.1 ∙ sym is.1, t.2 ∙ sym is.2)
  taken x (kinds.Apply a) is t = (t.0 ∙ sym is.0, t.1 ∙ sym is.1, t.2 ∙ sym is.2)
  taken x r is t = absurd is

  fewer : (r s : Record) (rs front : List Record) (back : Record) → r ∷ s ∷ rs ≡ front ++ back ∷ [] → TakesBack u back → UndoRule (s ∷ rs) u
  fewer r s rs [] back e t = (let none : s ∷ rs ≡ [] = ap rest_of e in absurd cc)
  fewer r s rs (x ∷ front) back e t = record { front = front; back = back; split = ap rest_of e; takes = t }

  by_end : (xs : List OpenChange) (rs : List Record) → AreChanges xs rs → TakesLast u (end_of xs) ↔ UndoRule rs u
  by_end [] [] k = (λ t. absurd t, λ w. absurd (no_push w.front w.back w.split))
  by_end [] (q ∷ rs) k = absurd k
  by_end (y ∷ xs) [] k = absurd k
  by_end (y ∷ []) (q ∷ []) k = (
    λ t. record { front = []; back = q; split = refl; takes = takes y q k.0 t },
    λ w. taken y q k.0 (subst (TakesBack u) (one_back q w.front w.back w.split) w.takes),
  )
  by_end (y ∷ []) (q ∷ p ∷ rs) k = absurd k.1
  by_end (y ∷ z ∷ xs) (q ∷ []) k = absurd k.1
  by_end (y ∷ z ∷ xs) (q ∷ p ∷ rs) k =
      let more = by_end (z ∷ xs) (p ∷ rs) k.1 in (
        λ t. let w = more.0 t in record { front = q ∷ w.front; back = w.back; split = ap (λ (l : List Record). q ∷ l) w.split; takes = w.takes },
        λ w. more.1 (fewer q p rs w.front w.back w.split w.takes),
      )

  -- the undo takes back the last of the records where it does of what is kept of them
  pub changes_last : (xs : List OpenChange) (rs : List Record) → AreChanges xs rs → TakesLast u (last_of xs) ↔ UndoRule rs u
  changes_last xs rs k = subst (λ (o : Option OpenChange). TakesLast u o ↔ UndoRule rs u) (sym (end_is xs)) (by_end xs rs k)
