-- Each step keeps the rule of a book.
use Rattle.std.proofs.Common.{◌≡◌, ◌≢◌, ◌⊎◌, ℕ, zero, suc, eqb, List, [], ◌∷◌, ◌++◌, length, set, Some, None, true, false, true≢false, refl, sym, ap, ◌∙◌, subst, ⊎_elim, arith, inl, inr}
use Rattle.std.specs.Prelude.{if◌then◌else◌}
use Rattle.std.proofs.lemmas.Bool.Decides.{nat_tests}
use Rattle.std.proofs.lemmas.Option.{IfSome_then}
use mathlib.Core.Option.{some, none, some-ne-none, some-injective}
use lib.ListN.{get_elem?}
use Rattle.atomic_table.specs.Table.{Me, keeps, step, Allows, Splits, Joins, opening}
use Rattle.atomic_table.proofs.Lists.{at_set}
use Rattle.books.specs.declared.entry.BookEntry.{BookEntry}
use Rattle.books.specs.declared.view.View.{View}
use Rattle.books.specs.Booking.{entry_of, replaced, keeper, claimant, with_claim, Fits, IsBooked, Adds, Changes}

off : false ≡ true → ⊥
off e = true≢false (sym e)

-- an entry more at the end
pub entry_of-append : (m : ℕ) (new : BookEntry) (es : List BookEntry) (x : BookEntry) → entry_of m es ≡ Some x → entry_of m (es ++ new ∷ []) ≡ Some x
entry_of-append m new [] x is = absurd (cc is)
entry_of-append m new (e ∷ es) x is = grind (arith, nat_tests, is, entry_of-append m new es x)

pub entry_of-added : (new : BookEntry) (es : List BookEntry) → entry_of new.number es ≡ None → entry_of new.number (es ++ new ∷ []) ≡ Some new
entry_of-added new [] is = grind (arith, nat_tests)
entry_of-added new (e ∷ es) is = grind (arith, nat_tests, is, entry_of-added new es)

-- an entry is replaced
pub entry_of-other : (m : ℕ) (new : BookEntry) (es : List BookEntry) → m ≢ new.number → entry_of m (replaced new es) ≡ entry_of m es
entry_of-other m new [] apart = refl
entry_of-other m new (e ∷ es) apart = grind (arith, nat_tests, apart, entry_of-other m new es apart)

pub entry_of-replaced : (new : BookEntry) (es : List BookEntry) (x : BookEntry) → entry_of new.number es ≡ Some x → entry_of new.number (replaced new es) ≡ Some new
entry_of-replaced new [] x is = absurd (cc is)
entry_of-replaced new (e ∷ es) x is = grind (arith, nat_tests, is, entry_of-replaced new es x)

-- the owner of one number changes
abbrev put : ℕ → ℕ → (ℕ → ℕ) → ℕ → ℕ
put n at owner k = if eqb k n then at else owner k

put_here : (n at : ℕ) (owner : ℕ → ℕ) → put n at owner n ≡ at
put_here n at owner = grind (arith, nat_tests)

put_else : (n at : ℕ) (owner : ℕ → ℕ) (k : ℕ) → k ≢ n → put n at owner k ≡ owner k
put_else n at owner k apart = grind (arith, nat_tests, apart)

at_end : {A : Type 0} (l : List A) (a b : A) (j : ℕ) → get_elem? (l ++ a ∷ []) j ≡ some b → (get_elem? l j ≡ some b) ⊎ ((j ≡ length l) × (a ≡ b))
at_end [] a b zero e = inr (refl, some-injective a b e)
at_end [] a b (suc j) e = absurd (some-ne-none b (sym e))
at_end (x ∷ xs) a b zero e = inl e
at_end (x ∷ xs) a b (suc j) e = ⊎_elim (λ was. inl was) (λ (t : (j ≡ length xs) × (a ≡ b)). inr (omega (arith, t.0), t.1)) (at_end xs a b j e)

-- one view changes
fits_set : (keeper : ℕ) (es : List BookEntry) (owner : ℕ → ℕ) (views : List View) (by : ℕ) (w : View)
    → ((j : ℕ) (u : View) → j ≢ by → get_elem? views j ≡ some u → Fits keeper es owner j u) → Fits keeper es owner by w
    → (j : ℕ) (u : View) → get_elem? (set views by w) j ≡ some u → Fits keeper es owner j u
fits_set keeper es owner views by w others mine j u e =
    ⊎_elim
    (λ (x : (j ≡ by) × (w ≡ u)). subst (λ (y : ℕ × View). Fits keeper es owner y.0 y.1) (λ i. (sym x.0 i, x.1 i)) mine)
    (λ (x : (j ≢ by) × (get_elem? views j ≡ some u)). others j u x.0 x.1)
    (at_set views by j w u e)

pub begins : IsBooked (opening (0 ∷ []) [] (keeper [] None))
begins = (0, [], (λ k. k), one)
  where
    one : (by : ℕ) (v : View) → get_elem? (keeper [] None ∷ []) by ≡ some v → Fits 0 [] (λ k. k) by v
    one zero v e = subst (Fits 0 [] (λ k. k) 0) (some-injective _ _ e) ((λ _. (refl, refl)), tt)
    one (suc by) v e = absurd (some-ne-none v (sym e))

-- an entry is added
pub adds : (slots id : ℕ) (es : List BookEntry) (new : BookEntry) → entry_of new.number es ≡ None
    → Allows IsBooked slots id (keeper es None, []) 0 (λ k. k) (Adds new (step slots 0 0 0 none) (keeper es None, []))
adds slots id es new fresh s h homes at small =
    let mine = h.3 id (keeper es None) at in
    let kept = mine.0 refl in
    let now = es ++ new ∷ [] in
    let owner = put new.number id h.2 in
    let w = keeper now (Some new) in
    let other : (j : ℕ) (u : View) → j ≢ id → get_elem? s.views j ≡ some u → Fits h.0 now owner j u = λ j u apart e.
    let old = h.3 j u e in (
      (λ k. absurd (apart ((old.0 k).0 ∙ sym kept.0))),
      IfSome_then
          u.claim
          old.1
          (λ c claims.
          let there : entry_of c.number es ≡ Some c = ap (entry_of c.number) kept.1 ∙ claims.1 in
          let differ : c.number ≢ new.number = λ same. absurd (cc (ap (λ k. entry_of k es) same, there, fresh)) in
          (put_else new.number id h.2 c.number differ ∙ claims.0, entry_of-append c.number new es c there)),
    ) in (
      w,
      keeps,
      tt,
      (h.0, now, owner, fits_set h.0 now owner s.views id w other ((λ _. (kept.0, refl)), (put_here new.number id h.2, entry_of-added new es fresh))),
      refl,
    )

-- the keeper takes a right in
pub joins : (id : ℕ) (es : List BookEntry) (by : ℕ) (c : BookEntry) → Joins IsBooked id (keeper es None) by (claimant (Some c)) (keeper es (Some c)) (claimant None)
joins id es by c s h at apart there =
    let mine = h.3 id (keeper es None) at in
    let kept = mine.0 refl in
    let w = keeper es (Some c) in
    let owner = put c.number id h.2 in
    let theirs : (h.2 c.number ≡ by) × (entry_of c.number h.1 ≡ Some c) =
    ⊎_elim
    (λ (t : (by ≡ id) × (w ≡ claimant (Some c))). absurd (apart t.0))
    (λ (t : (by ≢ id) × (get_elem? s.views by ≡ some (claimant (Some c)))). (h.3 by (claimant (Some c)) t.1).1)
    (at_set s.views id by w (claimant (Some c)) there) in
    let still : (j : ℕ) (u : View) → j ≢ by → get_elem? s.views j ≡ some u → Fits h.0 h.1 owner j u = λ j u away e.
    let old = h.3 j u e in (
      old.0,
      IfSome_then
          u.claim
          old.1
          (λ d claims.
          let other : d.number ≢ c.number = λ same. away (sym claims.0 ∙ ap h.2 same ∙ theirs.0) in
          (put_else c.number id h.2 d.number other ∙ claims.0, claims.1)),
    ) in (
      h.0,
      h.1,
      owner,
      fits_set h.0 h.1 owner (set s.views id w) by (claimant None)
          (λ j u away e.
          ⊎_elim
          (λ (x : (j ≡ id) × (w ≡ u)). subst (λ (y : ℕ × View). Fits h.0 h.1 owner y.0 y.1) (λ i. (sym x.0 i, x.1 i)) ((λ _. kept), (put_here c.number id h.2, theirs.1)))
          (λ (x : (j ≢ id) × (get_elem? s.views j ≡ some u)). still j u away x.1)
          (at_set s.views id j w u e))
          ((λ k. absurd (off k)), tt),
    )

-- the entry whose right is at the keeper's seat is replaced
pub changes : (slots id : ℕ) (es : List BookEntry) (c new : BookEntry) → new.number ≡ c.number
    → Allows IsBooked slots id (keeper es (Some c), []) 0 (λ k. k) (Changes new (step slots 0 0 0 none) (keeper es (Some c), []))
changes slots id es c new named s h homes at small =
    let mine = h.3 id (keeper es (Some c)) at in
    let kept = mine.0 refl in
    let there : entry_of new.number es ≡ Some c = ap (λ k. entry_of k es) named ∙ ap (entry_of c.number) kept.1 ∙ mine.1.1 in
    let owned : h.2 new.number ≡ id = ap h.2 named ∙ mine.1.0 in
    let now = replaced new es in
    let w = keeper now (Some new) in
    let other : (j : ℕ) (u : View) → j ≢ id → get_elem? s.views j ≡ some u → Fits h.0 now h.2 j u = λ j u apart e.
    let old = h.3 j u e in (
      (λ k. absurd (apart ((old.0 k).0 ∙ sym kept.0))),
      IfSome_then
          u.claim
          old.1
          (λ d claims.
          let differ : d.number ≢ new.number = λ same. apart (sym claims.0 ∙ ap h.2 same ∙ owned) in
          (claims.0, entry_of-other d.number new es differ ∙ ap (entry_of d.number) kept.1 ∙ claims.1)),
    ) in (
      w,
      keeps,
      tt,
      (h.0, now, h.2, fits_set h.0 now h.2 s.views id w other ((λ _. (kept.0, refl)), (owned, entry_of-replaced new es c there))),
      (there, refl),
    )

-- the right goes out of the keeper's seat
pub splits : (id : ℕ) (es : List BookEntry) (c : BookEntry) → Splits IsBooked id (keeper es (Some c)) (keeper es None) (claimant (Some c))
splits id es c s h at =
    let mine = h.3 id (keeper es (Some c)) at in
    let kept = mine.0 refl in
    let own = mine.1 in
    let left = set s.views id (keeper es None) in
    let new = length left in
    let owner = put c.number new h.2 in
    let still : (j : ℕ) (u : View) → get_elem? left j ≡ some u → Fits h.0 h.1 owner j u =
    fits_set h.0 h.1 owner s.views id (keeper es None)
    (λ j u apart e.
    let old = h.3 j u e in (
      old.0,
      IfSome_then
          u.claim
          old.1
          (λ d claims.
          let differ : d.number ≢ c.number = λ same. apart (sym claims.0 ∙ ap h.2 same ∙ own.0) in
          (put_else c.number new h.2 d.number differ ∙ claims.0, claims.1)),
    ))
    ((λ _. kept), tt) in (
      h.0,
      h.1,
      owner,
      λ j u e. ⊎_elim
          (still j u)
          (λ (x : (j ≡ new) × (claimant (Some c) ≡ u)). subst (λ (y : ℕ × View). Fits h.0 h.1 owner y.0 y.1) (λ i. (sym x.0 i, x.1 i)) ((λ k. absurd (off k)), (put_here c.number new h.2, own.1)))
          (at_end left (claimant (Some c)) u j e),
    )

-- the steps, at a seat that is known
pub adds_at : (slots id : ℕ) (me : Me ℕ View) (es : List BookEntry) (new : BookEntry) → me ≡ (keeper es None, []) → entry_of new.number es ≡ None → Allows IsBooked slots id me 0 (λ k. k) (Adds new (step slots 0 0 0 none) me)
adds_at slots id me es new is fresh = subst (λ (m : Me ℕ View). Allows IsBooked slots id m 0 (λ k. k) (Adds new (step slots 0 0 0 none) m)) (sym is) (adds slots id es new fresh)

pub changes_at : (slots id : ℕ) (me : Me ℕ View) (es : List BookEntry) (c new : BookEntry) → me ≡ (keeper es (Some c), []) → new.number ≡ c.number → Allows IsBooked slots id me 0 (λ k. k) (Changes new (step slots 0 0 0 none) me)
changes_at slots id me es c new is named = subst (λ (m : Me ℕ View). Allows IsBooked slots id m 0 (λ k. k) (Changes new (step slots 0 0 0 none) m)) (sym is) (changes slots id es c new named)

pub splits_at : (id : ℕ) (v : View) (es : List BookEntry) (c : BookEntry) → v ≡ keeper es (Some c) → Splits IsBooked id v (with_claim v None) (claimant v.claim)
splits_at id v es c is = subst (λ (w : View). Splits IsBooked id w (with_claim w None) (claimant w.claim)) (sym is) (splits id es c)

pub joins_at : (id : ℕ) (v : View) (by : ℕ) (u : View) (es : List BookEntry) (c : BookEntry) → v ≡ keeper es None → u ≡ claimant (Some c) → Joins IsBooked id v by u (with_claim v u.claim) (claimant None)
joins_at id v by u es c is that = subst (λ (w : View × View). Joins IsBooked id w.0 by w.1 (with_claim w.0 w.1.claim) (claimant None)) (λ i. (sym is i, sym that i)) (joins id es by c)
