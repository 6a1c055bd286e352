-- The slots of pages.
use Rattle.std.proofs.Common.{◌≡◌, ◌≢◌, ◌⊎◌, inl, inr, ⊎_elim, ℕ, zero, suc, ◌<◌, ◌≤◌, List, [], ◌∷◌, ◌++◌, length, get_or, set, refl, sym, ◌∙◌, ap, subst, arith}
use Rattle.std.specs.Prelude.{Option, None, Some}
use Rattle.std.proofs.lemmas.Bool.{cases_eq}
use Rattle.media_mem.specs.Slots.{IsLost, IsSpoiled, Paged, newest_in}

pub newest_at : (ss : List Paged) (i : ℕ) (s : Paged) → i < length ss → s ≡ get_or ss i s → newest_in ss i ≡ s.image
newest_at [] i s lt is = absurd (omega (arith, lt))
newest_at (x ∷ ss) zero s lt is = sym (ap (λ (y : Paged). y.image) is)
newest_at (x ∷ ss) (suc i) s lt is = newest_at ss i s (omega (arith, lt)) is

pub lost_at : (ss : List Paged) (i : ℕ) (s : Paged) → i < length ss → s ≡ get_or ss i s → IsSpoiled ss i → IsLost s
lost_at [] i s lt is lost = absurd (omega (arith, lt))
lost_at (x ∷ ss) zero s lt is lost = subst IsLost (sym is) lost
lost_at (x ∷ ss) (suc i) s lt is lost = lost_at ss i s (omega (arith, lt)) is lost

pub newest_push : (ss : List Paged) (s : Paged) (p : ℕ) → s.image ≡ None → newest_in (ss ++ s ∷ []) p ≡ newest_in ss p
newest_push [] s zero none = none
newest_push [] s (suc p) none = refl
newest_push (x ∷ ss) s zero none = refl
newest_push (x ∷ ss) s (suc p) none = newest_push ss s p none

pub spoiled_push : (ss : List Paged) (s : Paged) (p : ℕ) → s.image ≡ None → IsSpoiled ss p → IsSpoiled (ss ++ s ∷ []) p
spoiled_push [] s zero none lost = inl none
spoiled_push [] s (suc p) none lost = tt
spoiled_push (x ∷ ss) s zero none lost = lost
spoiled_push (x ∷ ss) s (suc p) none lost = spoiled_push ss s p none lost

pub newest_set : (ss : List Paged) (i : ℕ) (s : Paged) → i < length ss → newest_in (set ss i s) i ≡ s.image
newest_set [] i s lt = absurd (omega (arith, lt))
newest_set (x ∷ ss) zero s lt = refl
newest_set (x ∷ ss) (suc i) s lt = newest_set ss i s (omega (arith, lt))

pub newest_others : (ss : List Paged) (i p : ℕ) (s : Paged) → p ≢ i → newest_in (set ss i s) p ≡ newest_in ss p
newest_others [] i p s ne = refl
newest_others (x ∷ ss) zero zero s ne = absurd (ne refl)
newest_others (x ∷ ss) zero (suc p) s ne = refl
newest_others (x ∷ ss) (suc i) zero s ne = refl
newest_others (x ∷ ss) (suc i) (suc p) s ne = newest_others ss i p s (λ e. ne (ap suc e))

pub newest_kept : (ss : List Paged) (i p : ℕ) (old s : Paged) → i < length ss → old ≡ get_or ss i old → s.image ≡ old.image → newest_in (set ss i s) p ≡ newest_in ss p
newest_kept [] i p old s lt is same = refl
newest_kept (x ∷ ss) zero zero old s lt is same = same ∙ ap (λ (y : Paged). y.image) is
newest_kept (x ∷ ss) zero (suc p) old s lt is same = refl
newest_kept (x ∷ ss) (suc i) zero old s lt is same = refl
newest_kept (x ∷ ss) (suc i) (suc p) old s lt is same = newest_kept ss i p old s (omega (arith, lt)) is same

pub spoiled_others : (ss : List Paged) (i p : ℕ) (s : Paged) → p ≢ i → IsSpoiled ss p → IsSpoiled (set ss i s) p
spoiled_others [] i p s ne lost = lost
spoiled_others (x ∷ ss) zero zero s ne lost = absurd (ne refl)
spoiled_others (x ∷ ss) zero (suc p) s ne lost = lost
spoiled_others (x ∷ ss) (suc i) zero s ne lost = lost
spoiled_others (x ∷ ss) (suc i) (suc p) s ne lost = spoiled_others ss i p s (λ e. ne (ap suc e)) lost

pub spoiled_set : (ss : List Paged) (i : ℕ) (s : Paged) → IsLost s → IsSpoiled (set ss i s) i
spoiled_set [] i s lost = tt
spoiled_set (x ∷ ss) zero s lost = lost
spoiled_set (x ∷ ss) (suc i) s lost = spoiled_set ss i s lost

pub spoiled_kept : (ss : List Paged) (i p : ℕ) (s : Paged) → IsLost s → IsSpoiled ss p → IsSpoiled (set ss i s) p
spoiled_kept [] i p s new lost = lost
spoiled_kept (x ∷ ss) zero zero s new lost = new
spoiled_kept (x ∷ ss) zero (suc p) s new lost = lost
spoiled_kept (x ∷ ss) (suc i) zero s new lost = lost
spoiled_kept (x ∷ ss) (suc i) (suc p) s new lost = spoiled_kept ss i p s new lost

pub spoiled_beyond : (ss : List Paged) (i : ℕ) → length ss ≤ i → IsSpoiled ss i
spoiled_beyond [] i le = tt
spoiled_beyond (x ∷ ss) zero le = absurd (omega (arith, le))
spoiled_beyond (x ∷ ss) (suc i) le = spoiled_beyond ss i (omega (arith, le))

some_is : {A : Type 0} (x y : A) → Some x ≡ Some y → x ≡ y
some_is {A} x y e = ap (or_else x) e
  where
    or_else : A → Option A → A
    or_else d None = d
    or_else d (Some z) = z

-- an image that is found after a write was there before, or is the one that was written
pub written_or_old : (ss ss2 : List Paged) (page p : ℕ) (bytes image : List ℕ) → ((newest_in ss2 page ≡ newest_in ss page) ⊎ (newest_in ss2 page ≡ Some bytes))
    → ((p : ℕ) → p ≢ page → newest_in ss2 p ≡ newest_in ss p) → newest_in ss2 p ≡ Some image → (newest_in ss p ≡ Some image) ⊎ ((p ≡ page) × (image ≡ bytes))
written_or_old ss ss2 page p bytes image here others found =
    ⊎_elim
    (λ (at : p ≡ page). ⊎_elim (λ same. inl (ap (newest_in ss) at ∙ sym same ∙ sym (ap (newest_in ss2) at) ∙ found)) (λ new. inr (at, some_is image bytes (sym found ∙ ap (newest_in ss2) at ∙ new))) here)
    (λ ne. inl (sym (others p ne) ∙ found))
    (cases_eq p page)
