-- The lock that the search names is the first in conflict; and locks stay compatible.
use Rattle.std.proofs.Common.{◌≡◌, Bool, true, false, cond, List, [], ◌∷◌, Option, Some, None, refl, sym, ap, subst, ◌∙◌, Ordering, Less, Equal, Greater, inl, inr}
use Rattle.std.specs.Prelude.{◌⊎◌, ◌||◌, ◌&&◌, not, nat_eq}
use Rattle.std.proofs.lemmas.Bool.{eq-eqb}
use Rattle.std.proofs.lemmas.Cmp.{nat_eq_equiv}
use Rattle.std.specs.Ordering.{is_lt, is_gt, ordering_reverse}
use Rattle.std.specs.Cmp.{IsTotalOrder, tied_itself, nat_cmp_total}
use Rattle.std.specs.Cmp.Lexicographic.{nat_list_cmp_total}
use Rattle.std.proofs.lemmas.Cmp.{on_total, then_total}
use Rattle.store_model.specs.Range.{Interval, is_below}
use Rattle.store_model.proofs.Bools.{not_both}
use Rattle.range_lock.specs.Lock.{Lock, IsAmong, AreCompatible, conflict, is_exclusive}
use Rattle.range_lock.specs.Order.{is_top, text_of, bound_cmp, range_cmp, rival_cmp}
use Rattle.range_lock.specs.Nearest.{IsFirstInConflict, rival_of, nearer, step, nearest}
use Rattle.range_lock.specs.declared.rival.Rival.{Rival}
use Rattle.range_lock.proofs.Texts.{less}

bound_total : IsTotalOrder bound_cmp
bound_total = then_total (on_total is_top nat_cmp_total) (on_total text_of nat_list_cmp_total)

range_total : IsTotalOrder range_cmp
range_total = then_total (on_total (λ (r : Interval). r.low) bound_total) (on_total (λ (r : Interval). r.high) bound_total)

rival_total : IsTotalOrder rival_cmp
rival_total = then_total (on_total (λ (r : Rival). r.holder) nat_cmp_total) (on_total (λ (r : Rival). r.range) range_total)

itself : (r : Rival) → is_gt (rival_cmp r r) ≡ false
itself r = ap is_gt (tied_itself rival_total r)

-- one before another is before all that the other is not behind
before : (r b x : Rival) (o : Ordering) → rival_cmp b x ≡ o → rival_cmp r b ≡ Less → is_gt (rival_cmp b x) ≡ false → is_gt (rival_cmp r x) ≡ false
before r b x Less e l h = ap is_gt (rival_total.trans r b x l e)
before r b x Equal e l h =
    let back : rival_cmp x b ≡ Equal = rival_total.antisymm x b ∙ ap ordering_reverse e in
    let same : rival_cmp b r ≡ rival_cmp x r = rival_total.congr b x r e in
    let flipped : rival_cmp r x ≡ rival_cmp r b = rival_total.antisymm r x ∙ ap ordering_reverse (sym same) ∙ sym (rival_total.antisymm r b) in
    ap is_gt (flipped ∙ l)
before r b x Greater e l h = absurd (not_both (is_gt (rival_cmp b x)) (ap is_gt e) h)

not_before : (r b : Rival) (o : Ordering) → rival_cmp r b ≡ o → is_lt (rival_cmp r b) ≡ false → is_gt (rival_cmp b r) ≡ false
not_before r b Less e h = absurd (not_both (is_lt (rival_cmp r b)) (ap is_lt e) h)
not_before r b Equal e h = ap is_gt (rival_total.antisymm b r ∙ ap ordering_reverse e)
not_before r b Greater e h = ap is_gt (rival_total.antisymm b r ∙ ap ordering_reverse e)

abbrev IsBest : Lock → List Lock → Option Rival → Type 0
IsBest asked seen None = (l : Lock) → IsAmong l seen → conflict asked l ≡ false
IsBest asked seen (Some r) = IsFirstInConflict asked seen r

passes : (asked l : Lock) (seen : List Lock) (best : Option Rival) → conflict asked l ≡ false → IsBest asked seen best → IsBest asked (l ∷ seen) best
passes asked l seen None free h = λ m g. elim g [ inl e ↦ ap (conflict asked) e ∙ free | inr n ↦ h m n ]
passes asked l seen (Some r) free h = record {
  mode = h.mode;
  held = inr h.held;
  conflicts = h.conflicts;
  first = λ m g c. elim g [ inl e ↦ absurd (not_both (conflict asked m) c (ap (conflict asked) e ∙ free)) | inr n ↦ h.first m n c ];
}

alone : (asked l : Lock) (seen : List Lock) → conflict asked l ≡ true → IsBest asked seen None → IsFirstInConflict asked (l ∷ seen) (rival_of l)
alone asked l seen bars h = record {
  mode = l.mode;
  held = inl refl;
  conflicts = bars;
  first = λ m g c. elim g [ inl e ↦ rw (e) (itself (rival_of l)) | inr n ↦ absurd (not_both (conflict asked m) c (h m n)) ];
}

sooner : (asked l : Lock) (seen : List Lock) (b : Rival) → conflict asked l ≡ true → is_lt (rival_cmp (rival_of l) b) ≡ true → IsFirstInConflict asked seen b → IsFirstInConflict asked (l ∷ seen) (rival_of l)
sooner asked l seen b bars lt h = record {
  mode = l.mode;
  held = inl refl;
  conflicts = bars;
  first = λ m g c. elim g [ inl e ↦ rw (e) (itself (rival_of l)) | inr n ↦ before (rival_of l) b (rival_of m) _ refl (less _ lt) (h.first m n c) ];
}

later : (asked l : Lock) (seen : List Lock) (b : Rival) → is_lt (rival_cmp (rival_of l) b) ≡ false → IsFirstInConflict asked seen b → IsFirstInConflict asked (l ∷ seen) b
later asked l seen b lt h = record {
  mode = h.mode;
  held = inr h.held;
  conflicts = h.conflicts;
  first = λ m g c. elim g [ inl e ↦ rw (e) (not_before (rival_of l) b _ refl lt) | inr n ↦ h.first m n c ];
}

compared : (asked l : Lock) (seen : List Lock) (b : Rival) (t : Bool) → conflict asked l ≡ true → is_lt (rival_cmp (rival_of l) b) ≡ t → IsFirstInConflict asked seen b
    → IsBest asked (l ∷ seen) (cond t (Some (rival_of l)) (Some b))
compared asked l seen b true bars e h = sooner asked l seen b bars e h
compared asked l seen b false bars e h = later asked l seen b e h

takes : (asked l : Lock) (seen : List Lock) (best : Option Rival) → conflict asked l ≡ true → IsBest asked seen best → IsBest asked (l ∷ seen) (nearer best (rival_of l))
takes asked l seen None bars h = alone asked l seen bars h
takes asked l seen (Some b) bars h = compared asked l seen b _ bars refl h

steps : (asked l : Lock) (seen : List Lock) (best : Option Rival) (t : Bool) → conflict asked l ≡ t → IsBest asked seen best → IsBest asked (l ∷ seen) (cond t (nearer best (rival_of l)) best)
steps asked l seen best true e h = takes asked l seen best e h
steps asked l seen best false e h = passes asked l seen best e h

-- the locks seen, the last one in front
abbrev gather : List Lock → List Lock → List Lock
gather [] seen = seen
gather (l ∷ ls) seen = gather ls (l ∷ seen)

gathered : (x : Lock) (ls seen : List Lock) → IsAmong x ls ⊎ IsAmong x seen → IsAmong x (gather ls seen)
gathered x [] seen h = elim h [ inl m ↦ absurd m | inr m ↦ m ]
gathered x (l ∷ ls) seen h = gathered x ls (l ∷ seen) (elim h [ inl m ↦ elim m [ inl e ↦ inr (inl e) | inr n ↦ inl n ] | inr m ↦ inr (inr m) ])

from_gathered : (x : Lock) (ls seen : List Lock) → IsAmong x (gather ls seen) → IsAmong x ls ⊎ IsAmong x seen
from_gathered x [] seen h = inr h
from_gathered x (l ∷ ls) seen h = elim (from_gathered x ls (l ∷ seen) h) [ inl m ↦ inl (inr m) | inr m ↦ elim m [ inl e ↦ inl (inl e) | inr n ↦ inr n ] ]

best_of : (asked : Lock) (ls seen : List Lock) (best : Option Rival) → IsBest asked seen best → IsBest asked (gather ls seen) (nearest asked ls best)
unfolding nearest
best_of asked [] seen best h = h
best_of asked (l ∷ ls) seen best h = best_of asked ls (l ∷ seen) (step asked best l) (steps asked l seen best _ refl h)

among_all : (x : Lock) (ls : List Lock) → IsAmong x (gather ls []) → IsAmong x ls
among_all x ls h = elim (from_gathered x ls [] h) [ inl m ↦ m | inr m ↦ absurd m ]

pub none_conflicts : (asked : Lock) (ls : List Lock) → nearest asked ls None ≡ None → (l : Lock) → IsAmong l ls → conflict asked l ≡ false
none_conflicts asked ls e =
    let h : IsBest asked (gather ls []) None = subst (IsBest asked (gather ls [])) e (best_of asked ls [] None (λ l m. absurd m)) in
    λ l m. h l (gathered l ls [] (inl m))

pub first_conflicts : (asked : Lock) (ls : List Lock) (r : Rival) → nearest asked ls None ≡ Some r → IsFirstInConflict asked ls r
first_conflicts asked ls r e =
    let h : IsBest asked (gather ls []) (Some r) = subst (IsBest asked (gather ls [])) e (best_of asked ls [] None (λ l m. absurd m)) in
    record { mode = h.mode; held = among_all _ ls h.held; conflicts = h.conflicts; first = λ l m c. h.first l (gathered l ls [] (inl m)) c }

-- ---- locks stay compatible

and_turned : (a b : Bool) → (a && b) ≡ (b && a)
and_turned true true = refl
and_turned true false = refl
and_turned false true = refl
and_turned false false = refl

or_turned : (a b : Bool) → (a || b) ≡ (b || a)
or_turned true true = refl
or_turned true false = refl
or_turned false true = refl
or_turned false false = refl

pub conflict_turned : (a b : Lock) → conflict a b ≡ conflict b a
conflict_turned a b =
    let txs : nat_eq b.tx a.tx ≡ nat_eq a.tx b.tx = nat_eq_equiv.symm b.tx a.tx in
    λ i. not (txs i) && (and_turned (is_below a.range.low b.range.high) (is_below b.range.low a.range.high) i && or_turned (is_exclusive a.mode) (is_exclusive b.mode) i)

pub no_conflict_itself : (a : Lock) → conflict a a ≡ false
no_conflict_itself a = rw (eq-eqb a.tx a.tx refl) refl

pub compatible_with : (asked : Lock) (old new : List Lock) → AreCompatible old → ((l : Lock) → IsAmong l old → conflict asked l ≡ false)
    → ((l : Lock) → IsAmong l new → (l ≡ asked) ⊎ IsAmong l old) → AreCompatible new
compatible_with asked old new h free gains a b p q =
    elim (gains a p) [
      | inl e ↦ elim (gains b q) [
        | inl d ↦ (λ i. conflict (e i) (d i)) ∙ no_conflict_itself asked
        | inr m ↦ ap (λ (x : Lock). conflict x b) e ∙ free b m
      ]
      | inr n ↦ elim (gains b q) [
        | inl d ↦ ap (conflict a) d ∙ conflict_turned a asked ∙ free a n
        | inr m ↦ h a b n m
      ]
    ]
