-- Bytes that are moved into a buffer are the first of those that are left.
use Rattle.std.proofs.Common.{◌≡◌, ℕ, ◌+◌, ◌-◌, ◌<◌, ◌≤◌, List, [], ◌++◌, length, take, drop, min, sym, ap, ◌∙◌, arith, length-append, length-take, length-drop, take-append-drop}
use Rattle.std.proofs.lemmas.List.{drop-drop, drop_all, take-append-le, take_all}

front : (n : ℕ) (rest buf : List ℕ) → n ≤ length rest → take n (take n rest ++ drop n buf) ≡ take n rest
front n rest buf le =
    let len : length (take n rest) ≡ n = omega (arith, length-take n rest) in
    take-append-le n (take n rest) (drop n buf) (omega (arith, len)) ∙ take_all n (take n rest) (omega (arith, len))

pub moved : (all buf new : List ℕ) (at n : ℕ) → n ≡ min (length buf) (length all - at) → new ≡ take n (drop at all) ++ drop n buf
    → drop at all ≡ take n new ++ drop (at + n) all
moved all buf new at n is copied =
    let rest = drop at all in
    let le : n ≤ length rest = omega (arith, is, length-drop at all) in
    sym (take-append-drop n rest) ∙ ap (λ (l : List ℕ). l ++ drop n rest) (sym (ap (take n) copied ∙ front n rest buf le)) ∙ ap (λ (l : List ℕ). take n new ++ l) (drop-drop n at all)

pub at_end : (all buf new : List ℕ) (at n : ℕ) → n ≡ min (length buf) (length all - at) → new ≡ take n (drop at all) ++ drop n buf
    → n ≡ 0 → 0 < length new → drop (at + n) all ≡ []
at_end all buf new at n is copied none room =
    let some : length new ≡ length (take n (drop at all)) + length (drop n buf) = ap length copied ∙ length-append (take n (drop at all)) (drop n buf) in
    drop_all (at + n) all (omega (arith, is, none, room, some, length-drop n buf, length-take n (drop at all), length-drop at all))
