-- Bytes that are read chunk by chunk.
use Rattle.std.proofs.Common.{◌≡◌, ℕ, ◌+◌, ◌-◌, ◌<◌, List, [], ◌++◌, length, take, drop, sym, ap, ◌∙◌, append_assoc, arith}
use Rattle.std.proofs.lemmas.List.{take-append-drop, drop-drop, drop_min, length-take, length-append, drop_all, append-nil}

-- these are the first bytes of all
abbrev pub IsFront : List ℕ → List ℕ → Type 0
IsFront front all = all ≡ front ++ drop (length front) all

behind : (n : ℕ) (xs : List ℕ) → drop (length (take n xs)) xs ≡ drop n xs
behind n xs = ap (λ (k : ℕ). drop k xs) (length-take n xs) ∙ drop_min n xs

pub one_more : (front all chunk : List ℕ) (n : ℕ) → IsFront front all → chunk ≡ take n (drop (length front) all) → IsFront (front ++ chunk) all
one_more front all chunk n is e =
    let rest : List ℕ = drop (length front) all in
    let next : drop (length (front ++ chunk)) all ≡ drop n rest =
    ap (λ (k : ℕ). drop k all) (length-append front chunk) ∙ sym (drop-drop (length chunk) (length front) all) ∙ ap (λ (c : List ℕ). drop (length c) rest) e ∙ behind n rest in
    let parts : rest ≡ chunk ++ drop n rest = sym (take-append-drop n rest) ∙ ap (λ (c : List ℕ). c ++ drop n rest) (sym e) in
    is ∙ ap (λ (r : List ℕ). front ++ r) parts ∙ sym (append_assoc front chunk (drop n rest)) ∙ ap (λ (r : List ℕ). (front ++ chunk) ++ r) (sym next)

pub is_all : (front all chunk : List ℕ) (n : ℕ) → IsFront front all → chunk ≡ take n (drop (length front) all) → length chunk < n → front ++ chunk ≡ all
is_all front all chunk n is e short =
    let rest : List ℕ = drop (length front) all in
    let none : drop n rest ≡ [] = drop_all n rest (omega (arith, length-take n rest, ap length e)) in
    let parts : rest ≡ chunk = sym (take-append-drop n rest) ∙ ap (λ (c : List ℕ). c ++ drop n rest) (sym e) ∙ ap (λ (r : List ℕ). chunk ++ r) none ∙ append-nil chunk in
    ap (λ (r : List ℕ). front ++ r) (sym parts) ∙ sym is
