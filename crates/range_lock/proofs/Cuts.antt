-- Texts that stand one behind the other: one more at the end.
use Rattle.std.proofs.Common.{◌≡◌, ℕ, ◌+◌, ◌<◌, ◌≤◌, Bool, false, List, [], ◌∷◌, ◌++◌, length, take, drop, get_or, refl, sym, ap, arith}
use Rattle.std.specs.List.{sum, list_any}
use Rattle.std.proofs.lemmas.List.{take_more, take-append-le, drop-append-le, length-drop}
use Rattle.std.proofs.lemmas.List.Sums.{sum_by-cons}
use Rattle.std.proofs.Math.Seq.{take-length}
use Rattle.range_lock.specs.Cut.{cut_into, behind}
use Rattle.range_lock.proofs.Points.{none_last}

-- a text behind all the others
pub cut_more : (ns : List ℕ) (bytes key : List ℕ) → length bytes ≡ sum ns → cut_into (ns ++ length key ∷ []) (bytes ++ key) ≡ cut_into ns bytes ++ key ∷ []
unfolding cut_into
cut_more [] [] key h = ap (λ (w : List ℕ). w ∷ []) (take-length key)
cut_more [] (b ∷ bytes) key h = absurd (omega (arith, h))
cut_more (n ∷ ns) bytes key h =
    let all : length bytes ≡ n + sum ns = rw (← sum_by-cons (λ (x : ℕ). x) n ns) h in
    let le : n ≤ length bytes = omega arith in
    let left : length (drop n bytes) ≡ sum ns = rw (length-drop n bytes) (omega arith) in
    rw (take-append-le n bytes key le, drop-append-le n bytes key le) (ap (λ (w : List (List ℕ)). take n bytes ∷ w) (cut_more ns (drop n bytes) key left))

pub cut_last : (ns : List ℕ) (n : ℕ) (bytes : List ℕ) → cut_into (ns ++ n ∷ []) bytes ≡ cut_into ns bytes ++ take n (behind ns bytes) ∷ []
unfolding cut_into behind
cut_last [] n bytes = refl
cut_last (m ∷ ns) n bytes = ap (λ (w : List (List ℕ)). take m bytes ∷ w) (cut_last ns n (drop m bytes))

pub behind_last : (ns : List ℕ) (n : ℕ) (bytes : List ℕ) → behind (ns ++ n ∷ []) bytes ≡ drop n (behind ns bytes)
unfolding behind
behind_last [] n bytes = refl
behind_last (m ∷ ns) n bytes = behind_last ns n (drop m bytes)

-- none of the texts up to here passes, nor does the next
pub none_of_cut : (t : List ℕ → Bool) (ns : List ℕ) (bytes : List ℕ) (i : ℕ) → i < length ns → list_any t (cut_into (take i ns) bytes) ≡ false → t (take (get_or ns i 0) (behind (take i ns) bytes)) ≡ false → list_any t (cut_into (take (i + 1) ns) bytes) ≡ false
none_of_cut t ns bytes i lt h none =
    rw (take_more ns i 0 lt, cut_last (take i ns) (get_or ns i 0) bytes) (none_last t (take (get_or ns i 0) (behind (take i ns) bytes)) none (cut_into (take i ns) bytes) h)

pub behind_more : (ns : List ℕ) (bytes : List ℕ) (i : ℕ) → i < length ns → drop (get_or ns i 0) (behind (take i ns) bytes) ≡ behind (take (i + 1) ns) bytes
behind_more ns bytes i lt = rw (take_more ns i 0 lt) (sym (behind_last (take i ns) (get_or ns i 0) bytes))
