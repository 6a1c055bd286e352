-- The first loser of a kind.
use Rattle.std.proofs.Common.{◌≡◌, ℕ, zero, suc, ◌<◌, ◌≤◌, cond, List, [], ◌∷◌, Some, None, Bool, true, false, length, take, slice_index_or, refl, sym, ap, ◌∙◌, arith}
use Rattle.std.specs.List.{find}
use Rattle.std.specs.Option.{option_map}
use Rattle.losers.proofs.Changes.{found_at}
use Rattle.wal_record.specs.declared.analysis.Loser.{Loser}
use Rattle.history_core.specs.Judging.{txs_of}

pub found_before : (p : Loser → Bool) (xs : List Loser) → find p (take 0 xs) ≡ None
found_before p [] = refl
found_before p (x ∷ xs) = refl

taken_all : (i : ℕ) (xs : List Loser) → length xs ≤ i → take i xs ≡ xs
taken_all zero [] le = refl
taken_all (suc i) [] le = refl
taken_all zero (x ∷ xs) le = absurd (omega (arith, le))
taken_all (suc i) (x ∷ xs) le = ap (λ (ys : List Loser). x ∷ ys) (taken_all i xs (omega (arith, le)))

found_tx : (p : ℕ → Bool) (xs : List Loser) → option_map (λ (x : Loser). x.tx) (find (λ (x : Loser). p x.tx) xs) ≡ find p (txs_of xs)
found_tx p [] = refl
found_tx p (x ∷ xs) = by (p x.tx) (found_tx p xs)
  where
    by : (b : Bool) → option_map (λ (y : Loser). y.tx) (find (λ (y : Loser). p y.tx) xs) ≡ find p (txs_of xs)
        → option_map (λ (y : Loser). y.tx) (cond b (Some x) (find (λ (y : Loser). p y.tx) xs)) ≡ cond b (Some x.tx) (find p (txs_of xs))
    by true more = refl
    by false more = more

pub first_at : (p : ℕ → Bool) (xs : List Loser) (i : ℕ) (d : Loser) → find (λ (x : Loser). p x.tx) (take i xs) ≡ None → i < length xs → p (slice_index_or xs i d).tx ≡ true → Some (slice_index_or xs i d).tx ≡ find p (txs_of xs)
first_at p xs i d none lt is = ap (option_map (λ (x : Loser). x.tx)) (found_at (λ (x : Loser). p x.tx) i xs d none lt is) ∙ found_tx p xs

pub first_none : (p : ℕ → Bool) (xs : List Loser) (i : ℕ) → find (λ (x : Loser). p x.tx) (take i xs) ≡ None → length xs ≤ i → None ≡ find p (txs_of xs)
first_none p xs i none le = sym (ap (option_map (λ (x : Loser). x.tx)) (sym (ap (find (λ (x : Loser). p x.tx)) (taken_all i xs le)) ∙ none)) ∙ found_tx p xs
