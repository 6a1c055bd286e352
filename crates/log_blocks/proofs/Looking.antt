-- What a read of a header gives.
use Rattle.std.proofs.Common.{◌≡◌, ℕ, ◌-◌, ◌≤◌, List, ◌++◌, length, take, drop, ◌∙◌, ap, arith, length-drop, min}
use Rattle.std.specs.Prelude.{Result, Ok, Err, IfOk}
use Rattle.std.proofs.lemmas.List.{take_at, take_min, length-take}
use Rattle.media.specs.declared.fault.Failed.{Failed}
use Rattle.media.specs.Kept.{Kept, end_of, bytes_at}

pub looked : (result : Result ℕ Failed) (buf0 buf : List ℕ) (k : Kept) (at len start : ℕ) → length buf0 ≡ 23 → k.start ≡ start → end_of k ≡ len → start ≤ at
    → IfOk result (λ n. n ≡ min (length buf0) (len - at)) → IfOk result (λ n. buf ≡ bytes_at k at n ++ drop n buf0)
    → IfOk result (λ n. take n buf ≡ take 23 (drop (at - k.start) k.bytes))
looked (Ok n) buf0 buf k at len start size from end le count bytes =
    let xs = drop (at - k.start) k.bytes in
    let many : n ≡ min 23 (length xs) = omega (arith, count, size, length-drop (at - k.start) k.bytes, end, from, le) in
    let whole : length (take n xs) ≡ n = omega (arith, length-take n xs, many) in
    ap (λ (l : List ℕ). take n l) bytes ∙ take_at (take n xs) (drop n buf0) n whole ∙ ap (λ m. take m xs) many ∙ take_min 23 xs
looked (Err e) buf0 buf k at len start size from end le count bytes = tt
