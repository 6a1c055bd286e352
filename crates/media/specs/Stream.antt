-- What a sink takes.
use Rattle.std.specs.Prelude.{◌≡◌, ◌≤◌, ◌<◌, ℕ, List, [], ◌++◌, Option, length, Result, OnOk, IfOk}
use Rattle.std.specs.Io.KnownBytes.{Appends}

-- at most the piece, and something of it where there is something
abbrev pub WritesSome : {E : Type 0} → Result ℕ E → List ℕ → Type 0
WritesSome result piece = IfOk result (λ n. (n ≤ length piece) × (0 < length piece → 0 < n))

-- some first bytes of the piece were taken, all of them at `Ok`
abbrev pub WritesAll : {T E : Type 0} → Option (List ℕ) → Option (List ℕ) → Result T E → List ℕ → Type 0
WritesAll old new result piece = (done : List ℕ) × (rest : List ℕ) × (piece ≡ done ++ rest) × Appends old new done × OnOk result (rest ≡ [])
