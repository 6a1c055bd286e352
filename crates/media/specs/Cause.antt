-- Why a call answers `Failed`.
use Rattle.std.specs.Prelude.{◌+◌, ◌-◌, ◌≤◌, ◌^◌, ℕ, min, Result, OnErr}

-- A count has risen, or stands at its end: a count of 64 bits stands still there.
abbrev pub Rose : ℕ → ℕ → Type 0
Rose before now = min (before + 1) (2 ^ 64 - 1) ≤ now

-- The count of faults doesn't fall, and the call fails only where it rose.
pub record HasCause {D T E : Type 0} (faults : D → ℕ) (old new : D) (result : Result T E) : Type 0 where
  pub later : faults old ≤ faults new
  pub failed : OnErr result (Rose (faults old) (faults new))
