-- What contracts see of a source or a sink in memory.
use Rattle.std.specs.Prelude.{ℕ, List}

-- the bytes that are left, or that were written, and the count of faults
pub record Streamed : Type 0 where
  pub bytes : List ℕ
  pub faults : ℕ
