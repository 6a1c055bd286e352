-- What contracts see of a disk that never fails.
use Rattle.std.specs.Prelude.{ℕ}

-- where its bytes begin and end
pub record Extent : Type 0 where
  pub start : ℕ
  pub size : ℕ
