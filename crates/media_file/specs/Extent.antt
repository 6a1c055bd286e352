-- What contracts see of a log disk in files.
use Rattle.std.specs.Prelude.{ℕ}

-- where its bytes begin and end, and how often it has failed
pub record Extent : Type 0 where
  pub start : ℕ
  pub size : ℕ
  pub faults : ℕ
