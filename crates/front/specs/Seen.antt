-- What a pass has seen.
use Rattle.std.specs.Prelude.{ℕ, List}

-- a beginning of the list, and a durable number
pub record PassSeen (E : Type 0) : Type 0 where
  pub log : List E
  pub durable : ℕ
