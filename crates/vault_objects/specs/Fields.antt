-- Fields of objects.
use Rattle.std.specs.Prelude.{ℕ, Bool, ◌==◌}

-- the field has to be this number
abbrev pub is_this : ℕ → ℕ → Bool
is_this number n = n == number
