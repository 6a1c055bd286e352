-- The links of chains.
use Rattle.std.specs.Prelude.{ℕ, Bool, Option, Some, None, ◌==◌, ◌||◌, not}

-- whether a record that names prev as the one before it goes on with a chain whose last record so far is this one; a
-- chain of which no record is seen yet may begin before the log does, unless that is whole
abbrev pub goes_on : Bool → Option ℕ → ℕ → Bool
goes_on whole None prev = (prev == 0) || not whole
goes_on whole (Some last) prev = last == prev
