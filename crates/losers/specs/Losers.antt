-- What a life has done of a loser.
use Rattle.std.specs.Prelude.{ℕ, Bool, true, false, not, ◌==◌, if◌then◌else◌}
use Rattle.losers.specs.declared.losers.LoserState.{LoserState}

-- nothing is done of it yet
abbrev pub untouched : ℕ → LoserState
untouched tx = record { tx = tx; place = 0; over = false }

abbrev pub is_of : ℕ → LoserState → Bool
is_of tx x = tx == x.tx

-- it has no End
abbrev pub is_left : LoserState → Bool
is_left x = not x.over

-- behind an Undo of this transaction
abbrev pub undone_at : ℕ → ℕ → LoserState → LoserState
undone_at tx place x = if tx == x.tx then record x { place = place } else x

-- behind an End of this transaction
abbrev pub ended_at : ℕ → ℕ → LoserState → LoserState
ended_at tx place x = if tx == x.tx then record { tx = x.tx; place = place; over = true } else x
