-- Faults at device calls.
use Rattle.std.specs.Prelude.{ℕ}
use Rattle.page_ops.specs.Desks.{Faults}

-- of a call that makes no device calls of its own
abbrev pub no_faults : Faults
no_faults = record { log = 0; vault = 0 }

-- of one that makes calls of the vault alone, so many of which failed
abbrev pub of_vault : ℕ → Faults
of_vault n = record { log = 0; vault = n }
