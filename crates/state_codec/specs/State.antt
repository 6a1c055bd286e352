-- A foster pointer as it is read, before its key is known to be one.
use Rattle.std.specs.Prelude.{ℕ, List}
use Rattle.wal_record.specs.declared.page.Foster.{Foster}

abbrev pub pointer_of : List ℕ × ℕ → Foster
pointer_of p = record { key = p.0; child = p.1 }
