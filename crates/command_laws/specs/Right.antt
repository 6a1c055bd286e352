-- What a sound life owes at each of its entries.
use Rattle.std.specs.Prelude.{◌≡◌, List, ◌++◌}
use Rattle.wal_record.specs.History.{life_log}
use Rattle.wal_record.specs.Legal.{IsLegal}
use Rattle.wal_record.specs.Sound.{IsSound}
use Rattle.wal_record.specs.declared.record.Record.{Record}
use Rattle.wal_record.specs.declared.entry.Entry.{Entry}
use Rattle.log_laws.specs.Right.{IsRight}

-- its committed transactions are serial, and what a stop leaves has the first of them; so it was at each entry before
pub record RightLaw (opening : List Record) (h : List Entry) : Type 0 where
  pub now : IsSound (life_log opening h) → IsLegal opening h → IsRight opening h
  pub before : IsSound (life_log opening h) → IsLegal opening h → (first rest : List Entry) → h ≡ first ++ rest → IsRight opening first
