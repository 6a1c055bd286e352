-- What standing runs cover, item by item.
use Rattle.std.specs.Prelude.{◌≡◌, ℕ, List, nat_lt, length, slice_get, Bool}
use Rattle.std.specs.Option.{option_map_or}
use Rattle.wal_record.specs.declared.analysis.Run.{Run}
use Rattle.wal_record.specs.Upkeep.{archived}
use Rattle.upkeep_judge.specs.declared.runs.Span.{Span}

-- the first LSN that these runs cover, 0 for none
abbrev pub begins_with : List Run → ℕ
begins_with runs = option_map_or (λ (x : Run). x.first) (slice_get runs 0) 0

abbrev pub is_below : ℕ → Run → Bool
is_below lsn x = nat_lt x.last lsn

abbrev pub is_above : ℕ → Run → Bool
is_above lsn x = nat_lt lsn x.first

-- so many runs, which cover from one LSN to another
pub record IsSpan (runs : List Run) (x : Span) : Type 0 where
  pub count : x.count ≡ length runs
  pub first : x.first ≡ begins_with runs
  pub last : x.last ≡ archived runs
