-- Who comes late with an Undo or an End of a loser.
use Rattle.std.specs.Prelude.{◌≡◌, ◌<◌, ℕ, List, true}
use Rattle.std.specs.List.{list_any}
use Rattle.page_ops.specs.Asking.{WasTimely}
use Rattle.wal_record.specs.Chains.{finishes}
use Rattle.wal_record.specs.Checkpoints.{last_open}
use Rattle.wal_record.specs.History.{life_log, log_of}
use Rattle.wal_record.specs.Legal.{IsLegal}
use Rattle.wal_record.specs.OpenWrites.{is_loser, open_list, open_writes}
use Rattle.wal_record.specs.Sound.{AreLawful, UndoRule}
use Rattle.wal_record.specs.declared.entry.Entry.{Entry}
use Rattle.wal_record.specs.declared.record.Undo.{Undo}
use Rattle.wal_record.specs.declared.record.Record.{Record}
use Rattle.wal_record.specs.declared.record.Record.TheVariants as kinds

-- An undo names the LSN of its transaction's record before the write that it takes back. So it takes back the last open
-- write of a loser exactly where that one stands above this LSN.
pub record UndoneLaw (opening : List Record) (h : List Entry) (u : Undo) : Type 0 where
  pub timely : AreLawful (life_log opening h) → IsLegal opening h → is_loser opening u.tx ≡ true → WasTimely opening h (kinds.Undo u)
      → u.undo_next < last_open (open_list (life_log opening h) u.tx) → UndoRule (open_writes (life_log opening h) u.tx) u
  pub late : AreLawful (life_log opening h) → UndoRule (open_writes (life_log opening h) u.tx) u → u.undo_next < last_open (open_list (life_log opening h) u.tx)

-- a loser of the opening log has its End where the life has entered it
pub record EndedLaw (opening : List Record) (h : List Entry) (t : ℕ) : Type 0 where
  pub ended : AreLawful opening → is_loser opening t ≡ true → list_any (finishes t) (life_log opening h) ≡ list_any (finishes t) (log_of h)
