-- The losers of the log that a life began with, and what the life has done of each.
use Rattle.std.specs.Prelude.{◌≡◌, ℕ, List, map, Bool}
use Rattle.std.specs.List.{list_any}
use Rattle.losers.specs.declared.losers.LoserState.{LoserState}
use Rattle.page_ops.specs.Asking.{forestalls, last_place}
use Rattle.page_ops.specs.Groups.{Each}
use Rattle.store_model.specs.Range.{Interval, has_key}
use Rattle.wal_record.specs.Chains.{finishes}
use Rattle.wal_record.specs.History.{log_of}
use Rattle.wal_record.specs.OpenWrites.{losers, open_list}
use Rattle.wal_record.specs.declared.entry.Entry.{Entry}
use Rattle.wal_record.specs.declared.record.OpenWrite.{OpenWrite}
use Rattle.wal_record.specs.declared.record.Record.{Record}
use Rattle.wal_record.specs.declared.record.Record.TheVariants as kinds

-- the transaction has an open write of a key in the range
abbrev pub has_open_in : Interval → List Record → ℕ → Bool
has_open_in range log t = list_any (λ (w : OpenWrite). has_key range w.key) (open_list log t)

-- the entry undoes a write of the transaction, or ends it
abbrev pub touches : ℕ → Entry → Bool
touches t = forestalls (kinds.End (record { tx = t; prev = 0 }))

-- the place is that of the transaction's last Undo or End, 0 for none; and it has its End, or it hasn't
pub record IsDone (h : List Entry) (x : LoserState) : Type 0 where
  pub place : x.place ≡ last_place (touches x.tx) h
  pub over : x.over ≡ list_any (finishes x.tx) (log_of h)

abbrev pub txs_of : List LoserState → List ℕ
txs_of xs = map (λ (x : LoserState). x.tx) xs

-- these are the losers of the opening log by rising number, each with what the life has done of it
pub record AreLosers (opening : List Record) (h : List Entry) (xs : List LoserState) : Type 0 where
  pub txs : txs_of xs ≡ losers opening
  pub done : Each (IsDone h) xs
