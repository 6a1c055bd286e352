-- What a life does of the losers of its opening log, and who comes late.
use Rattle.std.specs.Prelude.{ℕ, List, Option, Some, None}
use Rattle.log_index.specs.Listing.{IsListingOf}
use Rattle.log_index.specs.declared.listing.Listing.{Listing}
use Rattle.loser_laws.specs.Losers.{AreLosers}
use Rattle.losers.specs.declared.losers.LoserState.{LoserState}
use Rattle.wal_record.specs.History.{life_log}
use Rattle.wal_record.specs.Legal.{IsLegal}
use Rattle.wal_record.specs.Sound.{AreLawful}
use Rattle.wal_record.specs.declared.entry.Entry.{Entry}
use Rattle.wal_record.specs.declared.record.Record.{Record}
use Rattle.wal_record.specs.declared.record.Record.TheVariants as kinds
use Rattle.journal.specs.Restored.{AreRestored, Places}

-- whatever log the life began with, the table has its losers
abbrev pub HasLosers : (List Record → Type 0) → List Entry → List LoserState → Type 0
HasLosers opens h xs = (opening : List Record) → opens opening → AreLosers opening h xs

-- by the listing, the places of segments and the table of losers it is told who comes late
pub record Tells (opening : List Record) (h : List Entry) (s : Listing) (places : Places) (xs : List LoserState) : Type 0 where
  pub lawful : AreLawful (life_log opening h)
  pub legal : IsLegal opening h
  pub listing : IsListingOf (life_log opening h) s
  pub restored : AreRestored h places
  pub losers : AreLosers opening h xs

-- the transaction of which the record takes a write back, if it takes one back
abbrev pub undone_in : Record → Option ℕ
undone_in (kinds.Undo u) = Some u.tx
undone_in _ = None
