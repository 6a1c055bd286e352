-- What a listing says of the log.
use Rattle.std.specs.Prelude.{◌≡◌, ◌<◌, ◌≤◌, ℕ, List, [], ◌∷◌, Bool, nat_le, ◌&&◌, All}
use Rattle.wal_record.specs.OpenWrites.{pending}
use Rattle.wal_record.specs.declared.analysis.Run.{Run}
use Rattle.wal_record.specs.declared.record.Record.{Record}
use Rattle.listing_laws.specs.Summary.{Summary, summary_of}
use Rattle.log_index.specs.Table.{listed_in, noted_in}
use Rattle.log_index.specs.Ready.{HasPlace, HasPlaceIn, IsReadyFor}
use Rattle.log_index.specs.declared.listing.Listing.{Listing}

-- the summary that the listing keeps
abbrev pub summary : Listing → Summary
summary s = record {
  last = s.last;
  checkpoint = s.checkpoint;
  listed = record {
    next_tx = s.numbers.next_tx;
    commits = s.numbers.commits;
    limit = s.numbers.limit;
    pages = s.heads.items;
    transactions = listed_in s.table.entries;
    lost = s.upkeep.lost;
    unrestored = s.upkeep.unrestored.items;
    runs = s.upkeep.runs.items;
    next_backup = s.numbers.next_backup;
    next_run = s.numbers.next_run;
  };
}

-- the LSN that was noted last of a transaction that isn't over, 0 for none
abbrev pub noted : Listing → ℕ → ℕ
noted s q = noted_in s.table q

-- the listing is that of these records
unfoldable pub IsListingOf : List Record → Listing → Type 0
IsListingOf log s = (summary s ≡ summary_of log) × (s.pending ≡ pending log)

-- there is room for what the record adds
pub record IsReady (r : Record) (s : Listing) : Type 0 where
  pub page : HasPlace r s.heads
  pub write : HasPlaceIn r s.table
  pub upkeep : IsReadyFor r s.upkeep

-- the run has the record with this LSN
abbrev pub covers_lsn : ℕ → Run → Bool
covers_lsn lsn run = nat_le run.first lsn && nat_le lsn run.last

-- each run begins behind those before it
abbrev pub AreApart : List Run → Type 0
AreApart [] = Unit {0}
AreApart (x ∷ xs) = (x.first ≤ x.last) × All (λ (y : Run). x.last < y.first) xs × AreApart xs
