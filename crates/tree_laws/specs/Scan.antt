-- The scan law: a range inside a leaf's own part has exactly the pairs of the leaf's live rows.
use Rattle.std.specs.Prelude.{◌≡◌, ◌≢◌, ℕ, List, [], ◌∷◌, ◌++◌, map, Option, Some, Bool, true, false, ◌&&◌, not, if◌then◌else◌}
use Rattle.store_model.specs.Range.{Interval, has_key, is_below}
use Rattle.store_model.specs.Contents.{Contents, pair_of, pairs_in}
use Rattle.wal_record.specs.State.{has_own, leaf_rows}
use Rattle.wal_record.specs.Contents.{current}
use Rattle.wal_record.specs.Images.{image}
use Rattle.wal_record.specs.Sound.{AreLawful}
use Rattle.wal_record.specs.declared.page.PageState.{PageState}
use Rattle.wal_record.specs.declared.page.LeafRow.{LeafRow}
use Rattle.wal_record.specs.declared.page.Rows.TheVariants.{Leaf}
use Rattle.wal_record.specs.declared.record.Record.{Record}

-- the live rows whose keys pass a test
abbrev pub live_entries : (List ℕ → Bool) → List LeafRow → List (List ℕ × List ℕ)
live_entries p [] = []
live_entries p (row ∷ rows) = if not row.tombstone && p row.key then (row.key, row.value) ∷ live_entries p rows else live_entries p rows

-- a range inside a leaf's own part has the pairs of the leaf's live rows
pub record LeafScan (img : ℕ → Option PageState) (m : Contents) : Type 0 where
  pub pairs : (p : ℕ) (s : PageState) → img p ≡ Some s → s.rows ≡ Leaf (leaf_rows s.rows) → (r : Interval) → ((key : List ℕ) → has_key r key ≡ true → has_own s key ≡ true) → pairs_in r m ≡ map pair_of (live_entries (has_key r) (leaf_rows s.rows))

abbrev pub ScanLaw : List Record → Type 0
ScanLaw log = AreLawful log → log ≢ [] → LeafScan (image log) (current log)

-- the pairs of two neighbouring ranges, one after the other, are those of both together
pub record NeighboursLaw (low mid high : Option (List ℕ)) (m : Contents) : Type 0 where
  pub joined : is_below mid low ≡ false → is_below high mid ≡ false
      → pairs_in (record { low = low; high = mid }) m ++ pairs_in (record { low = mid; high = high }) m ≡ pairs_in (record { low = low; high = high }) m
