-- What a life's pages have written to their data device.
use Rattle.std.specs.Prelude.{◌≡◌, ◌≢◌, ◌⊎◌, ◌<◌, ◌≤◌, ◌==◌, ℕ, List, [], ◌++◌, length, Option, Some, None, Bool, true, false, IsTrue}
use Rattle.std.specs.List.{All, list_any}
use Rattle.media.specs.Cause.{Rose}
use Rattle.restart.specs.Plans.{awaits}
use Rattle.buffer_pool.specs.Tables.{Table, frame_of, is_dirty}
use Rattle.wal_record.specs.History.{life_log}
use Rattle.wal_record.specs.Upkeep.{unrestored}
use Rattle.wal_record.specs.declared.record.Record.{Record}
use Rattle.wal_record.specs.declared.record.Record.TheVariants as kinds
use Rattle.wal_record.specs.declared.entry.Entry.{Entry}
use Rattle.wal_record.specs.declared.entry.Entry.TheVariants.{Rec}

-- no page is in hand, and no frame is reserved
abbrev pub IsIdle : ℕ → Bool → Type 0
IsIdle out reserves = (out ≡ 0) × (reserves ≡ false)

-- the data device lacks the page as it is in its frame
abbrev pub Lacks : Table → ℕ → Type 0
Lacks t page = is_dirty (frame_of t page) ≡ true

-- the device has an image of no page
abbrev pub HasNone : {D : Type 0} → (D → ℕ → Option (List ℕ)) → D → Type 0
HasNone newest device = (page : ℕ) → newest device page ≡ None

-- so it is, or the device has counted a fault
abbrev pub IsEmptied : {D : Type 0} → (D → ℕ → Option (List ℕ)) → (D → ℕ) → D → D → Type 0
IsEmptied newest faults old new = HasNone newest new ⊎ Rose (faults old) (faults new)

-- no segment is unrestored, in each log with which the life may have begun
abbrev pub AreRestored : (List Record → Type 0) → List Entry → Type 0
AreRestored opens h = (opening : List Record) → opens opening → unrestored (life_log opening h) ≡ []

-- some log is known with which the life may have begun, behind which no segment is unrestored
abbrev pub IsKnownRestored : (List Record → Type 0) → List Entry → Type 0
IsKnownRestored opens h = (opening : List Record) × opens opening × (unrestored (life_log opening h) ≡ [])

-- the page awaits redo by this plan
abbrev pub AwaitsRedo : List Bool → ℕ → Type 0
AwaitsRedo plan page = awaits plan page ≡ true

-- From this page on up to the one that was written none is dirty, and none at all where there was none to write.
abbrev pub IsNextWritten : (ℕ → Type 0) → ℕ → Option ℕ → Type 0
IsNextWritten dirty after (Some page) = (after < page) × ((q : ℕ) → after < q → q ≤ page → dirty q → ⊥)
IsNextWritten dirty after None = (q : ℕ) → after < q → dirty q → ⊥

-- that a page was written to the data device
abbrev pub IsWrittenEntry : Entry → Type 0
IsWrittenEntry (Rec lsn (kinds.Written w)) = Unit {0}
IsWrittenEntry e = ⊥

-- that alone was added, of any number of pages
abbrev pub WritesPages : List Entry → List Entry → Type 0
WritesPages h h' = (es : List Entry) × All IsWrittenEntry es × (h' ≡ h ++ es)

-- so many at most
abbrev pub WritesUpto : ℕ → List Entry → List Entry → Type 0
WritesUpto most h h' = (es : List Entry) × All IsWrittenEntry es × (length es ≤ most) × (h' ≡ h ++ es)

-- each other page that was so still is
abbrev pub OthersStay : ℕ → (ℕ → Type 0) → (ℕ → Type 0) → Type 0
OthersStay page old new = (q : ℕ) → q ≢ page → old q → new q

-- each page that was so still is, but for this one, or none
abbrev pub OneLess : (ℕ → Type 0) → (ℕ → Type 0) → Option ℕ → Type 0
OneLess old new (Some page) = OthersStay page old new
OneLess old new None = (q : ℕ) → old q → new q

-- The least page that awaited redo has come, and each other one still awaits it if it did; or none awaits it.
abbrev pub IsNextRedone : (ℕ → Type 0) → (ℕ → Type 0) → Option ℕ → Type 0
IsNextRedone old new (Some page) = old page × (new page → ⊥) × ((q : ℕ) → q < page → old q → ⊥) × OthersStay page old new
IsNextRedone old new None = (q : ℕ) → old q → ⊥

-- each page that was so still is, but for so many at most
abbrev pub AllBut : ℕ → (ℕ → Type 0) → (ℕ → Type 0) → Type 0
AllBut most old new = (gone : List ℕ) × (length gone ≤ most) × ((q : ℕ) → old q → new q ⊎ IsTrue (list_any (λ p. q == p) gone))
