-- A change of a key's row on its leaf, which is purged or split first where the new value doesn't fit.
use Rattle.std.specs.Prelude.{◌≡◌, ◌⊎◌, ℕ, List, [], ◌∷◌, ◌++◌, Option, Result, IfErr, IfOk, Bool, true, false, not, ◌&&◌, if◌then◌else◌}
use Rattle.books.specs.Rights.{SessionClaim}
use Rattle.front.specs.Seen.{PassSeen}
use Rattle.store_model.specs.declared.fault.Fault.{Fault}
use Rattle.wal_record.specs.State.{fits}
use Rattle.wal_record.specs.Images.{purged, with_value}
use Rattle.wal_record.specs.declared.page.PageState.{PageState}
use Rattle.wal_record.specs.declared.record.Record.{Record}
use Rattle.wal_record.specs.declared.entry.Entry.{Entry}
use Rattle.wal_record.specs.declared.entry.Entry.TheVariants as entries
use Rattle.foster_laws.specs.Purges.{has_tombstone}
use Rattle.page_ops.specs.Asking.{HasRoomFor}
use Rattle.page_ops.specs.Causes.{FailsToEnter, NoOther}
use Rattle.page_ops.specs.Desks.{Desk}
use Rattle.page_ops.specs.Gains.{Gains}
use Rattle.page_ops.specs.Groups.{AreFilled, group_entries}
use Rattle.page_ops.specs.Hands.{Hand}
use Rattle.page_ops.specs.Names.{LedgerName}
use Rattle.page_ops.specs.Outcomes.{OnEntered, answered}
use Rattle.page_ops.specs.Seeing.{Known}
use Rattle.page_ops.specs.declared.group.Group.{Group}
use Rattle.page_ops.specs.declared.outcome.Entered.{Entered}
use Rattle.smo.specs.Purges.{purge_of}
use Rattle.smo.specs.Settled.{IsSettled}
use Rattle.leaf_writes.specs.Changes.{UnlessEntered, change_group, split_change_group}
use Rattle.leaf_writes.specs.Halves.{desk_behind, lower_written}
use Rattle.leaf_writes.specs.Owners.{EndsWith}
use Rattle.leaf_writes.specs.declared.change.Change.{Change}

-- the leaf has room for the value
abbrev pub has_room : Change → PageState → Bool
has_room c at = fits (with_value c.key c.new at)

-- the leaf is purged first where it has no room for the value, and has a tombstone
abbrev pub needs_purge : Change → PageState → Bool
needs_purge c s = not (has_room c s) && has_tombstone s

-- the leaf as the change finds it
abbrev pub found : Change → PageState → PageState
found c s = if needs_purge c s then purged s else s

-- the group on a leaf of this state, behind its split where it has no room for the value
abbrev pub group_on : Change → Option SessionClaim → ℕ → PageState → Group
group_on c owner page at = if has_room c at then change_group c owner page else split_change_group c owner page at

-- and the leaf behind it
abbrev pub state_on : ℕ → Change → PageState → PageState
state_on child c at = if has_room c at then with_value c.key c.new at else lower_written child c.key c.new at

-- a reserved frame is used up where the leaf was split
abbrev pub desk_on : Bool → Desk → Result Entered Fault → Desk
desk_on room d result = if room then d else desk_behind d result

-- as the group came, which stands last in this history, there was the room that it asks for
abbrev pub HadRoom : (List Record → Type 0) → Group → Group → List Entry → Type 0
HadRoom opens asked now h = (opening : List Record) → opens opening → (before : List Entry) → h ≡ before ++ group_entries now.lsn now.recs asked.said → HasRoomFor opening before asked

-- The group on a leaf of this state was handed in, behind these entries of the call's own; what it entered, and the leaf
-- in hand, are as the answer says.
pub record WritesOn (opens : List Record → Type 0) (ledger sessions : LedgerName) (c : Change) (owner : Option SessionClaim) (at : PageState) (first : List Entry)
    (seen : PassSeen Entry) (leaf leaf_now : Hand) (result : Result Entered Fault) (old new : Known) : Type 0 where
  pub now : Group
  pub child : ℕ
  pub gains : Gains opens ledger sessions (first ++ answered now.lsn now.recs (group_on c owner leaf.page at).said result) old new
  pub filled : OnEntered result (AreFilled child (group_on c owner leaf.page at).recs now.recs)
  pub settled : OnEntered result (IsSettled (state_on child c at) seen leaf leaf_now)
  -- the group stands last
  pub last : OnEntered result (EndsWith (group_entries now.lsn now.recs (group_on c owner leaf.page at).said) new.log)
  pub room : OnEntered result (HadRoom opens (group_on c owner leaf.page at) now new.log)

-- the purge was refused, and nothing was entered
pub record PurgeRefused (opens : List Record → Type 0) (ledger sessions : LedgerName) (leaf leaf_now : Hand) (result : Result Entered Fault) (old new : Known) : Type 0 where
  pub refused : IfOk result (λ x. ⊥)
  pub why : IfErr result (FailsToEnter NoOther)
  pub same : leaf_now ≡ leaf
  pub gains : Gains opens ledger sessions [] old new

-- the leaf was purged, and then the change was asked for; where it isn't entered the leaf is purged
pub record PurgedFirst (opens : List Record → Type 0) (ledger sessions : LedgerName) (c : Change) (owner : Option SessionClaim)
    (seen : PassSeen Entry) (leaf leaf_now : Hand) (result : Result Entered Fault) (old new : Known) : Type 0 where
  pub lsn : ℕ
  pub prev : ℕ
  pub writes : WritesOn opens ledger sessions c owner (purged leaf.state) (entries.Rec lsn (purge_of leaf.page prev) ∷ []) seen leaf leaf_now result old new
  pub same : UnlessEntered result ((pass : PassSeen Entry) × IsSettled (purged leaf.state) pass leaf leaf_now)

-- without a purge; where the change isn't entered the leaf is as it was
pub record WritesAlone (opens : List Record → Type 0) (ledger sessions : LedgerName) (c : Change) (owner : Option SessionClaim)
    (seen : PassSeen Entry) (leaf leaf_now : Hand) (result : Result Entered Fault) (old new : Known) : Type 0 where
  pub writes : WritesOn opens ledger sessions c owner leaf.state [] seen leaf leaf_now result old new
  pub same : UnlessEntered result (leaf_now ≡ leaf)

abbrev pub WritesBy : Bool → (List Record → Type 0) → LedgerName → LedgerName → Change → Option SessionClaim → PassSeen Entry → Hand → Hand → Result Entered Fault → Known → Known → Type 0
WritesBy false opens ledger sessions c owner seen leaf leaf_now result old new = WritesAlone opens ledger sessions c owner seen leaf leaf_now result old new
WritesBy true opens ledger sessions c owner seen leaf leaf_now result old new =
    PurgeRefused opens ledger sessions leaf leaf_now result old new ⊎ PurgedFirst opens ledger sessions c owner seen leaf leaf_now result old new

-- the whole: the purge, where one is needed, and the change
abbrev pub WritesKey : (List Record → Type 0) → LedgerName → LedgerName → Change → Option SessionClaim → PassSeen Entry → Hand → Hand → Result Entered Fault → Known → Known → Type 0
WritesKey opens ledger sessions c owner seen leaf leaf_now result old new = WritesBy (needs_purge c leaf.state) opens ledger sessions c owner seen leaf leaf_now result old new
