-- An object that was put and isn't named yet.
use Rattle.std.specs.Prelude.{◌≡◌, ◌⊎◌, ℕ, ⊤, List, [], ◌∷◌, ◌++◌, Option, Some, None, true, false, Result, Ok, Err}
use mathlib.Core.List.{IsPrefix}
use Rattle.books.specs.Rights.{MaintClaim}
use Rattle.media.specs.Objects.{Stored, Synced, Unsynced}
use Rattle.media.specs.Cause.{Rose}
use Rattle.media.specs.declared.fault.Failed.{Failed}
use Rattle.store_model.specs.declared.fault.Fault.{Fault}
use Rattle.store_model.specs.declared.fault.Fault.TheVariants as faults
use Rattle.store_model.specs.declared.object.ObjectName.{ObjectName}
use Rattle.wal_record.specs.Books.{maintenance_book}
use Rattle.wal_record.specs.History.{life_log}
use Rattle.wal_record.specs.declared.record.Record.{Record}
use Rattle.wal_record.specs.declared.entry.Entry.{Entry}
use Rattle.wal_record.specs.declared.entry.Entry.TheVariants.{Rec}
use Rattle.page_ops.specs.Causes.{EndsBy, MeetsNoEnd}
use Rattle.page_ops.specs.Claims.{Claims, no_claims}
use Rattle.page_ops.specs.Gains.{Gains}
use Rattle.page_ops.specs.Names.{LedgerName}
use Rattle.page_ops.specs.Seeing.{Account, Known}
use Rattle.named_objects.specs.Named.{Tells, name_of, record_of}
use Rattle.named_objects.specs.declared.draft.Done.{Done}
use Rattle.named_objects.specs.declared.draft.Done.TheVariants as dones
use Rattle.named_objects.specs.declared.draft.Draft.{Draft}
use Rattle.named_objects.specs.declared.draft.Drafted.{Drafted}
use Rattle.named_objects.specs.declared.draft.Drafted.TheVariants as drafts
use Rattle.named_objects.specs.declared.naming.Naming.{Naming}

-- ---- the draft

-- however the history goes on, these are the bytes of the object
abbrev pub Means : (List Record → Type 0) → List Entry → Naming → List ℕ → Type 0
Means opens h naming bytes = (opening : List Record) (later : List Entry) → opens opening → IsPrefix h later → Tells (life_log opening later) naming bytes

-- the vault holds the bytes that the log will determine, and durably where the draft is synced
pub record IsDraft {V : Type 0} (opens : List Record → Type 0) (tells : Type 0) (told : V → ObjectName → Stored) (h : List Entry) (vault : V) (d : Draft) : Type 0 where
  pub bytes : List ℕ
  pub means : Means opens h d.naming bytes
  pub stored : tells → (told vault (name_of d.naming) ≡ Unsynced bytes) ⊎ (told vault (name_of d.naming) ≡ Synced bytes)
  pub durable : tells → d.synced ≡ true → told vault (name_of d.naming) ≡ Synced bytes

-- a vault, and the draft in it
pub record Owned (V : Type 0) : Type 0 where
  pub vault : V
  pub draft : Option Draft

-- ---- what becomes of it

-- the draft that may be named so
abbrev pub ready : Naming → Option Draft
ready naming = Some (record { naming = naming; synced = true })

abbrev pub behind_put : Naming → Option Draft → Result Drafted Failed → Option Draft
behind_put naming old (Ok drafts.Taken) = Some (record { naming = naming; synced = false })
behind_put naming old (Ok drafts.Late) = old
behind_put naming old (Err e) = None

abbrev pub synced_draft : Option Draft → Option Draft
synced_draft None = None
synced_draft (Some d) = ready d.naming

abbrev pub behind_sync : Option Draft → Result ⊤ Failed → Option Draft
behind_sync old (Ok u) = synced_draft old
behind_sync old (Err e) = old

abbrev pub behind_done : Option Draft → Result Done Fault → Option Draft
behind_done old (Ok (dones.At lsn)) = None
behind_done old (Ok dones.Late) = old
behind_done old (Err fault) = old

-- ---- what is entered

abbrev pub naming_entries : Naming → Result Done Fault → List Entry
naming_entries naming (Ok (dones.At lsn)) = Rec lsn (record_of naming) ∷ []
naming_entries naming (Ok dones.Late) = []
naming_entries naming (Err fault) = []

-- the object was named
abbrev pub OnNamed : Result Done Fault → Type 0 → Type 0
OnNamed (Ok (dones.At lsn)) fact = fact
OnNamed (Ok dones.Late) fact = Unit {0}
OnNamed (Err fault) fact = Unit {0}

-- from that place to the record that names the object no other object was named
abbrev pub ComesNext : ℕ → Naming → List Entry → Result Done Fault → Type 0
ComesNext since naming h (Ok (dones.At lsn)) = (moment : List Entry) → h ≡ moment ++ Rec lsn (record_of naming) ∷ [] → maintenance_book moment ≡ since
ComesNext since naming h (Ok dones.Late) = Unit {0}
ComesNext since naming h (Err fault) = Unit {0}

abbrev pub recorded : Naming → Result ℕ Fault → List Entry
recorded naming (Ok lsn) = Rec lsn (record_of naming) ∷ []
recorded naming (Err fault) = []

-- ---- an object that is put, synced and named in one

-- At some moment no object was named since that place, and then this record named one.
pub record WasNamed (since lsn : ℕ) (naming : Naming) (seen now : List Entry) : Type 0 where
  pub moment : List Entry
  pub begins : IsPrefix seen moment
  pub at : maintenance_book moment ≡ since
  pub goes : IsPrefix (moment ++ Rec lsn (record_of naming) ∷ []) now

-- Where it is done, the record was entered, and nothing else by the call. Refused for want of memory or by the vault, nothing
-- was; where the log disk failed, the record was; and where the life had ended, maybe it was.
abbrev pub NamesOne : (List Record → Type 0) → LedgerName → LedgerName → Naming → Result ℕ Fault → Known → Known → Type 0
NamesOne opens entries sessions naming (Ok lsn) old new = Gains opens entries sessions (Rec lsn (record_of naming) ∷ []) old new
NamesOne opens entries sessions naming (Err faults.LogFault) old new = (lsn : ℕ) × Gains opens entries sessions (Rec lsn (record_of naming) ∷ []) old new
NamesOne opens entries sessions naming (Err (faults.Ended at)) old new = Gains opens entries sessions [] old new ⊎ ((lsn : ℕ) × Gains opens entries sessions (Rec lsn (record_of naming) ∷ []) old new)
NamesOne opens entries sessions naming (Err fault) old new = Gains opens entries sessions [] old new

-- Want of memory; the vault failed, which was counted; the log disk failed, or the life had ended.
abbrev pub FailsToName : (List Record → Type 0) → LedgerName → LedgerName → ℕ → ℕ → Account → Account → List Entry → Fault → Type 0
FailsToName opens log_faults made vault vault_now old new h faults.VaultFault = MeetsNoEnd old new × Rose vault vault_now
FailsToName opens log_faults made vault vault_now old new h faults.Memory = EndsBy opens log_faults made old new h faults.Memory
FailsToName opens log_faults made vault vault_now old new h faults.LogFault = EndsBy opens log_faults made old new h faults.LogFault
FailsToName opens log_faults made vault vault_now old new h (faults.Ended at) = EndsBy opens log_faults made old new h (faults.Ended at)
FailsToName opens log_faults made vault vault_now old new h fault = ⊥

-- ---- rights

-- the right to maintenance, and no other
abbrev pub maintenance_alone : Option MaintClaim → Claims
maintenance_alone m = record no_claims { m = m }
