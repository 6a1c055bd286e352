-- The objects of the vault that a log names, and their bytes.
use Rattle.std.specs.Prelude.{◌≡◌, ℕ, ◌+◌, ◌-◌, min, List, [], ◌∷◌, ◌++◌, length, take, drop}
use Rattle.media.specs.Objects.{Stored, Synced}
use Rattle.store_model.specs.declared.object.ObjectName.{ObjectName}
use Rattle.wal_record.specs.History.{life_log}
use Rattle.wal_record.specs.declared.record.PageLsn.{PageLsn}
use Rattle.wal_record.specs.declared.record.Record.{Record}
use Rattle.wal_record.specs.declared.record.Record.TheVariants as kinds
use Rattle.wal_record.specs.declared.entry.Entry.{Entry}
use Rattle.page_repair.specs.Chains.{IsImageAt}
use Rattle.backup_set.specs.Backup.{IsBackup, backup_name}
use Rattle.backup_set.specs.declared.copy.PageCopy.{PageCopy}
use Rattle.log_archive.specs.Items.{chunks_of, numbered, part}
use Rattle.log_archive.specs.Run.{run_bytes, run_name}
use Rattle.named_objects.specs.declared.naming.Naming.{Naming}
use Rattle.named_objects.specs.declared.naming.Naming.TheVariants as namings

-- the copy is the page's image in the log up to the LSN that a backup tells of it
pub record IsCopyOf (log : List Record) (told : PageLsn) (c : PageCopy) : Type 0 where
  pub page : c.page ≡ told.page
  pub lsn : c.sealed.lsn ≡ told.lsn
  pub image : IsImageAt log told.page c.sealed

abbrev pub AreCopiesOf : List Record → List PageLsn → List PageCopy → Type 0
AreCopiesOf log [] [] = Unit {0}
AreCopiesOf log (t ∷ ts) (c ∷ cs) = IsCopyOf log t c × AreCopiesOf log ts cs
AreCopiesOf log _ _ = ⊥

-- the record, and the name of the object that it names
abbrev pub record_of : Naming → Record
record_of (namings.Backup b) = kinds.BackupDone b
record_of (namings.Run d) = kinds.RunDone d

abbrev pub name_of : Naming → ObjectName
name_of (namings.Backup b) = backup_name b.backup b.segment
name_of (namings.Run d) = run_name d.run

-- behind this log, these are the bytes of the object: the images of a segment's pages that are told, or the records of the
-- range that name pages
abbrev pub Tells : List Record → Naming → List ℕ → Type 0
Tells log (namings.Backup b) bytes = (copies : List PageCopy) × AreCopiesOf log b.pages copies × IsBackup b.backup b.segment copies bytes
Tells log (namings.Run d) bytes = bytes ≡ run_bytes d.run d.first d.last (chunks_of (numbered d.first (part d.first (d.last + 1) log)))

-- a record of the log says that the object is durable, with the bytes that the log before it determines
pub record Names (log : List Record) (name : ObjectName) (bytes : List ℕ) : Type 0 where
  pub before : List Record
  pub naming : Naming
  pub behind : List Record
  pub is : log ≡ before ++ record_of naming ∷ behind
  pub named : name ≡ name_of naming
  pub tells : Tells before naming bytes

-- each object that the log of the life names is synced with its bytes
abbrev pub AreNamed : {V : Type 0} → (List Record → Type 0) → (V → ObjectName → Stored) → List Entry → V → Type 0
AreNamed {V} opens told h vault = (opening : List Record) (name : ObjectName) (bytes : List ℕ) → opens opening → Names (life_log opening h) name bytes → told vault name ≡ Synced bytes

-- of an object that the log of the life names, these are the bytes from an offset on, at the front of a buffer
abbrev pub IsNamedPiece : (List Record → Type 0) → List Entry → ObjectName → ℕ → List ℕ → List ℕ → ℕ → Type 0
IsNamedPiece opens h name from old new n = (opening : List Record) (bytes : List ℕ) → opens opening → Names (life_log opening h) name bytes
    → (n ≡ min (length old) (length bytes - from)) × (new ≡ take n (drop from bytes) ++ drop n old)
