-- The copies of pages that stand in a life's backups.
use Rattle.std.specs.Prelude.{◌≡◌, ℕ, List, IfSome}
use Rattle.store_model.specs.declared.object.ObjectName.{ObjectName}
use Rattle.wal_record.specs.History.{life_log}
use Rattle.wal_record.specs.State.{KeepsState}
use Rattle.wal_record.specs.Upkeep.{segment_of}
use Rattle.wal_record.specs.declared.record.Record.{Record}
use Rattle.wal_record.specs.declared.entry.Entry.{Entry}
use Rattle.page_image.specs.Image.{image_bytes}
use Rattle.page_image.specs.declared.sealed.Sealed.{Sealed}
use Rattle.backup_set.specs.Backup.{IsAmong, IsBackup, backup_name}
use Rattle.backup_set.specs.declared.copy.PageCopy.{PageCopy}
use Rattle.named_objects.specs.Named.{Names}
use Rattle.segment_restore.specs.declared.base.Base.{Base}

-- so it is with the bytes of an object, wherever the log of the life names it
abbrev pub OfNamed : (List Record → Type 0) → List Entry → ObjectName → (List ℕ → Type 0) → Type 0
OfNamed opens h name fact = (opening : List Record) (bytes : List ℕ) → opens opening → Names (life_log opening h) name bytes → fact bytes

-- the log names the object of this backup that has the page's segment, and this copy of the page stands in it
pub record HasCopy (log : List Record) (p backup : ℕ) (c : PageCopy) : Type 0 where
  pub bytes : List ℕ
  pub names : Names log (backup_name backup (segment_of p)) bytes
  pub copies : List PageCopy
  pub are : IsBackup backup (segment_of p) copies bytes
  pub among : IsAmong c copies
  pub page : c.page ≡ p

-- the backup has some copy of the page
abbrev pub IsHeld : (List Record → Type 0) → List Entry → ℕ → ℕ → Type 0
IsHeld opens h p backup = (opening : List Record) → opens opening → (c : PageCopy) × HasCopy (life_log opening h) p backup c

-- it is the one that the backup has
pub record IsCopyIn (opens : List Record → Type 0) (h : List Entry) (p backup : ℕ) (x : Sealed) : Type 0 where
  pub keeps : KeepsState x.state
  pub is : (opening : List Record) (c : PageCopy) → opens opening → HasCopy (life_log opening h) p backup c → x ≡ c.sealed

-- and so are its bytes, where they are at hand
pub record IsBaseIn (opens : List Record → Type 0) (h : List Entry) (p backup : ℕ) (b : Base) : Type 0 where
  pub copy : IsCopyIn opens h p backup b.sealed
  pub bytes : IfSome b.bytes (λ bytes. bytes ≡ image_bytes p b.sealed.lsn b.sealed.state)
