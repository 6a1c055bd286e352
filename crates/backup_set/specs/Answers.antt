-- What a read of a page from a backup answers.
use Rattle.std.specs.Prelude.{◌≡◌, ◌⊎◌, ℕ, ◌+◌, ◌-◌, ◌*◌, ◌%◌, ◌<◌, List, [], take, drop, Result, Ok, Err, IsTrue}
use Rattle.wal_record.specs.Rules.{is_number}
use Rattle.wal_record.specs.State.{KeepsState}
use Rattle.wal_record.specs.Upkeep.{segment_of}
use Rattle.page_image.specs.Image.{image_bytes}
use Rattle.page_image.specs.declared.sealed.Sealed.{Sealed}
use Rattle.store_model.specs.declared.fault.Fault.{Fault}
use Rattle.store_model.specs.declared.fault.Fault.TheVariants as faults
use Rattle.store_model.specs.declared.object.ObjectName.{ObjectName}
use Rattle.backup_set.specs.Backup.{backup_name}
use Rattle.backup_set.specs.Reading.{IsFirstFault, IsHeadFault, LacksPage, head_at}
use Rattle.backup_set.specs.declared.copy.PageCopy.{PageCopy}
use Rattle.backup_set.specs.declared.layout.TheConstants.{IMAGES_AT}
use Rattle.store_model.specs.declared.limits.TheConstants.{PAGE_BYTES, SEGMENT_PAGES}

-- the answer is what this copy says, but for want of memory and a fault of the vault
abbrev pub GivesCopy : PageCopy → Result Sealed Fault → Type 0
GivesCopy c (Ok x) = x ≡ c.sealed
GivesCopy c (Err faults.Memory) = Unit {0}
GivesCopy c (Err faults.VaultFault) = Unit {0}
GivesCopy c (Err fault) = ⊥

-- the image at this place of the object is the page's, and says this
pub record HasAt (page : ℕ) (bytes : List ℕ) (place : ℕ) (x : Sealed) : Type 0 where
  pub image : take PAGE_BYTES (drop (IMAGES_AT + PAGE_BYTES * place) bytes) ≡ image_bytes page x.lsn x.state
  pub state : KeepsState x.state
  pub lsn : IsTrue (is_number x.lsn)

-- which image the page's is in the object of its whole segment
abbrev pub place_of : ℕ → ℕ
place_of page = (page - 1) % SEGMENT_PAGES

-- the object's first bytes count an image at the page's place in a whole segment, and the image there is the page's, and says
-- this
pub record StandsInPlace (backup page : ℕ) (head image : List ℕ) (x : Sealed) : Type 0 where
  pub count : ℕ
  pub counts : head_at backup (segment_of page) (take IMAGES_AT head) ≡ Ok (count, [])
  pub counted : place_of page < count
  pub here : take PAGE_BYTES image ≡ image_bytes page x.lsn x.state
  pub state : KeepsState x.state
  pub lsn : IsTrue (is_number x.lsn)

-- one of the images that the object's head counts is the page's, and says this
pub record HasImage (backup segment page : ℕ) (bytes : List ℕ) (x : Sealed) : Type 0 where
  pub count : ℕ
  pub head : head_at backup segment (take IMAGES_AT bytes) ≡ Ok (count, [])
  pub place : ℕ
  pub counted : place < count
  pub here : HasAt page bytes place x

-- the object of this backup's segment has its first fault at this byte, or no image of the page
pub record IsBad (backup segment page : ℕ) (bytes : List ℕ) (object : ObjectName) (byte : ℕ) : Type 0 where
  pub named : object ≡ backup_name backup segment
  pub cause : IsFirstFault backup segment bytes byte ⊎ LacksPage backup segment page bytes byte

-- the same where the head is at fault, which is known from the object's first bytes
pub record IsBadHead (backup segment : ℕ) (bytes : List ℕ) (object : ObjectName) (byte : ℕ) : Type 0 where
  pub named : object ≡ backup_name backup segment
  pub cause : IsHeadFault backup segment bytes byte

-- why a page isn't found in the bytes of an object
abbrev pub FailsToFind : (ObjectName → ℕ → Type 0) → Fault → Type 0
FailsToFind bad faults.Memory = Unit {0}
FailsToFind bad (faults.VaultBad object byte) = bad object byte
FailsToFind bad fault = ⊥

-- the same where the vault tells what it holds
pub record IsToldBad (tells : Type 0) (backup segment page : ℕ) (bytes : List ℕ) (object : ObjectName) (byte : ℕ) : Type 0 where
  pub named : object ≡ backup_name backup segment
  pub cause : tells → IsBad backup segment page bytes object byte
