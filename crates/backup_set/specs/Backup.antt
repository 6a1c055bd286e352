-- The bytes of a backup object: the pages of one segment as a backup has them.
use Rattle.std.specs.Prelude.{◌≡◌, ℕ, ◌<◌, ◌⊎◌, List, [], ◌∷◌, ◌++◌, length, map, flat_map, IsTrue}
use Rattle.std.specs.Int.{w32, w64}
use Rattle.wal_record.specs.Rules.{is_number, is_page, is_page_count}
use Rattle.wal_record.specs.Spelling.{number_bytes}
use Rattle.wal_record.specs.State.{KeepsState}
use Rattle.wal_record.specs.Upkeep.{segment_of}
use Rattle.page_image.specs.Image.{image_bytes}
use Rattle.store_model.specs.declared.object.ObjectName.{ObjectName}
use Rattle.store_model.specs.declared.object.ObjectKind.TheVariants.{Backup}
use Rattle.backup_set.specs.declared.copy.PageCopy.{PageCopy}
use Rattle.backup_set.specs.declared.layout.TheConstants.{MARK}

-- the copy is one of a page of this segment, above this page
pub record IsCopy (segment above : ℕ) (c : PageCopy) : Type 0 where
  pub page : IsTrue (is_page c.page)
  pub in_segment : segment_of c.page ≡ segment
  pub rises : above < c.page
  pub state : KeepsState c.sealed.state
  pub lsn : IsTrue (is_number c.sealed.lsn)

-- copies of pages of this segment by rising page, all above this page
abbrev pub AreCopies : ℕ → ℕ → List PageCopy → Type 0
AreCopies segment above [] = Unit {0}
AreCopies segment above (c ∷ cs) = IsCopy segment above c × AreCopies segment c.page cs

abbrev pub IsAmong : PageCopy → List PageCopy → Type 0
IsAmong c [] = ⊥
IsAmong c (d ∷ ds) = (c ≡ d) ⊎ IsAmong c ds

abbrev pub copy_bytes : PageCopy → List ℕ
copy_bytes c = image_bytes c.page c.sealed.lsn c.sealed.state

-- four letters, the numbers of the backup and the segment, and how many images come
abbrev pub head_bytes : ℕ → ℕ → ℕ → List ℕ
head_bytes backup segment count = number_bytes w32 MARK ++ number_bytes w64 backup ++ number_bytes w32 segment ++ number_bytes w32 count

-- the head, and these images one behind the other
abbrev pub object_bytes : ℕ → ℕ → List (List ℕ) → List ℕ
object_bytes backup segment images = head_bytes backup segment (length images) ++ flat_map (λ image. image) images

-- the images are those of these copies: 1 to 16 of pages of this segment, by rising page
pub record AreImages (segment : ℕ) (images : List (List ℕ)) (copies : List PageCopy) : Type 0 where
  pub count : IsTrue (is_page_count (length copies))
  pub fit : AreCopies segment 0 copies
  pub spelled : images ≡ map copy_bytes copies

-- the bytes are the object of a backup's segment with these copies
pub record IsBackup (backup segment : ℕ) (copies : List PageCopy) (bytes : List ℕ) : Type 0 where
  pub images : List (List ℕ)
  pub are : AreImages segment images copies
  pub spelled : bytes ≡ object_bytes backup segment images

abbrev pub backup_name : ℕ → ℕ → ObjectName
backup_name backup segment = record { kind = Backup; id = backup; part = segment }
