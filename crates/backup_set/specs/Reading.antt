-- Reading a backup object from the left, up to the first field that is cut or breaks its rule.
use Rattle.std.specs.Prelude.{◌≡◌, ◌≢◌, ◌⊎◌, ℕ, ◌+◌, ◌*◌, ◌<◌, ◌≤◌, List, [], ◌∷◌, ◌++◌, length, take, drop, flat_map, Result, Ok, Err, Bool, ◌==◌, ◌&&◌, nat_lt}
use Rattle.std.specs.List.{All}
use Rattle.std.specs.Int.{w8, w32, w64}
use Rattle.wal_record.specs.Rules.{is_page, is_page_count}
use Rattle.wal_record.specs.Upkeep.{segment_of}
use Rattle.wal_record.specs.Reading.{Read, ◌>>=◌, number_at}
use Rattle.page_image.specs.Image.{digest_of}
use Rattle.page_image.specs.Reading.{Verifies, is_format, sealed_at}
use Rattle.page_image.specs.declared.sealed.Sealed.{Sealed}
use Rattle.vault_objects.specs.Fields.{is_this}
use Rattle.backup_set.specs.Backup.{AreCopies, IsBackup, copy_bytes}
use Rattle.backup_set.specs.declared.copy.PageCopy.{PageCopy}
use Rattle.backup_set.specs.declared.image.Flaw.{Flaw}
use Rattle.backup_set.specs.declared.image.Flaw.TheVariants.{Memory, Bad}
use Rattle.backup_set.specs.declared.layout.TheConstants.{MARK, COUNT_AT, IMAGES_AT}
use Rattle.store_model.specs.declared.limits.TheConstants.{PAGE_BYTES}

-- the head of this backup's object of a segment: how many images come
unfoldable pub head_at : ℕ → ℕ → List ℕ → Read ℕ
head_at backup segment bytes = do
  mark ← number_at w32 (is_this MARK) bytes
  number ← number_at w64 (is_this backup) mark.1
  part ← number_at w32 (is_this segment) number.1
  number_at w32 is_page_count part.1

-- a page of this segment, above this one
abbrev pub is_next_page : ℕ → ℕ → ℕ → Bool
is_next_page segment above n = is_page n && segment_of n == segment && nat_lt above n

-- the number of such a page, behind the format of an image
unfoldable pub next_at : ℕ → ℕ → List ℕ → Read ℕ
next_at segment above body = number_at w8 is_format body >>= λ format. number_at w32 (is_next_page segment above) format.1

-- what follows the digest of an image of such a page
unfoldable pub copy_at : ℕ → ℕ → List ℕ → Result Sealed ℕ
copy_at segment above body = next_at segment above body >>= λ number. sealed_at number.0 body

-- these bytes of an image are none of such a page: the digest is wrong, or the field that begins at this byte breaks
-- its rule
abbrev pub IsNoImage : ℕ → ℕ → List ℕ → ℕ → Type 0
IsNoImage segment above image at =
    ((at ≡ 0) × (take 32 image ≢ digest_of image)) ⊎ (Verifies image × ((left : ℕ) × (copy_at segment above (drop 32 image) ≡ Err left) × (at + left ≡ PAGE_BYTES)))

-- the bytes begin with no image of such a page: it is cut, or is none
abbrev pub NoCopy : ℕ → ℕ → List ℕ → ℕ → Type 0
NoCopy segment above rest at = ((at ≡ 0) × (length rest < PAGE_BYTES)) ⊎ ((PAGE_BYTES ≤ length rest) × IsNoImage segment above (take PAGE_BYTES rest) at)

-- what is told of an image that is none, and of bytes that begin with none
abbrev pub IsFlawIn : ℕ → ℕ → List ℕ → Flaw → Type 0
IsFlawIn segment above image Memory = Unit {0}
IsFlawIn segment above image (Bad at) = IsNoImage segment above image at

abbrev pub IsFlaw : ℕ → ℕ → List ℕ → Flaw → Type 0
IsFlaw segment above rest Memory = Unit {0}
IsFlaw segment above rest (Bad at) = NoCopy segment above rest at

-- the page of the last of these copies
abbrev pub last_page : ℕ → List PageCopy → ℕ
last_page above [] = above
last_page above (c ∷ cs) = last_page c.page cs

-- the object is a head that counts so many images, these copies, and this rest
pub record BeginsWith (backup segment count : ℕ) (front : List PageCopy) (rest bytes : List ℕ) : Type 0 where
  pub head : head_at backup segment (take IMAGES_AT bytes) ≡ Ok (count, [])
  pub fit : AreCopies segment 0 front
  pub spelled : drop IMAGES_AT bytes ≡ flat_map copy_bytes front ++ rest

-- behind these copies the object has a fault in its next image, or bytes behind its last
abbrev pub Breaks : ℕ → ℕ → List PageCopy → List ℕ → ℕ → Type 0
Breaks segment count front rest at = ((length front < count) × NoCopy segment (last_page 0 front) rest at) ⊎ ((length front ≡ count) × (0 < length rest) × (at ≡ 0))

pub record IsFaultBehind (backup segment : ℕ) (bytes : List ℕ) (byte : ℕ) : Type 0 where
  pub count : ℕ
  pub front : List PageCopy
  pub rest : List ℕ
  pub at : ℕ
  pub begins : BeginsWith backup segment count front rest bytes
  pub breaks : Breaks segment count front rest at
  pub place : byte ≡ IMAGES_AT + PAGE_BYTES * length front + at

-- a field of the head is cut or breaks its rule
abbrev pub IsHeadFault : ℕ → ℕ → List ℕ → ℕ → Type 0
IsHeadFault backup segment bytes byte = let head = take IMAGES_AT bytes in ((left : ℕ) × (head_at backup segment head ≡ Err left) × (byte + left ≡ length head))

-- the first field that is cut or breaks its rule begins at this byte
abbrev pub IsFirstFault : ℕ → ℕ → List ℕ → ℕ → Type 0
IsFirstFault backup segment bytes byte = IsHeadFault backup segment bytes byte ⊎ IsFaultBehind backup segment bytes byte

-- the object has no fault and no image of the page; then its count is named
pub record LacksPage (backup segment page : ℕ) (bytes : List ℕ) (byte : ℕ) : Type 0 where
  pub copies : List PageCopy
  pub is : IsBackup backup segment copies bytes
  pub none : All (λ c. c.page ≢ page) copies
  pub place : byte ≡ COUNT_AT
