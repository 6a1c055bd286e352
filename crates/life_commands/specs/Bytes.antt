-- What is known of the bytes of a log disk, whatever they stand for.
use Rattle.std.specs.Prelude.{◌≡◌, ◌<◌, ℕ, List, ◌∷◌, length}
use Rattle.media.specs.Crash.{Only}
use Rattle.media.specs.Kept.{Kept}
use Rattle.media.specs.declared.disk.Disk.{Ghosts}
use Rattle.log_blocks.specs.Log.{open_gate}
use Rattle.log_blocks.specs.Opening.{IsBadAt}

-- Of a disk on which no life has been opened: nothing; there is an open gate with something behind it; or the bytes are
-- these, and an open gate stands before some that are no block.
pub data Bytes : Type 0 where
  Unknown : Bytes
  Gated : Bytes
  Bad : Kept → Bytes

-- an open gate, and something behind it
pub record IsFormatted (k : Kept) : Type 0 where
  pub long : 1 < length k.bytes
  pub rest : List ℕ
  pub gate : k.bytes ≡ open_gate ∷ rest

pub record IsGated {D : Type 0} (told : D → Kept) (may_leave : D → Kept → Type 0) (disk : D) : Type 0 where
  pub now : IsFormatted (told disk)
  pub crash : (c : Kept) → may_leave disk c → IsFormatted c

pub record IsBad {D : Type 0} (told : D → Kept) (may_leave : D → Kept → Type 0) (k : Kept) (disk : D) : Type 0 where
  pub now : told disk ≡ k
  pub only : Only k (may_leave disk)
  pub block : ℕ
  pub byte : ℕ
  pub bad : IsBadAt block byte k

abbrev pub KnownBy : {D : Type 0} → Type 0 → (D → Kept) → (D → Kept → Type 0) → Bytes → D → Type 0
KnownBy tells told may_leave Unknown disk = Unit {0}
KnownBy tells told may_leave Gated disk = tells × IsGated told may_leave disk
KnownBy tells told may_leave (Bad k) disk = tells × IsBad told may_leave k disk

-- that is known of the disk, and disks of its type tell their bytes
abbrev pub Known : {D : Type 0} → Type 0 → Ghosts D → Bytes → D → Type 0
Known tells L b disk = KnownBy tells L.told L.may_leave b disk

-- no log is made over an open gate, and none is opened of bytes that are no block
abbrev pub MayMake : Bytes → Type 0
MayMake Unknown = Unit {0}
MayMake _ = ⊥

abbrev pub MayOpen : Bytes → Type 0
MayOpen (Bad k) = ⊥
MayOpen _ = Unit {0}

-- what is known of a disk stays so
abbrev pub StaysKnown : {D : Type 0} → Type 0 → Ghosts D → D → D → Type 0
StaysKnown tells L old new = (b : Bytes) → Known tells L b old → Known tells L b new

-- what is known of a disk allows this
abbrev pub Allows : {D : Type 0} → Type 0 → Ghosts D → D → (Bytes → Type 0) → Type 0
Allows tells L disk P = (b : Bytes) → Known tells L b disk → P b
