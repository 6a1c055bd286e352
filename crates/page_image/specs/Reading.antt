-- Reading a page's image from left to right. A fault is the number of bytes left where the first field begins that
-- breaks its rule.
use Rattle.std.specs.Prelude.{◌≡◌, ◌≢◌, ◌+◌, ℕ, List, length, take, drop, Result, Ok, Err, ◌==◌, Bool, if◌then◌else◌}
use Rattle.std.specs.List.{list_all}
use Rattle.std.specs.Int.{w8, w32, w64, from_be_bytes}
use Rattle.wal_record.specs.Rules.{is_number}
use Rattle.wal_record.specs.Reading.{◌>>=◌, number_at, state_at}
use Rattle.page_image.specs.Image.{digest_of}
use Rattle.page_image.specs.declared.sealed.Sealed.{Sealed}
use Rattle.page_image.specs.declared.fault.PageFault.{PageFault}
use Rattle.page_image.specs.declared.fault.PageFault.TheVariants.{Digest, Number, Format, Memory}

abbrev pub is_format : ℕ → Bool
is_format n = n == 1

abbrev pub is_page_number : ℕ → ℕ → Bool
is_page_number page n = n == page

abbrev pub is_zero : ℕ → Bool
is_zero n = n == 0

-- zero bytes alone
unfoldable pub zeros_at : List ℕ → Result ℕ ℕ
zeros_at bytes = if list_all is_zero bytes then Ok 0 else Err (length bytes)

abbrev pub with_zeros : Sealed → Result ℕ ℕ → Result Sealed ℕ
with_zeros x (Ok n) = Ok x
with_zeros x (Err left) = Err left

-- the bytes of an image but its digest, of which the page's number is right
unfoldable pub sealed_at : ℕ → List ℕ → Result Sealed ℕ
sealed_at page bytes = do
  format ← number_at w8 is_format bytes
  number ← number_at w32 (is_page_number page) format.1
  lsn ← number_at w64 is_number number.1
  state ← state_at lsn.1
  with_zeros (record { state = state.0; lsn = lsn.0 }) (zeros_at state.1)

-- ---- what opening a page answers

abbrev pub Verifies : List ℕ → Type 0
Verifies bytes = take 32 bytes ≡ digest_of bytes

-- the number of the page, in what follows the digest
unfoldable pub number_in : List ℕ → ℕ
number_in body = from_be_bytes w32 (take 4 (drop 1 body))

-- the number of the page whose image these bytes are said to be
abbrev pub number_of : List ℕ → ℕ
number_of bytes = number_in (drop 32 bytes)

-- an answer is that of the first that is wrong: the digest, the number, a field; want of memory comes only where digest
-- and number are right
abbrev pub Opens : ℕ → List ℕ → Result Sealed PageFault → Type 0
Opens page bytes (Err Digest) = take 32 bytes ≢ digest_of bytes
Opens page bytes (Err Number) = Verifies bytes × (number_of bytes ≢ page)
Opens page bytes (Err (Format byte)) = Verifies bytes × (number_of bytes ≡ page) × ((left : ℕ) × (sealed_at page (drop 32 bytes) ≡ Err left) × (byte + left ≡ 4096))
Opens page bytes (Err Memory) = Verifies bytes × (number_of bytes ≡ page)
Opens page bytes (Ok x) = Verifies bytes × (number_of bytes ≡ page) × (sealed_at page (drop 32 bytes) ≡ Ok x)

-- the answer is this, or want of memory
abbrev pub GivesOr : Sealed → Result Sealed PageFault → Type 0
GivesOr x (Ok y) = y ≡ x
GivesOr x (Err Memory) = Unit {0}
GivesOr x (Err _) = ⊥
