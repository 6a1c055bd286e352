-- The image of a page: the bytes that stand for its state, its number and its LSN.
use Rattle.std.specs.Prelude.{ℕ, ◌-◌, List, ◌++◌, length, drop, replicate}
use Rattle.std.specs.Int.{w8, w32, w64}
use Rattle.sha2.specs.Sha256.{sha256}
use Rattle.wal_record.specs.Spelling.{number_bytes, state_bytes}
use Rattle.wal_record.specs.declared.page.PageState.{PageState}
use Rattle.page_image.specs.declared.layout.TheConstants.{BODY_BYTES}

-- of all bytes but the first 32 (FIPS 180-4)
abbrev pub digest_of : List ℕ → List ℕ
digest_of bytes = sha256 (drop 32 bytes)

-- zero bytes behind these, up to the end of a page without its digest
abbrev pub padded : List ℕ → List ℕ
padded bytes = bytes ++ replicate (BODY_BYTES - length bytes) 0

-- the format's number, the page's number and its LSN
abbrev pub head_bytes : ℕ → ℕ → List ℕ
head_bytes page lsn = number_bytes w8 1 ++ number_bytes w32 page ++ number_bytes w64 lsn

-- all bytes but the digest
unfoldable pub body_bytes : ℕ → ℕ → PageState → List ℕ
body_bytes page lsn s = padded (head_bytes page lsn ++ state_bytes s)

-- a digest in front
abbrev pub sealed_body : List ℕ → List ℕ
sealed_body body = sha256 body ++ body

-- the image
abbrev pub image_bytes : ℕ → ℕ → PageState → List ℕ
image_bytes page lsn s = sealed_body (body_bytes page lsn s)
