-- An image that a repair begins from, with its bytes.
use Rattle.std.specs.Prelude.{◌≡◌, ℕ, List, IfSome}
use Rattle.wal_record.specs.declared.entry.Entry.{Entry}
use Rattle.wal_record.specs.declared.record.Record.{Record}
use Rattle.page_image.specs.Image.{image_bytes}
use Rattle.page_repair.specs.Supplies.{IsBase}
use Rattle.segment_restore.specs.declared.base.Base.{Base}

-- an image of the page, no younger than this head, and its own bytes where they are at hand
pub record IsBased (opens : List Record → Type 0) (h : List Entry) (page head : ℕ) (b : Base) : Type 0 where
  pub image : IsBase opens h page head b.sealed
  pub bytes : IfSome b.bytes (λ bytes. bytes ≡ image_bytes page b.sealed.lsn b.sealed.state)
