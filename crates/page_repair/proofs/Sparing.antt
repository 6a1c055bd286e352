-- Images on the data device that a page's way into memory spares.
use Rattle.std.proofs.Common.{ℕ, List, Option, refl, ◌∙◌, inl, inr}
use mathlib.Core.List.{IsPrefix}
use Rattle.front.proofs.Keeping.{prefix_trans}
use Rattle.wal_record.specs.declared.record.Record.{Record}
use Rattle.wal_record.specs.declared.entry.Entry.{Entry}
use Rattle.page_repair.specs.Images.{SameNewest, Spares}

module _ {I : Type 0} (opens : List Record → Type 0) (page : ℕ) (newest : I → ℕ → Option (List ℕ)) where
  -- where nothing is written
  pub spares_same : (before now : List Entry) (images : I) → Spares opens page before now newest images images
  spares_same before now images = inl (λ p. refl)

  -- a longer time
  pub spares_longer : (first before now later : List Entry) (old new : I) → IsPrefix first before → IsPrefix now later → Spares opens page before now newest old new → Spares opens page first later newest old new
  spares_longer first before now later old new begins goes_on (inl same) = inl same
  spares_longer first before now later old new begins goes_on (inr s) =
      let f = s.0 in
      inr (record { moment = f.moment; begins = prefix_trans first before f.moment begins f.begins; goes_on = prefix_trans f.moment now later f.goes_on goes_on; is = f.is }, s.1)

  -- nothing is written behind it
  pub spares_then : (before now : List Entry) (old mid new : I) → Spares opens page before now newest old mid → SameNewest newest mid new → Spares opens page before now newest old new
  spares_then before now old mid new (inl same) after = inl (λ p. after p ∙ same p)
  spares_then before now old mid new (inr s) after = inr (s.0, λ p apart. after p ∙ s.1 p apart)
