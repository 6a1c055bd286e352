use Rattle.std.proofs.Common.{ℕ, List, ◌∙◌, ap}
use Rattle.std.specs.Prelude.{slice_get}
use Rattle.log_index.proofs.Listings.{unrestored_told}
use Rattle.log_index.proofs.listing.Listing.first_unrestored.Goals as goal

pub returns : goal.returns
returns c log h = c.first_segment.ensures ∙ ap (λ (ss : List ℕ). slice_get ss 0) (c.deref.ensures.value ∙ unrestored_told log c.args.self.now h)
