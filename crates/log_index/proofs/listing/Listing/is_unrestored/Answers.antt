use Rattle.std.proofs.Common.{ℕ, ◌==◌, ◌∙◌, ap}
use Rattle.std.specs.List.{list_any}
use Rattle.log_index.proofs.Listings.{unrestored_told}
use Rattle.log_index.proofs.listing.Listing.is_unrestored.Goals as goal

pub returns : goal.returns
returns c log h = c.has_segment.ensures ∙ ap (list_any (λ (s : ℕ). s == c.args.segment)) (c.deref.ensures.value ∙ unrestored_told log c.args.self.now h)
