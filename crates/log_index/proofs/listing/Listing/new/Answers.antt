use Rattle.std.proofs.Common.{refl}
use Rattle.log_index.proofs.Listings.{empty_listing}
use Rattle.log_index.proofs.listing.Listing.new.Goals as goal

pub returns-clause-listing : goal.returns-clause-listing
returns-clause-listing c = empty_listing _ refl refl refl c.new.ensures.items c.new-2.ensures.empty refl refl c.new-3.ensures.items c.new-4.ensures.items
