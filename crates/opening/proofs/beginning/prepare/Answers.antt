use Rattle.std.proofs.Common.{sym, subst}
use Rattle.log_index.specs.Listing.{IsListingOf}
use Rattle.opening.proofs.beginning.prepare.Goals as goal

pub begin-requires-clause-listed : goal.begin-requires-clause-listed
begin-requires-clause-listed g c = λ opening opens. subst (IsListingOf opening) (sym c.listing.ensures) (c.requires.opens opening opens).records.listing

pub begin-requires-clause-sound : goal.begin-requires-clause-sound
begin-requires-clause-sound g c = λ opening opens. ((c.requires.opens opening opens).sound, (c.requires.opens opening opens).some)
