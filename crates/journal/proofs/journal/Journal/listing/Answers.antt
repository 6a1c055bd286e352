use Rattle.std.proofs.Common.{List, sym, subst}
use Rattle.log_index.specs.Listing.{IsListingOf}
use Rattle.wal_record.specs.History.{life_log}
use Rattle.wal_record.specs.Sound.{AreLawful}
use Rattle.wal_record.specs.declared.entry.Entry.{Entry}
use Rattle.journal.proofs.Calls.{history_is}
use Rattle.journal.proofs.journal.Journal.listing.Goals as goal

pub returns-clause-listing : goal.returns-clause-listing
returns-clause-listing g c opening stands =
    subst (λ (h : List Entry). IsListingOf (life_log opening h) c.listing.result.now) (history_is _ _ c.self.view_is) (subst (IsListingOf (life_log opening c.self.inside.history)) (sym c.listing.ensures) (c.self.invariant.1.life.records opening stands).listing)

pub returns-clause-lawful : goal.returns-clause-lawful
returns-clause-lawful g c opening stands = subst (λ (h : List Entry). AreLawful (life_log opening h)) (history_is _ _ c.self.view_is) (c.self.invariant.1.life.records opening stands).lawful
