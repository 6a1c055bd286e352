use Rattle.std.proofs.Common.{◌≡◌, List, subst}
use Rattle.std.specs.List.{find}
use Rattle.wal_record.specs.declared.analysis.Run.{Run}
use Rattle.log_index.specs.Listing.{AreApart, covers_lsn}
use Rattle.log_index.proofs.Listings.{run_told}
use Rattle.log_index.proofs.listing.Listing.run_at.Goals as goal

pub returns : goal.returns
returns c log h lawful = run_told log c.args.self.now c.args.lsn c.run_at.result h lawful (subst (λ (xs : List Run). AreApart xs → c.run_at.result ≡ find (covers_lsn c.args.lsn) xs) c.deref.ensures.value c.run_at.ensures)
