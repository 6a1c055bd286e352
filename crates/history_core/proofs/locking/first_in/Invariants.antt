use Rattle.std.proofs.Common.{◌≡◌, List, None, take}
use Rattle.std.specs.List.{find}
use Rattle.log_index.specs.Listing.{IsListingOf}
use Rattle.loser_laws.specs.Losers.{has_open_in}
use Rattle.wal_record.specs.Sound.{AreLawful}
use Rattle.wal_record.specs.declared.analysis.Loser.{Loser}
use Rattle.wal_record.specs.declared.record.Record.{Record}
use Rattle.history_core.proofs.locking.first_in.Given as goal

abbrev pub invariant-loop-loser : goal.invariant-loop-loser
invariant-loop-loser l = (log : List Record) → IsListingOf log l.listing → AreLawful log → find (λ (x : Loser). has_open_in l.range log x.tx) (take l.loser-index l.losers) ≡ None
