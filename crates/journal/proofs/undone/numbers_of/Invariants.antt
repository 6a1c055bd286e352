use Rattle.std.proofs.Common.{◌≡◌, take, map}
use Rattle.wal_record.specs.declared.analysis.Loser.{Loser}
use Rattle.journal.proofs.undone.numbers_of.Given as goal

abbrev pub invariant-loop-loser : goal.invariant-loop-loser
invariant-loop-loser l = l.txs.items ≡ map (λ (x : Loser). x.tx) (take l.loser-index l.losers)
