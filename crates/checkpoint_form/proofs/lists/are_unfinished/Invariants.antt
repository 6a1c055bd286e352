use Rattle.std.proofs.Common.{◌≡◌, take}
use Rattle.store_model.specs.Along.{AllAlong}
use Rattle.wal_record.specs.Rules.{KeepsUnfinished}
use Rattle.wal_record.specs.declared.record.Unfinished.{Unfinished}
use Rattle.checkpoint_form.proofs.Along.{top}
use Rattle.checkpoint_form.proofs.lists.are_unfinished.Given as goal

abbrev pub invariant-loop-transaction : goal.invariant-loop-transaction
invariant-loop-transaction l = record {
  last : l.last ≡ top (λ (u : Unfinished). u.tx) (take l.transaction-index l.transactions);
  fit : AllAlong KeepsUnfinished (take l.transaction-index l.transactions);
}
