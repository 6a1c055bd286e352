use Rattle.std.proofs.Common.{◌≡◌, ◌≤◌, take}
use Rattle.listing_laws.specs.Summary.{pending_in}
use Rattle.checkpoint_form.proofs.checkpoint.pending_in.Given as goal

abbrev pub invariant-loop-transaction : goal.invariant-loop-transaction
invariant-loop-transaction l = record {
  sum : l.pending ≡ pending_in (take l.transaction-index l.transactions);
  few : l.pending ≤ 16385;
}
