use Rattle.std.proofs.Common.{◌≡◌, ◌+◌, length}
use Rattle.log_manager.specs.LastRead.{AreStarts, IsStart}
use Rattle.log_manager.proofs.last_read.start_of.Given as goal

abbrev pub invariant-loop : goal.invariant-loop
invariant-loop l = record {
  count : length l.starts.items ≡ l.counter + 1;
  starts : AreStarts l.payload l.starts.items;
  at : IsStart l.payload l.counter l.at;
}
