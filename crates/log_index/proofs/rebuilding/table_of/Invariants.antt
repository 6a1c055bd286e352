use Rattle.std.proofs.Common.{◌≡◌, ℕ, take}
use Rattle.listing_laws.specs.Summary.{last_in}
use Rattle.log_index.specs.Table.{AreListed, listed_in, noted_in}
use Rattle.log_index.proofs.rebuilding.table_of.Given as goal

abbrev pub invariant-loop-unfinished : goal.invariant-loop-unfinished
invariant-loop-unfinished l = record {
  listed : AreListed l.transactions → listed_in l.made.entries ≡ take l.unfinished-index l.transactions;
  noted : (q : ℕ) → noted_in l.made q ≡ last_in q (take l.unfinished-index l.transactions);
}
