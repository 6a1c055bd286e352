use Rattle.std.proofs.Common.{◌≡◌, ap, sym, ◌∙◌, length, arith}
use Rattle.listing_laws.specs.Summary.{writes_in}
use Rattle.log_index.specs.Table.{listed_in}
use Rattle.log_index.proofs.Tables.{removed, rising, writes_found}
use Rattle.log_index.proofs.Counting.{all_less}
use Rattle.log_index.proofs.table.close.Goals as goal

pub returns-in-Some-clause-listed : goal.returns-in-Some-clause-listed
returns-in-Some-clause-listed c = ap listed_in c.remove.ensures.entries ∙ removed c.args.tx c.args.table.now.entries (rising c.args.table.now.entries c.len-tracked.ensures.ordered)

pub returns-in-None-clause-listed : goal.returns-in-None-clause-listed
returns-in-None-clause-listed c = ap listed_in c.remove.ensures.entries ∙ removed c.args.tx c.args.table.now.entries (rising c.args.table.now.entries c.len-tracked.ensures.ordered)

pub returns-in-Some-clause-pending : goal.returns-in-Some-clause-pending
returns-in-Some-clause-pending c =
    let less = all_less c.args.tx (listed_in c.args.table.now.entries) (listed_in c.remove.new.self.entries) (returns-in-Some-clause-listed c) in
    let found = writes_found c.args.tx c.args.table.now.entries c.in-Some.tracked (rising c.args.table.now.entries c.len-tracked.ensures.ordered) (sym c.in-Some.ensures.value) in
    let size : length (writes_in c.args.tx (listed_in c.args.table.now.entries)) ≡ c.len.result = ap length found ∙ sym (c.len.ensures ∙ c.in-Some.tracked.writes.ok.0) in
    omega (arith, less, size)
