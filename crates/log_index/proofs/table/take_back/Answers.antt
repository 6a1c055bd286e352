use Rattle.std.proofs.Common.{◌≡◌, ◌+◌, Bool, cond, ap, sym, ◌∙◌, rules, vec_len}
use Rattle.wal_record.specs.OpenWrites.{has_items}
use Rattle.listing_laws.specs.Summary.{writes_in, pending_in}
use Rattle.log_index.specs.Table.{listed_in}
use Rattle.log_index.specs.declared.table.Tracked.{Tracked}
use Rattle.log_index.proofs.Tables.{writes_less, popped, popped_some, writes_found, rising}
use Rattle.log_index.proofs.Counting.{one_less}
use Rattle.log_index.proofs.table.take_back.Goals as goal

pub returns-clause-listed : goal.returns-clause-listed
returns-clause-listed c =
    let w : Tracked = record { last = c.args.lsn; writes = c.pop.new.self } in
    ap listed_in (c.get_mut.follows.holds w).0
    ∙ writes_less c.args.tx c.args.table.now.entries c.in-Some.ensures.ordered c.in-Some.found.now w (sym c.in-Some.ensures.value)
    (popped c.in-Some.found.now.writes.items c.pop.new.self.items (vec_len c.in-Some.found.now.writes) c.pop.result c.pop.ensures.items (search rules) c.pop.ensures.rest)

pub returns-clause-pending : goal.returns-clause-pending
returns-clause-pending c =
    let w : Tracked = record { last = c.args.lsn; writes = c.pop.new.self } in
    let less = one_less c.args.table.now.entries c.in-Some.ensures.ordered c.args.lsn c.args.tx (listed_in (c.get_mut.follows.lender w).entries) (returns-clause-listed c) in
    let found = writes_found c.args.tx c.args.table.now.entries c.in-Some.found.now (rising c.args.table.now.entries c.in-Some.ensures.ordered) (sym c.in-Some.ensures.value) in
    let was : has_items (writes_in c.args.tx (listed_in c.args.table.now.entries)) ≡ c.is_some.result =
    ap has_items found
    ∙ popped_some c.in-Some.found.now.writes.items c.pop.new.self.items (vec_len c.in-Some.found.now.writes) c.pop.result c.pop.ensures.items (search rules) c.pop.ensures.rest
    ∙ sym c.is_some.ensures in
    ap (λ (b : Bool). pending_in (listed_in (c.get_mut.follows.lender w).entries) + cond b 1 0) (sym was) ∙ less
