use Rattle.std.proofs.Common.{ap, sym, ◌∙◌, refl}
use Rattle.std.specs.Ordering.{nat_cmp}
use Rattle.std.specs.BTreeMap.{insert_entry}
use Rattle.wal_record.specs.OpenWrites.{has_items}
use Rattle.log_index.specs.Table.{Table, listed_in}
use Rattle.log_index.specs.declared.table.Tracked.{Tracked}
use Rattle.log_index.proofs.Tables.{roomier, prepared}
use Rattle.log_index.proofs.table.prepare.Goals as goal

pub returns-in-Some-clause-listed : goal.returns-in-Some-clause-listed
returns-in-Some-clause-listed c =
    let w : Tracked = record { last = c.in-Some.found.now.last; writes = c.reserve.new.self } in
    ap listed_in (c.get_mut.follows.holds w).0
    ∙ roomier c.args.tx c.args.table.now.entries c.in-Some.ensures.ordered c.in-Some.found.now w (sym c.in-Some.ensures.value) refl c.reserve.ensures.items

pub returns-clause-listed : goal.returns-clause-listed
returns-clause-listed c =
    ap listed_in (c.in_ok-insert.ensures.entries ∙ ap (λ (m : Table). insert_entry nat_cmp m.entries c.args.tx (record { last = 0; writes = c.in_ok-writes.writes })) c.get_mut.follows.holds-at-none)
    ∙ prepared c.args.tx c.args.table.now.entries (record { last = 0; writes = c.in_ok-writes.writes }) (ap has_items c.in_ok-writes.ensures.items) (sym c.in_default.ensures.value)
