use Rattle.std.proofs.Common.{◌∙◌, ap, sym}
use Rattle.wal_record.specs.Checkpoints.{last_open}
use Rattle.log_index.proofs.Tables.{writes_found, not_found, rising}
use Rattle.log_index.proofs.table.undo_next.Goals as goal

pub returns-in-Some : goal.returns-in-Some
returns-in-Some c =
    c.last_open.ensures
    ∙ ap last_open (c.deref.ensures.value ∙ sym (writes_found c.args.tx c.args.table.now.entries c.in-Some.found.now (rising c.args.table.now.entries c.len-tracked.ensures.ordered) (sym c.in-Some.ensures.value)))

pub returns-in-None : goal.returns-in-None
returns-in-None c = sym (ap last_open (not_found c.args.tx c.args.table.now.entries (sym c.in-None.ensures.value)))
