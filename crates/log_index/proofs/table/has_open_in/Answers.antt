use Rattle.std.proofs.Common.{◌∙◌, ap, sym}
use Rattle.std.specs.List.{list_any}
use Rattle.store_model.specs.Range.{has_key}
use Rattle.wal_record.specs.declared.record.OpenWrite.{OpenWrite}
use Rattle.log_index.proofs.Tables.{writes_found, not_found, rising}
use Rattle.log_index.proofs.table.has_open_in.Goals as goal

pub returns-in-Some : goal.returns-in-Some
returns-in-Some c =
    c.any_in.ensures
    ∙ ap (list_any (λ (w : OpenWrite). has_key c.args.range.now w.key)) (c.deref.ensures.value ∙ sym (writes_found c.args.tx c.args.table.now.entries c.in-Some.found.now (rising c.args.table.now.entries c.len-tracked.ensures.ordered) (sym c.in-Some.ensures.value)))

pub returns-in-None : goal.returns-in-None
returns-in-None c = sym (ap (list_any (λ (w : OpenWrite). has_key c.args.range.now w.key)) (not_found c.args.tx c.args.table.now.entries (sym c.in-None.ensures.value)))
