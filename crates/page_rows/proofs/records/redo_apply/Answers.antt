use Rattle.std.proofs.Common.{false, Option, Some, IfOk, sym, subst}
use Rattle.wal_record.specs.declared.page.PageState.{PageState}
use Rattle.wal_record.specs.declared.record.Record.TheVariants as kinds
use Rattle.page_rows.specs.Redo.{Applied}
use Rattle.page_rows.proofs.Lifts.{apply_some, apply_none}
use Rattle.page_rows.proofs.records.redo_apply.Goals as goal

pub returns-in-Some-clause-done : goal.returns-in-Some-clause-done
returns-in-Some-clause-done g c = subst (λ (o : Option PageState). IfOk c.apply.result (Applied (kinds.Apply c.args.entry.now) c.args.entry.now.page o (Some c.apply.new.state))) (sym c.in-Some.is)
    (apply_some c.args.entry.now c.args.entry.now.page c.in-Some.state c.apply.new.state c.apply.result c.apply.ensures.done)

pub returns-in-None-clause-done : goal.returns-in-None-clause-done
returns-in-None-clause-done g c = subst (λ (o : Option PageState). Applied (kinds.Apply c.args.entry.now) c.args.entry.now.page o o false) (sym c.in-None.is) (apply_none c.args.entry.now c.args.entry.now.page)
