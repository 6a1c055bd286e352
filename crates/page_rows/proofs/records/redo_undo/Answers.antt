use Rattle.std.proofs.Common.{false, Option, Some, IfOk, sym, subst}
use Rattle.wal_record.specs.declared.page.PageState.{PageState}
use Rattle.wal_record.specs.declared.record.Record.TheVariants as kinds
use Rattle.page_rows.specs.Redo.{Applied}
use Rattle.page_rows.proofs.Lifts.{undo_some, undo_none}
use Rattle.page_rows.proofs.records.redo_undo.Goals as goal

pub returns-in-Some-clause-done : goal.returns-in-Some-clause-done
returns-in-Some-clause-done c = subst (λ (o : Option PageState). IfOk c.undo.result (Applied (kinds.Undo c.args.entry.now) c.args.entry.now.page o (Some c.undo.new.state))) (sym c.in-Some.is)
    (undo_some c.args.entry.now c.args.entry.now.page c.in-Some.state c.undo.new.state c.undo.result c.undo.ensures.done)

pub returns-in-None-clause-done : goal.returns-in-None-clause-done
returns-in-None-clause-done c = subst (λ (o : Option PageState). Applied (kinds.Undo c.args.entry.now) c.args.entry.now.page o o false) (sym c.in-None.is) (undo_none c.args.entry.now c.args.entry.now.page)
