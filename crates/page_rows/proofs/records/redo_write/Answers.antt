use Rattle.std.proofs.Common.{false, Option, Some, IfOk, sym, subst}
use Rattle.wal_record.specs.declared.page.PageState.{PageState}
use Rattle.wal_record.specs.declared.record.Record.TheVariants as kinds
use Rattle.page_rows.specs.Redo.{Applied}
use Rattle.page_rows.proofs.Lifts.{write_some, write_none}
use Rattle.page_rows.proofs.records.redo_write.Goals as goal

pub returns-in-Some-clause-done : goal.returns-in-Some-clause-done
returns-in-Some-clause-done c = subst (λ (o : Option PageState). IfOk c.write.result (Applied (kinds.Write c.args.entry.now) c.args.entry.now.page o (Some c.write.new.state))) (sym c.in-Some.is)
    (write_some c.args.entry.now c.args.entry.now.page c.in-Some.state c.write.new.state c.write.result c.write.ensures.done)

pub returns-in-None-clause-done : goal.returns-in-None-clause-done
returns-in-None-clause-done c = subst (λ (o : Option PageState). Applied (kinds.Write c.args.entry.now) c.args.entry.now.page o o false) (sym c.in-None.is) (write_none c.args.entry.now c.args.entry.now.page)
