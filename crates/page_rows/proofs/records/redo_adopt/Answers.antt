use Rattle.std.proofs.Common.{false, Option, Some, IfOk, sym, subst}
use Rattle.wal_record.specs.declared.page.PageState.{PageState}
use Rattle.wal_record.specs.declared.record.Record.TheVariants as kinds
use Rattle.page_rows.specs.Redo.{Applied}
use Rattle.page_rows.proofs.Lifts.{adopt_given, adopt_both, take_some, take_none}
use Rattle.page_rows.proofs.records.redo_adopt.Goals as goal

pub returns-then-page-entry-clause-done : goal.returns-then-page-entry-clause-done
returns-then-page-entry-clause-done c = adopt_given c.args.entry.now c.args.page c.args.state.now c.redo_giving.new.state c.redo_giving.result c.requires.names c.if-page-entry.true c.redo_giving.ensures

pub returns-then-page-entry-2-clause-done : goal.returns-then-page-entry-2-clause-done
returns-then-page-entry-2-clause-done c = adopt_both c.args.entry.now c.args.page c.args.state.now c.if-page-entry.false c.if-page-entry-2.true

pub returns-in-Some-clause-done : goal.returns-in-Some-clause-done
returns-in-Some-clause-done c = subst (λ (o : Option PageState). IfOk c.take_child.result (Applied (kinds.Adopt c.args.entry.now) c.args.page o (Some c.take_child.new.state))) (sym c.in-Some.is)
    (take_some c.args.entry.now c.args.page c.in-Some.state c.take_child.new.state c.take_child.result c.if-page-entry.false c.if-page-entry-2.false c.take_child.ensures.done)

pub returns-in-None-clause-done : goal.returns-in-None-clause-done
returns-in-None-clause-done c = subst (λ (o : Option PageState). Applied (kinds.Adopt c.args.entry.now) c.args.page o o false) (sym c.in-None.is) (take_none c.args.entry.now c.args.page c.if-page-entry.false c.if-page-entry-2.false)
