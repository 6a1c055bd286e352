use Rattle.std.proofs.Common.{false, Option, Some, IfOk, sym, subst}
use Rattle.wal_record.specs.declared.page.PageState.{PageState}
use Rattle.wal_record.specs.declared.record.Record.TheVariants as kinds
use Rattle.page_rows.specs.Redo.{Applied}
use Rattle.page_rows.proofs.Lifts.{grow_made_ok, grow_some, grow_none}
use Rattle.page_rows.proofs.records.redo_grow.Goals as goal

pub returns-then-page-ne1-clause-done : goal.returns-then-page-ne1-clause-done
returns-then-page-ne1-clause-done c = grow_made_ok c.args.entry.now c.args.page c.args.state.now c.make.new.state c.make.result c.requires.names c.if-page-ne1.true c.requires.child.size c.make.ensures.done

pub returns-in-Some-clause-done : goal.returns-in-Some-clause-done
returns-in-Some-clause-done c = subst (λ (o : Option PageState). IfOk c.grow.result (Applied (kinds.Grow c.args.entry.now) c.args.page o (Some c.grow.new.state))) (sym c.in-Some.is)
    (grow_some c.args.entry.now c.args.page c.in-Some.state c.grow.new.state c.grow.result c.if-page-ne1.false c.requires.other c.grow.ensures.done)

pub returns-in-None-clause-done : goal.returns-in-None-clause-done
returns-in-None-clause-done c = subst (λ (o : Option PageState). Applied (kinds.Grow c.args.entry.now) c.args.page o o false) (sym c.in-None.is) (grow_none c.args.entry.now c.args.page c.if-page-ne1.false c.requires.other)
