use Rattle.std.proofs.Common.{false, Option, Some, sym, subst}
use Rattle.wal_record.specs.declared.page.PageState.{PageState}
use Rattle.wal_record.specs.declared.record.Record.TheVariants as kinds
use Rattle.page_rows.specs.Redo.{Applied}
use Rattle.page_rows.proofs.Lifts.{split_made_ok, split_both, split_some, split_none}
use Rattle.page_rows.proofs.records.redo_split.Goals as goal

pub returns-then-page-entry-clause-done : goal.returns-then-page-entry-clause-done
returns-then-page-entry-clause-done c = split_made_ok c.args.entry.now c.args.page c.args.state.now c.make.new.state c.make.result c.requires.names c.if-page-entry.true c.requires.child.size c.make.ensures.done

pub returns-then-page-entry-2-clause-done : goal.returns-then-page-entry-2-clause-done
returns-then-page-entry-2-clause-done c = split_both c.args.entry.now c.args.page c.args.state.now c.if-page-entry.false c.if-page-entry-2.true

pub returns-in-Some-clause-done : goal.returns-in-Some-clause-done
returns-in-Some-clause-done c = subst (λ (o : Option PageState). Applied (kinds.Split c.args.entry.now) c.args.page o (Some c.split.new.state) c.split.result) (sym c.in-Some.is)
    (split_some c.args.entry.now c.args.page c.in-Some.state c.split.new.state c.split.result c.if-page-entry.false c.if-page-entry-2.false c.split.ensures)

pub returns-in-None-clause-done : goal.returns-in-None-clause-done
returns-in-None-clause-done c = subst (λ (o : Option PageState). Applied (kinds.Split c.args.entry.now) c.args.page o o false) (sym c.in-None.is) (split_none c.args.entry.now c.args.page c.if-page-entry.false c.if-page-entry-2.false)
