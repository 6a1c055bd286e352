use Rattle.std.proofs.Common.{false, Option, Some, sym, subst}
use Rattle.wal_record.specs.declared.page.PageState.{PageState}
use Rattle.page_rows.specs.Redo.{OnImage}
use Rattle.page_rows.proofs.Lifts.{on_some, on_none}
use Rattle.wal_record.specs.Images.{CanGiveChild, without_foster}
use Rattle.page_rows.proofs.records.redo_giving.Goals as goal

pub returns-in-Some : goal.returns-in-Some
returns-in-Some c = subst (λ (o : Option PageState). OnImage (CanGiveChild c.args.entry.now) (without_foster c.args.entry.now) o (Some c.give_child.new.state) c.give_child.result) (sym c.in-Some.is)
    (on_some (CanGiveChild c.args.entry.now) (without_foster c.args.entry.now) c.in-Some.state c.give_child.new.state c.give_child.result c.give_child.ensures)

pub returns-in-None : goal.returns-in-None
returns-in-None c = subst (λ (o : Option PageState). OnImage (CanGiveChild c.args.entry.now) (without_foster c.args.entry.now) o o false) (sym c.in-None.is) (on_none (CanGiveChild c.args.entry.now) (without_foster c.args.entry.now))
