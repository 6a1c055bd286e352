use Rattle.std.proofs.Common.{false, Option, Some, sym, subst}
use Rattle.wal_record.specs.declared.page.PageState.{PageState}
use Rattle.page_rows.specs.Redo.{OnImage}
use Rattle.page_rows.proofs.Lifts.{on_some, on_none}
use Rattle.wal_record.specs.Images.{CanPurge, purged}
use Rattle.page_rows.proofs.records.redo_purge.Goals as goal

pub returns-in-Some : goal.returns-in-Some
returns-in-Some c = subst (λ (o : Option PageState). OnImage CanPurge purged o (Some c.purge.new.state) c.purge.result) (sym c.in-Some.is) (on_some CanPurge purged c.in-Some.state c.purge.new.state c.purge.result c.purge.ensures)

pub returns-in-None : goal.returns-in-None
returns-in-None c = subst (λ (o : Option PageState). OnImage CanPurge purged o o false) (sym c.in-None.is) (on_none CanPurge purged)
