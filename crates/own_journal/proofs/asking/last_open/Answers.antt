use Rattle.std.proofs.Common.{ap, ◌∙◌}
use Rattle.std.specs.Prelude.{Ok}
use Rattle.page_ops.specs.declared.outcome.Found.{Found}
use Rattle.own_journal.proofs.Asked.{none_last, read_last}
use Rattle.own_journal.proofs.asking.last_open.Goals as goal

pub returns-in-Ok-clause-last : goal.returns-in-Ok-clause-last
returns-in-Ok-clause-last g c =
    none_last g.N.Life.opens c.look.new.pass _ c.look.ensures.pass c.args.tx c.undo_next-lsn.result c.if-lsn-eq0.true (λ opening stands. c.undo_next-lsn.ensures _ (c.listing.ensures.listing opening stands) (c.listing.ensures.lawful opening stands))

pub returns-in-Ok-Record-clause-last : goal.returns-in-Ok-Record-clause-last
returns-in-Ok-Record-clause-last g c =
    (read_last g.N.Life.opens c.read.new.pass _ c.read.ensures.pass c.args.tx c.undo_next-lsn.result c.in-Ok-Record.found c.read.result (c.in-Ok-Record.is ∙ ap (λ (f : Found). Ok f) c.in-Ok-Record.field-0-is) c.read.ensures.found (λ opening stands. c.undo_next-lsn.ensures _ (c.listing.ensures.listing opening stands) (c.listing.ensures.lawful opening stands))).1
