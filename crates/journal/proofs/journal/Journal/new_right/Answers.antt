use Rattle.journal.proofs.Grouping.{headless}
use Rattle.journal.proofs.journal.Journal.new_right.Goals as goal

pub take_right-requires-clause-fresh : goal.take_right-requires-clause-fresh
take_right-requires-clause-fresh g c opening stands = headless g.N.Life.opens c.args.self.now.history c.requires.consistent opening stands _ (c.in_ok-page.ensures.next opening stands)
