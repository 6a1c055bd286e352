use Rattle.std.proofs.Common.{Some, None, sym, ap, ◌∙◌}
use Rattle.loser_laws.proofs.Tables.{first_left}
use Rattle.page_ops.specs.Outcomes.{first_of}
use Rattle.journal.proofs.Losing.{left_told}
use Rattle.journal.proofs.Calls.{history_is}
use Rattle.journal.proofs.journal.Journal.least_loser.Goals as goal

pub returns-in-Some : goal.returns-in-Some
returns-in-Some g c opening stands =
    sym (first_left c.self.inside.losers (Some c.in-Some.loser) c.in-Some.ensures) ∙ ap first_of (left_told g.N.Life.opens c.self.inside.history c.args.self.now.history c.self.inside.losers c.self.invariant.3 (history_is _ _ c.self.view_is) opening stands)

pub returns-in-None : goal.returns-in-None
returns-in-None g c opening stands =
    sym (first_left c.self.inside.losers None c.in-None.ensures) ∙ ap first_of (left_told g.N.Life.opens c.self.inside.history c.args.self.now.history c.self.inside.losers c.self.invariant.3 (history_is _ _ c.self.view_is) opening stands)
