use Rattle.std.proofs.Common.{◌∙◌}
use Rattle.journal.proofs.Analysed.{ok_map}
use Rattle.journal.proofs.Losing.{left_told}
use Rattle.journal.proofs.Calls.{history_is}
use Rattle.journal.proofs.journal.Journal.losers.Goals as goal

pub returns : goal.returns
returns g c opening stands = ok_map c.left.result _ _ (λ txs all. all ∙ left_told g.N.Life.opens c.self.inside.history c.args.self.now.history c.self.inside.losers c.self.invariant.3 (history_is _ _ c.self.view_is) opening stands) c.left.ensures
