use Rattle.std.proofs.Common.{◌+◌, length, arith, sym, ap, ◌∙◌}
use Rattle.page_ops.specs.Groups.{said_entries}
use Rattle.life_history.proofs.Grouped.{group_longer}
use Rattle.life_history.proofs.raising.entries_of.Goals as goal

pub returns-in-Some-clause-value : goal.returns-in-Some-clause-value
returns-in-Some-clause-value c lsn = sym (group_longer lsn c.args.recs.now c.args.said.now ∙ ap (λ o. length c.args.recs.now + length (said_entries o)) c.in-Some.is)

pub returns-in-None-clause-value : goal.returns-in-None-clause-value
returns-in-None-clause-value c lsn = let e = group_longer lsn c.args.recs.now c.args.said.now ∙ ap (λ o. length c.args.recs.now + length (said_entries o)) c.in-None.is in omega (arith, e)
