use Rattle.journal.proofs.Calls.{knows_untouched, learnt_same}
use Rattle.own_journal.proofs.Telling.{calm_told, enters_same}
use Rattle.page_ops.specs.Claims.{no_claims}
use Rattle.std.specs.Prelude.{[]}
use Rattle.own_journal.proofs.own.OwnJournalEntering.pending.Goals as goal

pub invariant_of-self : goal.invariant_of-self
invariant_of-self g c = record { knows = knows_untouched c.args.self.now.counts c.pending.new.counts c.args.self.now.journal c.pending.new.self c.args.self.now.knows c.pending.ensures.disk (learnt_same _ _ _ c.pending.ensures.counts) }

pub returns-clause-seen : goal.returns-clause-seen
returns-clause-seen g c = enters_same g.N.Life.opens g.N.Life.entries g.N.Life.session_entries c.args.self.now.counts c.pending.new.counts c.args.self.now.journal c.pending.new.self c.args.pass.now c.pending.new.pass no_claims no_claims [] c.pending.ensures.counts c.pending.ensures.disk c.pending.ensures.seen

pub returns-clause-calm : goal.returns-clause-calm
returns-clause-calm g c = calm_told c.args.self.now.counts c.pending.new.counts c.args.self.now.journal.calls c.pending.new.self.calls c.pending.ensures.counts
