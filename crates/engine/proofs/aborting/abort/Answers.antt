use Rattle.std.proofs.Common.{ℕ, ap, subst}
use Rattle.front.specs.Seen.{PassSeen}
use Rattle.wal_record.specs.declared.entry.Entry.{Entry}
use Rattle.page_ops.specs.Claims.{no_claims}
use Rattle.rollback.specs.Endings.{RollsOver}
use Rattle.rollback.specs.Rolls.{standing}
use Rattle.engine.specs.Sittings.{Sitting}
use Rattle.engine.proofs.Aborted.{only_looked, refused_looked, rolled_looked}
use Rattle.engine.proofs.LockAsked.{root_made}
use Rattle.engine.proofs.aborting.abort.Goals as goal

pub roll_back-requires-clause-made : goal.roll_back-requires-clause-made
roll_back-requires-clause-made g c =
    root_made g.N.Life.opens c.see_owner.new.pass.log c.see_owner.ensures.seen.now.consistent

pub returns-then-session-clause-undone : goal.returns-then-session-clause-undone
returns-then-session-clause-undone g c =
    λ some. only_looked g.N.Life.opens g.N.Life.entries g.N.Life.session_entries g.N.Life.log_faults g.N.Life.made (g.P.Pages.desk c.args.pages.now) (g.P.Pages.desk c.args.pages.now) (g.J.Entering.account c.args.journal.now) (g.J.Entering.account c.why_ended.new.journal) (g.J.Entering.account c.why_ended.new.journal) c.args.session.now.seen c.why_ended.new.session.seen c.why_ended.new.session.seen no_claims no_claims c.why_ended.ensures.seen c.args.session.now.claim.tx

pub returns-then-session-clause-refused : goal.returns-then-session-clause-refused
returns-then-session-clause-refused g c =
    λ some. c.why_ended.ensures.refused (g.P.Pages.desk c.args.pages.now).faults

pub returns-clause-undone : goal.returns-clause-undone
returns-clause-undone g c =
    λ some. subst (λ (q : PassSeen Entry × ℕ). RollsOver g.N.Life.opens g.N.Life.entries g.N.Life.session_entries q.1 (standing (g.P.Pages.desk c.args.pages.now) (g.J.Entering.account c.args.journal.now) q.0) (standing (g.P.Pages.desk c.roll_back.new.pages) (g.J.Entering.account c.roll_back.new.journal) c.roll_back.new.pass)) (λ i. ((ap (λ (x : Sitting). x.seen) c.session.view_is) i, c.transaction-tx.ensures i)) (rolled_looked g.N.Life.opens g.N.Life.entries g.N.Life.session_entries g.N.Life.log_faults g.N.Life.made (g.P.Pages.desk c.args.pages.now) (g.P.Pages.desk c.roll_back.new.pages) (g.J.Entering.account c.args.journal.now) (g.J.Entering.account c.see_owner.new.journal) (g.J.Entering.account c.roll_back.new.journal) c.session.inside.pass c.see_owner.new.pass c.roll_back.new.pass _ _ c.see_owner.ensures.seen c.transaction-tx.result c.roll_back.ensures.gains)

pub returns-clause-refused : goal.returns-clause-refused
returns-clause-refused g c =
    λ some. refused_looked g.N.Life.opens g.N.Life.entries g.N.Life.session_entries g.N.Life.log_faults g.N.Life.made (g.P.Pages.desk c.args.pages.now) (g.P.Pages.desk c.roll_back.new.pages) (g.J.Entering.account c.args.journal.now) (g.J.Entering.account c.see_owner.new.journal) (g.J.Entering.account c.roll_back.new.journal) c.session.inside.pass c.see_owner.new.pass c.roll_back.new.pass _ _ c.see_owner.ensures.seen c.transaction-tx.result c.roll_back.result c.see_owner.ensures.calm.end c.roll_back.ensures.refused
