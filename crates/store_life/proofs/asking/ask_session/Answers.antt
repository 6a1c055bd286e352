use Rattle.std.proofs.Common.{subst, sym}
use Rattle.std.specs.Prelude.{IfErr}
use Rattle.front.specs.Seen.{PassSeen}
use Rattle.wal_record.specs.declared.entry.Entry.{Entry}
use Rattle.page_ops.specs.Outcomes.{IsConflict}
use Rattle.rollback.specs.Rolls.{standing}
use Rattle.engine.specs.Answers.{FailsToAsk}
use Rattle.engine.specs.Applies.{GivesNone}
use Rattle.engine.specs.Requests.{IsRefusal, lock_of}
use Rattle.engine.specs.Writes.{LacksRoom}
use Rattle.store_life.proofs.Asked.{alone_for, asks_for, later_for, told_for}
use Rattle.store_life.proofs.asking.ask_session.Goals as goal

pub returns-clause-alone : goal.returns-clause-alone
returns-clause-alone g c =
    alone_for g.N.Life.opens g.N.Life.entries g.N.Life.session_entries c.args.session.now.claim c.meet.new.self.claim c.meet.ensures.claim c.args.request c.ask-answered.result (standing (g.P.Pages.desk c.args.pages.now) (g.J.Entering.account c.args.journal.now) c.meet.new.self.seen) (standing (g.P.Pages.desk c.ask-answered.new.pages) (g.J.Entering.account c.ask-answered.new.journal) c.ask-answered.new.session.seen) c.seen.result c.seen.ensures.seen c.args.pass.now.log c.requires.alone c.meet.ensures.other c.ask-answered.ensures.answers

pub returns-clause-asks : goal.returns-clause-asks
returns-clause-asks g c =
    asks_for g.N.Life.opens g.N.Life.entries g.N.Life.session_entries c.args.session.now.claim c.meet.new.self.claim c.meet.ensures.claim c.args.request c.ask-answered.result (standing (g.P.Pages.desk c.args.pages.now) (g.J.Entering.account c.args.journal.now) c.meet.new.self.seen) (standing (g.P.Pages.desk c.ask-answered.new.pages) (g.J.Entering.account c.ask-answered.new.journal) c.ask-answered.new.session.seen) c.seen.result c.seen.ensures.seen c.args.pass.now.log c.requires.alone c.meet.ensures.other c.ask-answered.ensures.answers

pub returns-clause-told : goal.returns-clause-told
returns-clause-told g c =
    told_for g.N.Life.opens g.N.Life.entries g.N.Life.session_entries c.args.session.now.claim c.meet.new.self.claim c.meet.ensures.claim c.args.request c.ask-answered.result (standing (g.P.Pages.desk c.args.pages.now) (g.J.Entering.account c.args.journal.now) c.meet.new.self.seen) (standing (g.P.Pages.desk c.ask-answered.new.pages) (g.J.Entering.account c.ask-answered.new.journal) c.ask-answered.new.session.seen) c.seen.result c.seen.ensures.seen c.args.pass.now.log c.requires.alone c.meet.ensures.other c.ask-answered.ensures.answers c.ask-answered.ensures.said

pub returns-clause-durable : goal.returns-clause-durable
returns-clause-durable g c =
    later_for g.N.Life.opens g.N.Life.entries g.N.Life.session_entries c.args.session.now.claim c.meet.new.self.claim c.meet.ensures.claim c.args.request c.ask-answered.result (standing (g.P.Pages.desk c.args.pages.now) (g.J.Entering.account c.args.journal.now) c.meet.new.self.seen) (standing (g.P.Pages.desk c.ask-answered.new.pages) (g.J.Entering.account c.ask-answered.new.journal) c.ask-answered.new.session.seen) c.seen.result c.seen.ensures.seen c.args.pass.now.log c.requires.alone c.meet.ensures.other c.ask-answered.ensures.answers c.args.pass.now.durable c.meet.ensures.durable.1

pub returns-clause-conflict : goal.returns-clause-conflict
returns-clause-conflict g c = subst (λ (p : PassSeen Entry). IfErr c.ask-answered.result (IsConflict g.N.Life.opens p.log (lock_of c.args.request))) (sym c.seen.ensures.seen) c.ask-answered.ensures.conflict

pub returns-clause-full : goal.returns-clause-full
returns-clause-full g c = subst (λ (p : PassSeen Entry). IfErr c.ask-answered.result (LacksRoom g.N.Life.opens p.log)) (sym c.seen.ensures.seen) c.ask-answered.ensures.full

pub returns-clause-gives_none : goal.returns-clause-gives_none
returns-clause-gives_none g c = subst (λ (p : PassSeen Entry). IfErr c.ask-answered.result (GivesNone g.N.Life.opens c.args.request p.log)) (sym c.seen.ensures.seen) c.ask-answered.ensures.gives_none

pub returns-clause-refused : goal.returns-clause-refused
returns-clause-refused g c =
    subst (λ (p : PassSeen Entry). IfErr c.ask-answered.result (FailsToAsk (IsRefusal c.args.request) g.N.Life.opens g.N.Life.log_faults g.N.Life.made (g.P.Pages.desk c.args.pages.now).faults (g.P.Pages.desk c.ask-answered.new.pages).faults (g.J.Entering.account c.args.journal.now) (g.J.Entering.account c.ask-answered.new.journal) p.log)) (sym c.seen.ensures.seen) c.ask-answered.ensures.refused
