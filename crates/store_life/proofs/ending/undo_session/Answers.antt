use Rattle.std.proofs.Common.{◌≡◌, subst, sym}
use Rattle.std.specs.Prelude.{OnErr}
use Rattle.books.specs.Rights.{SessionClaim}
use Rattle.engine.specs.Sittings.{Sitting}
use Rattle.store_life.proofs.Aborted.{abort_alone_for, abort_durable_for, abort_faults_for, abort_keeps_for, aborts_for, open_then, refused_for}
use Rattle.store_life.proofs.ending.undo_session.Goals as goal

pub returns-clause-alone : goal.returns-clause-alone
returns-clause-alone g c =
    abort_alone_for g.N.Life.opens g.N.Life.entries g.N.Life.session_entries g.N.Life.log_faults g.N.Life.made c.args.session.now.claim c.meet.new.self c.see_session.new.session c.abort-ended.new.session (g.P.Pages.desk c.args.pages.now) (g.P.Pages.desk c.abort-ended.new.pages) (g.J.Entering.account c.args.journal.now) (g.J.Entering.account c.see_session.new.journal) (g.J.Entering.account c.abort-ended.new.journal) c.meet.ensures.claim c.see_session.ensures.claim c.args.pass.now.log c.requires.alone c.meet.ensures.other c.see_session.ensures.seen c.requires.active c.seen.result c.seen.ensures.seen c.abort-ended.result c.abort-ended.ensures.undone

pub returns-clause-aborts : goal.returns-clause-aborts
returns-clause-aborts g c =
    aborts_for g.N.Life.opens g.N.Life.entries g.N.Life.session_entries g.N.Life.log_faults g.N.Life.made c.args.session.now.claim c.meet.new.self c.see_session.new.session c.abort-ended.new.session (g.P.Pages.desk c.args.pages.now) (g.P.Pages.desk c.abort-ended.new.pages) (g.J.Entering.account c.args.journal.now) (g.J.Entering.account c.see_session.new.journal) (g.J.Entering.account c.abort-ended.new.journal) c.meet.ensures.claim c.see_session.ensures.claim c.args.pass.now.log c.requires.alone c.meet.ensures.other c.see_session.ensures.seen c.requires.active c.seen.result c.seen.ensures.seen c.abort-ended.result c.abort-ended.ensures.undone c.abort-ended.ensures.ended

pub returns-clause-durable : goal.returns-clause-durable
returns-clause-durable g c =
    abort_durable_for g.N.Life.opens g.N.Life.entries g.N.Life.session_entries g.N.Life.log_faults g.N.Life.made c.args.session.now.claim c.meet.new.self c.see_session.new.session c.abort-ended.new.session (g.P.Pages.desk c.args.pages.now) (g.P.Pages.desk c.abort-ended.new.pages) (g.J.Entering.account c.args.journal.now) (g.J.Entering.account c.see_session.new.journal) (g.J.Entering.account c.abort-ended.new.journal) c.meet.ensures.claim c.see_session.ensures.claim c.args.pass.now.log c.requires.alone c.meet.ensures.other c.see_session.ensures.seen c.requires.active c.seen.result c.seen.ensures.seen c.abort-ended.result c.abort-ended.ensures.undone c.args.pass.now.durable c.meet.ensures.durable.1

pub returns-clause-stays : goal.returns-clause-stays
returns-clause-stays g c =
    subst (λ (s : Sitting). OnErr c.abort-ended.result (s.claim.tx ≡ c.args.session.now.claim.tx)) (sym c.seen.ensures.same)
    (subst (λ (s : SessionClaim). OnErr c.abort-ended.result (c.abort-ended.new.session.claim.tx ≡ s.tx)) c.meet.ensures.claim (subst (λ (s : SessionClaim). OnErr c.abort-ended.result (c.abort-ended.new.session.claim.tx ≡ s.tx)) c.see_session.ensures.claim c.abort-ended.ensures.stays))

pub returns-clause-open : goal.returns-clause-open
returns-clause-open g c = open_then (g.J.Entering.account c.args.journal.now) (g.J.Entering.account c.see_session.new.journal) (g.J.Entering.account c.abort-ended.new.journal) c.abort-ended.result c.see_session.ensures.calm.end c.abort-ended.ensures.open

pub returns-clause-refused : goal.returns-clause-refused
returns-clause-refused g c =
    refused_for g.N.Life.opens g.N.Life.entries g.N.Life.session_entries g.N.Life.log_faults g.N.Life.made c.args.session.now.claim c.meet.new.self c.see_session.new.session c.abort-ended.new.session (g.P.Pages.desk c.args.pages.now) (g.P.Pages.desk c.abort-ended.new.pages) (g.J.Entering.account c.args.journal.now) (g.J.Entering.account c.see_session.new.journal) (g.J.Entering.account c.abort-ended.new.journal) c.meet.ensures.claim c.see_session.ensures.claim c.args.pass.now.log c.requires.alone c.meet.ensures.other c.see_session.ensures.seen c.requires.active c.seen.result c.seen.ensures.seen c.abort-ended.result c.abort-ended.ensures.undone c.see_session.ensures.calm.end c.abort-ended.ensures.refused

pub returns-clause-keeps : goal.returns-clause-keeps
returns-clause-keeps g c =
    abort_keeps_for g.N.Life.opens g.N.Life.entries g.N.Life.session_entries g.N.Life.log_faults g.N.Life.made c.args.session.now.claim c.meet.new.self c.see_session.new.session c.abort-ended.new.session (g.P.Pages.desk c.args.pages.now) (g.P.Pages.desk c.abort-ended.new.pages) (g.J.Entering.account c.args.journal.now) (g.J.Entering.account c.see_session.new.journal) (g.J.Entering.account c.abort-ended.new.journal) c.meet.ensures.claim c.see_session.ensures.claim c.args.pass.now.log c.requires.alone c.meet.ensures.other c.see_session.ensures.seen c.requires.active c.seen.result c.seen.ensures.seen c.abort-ended.result c.abort-ended.ensures.undone

pub returns-clause-faults : goal.returns-clause-faults
returns-clause-faults g c =
    abort_faults_for g.N.Life.opens g.N.Life.entries g.N.Life.session_entries g.N.Life.log_faults g.N.Life.made c.args.session.now.claim c.meet.new.self c.see_session.new.session c.abort-ended.new.session (g.P.Pages.desk c.args.pages.now) (g.P.Pages.desk c.abort-ended.new.pages) (g.J.Entering.account c.args.journal.now) (g.J.Entering.account c.see_session.new.journal) (g.J.Entering.account c.abort-ended.new.journal) c.meet.ensures.claim c.see_session.ensures.claim c.args.pass.now.log c.requires.alone c.meet.ensures.other c.see_session.ensures.seen c.requires.active c.seen.result c.seen.ensures.seen c.abort-ended.result c.abort-ended.ensures.undone
