use Rattle.std.proofs.Common.{◌≡◌, List, subst, sym}
use Rattle.std.specs.Prelude.{IfErr, OnErr}
use Rattle.books.specs.Rights.{SessionClaim}
use Rattle.wal_record.specs.declared.entry.Entry.{Entry}
use Rattle.engine.specs.Sittings.{Sitting}
use Rattle.page_ops.specs.Causes.{FailsToBring}
use Rattle.page_ops.proofs.Gaining.{keeps_then}
use Rattle.store_life.proofs.Looked.{again_alone, again_durable, again_ends, again_same, then_open, then_refused}
use Rattle.store_life.proofs.ending.abort_session.Goals as goal

pub returns-clause-alone : goal.returns-clause-alone
returns-clause-alone g c = again_alone g.N.Life.opens g.N.Life.entries g.N.Life.session_entries (g.J.Entering.account c.undo_session-ended.new.journal) (g.J.Entering.account c.see_session.new.journal) c.undo_session-ended.new.pass c.undo_session-ended.new.session c.see_session.new.session c.seen.result c.undo_session-ended.ensures.alone c.undo_session-ended.ensures.seen c.see_session.ensures.seen c.seen.ensures.seen

pub returns-clause-aborts : goal.returns-clause-aborts
returns-clause-aborts g c = again_ends g.N.Life.opens g.N.Life.entries g.N.Life.session_entries (g.J.Entering.account c.undo_session-ended.new.journal) (g.J.Entering.account c.see_session.new.journal) c.undo_session-ended.new.pass c.undo_session-ended.new.session c.see_session.new.session c.seen.result c.undo_session-ended.ensures.alone c.undo_session-ended.ensures.seen c.see_session.ensures.seen c.seen.ensures.seen c.args.session.now.claim.tx c.args.pass.now.log c.undo_session-ended.result c.requires.active c.see_session.ensures.claim c.undo_session-ended.ensures.stays c.undo_session-ended.ensures.aborts

pub returns-clause-durable : goal.returns-clause-durable
returns-clause-durable g c = again_durable g.N.Life.opens g.N.Life.entries g.N.Life.session_entries (g.J.Entering.account c.undo_session-ended.new.journal) (g.J.Entering.account c.see_session.new.journal) c.undo_session-ended.new.pass c.undo_session-ended.new.session c.see_session.new.session c.seen.result c.undo_session-ended.ensures.alone c.undo_session-ended.ensures.seen c.see_session.ensures.seen c.seen.ensures.seen c.args.pass.now.durable c.undo_session-ended.ensures.durable

pub returns-clause-stays : goal.returns-clause-stays
returns-clause-stays g c =
    subst (λ (s : Sitting). OnErr c.undo_session-ended.result (s.claim.tx ≡ c.args.session.now.claim.tx)) (sym c.seen.ensures.same)
    (subst (λ (s : SessionClaim). OnErr c.undo_session-ended.result (s.tx ≡ c.args.session.now.claim.tx)) (sym c.see_session.ensures.claim) c.undo_session-ended.ensures.stays)

pub returns-clause-open : goal.returns-clause-open
returns-clause-open g c = then_open (g.J.Entering.account c.args.journal.now) (g.J.Entering.account c.undo_session-ended.new.journal) (g.J.Entering.account c.see_session.new.journal) c.undo_session-ended.result c.see_session.ensures.calm.end c.undo_session-ended.ensures.open

pub returns-clause-refused : goal.returns-clause-refused
returns-clause-refused g c =
    subst (λ (l : List Entry). IfErr c.undo_session-ended.result (FailsToBring g.N.Life.opens g.N.Life.log_faults g.N.Life.made (g.P.Pages.desk c.args.pages.now).faults (g.P.Pages.desk c.undo_session-ended.new.pages).faults (g.J.Entering.account c.args.journal.now) (g.J.Entering.account c.see_session.new.journal) l)) (sym (again_same g.N.Life.opens g.N.Life.entries g.N.Life.session_entries (g.J.Entering.account c.undo_session-ended.new.journal) (g.J.Entering.account c.see_session.new.journal) c.undo_session-ended.new.pass c.undo_session-ended.new.session c.see_session.new.session c.seen.result c.undo_session-ended.ensures.alone c.undo_session-ended.ensures.seen c.see_session.ensures.seen c.seen.ensures.seen))
    (then_refused g.N.Life.opens g.N.Life.log_faults g.N.Life.made (g.P.Pages.desk c.args.pages.now).faults (g.P.Pages.desk c.undo_session-ended.new.pages).faults (g.J.Entering.account c.args.journal.now) (g.J.Entering.account c.undo_session-ended.new.journal) (g.J.Entering.account c.see_session.new.journal) c.see_session.ensures.calm.end c.undo_session-ended.new.pass.log c.undo_session-ended.result c.undo_session-ended.ensures.refused)

pub returns-clause-keeps : goal.returns-clause-keeps
returns-clause-keeps g c =
    keeps_then (g.J.Entering.account c.args.journal.now) (g.J.Entering.account c.undo_session-ended.new.journal) (g.J.Entering.account c.see_session.new.journal) c.undo_session-ended.ensures.keeps c.see_session.ensures.seen.keeps
