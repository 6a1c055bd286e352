use Rattle.std.proofs.Common.{Err, Ok, ap, subst}
use Rattle.front.specs.Seen.{PassSeen}
use Rattle.store_model.specs.Range.{Interval}
use Rattle.store_model.specs.declared.range.Mode.TheVariants.{Shared}
use Rattle.store_model.specs.declared.request.Request.TheVariants as requests
use Rattle.wal_record.specs.Legal.{held}
use Rattle.wal_record.specs.declared.entry.Entry.{Entry}
use Rattle.rollback.specs.Rolls.{standing}
use Rattle.engine.specs.Answers.{Locks}
use Rattle.engine.specs.Completes.{CompletesFor}
use Rattle.engine.specs.Sittings.{Sitting}
use Rattle.engine.proofs.Whole.{answers_all, answers_refused, ask_refused}
use Rattle.engine.proofs.asking.get.Goals as goal

pub returns-in-Ok-clause-answers : goal.returns-in-Ok-clause-answers
returns-in-Ok-clause-answers g c =
    λ some.
    let locks = subst (λ (r : Interval). Locks g.N.Life.opens g.N.Life.entries g.N.Life.session_entries c.args.session.now.claim.tx (held r Shared) (Ok c.in-Ok.field-0) (standing (g.P.Pages.desk c.args.pages.now) (g.J.Entering.account c.args.journal.now) c.args.session.now.seen) (standing (g.P.Pages.desk c.lock_for.new.pages) (g.J.Entering.account c.lock_for.new.journal) c.lock_for.new.session.seen)) c.point.ensures c.in-Ok.ensures.locks in
    let completes = subst (λ (p : PassSeen Entry). CompletesFor g.N.Life.opens g.N.Life.entries g.N.Life.session_entries c.session.inside.right (requests.Get c.args.key.now) c.get_locked.result (standing (g.P.Pages.desk c.lock_for.new.pages) (g.J.Entering.account c.lock_for.new.journal) p) (standing (g.P.Pages.desk c.get_locked.new.pages) (g.J.Entering.account c.get_locked.new.journal) c.get_locked.new.pass)) (ap (λ (x : Sitting). x.seen) c.session.view_is) c.get_locked.ensures.answers in
    answers_all g.N.Life.opens g.N.Life.entries g.N.Life.session_entries c.args.session.now.claim c.lock_for.new.session.claim (requests.Get c.args.key.now) c.in-Ok.field-0 c.session.inside.right c.session.invariant.there (ap (λ (x : Sitting). x.claim) c.session.view_is) c.in-Ok.ensures.right c.get_locked.result (standing (g.P.Pages.desk c.args.pages.now) (g.J.Entering.account c.args.journal.now) c.args.session.now.seen) (standing (g.P.Pages.desk c.lock_for.new.pages) (g.J.Entering.account c.lock_for.new.journal) c.lock_for.new.session.seen) (standing (g.P.Pages.desk c.get_locked.new.pages) (g.J.Entering.account c.get_locked.new.journal) c.get_locked.new.pass) locks completes

pub returns-in-Ok-clause-refused : goal.returns-in-Ok-clause-refused
returns-in-Ok-clause-refused g c =
    λ some. ask_refused g.N.Life.opens g.N.Life.log_faults g.N.Life.made (requests.Get c.args.key.now) (g.J.Entering.account c.args.journal.now) (g.J.Entering.account c.lock_for.new.journal) (g.J.Entering.account c.get_locked.new.journal) c.get_locked.new.pass.log c.in-Ok.ensures.open c.in-Ok.ensures.locks.gains.keeps (g.P.Pages.desk c.args.pages.now).faults (g.P.Pages.desk c.lock_for.new.pages).faults (g.P.Pages.desk c.get_locked.new.pages).faults c.get_locked.result c.in-Ok.ensures.locks.faults c.get_locked.ensures.refused

pub returns-in-Err-clause-answers : goal.returns-in-Err-clause-answers
returns-in-Err-clause-answers g c =
    λ some.
    let locks = subst (λ (r : Interval). Locks g.N.Life.opens g.N.Life.entries g.N.Life.session_entries c.args.session.now.claim.tx (held r Shared) (Err c.in-Err.fault) (standing (g.P.Pages.desk c.args.pages.now) (g.J.Entering.account c.args.journal.now) c.args.session.now.seen) (standing (g.P.Pages.desk c.lock_for.new.pages) (g.J.Entering.account c.lock_for.new.journal) c.lock_for.new.session.seen)) c.point.ensures c.in-Err.ensures.locks in
    answers_refused g.N.Life.opens g.N.Life.entries g.N.Life.session_entries g.N.Life.log_faults g.N.Life.made c.args.session.now.claim (requests.Get c.args.key.now) (g.P.Pages.desk c.args.pages.now).faults (g.P.Pages.desk c.lock_for.new.pages).faults (g.J.Entering.account c.args.journal.now) (g.J.Entering.account c.lock_for.new.journal) c.lock_for.new.session.seen.log c.in-Err.fault (standing (g.P.Pages.desk c.args.pages.now) (g.J.Entering.account c.args.journal.now) c.args.session.now.seen) (standing (g.P.Pages.desk c.lock_for.new.pages) (g.J.Entering.account c.lock_for.new.journal) c.lock_for.new.session.seen) c.in-Err.ensures.refused locks
