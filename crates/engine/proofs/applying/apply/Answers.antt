use Rattle.std.proofs.Common.{Err, Ok, ap, refl, subst}
use Rattle.front.specs.Seen.{PassSeen}
use Rattle.store_model.specs.declared.request.Request.TheVariants as requests
use Rattle.wal_record.specs.declared.entry.Entry.{Entry}
use Rattle.rollback.specs.Rolls.{standing}
use Rattle.engine.specs.Applies.{OrDeclined}
use Rattle.engine.specs.Completes.{CompletesFor}
use Rattle.engine.specs.Requests.{IsRefusal, lock_of}
use Rattle.engine.specs.Sittings.{Sitting}
use Rattle.page_ops.specs.Causes.{OrConflict}
use Rattle.engine.proofs.Declined.{declined_may, gives_by}
use Rattle.engine.proofs.Whole.{answers_all, answers_refused, ask_fails_then, lock_lacks_none, never_conflicts, point_locks, said_all, seated_then}
use Rattle.engine.proofs.applying.apply.Goals as goal

pub returns-in-Ok-clause-answers : goal.returns-in-Ok-clause-answers
returns-in-Ok-clause-answers g c =
    λ some.
    let locks = point_locks g.N.Life.opens g.N.Life.entries g.N.Life.session_entries c.args.session.now.claim.tx (Ok c.in-Ok.field-0) c.args.key.now (lock_of (requests.Apply c.args.operator c.args.key.now c.args.argument)) c.point.result (standing (g.P.Pages.desk c.args.pages.now) (g.J.Entering.account c.args.journal.now) c.args.session.now.seen) (standing (g.P.Pages.desk c.lock_for.new.pages) (g.J.Entering.account c.lock_for.new.journal) c.lock_for.new.session.seen) refl c.point.ensures c.in-Ok.ensures.locks in
    let completes = subst (λ (p : PassSeen Entry). CompletesFor g.N.Life.opens g.N.Life.entries g.N.Life.session_entries c.session.inside.right (requests.Apply c.args.operator c.args.key.now c.args.argument) c.apply_locked.result (standing (g.P.Pages.desk c.lock_for.new.pages) (g.J.Entering.account c.lock_for.new.journal) p) (standing (g.P.Pages.desk c.apply_locked.new.pages) (g.J.Entering.account c.apply_locked.new.journal) c.apply_locked.new.pass)) (ap (λ (x : Sitting). x.seen) c.session.view_is) c.apply_locked.ensures.answers in
    answers_all g.N.Life.opens g.N.Life.entries g.N.Life.session_entries c.args.session.now.claim c.lock_for.new.session.claim (requests.Apply c.args.operator c.args.key.now c.args.argument) c.in-Ok.field-0 c.session.inside.right c.session.invariant.there (ap (λ (x : Sitting). x.claim) c.session.view_is) c.in-Ok.ensures.right c.apply_locked.result (standing (g.P.Pages.desk c.args.pages.now) (g.J.Entering.account c.args.journal.now) c.args.session.now.seen) (standing (g.P.Pages.desk c.lock_for.new.pages) (g.J.Entering.account c.lock_for.new.journal) c.lock_for.new.session.seen) (standing (g.P.Pages.desk c.apply_locked.new.pages) (g.J.Entering.account c.apply_locked.new.journal) c.apply_locked.new.pass) locks completes

pub returns-in-Ok-clause-said : goal.returns-in-Ok-clause-said
returns-in-Ok-clause-said g c =
    said_all g.N.Life.opens g.N.Life.entries g.N.Life.session_entries c.args.session.now.claim c.lock_for.new.session.claim (requests.Apply c.args.operator c.args.key.now c.args.argument) c.in-Ok.field-0 c.session.inside.right c.session.invariant.there (ap (λ (x : Sitting). x.claim) c.session.view_is) c.in-Ok.ensures.right c.apply_locked.result c.apply_locked.new.pass.log c.apply_locked.ensures.said

pub returns-in-Ok-clause-refused : goal.returns-in-Ok-clause-refused
returns-in-Ok-clause-refused g c =
    λ some. ask_fails_then OrDeclined (IsRefusal (requests.Apply c.args.operator c.args.key.now c.args.argument)) (declined_may c.args.operator c.args.key.now c.args.argument) g.N.Life.opens g.N.Life.log_faults g.N.Life.made (g.J.Entering.account c.args.journal.now) (g.J.Entering.account c.lock_for.new.journal) (g.J.Entering.account c.apply_locked.new.journal) c.apply_locked.new.pass.log c.in-Ok.ensures.open c.in-Ok.ensures.locks.gains.keeps (g.P.Pages.desk c.args.pages.now).faults (g.P.Pages.desk c.lock_for.new.pages).faults (g.P.Pages.desk c.apply_locked.new.pages).faults c.apply_locked.result c.in-Ok.ensures.locks.faults c.apply_locked.ensures.refused

pub returns-in-Ok-clause-conflict : goal.returns-in-Ok-clause-conflict
returns-in-Ok-clause-conflict g c =
    never_conflicts OrDeclined (λ holder range at m. m) g.N.Life.opens g.N.Life.log_faults g.N.Life.made _ _ _ _ c.apply_locked.new.pass.log _ c.apply_locked.result c.apply_locked.ensures.refused

pub invariant_of-session : goal.invariant_of-session
invariant_of-session g c =
    seated_then g.N.Life.opens c.session.inside.right c.apply_locked.new.owner c.session.inside.pass.log c.apply_locked.new.pass.log c.session.inside.undecided c.session.invariant c.apply_locked.ensures.holder c.apply_locked.ensures.live

pub returns-in-Err-clause-answers : goal.returns-in-Err-clause-answers
returns-in-Err-clause-answers g c =
    λ some.
    let locks = point_locks g.N.Life.opens g.N.Life.entries g.N.Life.session_entries c.args.session.now.claim.tx (Err c.in-Err.fault) c.args.key.now (lock_of (requests.Apply c.args.operator c.args.key.now c.args.argument)) c.point.result (standing (g.P.Pages.desk c.args.pages.now) (g.J.Entering.account c.args.journal.now) c.args.session.now.seen) (standing (g.P.Pages.desk c.lock_for.new.pages) (g.J.Entering.account c.lock_for.new.journal) c.lock_for.new.session.seen) refl c.point.ensures c.in-Err.ensures.locks in
    answers_refused g.N.Life.opens g.N.Life.entries g.N.Life.session_entries g.N.Life.log_faults g.N.Life.made c.args.session.now.claim (requests.Apply c.args.operator c.args.key.now c.args.argument) (g.P.Pages.desk c.args.pages.now).faults (g.P.Pages.desk c.lock_for.new.pages).faults (g.J.Entering.account c.args.journal.now) (g.J.Entering.account c.lock_for.new.journal) c.lock_for.new.session.seen.log c.in-Err.fault (standing (g.P.Pages.desk c.args.pages.now) (g.J.Entering.account c.args.journal.now) c.args.session.now.seen) (standing (g.P.Pages.desk c.lock_for.new.pages) (g.J.Entering.account c.lock_for.new.journal) c.lock_for.new.session.seen) c.in-Err.ensures.refused locks

pub returns-in-Err-clause-full : goal.returns-in-Err-clause-full
returns-in-Err-clause-full g c =
    lock_lacks_none g.N.Life.opens g.N.Life.log_faults g.N.Life.made _ _ _ _ c.lock_for.new.session.seen.log c.in-Err.fault c.in-Err.ensures.refused

pub returns-in-Err-clause-gives_none : goal.returns-in-Err-clause-gives_none
returns-in-Err-clause-gives_none g c =
    gives_by OrConflict (λ at m. m) g.N.Life.opens g.N.Life.log_faults g.N.Life.made _ _ _ _ (requests.Apply c.args.operator c.args.key.now c.args.argument) c.lock_for.new.session.seen.log c.in-Err.fault c.in-Err.ensures.refused
