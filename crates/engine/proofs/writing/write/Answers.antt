use Rattle.std.proofs.Common.{Err, Ok, ap, subst}
use Rattle.front.specs.Seen.{PassSeen}
use Rattle.wal_record.specs.declared.entry.Entry.{Entry}
use Rattle.rollback.specs.Rolls.{standing}
use Rattle.engine.specs.Completes.{CompletesFor}
use Rattle.engine.specs.Requests.{IsRefusal}
use Rattle.engine.specs.Sittings.{Sitting}
use Rattle.leaf_writes.specs.Changes.{request_of}
use Rattle.page_ops.specs.Causes.{OrFull}
use Rattle.engine.proofs.Whole.{answers_all, answers_refused, ask_fails_then, full_may, lock_lacks_none, never_conflicts, said_all, seated_then, write_locks}
use Rattle.engine.proofs.writing.write.Goals as goal

pub returns-in-Ok-clause-answers : goal.returns-in-Ok-clause-answers
returns-in-Ok-clause-answers g c =
    λ some.
    let locks = write_locks g.N.Life.opens g.N.Life.entries g.N.Life.session_entries c.args.session.now.claim.tx (Ok c.in-Ok.field-0) c.args.key.now c.args.new c.point.result (standing (g.P.Pages.desk c.args.pages.now) (g.J.Entering.account c.args.journal.now) c.args.session.now.seen) (standing (g.P.Pages.desk c.lock_for.new.pages) (g.J.Entering.account c.lock_for.new.journal) c.lock_for.new.session.seen) c.point.ensures c.in-Ok.ensures.locks in
    let completes = subst (λ (p : PassSeen Entry). CompletesFor g.N.Life.opens g.N.Life.entries g.N.Life.session_entries c.session.inside.right (request_of c.args.key.now c.args.new) c.write_locked.result (standing (g.P.Pages.desk c.lock_for.new.pages) (g.J.Entering.account c.lock_for.new.journal) p) (standing (g.P.Pages.desk c.write_locked.new.pages) (g.J.Entering.account c.write_locked.new.journal) c.write_locked.new.pass)) (ap (λ (x : Sitting). x.seen) c.session.view_is) c.write_locked.ensures.answers in
    answers_all g.N.Life.opens g.N.Life.entries g.N.Life.session_entries c.args.session.now.claim c.lock_for.new.session.claim (request_of c.args.key.now c.args.new) c.in-Ok.field-0 c.session.inside.right c.session.invariant.there (ap (λ (x : Sitting). x.claim) c.session.view_is) c.in-Ok.ensures.right c.write_locked.result (standing (g.P.Pages.desk c.args.pages.now) (g.J.Entering.account c.args.journal.now) c.args.session.now.seen) (standing (g.P.Pages.desk c.lock_for.new.pages) (g.J.Entering.account c.lock_for.new.journal) c.lock_for.new.session.seen) (standing (g.P.Pages.desk c.write_locked.new.pages) (g.J.Entering.account c.write_locked.new.journal) c.write_locked.new.pass) locks completes

pub returns-in-Ok-clause-said : goal.returns-in-Ok-clause-said
returns-in-Ok-clause-said g c =
    said_all g.N.Life.opens g.N.Life.entries g.N.Life.session_entries c.args.session.now.claim c.lock_for.new.session.claim (request_of c.args.key.now c.args.new) c.in-Ok.field-0 c.session.inside.right c.session.invariant.there (ap (λ (x : Sitting). x.claim) c.session.view_is) c.in-Ok.ensures.right c.write_locked.result c.write_locked.new.pass.log c.write_locked.ensures.said

pub returns-in-Ok-clause-refused : goal.returns-in-Ok-clause-refused
returns-in-Ok-clause-refused g c =
    λ some. ask_fails_then OrFull (IsRefusal (request_of c.args.key.now c.args.new)) (full_may c.args.key.now c.args.new) g.N.Life.opens g.N.Life.log_faults g.N.Life.made (g.J.Entering.account c.args.journal.now) (g.J.Entering.account c.lock_for.new.journal) (g.J.Entering.account c.write_locked.new.journal) c.write_locked.new.pass.log c.in-Ok.ensures.open c.in-Ok.ensures.locks.gains.keeps (g.P.Pages.desk c.args.pages.now).faults (g.P.Pages.desk c.lock_for.new.pages).faults (g.P.Pages.desk c.write_locked.new.pages).faults c.write_locked.result c.in-Ok.ensures.locks.faults c.write_locked.ensures.refused

pub returns-in-Ok-clause-conflict : goal.returns-in-Ok-clause-conflict
returns-in-Ok-clause-conflict g c =
    never_conflicts OrFull (λ holder range at m. m) g.N.Life.opens g.N.Life.log_faults g.N.Life.made _ _ _ _ c.write_locked.new.pass.log _ c.write_locked.result c.write_locked.ensures.refused

pub invariant_of-session : goal.invariant_of-session
invariant_of-session g c =
    seated_then g.N.Life.opens c.session.inside.right c.write_locked.new.owner c.session.inside.pass.log c.write_locked.new.pass.log c.session.inside.undecided c.session.invariant c.write_locked.ensures.holder c.write_locked.ensures.live

pub returns-in-Err-clause-answers : goal.returns-in-Err-clause-answers
returns-in-Err-clause-answers g c =
    λ some.
    let locks = write_locks g.N.Life.opens g.N.Life.entries g.N.Life.session_entries c.args.session.now.claim.tx (Err c.in-Err.fault) c.args.key.now c.args.new c.point.result (standing (g.P.Pages.desk c.args.pages.now) (g.J.Entering.account c.args.journal.now) c.args.session.now.seen) (standing (g.P.Pages.desk c.lock_for.new.pages) (g.J.Entering.account c.lock_for.new.journal) c.lock_for.new.session.seen) c.point.ensures c.in-Err.ensures.locks in
    answers_refused g.N.Life.opens g.N.Life.entries g.N.Life.session_entries g.N.Life.log_faults g.N.Life.made c.args.session.now.claim (request_of c.args.key.now c.args.new) (g.P.Pages.desk c.args.pages.now).faults (g.P.Pages.desk c.lock_for.new.pages).faults (g.J.Entering.account c.args.journal.now) (g.J.Entering.account c.lock_for.new.journal) c.lock_for.new.session.seen.log c.in-Err.fault (standing (g.P.Pages.desk c.args.pages.now) (g.J.Entering.account c.args.journal.now) c.args.session.now.seen) (standing (g.P.Pages.desk c.lock_for.new.pages) (g.J.Entering.account c.lock_for.new.journal) c.lock_for.new.session.seen) c.in-Err.ensures.refused locks

pub returns-in-Err-clause-full : goal.returns-in-Err-clause-full
returns-in-Err-clause-full g c =
    lock_lacks_none g.N.Life.opens g.N.Life.log_faults g.N.Life.made _ _ _ _ c.lock_for.new.session.seen.log c.in-Err.fault c.in-Err.ensures.refused
