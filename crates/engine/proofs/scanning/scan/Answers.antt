use Rattle.std.proofs.Common.{ap, subst}
use Rattle.front.specs.Seen.{PassSeen}
use Rattle.wal_record.specs.declared.entry.Entry.{Entry}
use Rattle.rollback.specs.Rolls.{standing}
use Rattle.engine.specs.Completes.{CompletesFor}
use Rattle.engine.specs.Requests.{IsRefusal}
use Rattle.engine.specs.Sittings.{Sitting}
use Rattle.store_model.specs.declared.request.Request.TheVariants as requests
use Rattle.page_ops.specs.Causes.{NoOther}
use Rattle.engine.proofs.Whole.{answers_all, answers_refused, ask_fails_then, never_conflicts, none_may, seated_then}
use Rattle.engine.proofs.scanning.scan.Goals as goal

pub returns-in-Ok-clause-answers : goal.returns-in-Ok-clause-answers
returns-in-Ok-clause-answers g c =
    λ some.
    let locks = c.in-Ok.ensures.locks in
    let completes = subst (λ (p : PassSeen Entry). CompletesFor g.N.Life.opens g.N.Life.entries g.N.Life.session_entries c.session.inside.right (requests.Scan c.args.range) c.scan_locked.result (standing (g.P.Pages.desk c.lock_for.new.pages) (g.J.Entering.account c.lock_for.new.journal) p) (standing (g.P.Pages.desk c.scan_locked.new.pages) (g.J.Entering.account c.scan_locked.new.journal) c.scan_locked.new.pass)) (ap (λ (x : Sitting). x.seen) c.session.view_is) c.scan_locked.ensures.answers in
    answers_all g.N.Life.opens g.N.Life.entries g.N.Life.session_entries c.args.session.now.claim c.lock_for.new.session.claim (requests.Scan c.args.range) c.in-Ok.field-0 c.session.inside.right c.session.invariant.there (ap (λ (x : Sitting). x.claim) c.session.view_is) c.in-Ok.ensures.right c.scan_locked.result (standing (g.P.Pages.desk c.args.pages.now) (g.J.Entering.account c.args.journal.now) c.args.session.now.seen) (standing (g.P.Pages.desk c.lock_for.new.pages) (g.J.Entering.account c.lock_for.new.journal) c.lock_for.new.session.seen) (standing (g.P.Pages.desk c.scan_locked.new.pages) (g.J.Entering.account c.scan_locked.new.journal) c.scan_locked.new.pass) locks completes

pub returns-in-Ok-clause-refused : goal.returns-in-Ok-clause-refused
returns-in-Ok-clause-refused g c =
    λ some. ask_fails_then NoOther (IsRefusal (requests.Scan c.args.range)) (none_may (requests.Scan c.args.range)) g.N.Life.opens g.N.Life.log_faults g.N.Life.made (g.J.Entering.account c.args.journal.now) (g.J.Entering.account c.lock_for.new.journal) (g.J.Entering.account c.scan_locked.new.journal) c.scan_locked.new.pass.log c.in-Ok.ensures.open c.in-Ok.ensures.locks.gains.keeps (g.P.Pages.desk c.args.pages.now).faults (g.P.Pages.desk c.lock_for.new.pages).faults (g.P.Pages.desk c.scan_locked.new.pages).faults c.scan_locked.result c.in-Ok.ensures.locks.faults c.scan_locked.ensures.refused

pub returns-in-Ok-clause-conflict : goal.returns-in-Ok-clause-conflict
returns-in-Ok-clause-conflict g c =
    never_conflicts NoOther (λ holder range at m. m) g.N.Life.opens g.N.Life.log_faults g.N.Life.made _ _ _ _ c.scan_locked.new.pass.log _ c.scan_locked.result c.scan_locked.ensures.refused

pub invariant_of-session : goal.invariant_of-session
invariant_of-session g c =
    seated_then g.N.Life.opens c.session.inside.right c.scan_locked.new.owner c.session.inside.pass.log c.scan_locked.new.pass.log c.session.inside.undecided c.session.invariant (record { session = c.scan_locked.ensures.holder.session; tx = c.scan_locked.ensures.holder.tx }) c.scan_locked.ensures.live

pub returns-in-Err-clause-answers : goal.returns-in-Err-clause-answers
returns-in-Err-clause-answers g c =
    λ some.
    let locks = c.in-Err.ensures.locks in
    answers_refused g.N.Life.opens g.N.Life.entries g.N.Life.session_entries g.N.Life.log_faults g.N.Life.made c.args.session.now.claim (requests.Scan c.args.range) (g.P.Pages.desk c.args.pages.now).faults (g.P.Pages.desk c.lock_for.new.pages).faults (g.J.Entering.account c.args.journal.now) (g.J.Entering.account c.lock_for.new.journal) c.lock_for.new.session.seen.log c.in-Err.fault (standing (g.P.Pages.desk c.args.pages.now) (g.J.Entering.account c.args.journal.now) c.args.session.now.seen) (standing (g.P.Pages.desk c.lock_for.new.pages) (g.J.Entering.account c.lock_for.new.journal) c.lock_for.new.session.seen) c.in-Err.ensures.refused locks
