use Rattle.std.proofs.Common.{ℕ, subst, inl, inr, arith}
use Rattle.std.proofs.lemmas.Result.{err_from_is_err_and}
use Rattle.front.proofs.Keeping.{prefix_trans}
use Rattle.wal_record.specs.History.{life_log}
use Rattle.page_ops.specs.Claims.{no_claims}
use Rattle.page_ops.specs.Seeing.{Account, known}
use Rattle.page_ops.proofs.Gaining.{keeps_then}
use Rattle.archiving.specs.Archives.{FewWait}
use Rattle.archiving.proofs.Adding.{begins_next, fails_then, few_wait, looked_on, makes_next, met_open, met_then, of_entry}
use Rattle.archiving.proofs.Turning.{begins_at}
use Rattle.archiving.proofs.making.archive_next.Goals as goal

pub returns-in_err-work-clause-refused : goal.returns-in_err-work-clause-refused
returns-in_err-work-clause-refused g c =
    let p = err_from_is_err_and c.from_residual.result c.from_residual.ensures.1 in
    let v = g.O.Objects.faults c.args.objects.now in
    let w = g.O.Objects.faults c.last_named-since.new.self in
    let a : Account = g.J.Entering.account c.args.journal.now in
    let b : Account = g.J.Entering.account c.last_named-since.new.journal in
    let d : Account = g.J.Entering.account c.work.new.self in
    rw (p.1, p.2)
    (fails_then g.N.Life.opens g.N.Life.log_faults g.N.Life.made v w w a b d c.work.new.pass.log _ c.last_named-since.ensures.calm.end c.last_named-since.ensures.seen.keeps (omega (arith, c.last_named-since.ensures.faults))
    (of_entry g.N.Life.opens g.N.Life.log_faults g.N.Life.made w w b d c.work.new.pass.log _ c.in_err-work.ensures.refused c.in_err-work.ensures.ends))

pub returns-in_err-waiting-clause-entered : goal.returns-in_err-waiting-clause-entered
returns-in_err-waiting-clause-entered g c =
    let p = err_from_is_err_and c.from_residual-in_err-waiting.result c.from_residual-in_err-waiting.ensures.1 in
    let a : Account = g.J.Entering.account c.args.journal.now in
    let b : Account = g.J.Entering.account c.last_named-since.new.journal in
    let d : Account = g.J.Entering.account c.work.new.self in
    let e : Account = g.J.Entering.account c.what_waits.new.journal in
    let none = looked_on g.N.Life.opens g.N.Life.entries g.N.Life.session_entries a b d c.args.pass.now c.last_named-since.new.pass c.work.new.pass c.last_named-since.ensures.seen c.work.ensures.seen e c.what_waits.new.pass c.what_waits.ensures.seen in
    rw p.1 (inl none)

pub returns-in_err-waiting-clause-refused : goal.returns-in_err-waiting-clause-refused
returns-in_err-waiting-clause-refused g c =
    let p = err_from_is_err_and c.from_residual-in_err-waiting.result c.from_residual-in_err-waiting.ensures.1 in
    let v = g.O.Objects.faults c.args.objects.now in
    let w = g.O.Objects.faults c.last_named-since.new.self in
    let a : Account = g.J.Entering.account c.args.journal.now in
    let b : Account = g.J.Entering.account c.last_named-since.new.journal in
    let d : Account = g.J.Entering.account c.work.new.self in
    let e : Account = g.J.Entering.account c.what_waits.new.journal in
    rw (p.1, p.2)
    (fails_then g.N.Life.opens g.N.Life.log_faults g.N.Life.made v w w a d e c.what_waits.new.pass.log _ (met_then a b d c.last_named-since.ensures.calm.end (met_open b d c.in_ok-work.ensures.ends)) (keeps_then a b d c.last_named-since.ensures.seen.keeps c.work.ensures.seen.keeps) (omega (arith, c.last_named-since.ensures.faults))
    (of_entry g.N.Life.opens g.N.Life.log_faults g.N.Life.made w w d e c.what_waits.new.pass.log _ c.in_err-waiting.ensures.refused c.in_err-waiting.ensures.ends))

pub returns-then-not-is_due-2-clause-entered : goal.returns-then-not-is_due-2-clause-entered
returns-then-not-is_due-2-clause-entered g c =
    let a : Account = g.J.Entering.account c.args.journal.now in
    let b : Account = g.J.Entering.account c.last_named-since.new.journal in
    let d : Account = g.J.Entering.account c.work.new.self in
    let e : Account = g.J.Entering.account c.what_waits.new.journal in
    let none = looked_on g.N.Life.opens g.N.Life.entries g.N.Life.session_entries a b d c.args.pass.now c.last_named-since.new.pass c.work.new.pass c.last_named-since.ensures.seen c.work.ensures.seen e c.what_waits.new.pass c.what_waits.ensures.seen in
    let w = c.in_ok-waiting.waiting in
    record {
      adds = none;
      few = λ opening stands.
          let log = life_log opening c.what_waits.new.pass.log in
          let next = c.in_ok-waiting.ensures.next opening stands in
          let first = next.first in
          subst (λ (n : ℕ). FewWait n log) c.in_ok-waiting.ensures.durable (few_wait w.upto w.stood _ log next.stood (omega (arith, first)) (c.is_due-2.ensures.few c.if-not-is_due-2.true));
    }

pub make_next-requires-clause-next : goal.make_next-requires-clause-next
make_next-requires-clause-next g c =
    let seen = c.what_waits.ensures.seen.now in
    begins_at g.N.Life.opens c.last_named-since.result c.in_ok-waiting.waiting c.last_named-since.new.pass.log c.what_waits.new.pass.log c.last_named-since.ensures.place (prefix_trans c.last_named-since.new.pass.log c.work.new.pass.log c.what_waits.new.pass.log c.work.ensures.seen.now.begins seen.begins) seen.consistent c.in_ok-waiting.ensures.next

pub returns-in_err-make_next-clause-entered : goal.returns-in_err-make_next-clause-entered
returns-in_err-make_next-clause-entered g c =
    let p = err_from_is_err_and c.from_residual-in_err-make_next.result c.from_residual-in_err-make_next.ensures.1 in
    let a : Account = g.J.Entering.account c.args.journal.now in
    let b : Account = g.J.Entering.account c.last_named-since.new.journal in
    let d : Account = g.J.Entering.account c.work.new.self in
    let e : Account = g.J.Entering.account c.what_waits.new.journal in
    let none = looked_on g.N.Life.opens g.N.Life.entries g.N.Life.session_entries a b d c.args.pass.now c.last_named-since.new.pass c.work.new.pass c.last_named-since.ensures.seen c.work.ensures.seen e c.what_waits.new.pass c.what_waits.ensures.seen in
    let due = c.is_due-2.ensures.due c.if-not-is_due-2.false in
    rw p.1
    (inr (begins_next g.N.Life.opens g.N.Life.entries g.N.Life.session_entries a e c.args.pass.now c.what_waits.new.pass none c.in_ok-waiting.waiting (known (g.J.Entering.account c.make_next.new.journal) c.make_next.new.pass no_claims) c.in_ok-waiting.ensures.durable c.in_ok-waiting.ensures.next due.0 c.in_err-make_next.ensures.entered))

pub returns-in_err-make_next-clause-refused : goal.returns-in_err-make_next-clause-refused
returns-in_err-make_next-clause-refused g c =
    let p = err_from_is_err_and c.from_residual-in_err-make_next.result c.from_residual-in_err-make_next.ensures.1 in
    let a : Account = g.J.Entering.account c.args.journal.now in
    let b : Account = g.J.Entering.account c.last_named-since.new.journal in
    let d : Account = g.J.Entering.account c.work.new.self in
    let e : Account = g.J.Entering.account c.what_waits.new.journal in
    rw (p.1, p.2)
    (fails_then g.N.Life.opens g.N.Life.log_faults g.N.Life.made (g.O.Objects.faults c.args.objects.now) (g.O.Objects.faults c.last_named-since.new.self) (g.O.Objects.faults c.make_next.new.objects) a e (g.J.Entering.account c.make_next.new.journal) c.make_next.new.pass.log _
    (met_then a d e (met_then a b d c.last_named-since.ensures.calm.end (met_open b d c.in_ok-work.ensures.ends)) c.in_ok-waiting.ensures.open) (keeps_then a d e (keeps_then a b d c.last_named-since.ensures.seen.keeps c.work.ensures.seen.keeps) c.what_waits.ensures.seen.keeps)
    (omega (arith, c.last_named-since.ensures.faults)) c.in_err-make_next.ensures.refused)

pub returns-clause-entered : goal.returns-clause-entered
returns-clause-entered g c =
    let a : Account = g.J.Entering.account c.args.journal.now in
    let b : Account = g.J.Entering.account c.last_named-since.new.journal in
    let d : Account = g.J.Entering.account c.work.new.self in
    let e : Account = g.J.Entering.account c.what_waits.new.journal in
    let none = looked_on g.N.Life.opens g.N.Life.entries g.N.Life.session_entries a b d c.args.pass.now c.last_named-since.new.pass c.work.new.pass c.last_named-since.ensures.seen c.work.ensures.seen e c.what_waits.new.pass c.what_waits.ensures.seen in
    let due = c.is_due-2.ensures.due c.if-not-is_due-2.false in
    let many = due.1 in
    let one = c.in_ok-waiting.ensures.numbers.0 in
    makes_next g.N.Life.opens g.N.Life.entries g.N.Life.session_entries a e c.args.pass.now c.what_waits.new.pass none c.in_ok-waiting.waiting (known (g.J.Entering.account c.make_next.new.journal) c.make_next.new.pass no_claims) c.in_ok-waiting.ensures.durable c.in_ok-waiting.ensures.next due.0 c.make_next.new.waiting
    c.in_ok-make_next.ensures.more (omega (arith, many, one)) c.in_ok-make_next.ensures.entered
