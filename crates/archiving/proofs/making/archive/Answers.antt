use Rattle.std.proofs.Common.{arith}
use Rattle.std.proofs.lemmas.Result.{err_from_is_err_and}
use Rattle.page_ops.specs.Claims.{no_claims}
use Rattle.page_ops.specs.Seeing.{Account, known}
use Rattle.page_ops.proofs.Gaining.{keeps_then}
use Rattle.archiving.proofs.Adding.{all_there, archives_or, fails_or, fails_then, looked_on, met_open, met_then, of_entry}
use Rattle.archiving.proofs.Turning.{begins_at}
use Rattle.archiving.proofs.making.archive.Goals as goal

pub returns-in_err-from-clause-refused : goal.returns-in_err-from-clause-refused
returns-in_err-from-clause-refused g c =
    let p = err_from_is_err_and c.from_residual-in_err-from.result c.from_residual-in_err-from.ensures.1 in
    let v = g.O.Objects.faults c.args.objects.now in
    let w = g.O.Objects.faults c.last_named-since.new.self in
    let a : Account = g.J.Entering.account c.args.journal.now in
    let b : Account = g.J.Entering.account c.flush.new.self in
    let d : Account = g.J.Entering.account c.last_named-since.new.journal in
    let e : Account = g.J.Entering.account c.what_waits.new.journal in
    rw (p.1, p.2)
    (fails_then g.N.Life.opens g.N.Life.log_faults g.N.Life.made v w w a d e c.what_waits.new.pass.log _ (met_then a b d (met_open a b c.in_ok-flush.ensures.ends) c.last_named-since.ensures.calm.end) (keeps_then a b d c.flush.ensures.seen.keeps c.last_named-since.ensures.seen.keeps) (omega (arith, c.last_named-since.ensures.faults))
    (of_entry g.N.Life.opens g.N.Life.log_faults g.N.Life.made w w d e c.what_waits.new.pass.log _ c.in_err-from.ensures.refused c.in_err-from.ensures.ends))

pub make_runs-requires-clause-next : goal.make_runs-requires-clause-next
make_runs-requires-clause-next g c =
    let seen = c.what_waits.ensures.seen.now in
    begins_at g.N.Life.opens c.last_named-since.result c.in_ok-from.from c.last_named-since.new.pass.log c.what_waits.new.pass.log c.last_named-since.ensures.place seen.begins seen.consistent c.in_ok-from.ensures.next

pub returns-clause-entered : goal.returns-clause-entered
returns-clause-entered g c =
    let a : Account = g.J.Entering.account c.args.journal.now in
    let b : Account = g.J.Entering.account c.flush.new.self in
    let d : Account = g.J.Entering.account c.last_named-since.new.journal in
    let e : Account = g.J.Entering.account c.what_waits.new.journal in
    let p = c.args.pass.now in
    let q = c.flush.new.pass in
    let r = c.last_named-since.new.pass in
    let s = c.what_waits.new.pass in
    let none = looked_on g.N.Life.opens g.N.Life.entries g.N.Life.session_entries a b d p q r c.flush.ensures.seen c.last_named-since.ensures.seen e s c.what_waits.ensures.seen in
    let whole = all_there g.N.Life.opens g.N.Life.entries g.N.Life.session_entries a b d p q r c.flush.ensures.seen c.last_named-since.ensures.seen e s c.what_waits.ensures.seen c.in_ok-from.from.upto c.in_ok-flush.ensures.durable c.in_ok-from.ensures.durable c.in_ok-from.ensures.numbers.1 in
    archives_or g.N.Life.opens g.N.Life.entries g.N.Life.session_entries a e p s none c.in_ok-from.from (known (g.J.Entering.account c.make_runs.new.journal) c.make_runs.new.pass no_claims) c.in_ok-from.ensures.durable c.in_ok-from.ensures.next whole c.make_runs.result c.make_runs.ensures.entered

pub returns-clause-refused : goal.returns-clause-refused
returns-clause-refused g c =
    let a : Account = g.J.Entering.account c.args.journal.now in
    let b : Account = g.J.Entering.account c.flush.new.self in
    let d : Account = g.J.Entering.account c.last_named-since.new.journal in
    let e : Account = g.J.Entering.account c.what_waits.new.journal in
    fails_or g.N.Life.opens g.N.Life.log_faults g.N.Life.made (g.O.Objects.faults c.args.objects.now) (g.O.Objects.faults c.last_named-since.new.self) (g.O.Objects.faults c.make_runs.new.objects) a e (g.J.Entering.account c.make_runs.new.journal) c.make_runs.new.pass.log c.make_runs.result
    (met_then a b e (met_open a b c.in_ok-flush.ensures.ends) (met_then b d e c.last_named-since.ensures.calm.end c.in_ok-from.ensures.open)) (keeps_then a b e c.flush.ensures.seen.keeps (keeps_then b d e c.last_named-since.ensures.seen.keeps c.what_waits.ensures.seen.keeps)) (omega (arith, c.last_named-since.ensures.faults)) c.make_runs.ensures.refused
