use Rattle.std.proofs.Common.{◌≡◌, ◌^◌, ◌<◌, ◌≤◌, refl, sym, ◌∙◌, arith}
use Rattle.std.proofs.lemmas.Bool.Decides.{nat_tests}
use Rattle.std.proofs.lemmas.Result.{err_from_is_err_and}
use Rattle.front.proofs.Keeping.{prefix_trans}
use Rattle.wal_record.specs.Books.{maintenance_book}
use Rattle.page_ops.specs.Seeing.{Account}
use Rattle.page_ops.proofs.Gaining.{keeps_then}
use Rattle.archiving.proofs.Adding.{fails_then, met_then, of_name, one_made, refused_early, refused_late}
use Rattle.archiving.proofs.Reading.{stays_there}
use Rattle.archiving.proofs.Suiting.{spelled, suits, tells}
use Rattle.archiving.proofs.Turning.{goes_on, next_goes}
use Rattle.archiving.proofs.making.make_next.Goals as goal

pub returns-then-last_named-since-clause-entered : goal.returns-then-last_named-since-clause-entered
returns-then-last_named-since-clause-entered g c =
    let now = g.J.Entering.account c.last_named.new.journal in
    refused_early g.N.Life.opens g.N.Life.entries g.N.Life.session_entries (g.J.Entering.account c.args.journal.now) (g.J.Entering.account c.gather.new.journal) now now c.args.pass.now c.gather.new.pass c.last_named.new.pass c.last_named.new.pass c.in_ok-items.ensures.entered c.last_named.ensures.seen c.args.waiting.now

pub returns-then-run-eq0-clause-entered : goal.returns-then-run-eq0-clause-entered
returns-then-run-eq0-clause-entered g c =
    let now = g.J.Entering.account c.last_named.new.journal in
    refused_early g.N.Life.opens g.N.Life.entries g.N.Life.session_entries (g.J.Entering.account c.args.journal.now) (g.J.Entering.account c.gather.new.journal) now now c.args.pass.now c.gather.new.pass c.last_named.new.pass c.last_named.new.pass c.in_ok-items.ensures.entered c.last_named.ensures.seen c.args.waiting.now

pub returns-in_err-bytes-clause-entered : goal.returns-in_err-bytes-clause-entered
returns-in_err-bytes-clause-entered g c =
    let p = err_from_is_err_and c.from_residual-in_err-bytes.result c.from_residual-in_err-bytes.ensures.1 in
    let now = g.J.Entering.account c.last_named.new.journal in
    rw p.1
    (refused_early g.N.Life.opens g.N.Life.entries g.N.Life.session_entries (g.J.Entering.account c.args.journal.now) (g.J.Entering.account c.gather.new.journal) now now c.args.pass.now c.gather.new.pass c.last_named.new.pass c.last_named.new.pass c.in_ok-items.ensures.entered c.last_named.ensures.seen c.args.waiting.now)

pub name_object-requires-clause-suits : goal.name_object-requires-clause-suits
name_object-requires-clause-suits g c = λ opening stands.
    let seen = c.last_named.ensures.seen.now in
    let w = c.args.waiting.now in
    let last = c.in_ok-items.last in
    let begins = prefix_trans c.args.pass.now.log c.gather.new.pass.log c.last_named.new.pass.log c.in_ok-items.ensures.begins seen.begins in
    let at : maintenance_book c.last_named.new.pass.log ≡ c.args.since = sym c.last_named.ensures.place ∙ grind (arith, nat_tests, c.if-last_named-since.false) in
    let next = goes_on g.N.Life.opens c.args.since w c.args.pass.now.log c.last_named.new.pass.log c.requires.next begins at opening stands (seen.consistent.legal opening stands) in
    let order = c.in_ok-items.ensures.range.0 in
    let within = c.in_ok-items.ensures.range.1 in
    let there = c.requires.there opening stands in
    let one = c.requires.numbers.0 in
    let small = c.requires.numbers.2 in
    let some : 1 ≤ w.run = omega (arith, c.if-run-eq0.false) in
    let high : w.run < 2 ^ 63 = omega (arith, c.if-run-gt-HIGHEST.false) in
    suits opening c.last_named.new.pass.log w last (spelled w.run w.first last some high one order (omega (arith, within, small))) ((seen.consistent.sound opening stands).lawful) (seen.consistent.some opening stands) next order
    (stays_there g.N.Life.opens c.args.pass.now.log c.last_named.new.pass.log begins last opening (omega (arith, within, there))) c.requires.room

pub name_object-requires-clause-tells : goal.name_object-requires-clause-tells
name_object-requires-clause-tells g c =
    let begins = prefix_trans c.args.pass.now.log c.gather.new.pass.log c.last_named.new.pass.log c.in_ok-items.ensures.begins c.last_named.ensures.seen.now.begins in
    let within = c.in_ok-items.ensures.range.1 in
    let value = c.deref.ensures.value in
    tells g.N.Life.opens c.args.pass.now.log c.last_named.new.pass.log c.args.waiting.now.run c.args.waiting.now.first c.in_ok-items.last c.in_ok-items.items c.deref.result.now c.in_ok-items.ensures.gathered c.requires.numbers.0 c.in_ok-items.ensures.range.0
    (λ opening stands. let there = c.requires.there opening stands in omega (arith, within, there)) begins (λ items has. value ∙ c.in_ok-bytes.ensures.spelled items has)

pub returns-in_err-lsn-clause-entered : goal.returns-in_err-lsn-clause-entered
returns-in_err-lsn-clause-entered g c =
    let p = err_from_is_err_and c.from_residual-in_err-lsn.result c.from_residual-in_err-lsn.ensures.1 in
    rw p.1
    (refused_late g.N.Life.opens g.N.Life.entries g.N.Life.session_entries (g.J.Entering.account c.args.journal.now) (g.J.Entering.account c.gather.new.journal) (g.J.Entering.account c.last_named.new.journal) (g.J.Entering.account c.name_object.new.journal)
    c.args.pass.now c.gather.new.pass c.last_named.new.pass c.name_object.new.pass c.in_ok-items.ensures.entered c.last_named.ensures.seen c.args.waiting.now c.in_ok-items.last c.requires.numbers.0 c.in_ok-items.ensures.range.0 c.requires.there c.in_ok-items.ensures.longest
    c.name_object.ensures.sessions c.in_err-lsn.field-0.0 c.in_err-lsn.ensures.entered)

pub returns-in_err-lsn-clause-refused : goal.returns-in_err-lsn-clause-refused
returns-in_err-lsn-clause-refused g c =
    let p = err_from_is_err_and c.from_residual-in_err-lsn.result c.from_residual-in_err-lsn.ensures.1 in
    let v = g.O.Objects.faults c.args.objects.now in
    let v' = g.O.Objects.faults c.last_named.new.self in
    let w = g.O.Objects.faults c.name_object.new.objects in
    let first : Account = g.J.Entering.account c.args.journal.now in
    let middle : Account = g.J.Entering.account c.gather.new.journal in
    let old : Account = g.J.Entering.account c.last_named.new.journal in
    let new : Account = g.J.Entering.account c.name_object.new.journal in
    rw (p.1, p.2)
    (fails_then g.N.Life.opens g.N.Life.log_faults g.N.Life.made v v' w first old new c.name_object.new.pass.log _ (met_then first middle old c.in_ok-items.ensures.open c.last_named.ensures.calm.end) (keeps_then first middle old c.in_ok-items.ensures.entered.gains.keeps c.last_named.ensures.seen.keeps)
    (omega (arith, c.last_named.ensures.faults)) (of_name g.N.Life.opens g.N.Life.log_faults g.N.Life.made v' w old new c.name_object.new.pass.log _ c.in_err-lsn.ensures.refused))

pub returns-clause-entered : goal.returns-clause-entered
returns-clause-entered g c =
    one_made g.N.Life.opens g.N.Life.entries g.N.Life.session_entries (g.J.Entering.account c.args.journal.now) (g.J.Entering.account c.gather.new.journal) (g.J.Entering.account c.last_named.new.journal) (g.J.Entering.account c.name_object.new.journal)
    c.args.pass.now c.gather.new.pass c.last_named.new.pass c.name_object.new.pass c.in_ok-items.ensures.entered c.last_named.ensures.seen c.args.waiting.now c.in_ok-items.last c.requires.numbers.0 c.in_ok-items.ensures.range.0 c.requires.there c.in_ok-items.ensures.longest
    c.name_object.ensures.sessions _ c.in_ok-lsn.lsn refl refl refl c.in_ok-lsn.ensures.entered c.in_ok-lsn.ensures.durable

pub returns-clause-next : goal.returns-clause-next
returns-clause-next g c =
    let begins = prefix_trans c.args.pass.now.log c.gather.new.pass.log c.last_named.new.pass.log c.in_ok-items.ensures.begins c.last_named.ensures.seen.now.begins in
    next_goes g.N.Life.opens c.args.since c.args.waiting.now _ c.in_ok-items.last c.in_ok-items.ensures.range.0 refl refl refl c.args.pass.now.log c.last_named.new.pass.log c.requires.next begins c.in_ok-lsn.lsn c.name_object.new.pass.log c.in_ok-lsn.ensures.entered.consistent c.in_ok-lsn.ensures.named
