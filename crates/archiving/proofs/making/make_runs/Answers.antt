use Rattle.std.proofs.Common.{arith}
use Rattle.std.proofs.lemmas.Result.{err_from_is_err_and}
use Rattle.page_ops.specs.Claims.{no_claims}
use Rattle.page_ops.specs.Seeing.{Known, known}
use Rattle.archiving.proofs.Adding.{fails_then, from_one, made_then, met_none, met_then, none_made, refused_then, still_there}
use Rattle.archiving.proofs.making.make_runs.Goals as goal

pub loop-waiting-init : goal.loop-waiting-init
loop-waiting-init g c = record {
  made = none_made g.N.Life.opens g.N.Life.entries g.N.Life.session_entries (g.J.Entering.account c.args.journal.now) c.args.pass.now c.args.from c.requires.seen;
  next = c.requires.next;
  counted = omega arith;
  few = λ low. low;
  faults = omega arith;
  calm = met_none _;
}

pub make_next-requires-clause-numbers : goal.make_next-requires-clause-numbers
make_next-requires-clause-numbers g c =
    let here = c.loop-waiting.invariant.made in
    let upto = here.upto in
    let small = c.requires.numbers.1 in
    (from_one g.N.Life.opens g.N.Life.entries g.N.Life.session_entries c.args.from c.loop-waiting.waiting _ _ here c.requires.numbers.0, omega (arith, c.loop-waiting-test.true), omega (arith, upto, small))

pub make_next-requires-clause-there : goal.make_next-requires-clause-there
make_next-requires-clause-there g c = still_there g.N.Life.opens g.N.Life.entries g.N.Life.session_entries c.args.from c.loop-waiting.waiting _ _ c.loop-waiting.invariant.made c.requires.there

pub returns-in_err-since-clause-entered : goal.returns-in_err-since-clause-entered
returns-in_err-since-clause-entered g c =
    let p = err_from_is_err_and c.from_residual.result c.from_residual.ensures.1 in
    let first : Known = known (g.J.Entering.account c.args.journal.now) c.args.pass.now no_claims in
    let here : Known = known (g.J.Entering.account c.loop-waiting.journal) c.loop-waiting.pass no_claims in
    let behind : Known = known (g.J.Entering.account c.make_next.new.journal) c.make_next.new.pass no_claims in
    rw p.1
    (refused_then g.N.Life.opens g.N.Life.entries g.N.Life.session_entries c.args.from c.loop-waiting.waiting first here behind c.requires.numbers.0 c.requires.there (omega (arith, c.if-waiting-lt-MOST_RUNS.true)) c.loop-waiting.invariant.made c.in_err-since.ensures.entered)

pub returns-in_err-since-clause-refused : goal.returns-in_err-since-clause-refused
returns-in_err-since-clause-refused g c =
    let p = err_from_is_err_and c.from_residual.result c.from_residual.ensures.1 in
    let here = c.loop-waiting.invariant in
    rw (p.1, p.2)
    (fails_then g.N.Life.opens g.N.Life.log_faults g.N.Life.made (g.O.Objects.faults c.args.objects.now) (g.O.Objects.faults c.loop-waiting.objects) (g.O.Objects.faults c.make_next.new.objects) (g.J.Entering.account c.args.journal.now) (g.J.Entering.account c.loop-waiting.journal)
    (g.J.Entering.account c.make_next.new.journal) c.make_next.new.pass.log _ here.calm here.made.adds.gains.keeps here.faults c.in_err-since.ensures.refused)

pub loop-waiting-smaller : goal.loop-waiting-smaller
loop-waiting-smaller g c = let more = c.in_ok-since.ensures.more in omega (arith, more, c.if-waiting-lt-MOST_RUNS.true)

pub loop-waiting-preserved : goal.loop-waiting-preserved
loop-waiting-preserved g c =
    let here = c.loop-waiting.invariant in
    let more = c.in_ok-since.ensures.more in
    let first : Known = known (g.J.Entering.account c.args.journal.now) c.args.pass.now no_claims in
    let before : Known = known (g.J.Entering.account c.loop-waiting.journal) c.loop-waiting.pass no_claims in
    let behind : Known = known (g.J.Entering.account c.make_next.new.journal) c.make_next.new.pass no_claims in
    record {
      made = made_then g.N.Life.opens g.N.Life.entries g.N.Life.session_entries c.args.from c.loop-waiting.waiting c.make_next.new.waiting first before behind c.requires.numbers.0 c.requires.there here.made c.in_ok-since.ensures.entered;
      next = c.in_ok-since.ensures.next;
      counted = omega (arith, more, here.counted);
      few = λ low. omega (arith, more, c.if-waiting-lt-MOST_RUNS.true);
      faults = omega (arith, here.faults, c.make_next.ensures.faults);
      calm = met_then _ _ _ here.calm c.in_ok-since.ensures.open;
    }
