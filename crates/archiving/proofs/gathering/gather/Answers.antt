use Rattle.std.proofs.Common.{◌<◌, ◌≤◌, Bool, List, sym, subst, arith}
use Rattle.std.proofs.lemmas.Result.{err_from_is_err_and}
use Rattle.front.proofs.Keeping.{prefix_trans}
use Rattle.log_archive.specs.Items.{numbered}
use Rattle.log_archive.specs.Shelves.{AddsWithin, Gathered, Gathering}
use Rattle.log_archive.specs.declared.item.Numbered.{Numbered}
use Rattle.log_archive.specs.declared.layout.TheConstants.{RUN_BYTES}
use Rattle.log_archive.proofs.Gathering.{gathered_more, nothing_gathered}
use Rattle.page_ops.proofs.Composing.{ends_by_then}
use Rattle.page_ops.proofs.Gaining.{looked}
use Rattle.archiving.specs.Going.{IsLifeLog}
use Rattle.archiving.proofs.Adding.{met_then, none_of, none_then}
use Rattle.archiving.proofs.Reading.{found_first, part_longest, stays_there}
use Rattle.archiving.proofs.gathering.gather.Goals as goal

pub loop-lsn-init : goal.loop-lsn-init
loop-lsn-init g c = record {
  gathered = subst (λ (x : Gathering). Gathered (IsLifeLog g.N.Life.opens c.args.pass.now.log) c.args.first c.args.first x) (sym c.new-items.ensures) (nothing_gathered (IsLifeLog g.N.Life.opens c.args.pass.now.log) c.args.first);
  small = subst (λ (x : Gathering). x.size ≤ RUN_BYTES) (sym c.new-items.ensures) (omega arith);
  begins = c.see.ensures.seen.now.begins;
  entered = none_of g.N.Life.opens g.N.Life.entries g.N.Life.session_entries _ _ _ _ (looked g.N.Life.opens g.N.Life.entries g.N.Life.session_entries _ _ _ _ _ _ c.see.ensures.seen);
  calm = c.see.ensures.calm.end;
}

pub read-requires : goal.read-requires
read-requires g c = record {
  there = λ opening stands.
      let here = stays_there g.N.Life.opens c.args.pass.now.log c.loop-lsn.pass.log c.loop-lsn.invariant.begins c.loop-lsn.lsn opening (let t = c.requires.there opening stands in omega (arith, t, c.loop-lsn-test.true)) in
      (omega (arith, c.requires.numbers.0), here);
}

pub returns-in_err-rec-clause-ends : goal.returns-in_err-rec-clause-ends
returns-in_err-rec-clause-ends g c =
    let p = err_from_is_err_and c.from_residual.result c.from_residual.ensures.1 in
    rw (p.1, p.2) (ends_by_then g.N.Life.opens g.N.Life.log_faults g.N.Life.made _ _ _ _ c.loop-lsn.invariant.calm c.loop-lsn.invariant.entered.gains.keeps _ c.in_err-rec.ensures.ends)

pub returns-then-not-branch-clause-longest : goal.returns-then-not-branch-clause-longest
returns-then-not-branch-clause-longest g c =
    let here = c.loop-lsn.invariant in
    let x : Numbered = record { lsn = c.loop-lsn.lsn; rec = c.in_ok-rec.rec } in
    let items : List Numbered = numbered c.args.first here.gathered.records in
    let begins = prefix_trans c.args.pass.now.log c.loop-lsn.pass.log c.read.new.pass.log here.begins c.in_ok-rec.ensures.seen.now.begins in
    let within : c.loop-lsn.lsn ≤ c.args.upto = omega (arith, c.loop-lsn-test.true) in
    let some : c.args.first < c.loop-lsn.lsn = omega (arith, c.if-lsn-first.false) in
    let full = subst (λ (b : Bool). AddsWithin RUN_BYTES items x c.loop-lsn.items c.add.new.self b) c.if-not-branch.true (c.in_ok-add.ensures items here.gathered.items) in
    part_longest g.N.Life.opens c.args.pass.now.log c.args.first c.args.upto c.loop-lsn.lsn c.loop-lsn.items c.add.new.self c.in_ok-rec.rec here.gathered here.small c.requires.numbers.0 some within
    (found_first g.N.Life.opens c.args.pass.now.log c.read.new.pass.log begins c.loop-lsn.lsn c.in_ok-rec.rec (omega (arith, c.requires.numbers.0)) (λ opening stands. let t = c.requires.there opening stands in omega (arith, t, within)) c.in_ok-rec.ensures.found) full

pub loop-lsn-preserved : goal.loop-lsn-preserved
loop-lsn-preserved g c =
    let here = c.loop-lsn.invariant in
    let x : Numbered = record { lsn = c.loop-lsn.lsn; rec = c.in_ok-rec.rec } in
    let items : List Numbered = numbered c.args.first here.gathered.records in
    let begins = prefix_trans c.args.pass.now.log c.loop-lsn.pass.log c.read.new.pass.log here.begins c.in_ok-rec.ensures.seen.now.begins in
    let within : c.loop-lsn.lsn ≤ c.args.upto = omega (arith, c.loop-lsn-test.true) in
    let added = subst (λ (b : Bool). AddsWithin RUN_BYTES items x c.loop-lsn.items c.add.new.self b) c.if-not-branch.false (c.in_ok-add.ensures items here.gathered.items) in
    let size = added.0.size in
    let few = added.1 in
    record {
      gathered = gathered_more (IsLifeLog g.N.Life.opens c.args.pass.now.log) c.args.first c.loop-lsn.lsn c.loop-lsn.items c.add.new.self c.in_ok-rec.rec here.gathered c.in_ok-rec.ensures.spelling
          (found_first g.N.Life.opens c.args.pass.now.log c.read.new.pass.log begins c.loop-lsn.lsn c.in_ok-rec.rec (omega (arith, c.requires.numbers.0)) (λ opening stands. let t = c.requires.there opening stands in omega (arith, t, within)) c.in_ok-rec.ensures.found)
          c.requires.numbers.0 added.0;
      small = omega (arith, size, few);
      begins = begins;
      entered = none_then g.N.Life.opens g.N.Life.entries g.N.Life.session_entries _ _ _ here.entered (none_of g.N.Life.opens g.N.Life.entries g.N.Life.session_entries _ _ _ _ c.in_ok-rec.ensures.seen);
      calm = met_then _ _ _ here.calm c.in_ok-rec.ensures.open;
    }
