use Rattle.std.proofs.Common.{sym, arith}
use Rattle.std.proofs.lemmas.Result.{err_from_is_err_and}
use Rattle.segment_restore.proofs.Chains.{base_keeps, base_later, head_later, looks, made, open_then, rebuilt_later, untold_if_none, untold_if_not, upheld_both}
use Rattle.segment_restore.proofs.Owned.{fails_after}
use Rattle.segment_restore.proofs.rebuilding.rebuild_in_life.Goals as goal

pub follow-requires : goal.follow-requires
follow-requires g c = record {
  consistent = c.see.ensures.seen.now.consistent;
  named = head_later g.N.Life.opens c.args.pass.now.log c.see.new.pass.log c.args.page c.args.head c.see.ensures.seen.now.begins c.requires.head;
}

pub returns-then-not-branch-clause-refused : goal.returns-then-not-branch-clause-refused
returns-then-not-branch-clause-refused g c =
    let begins = c.see.ensures.seen.now.begins in
    rw (c.bad_chain.ensures) (
      open_then _ _ _ c.see.ensures.calm.end c.in_ok-records.ensures.open,
      untold_if_not g.N.Life.opens c.see.new.pass.log c.args.page c.args.head c.see.ensures.seen.now.consistent (head_later g.N.Life.opens c.args.pass.now.log c.see.new.pass.log c.args.page c.args.head begins c.requires.head) c.args.base
          (base_later g.N.Life.opens c.args.pass.now.log c.see.new.pass.log c.args.page c.args.head c.args.base begins c.requires.head c.requires.base)
          c.start-low.result.0 c.start-low.ensures.0 c.start-low.result.1 c.start-low.ensures.1 c.in_ok-records.records.items c.in_ok-records.ensures.records c.replay.new.state c.in_ok-replay.field-0 c.if-not-branch.true c.in_ok-replay.ensures.done,
    )

pub returns-in-None-clause-refused : goal.returns-in-None-clause-refused
returns-in-None-clause-refused g c =
    let begins = c.see.ensures.seen.now.begins in
    rw (c.bad_chain-in-None.ensures) (
      open_then _ _ _ c.see.ensures.calm.end c.in_ok-records.ensures.open,
      untold_if_none g.N.Life.opens c.see.new.pass.log c.args.page c.args.head c.see.ensures.seen.now.consistent (head_later g.N.Life.opens c.args.pass.now.log c.see.new.pass.log c.args.page c.args.head begins c.requires.head) c.args.base
          (base_later g.N.Life.opens c.args.pass.now.log c.see.new.pass.log c.args.page c.args.head c.args.base begins c.requires.head c.requires.base)
          c.start-low.result.0 c.start-low.ensures.0 c.start-low.result.1 c.start-low.ensures.1 c.in_ok-records.records.items c.in_ok-records.ensures.records c.replay.new.state c.in_ok-replay.field-0 c.if-not-branch.false c.in_ok-replay.ensures.done c.in-None.is,
    )

pub returns-in-Some-clause-rebuilt : goal.returns-in-Some-clause-rebuilt
returns-in-Some-clause-rebuilt g c =
    let begins = c.see.ensures.seen.now.begins in
    let named = head_later g.N.Life.opens c.args.pass.now.log c.see.new.pass.log c.args.page c.args.head begins c.requires.head in
    let u = c.follow.ensures.entered in
    rebuilt_later g.N.Life.opens c.see.new.pass.log c.follow.new.pass.log c.args.page c.args.head _ (u.gained, sym u.is) named
    (made g.N.Life.opens c.see.new.pass.log c.args.page c.args.head c.see.ensures.seen.now.consistent named c.args.base (base_later g.N.Life.opens c.args.pass.now.log c.see.new.pass.log c.args.page c.args.head c.args.base begins c.requires.head c.requires.base)
    c.start-low.result.0 c.start-low.ensures.0 c.start-low.result.1 c.start-low.ensures.1 c.in_ok-records.records.items c.in_ok-records.ensures.records c.replay.new.state c.in_ok-replay.field-0 c.in-Some.state c.if-not-branch.false c.in_ok-replay.ensures.done c.replay.ensures.rules c.in-Some.is)

pub replay-requires-clause-rules : goal.replay-requires-clause-rules
replay-requires-clause-rules g c = base_keeps g.N.Life.opens c.args.pass.now.log c.args.page c.args.head c.args.base c.requires.base c.start-low.result.1 c.start-low.ensures.1

pub returns-in_err-records-clause-entered : goal.returns-in_err-records-clause-entered
returns-in_err-records-clause-entered g c = upheld_both _ _ _ _ _ _ _ _ _ (looks _ _ _ _ _ _ _ _ _ c.see.ensures.seen) c.follow.ensures.entered

pub returns-in_err-records-clause-refused : goal.returns-in_err-records-clause-refused
returns-in_err-records-clause-refused g c =
    let p = err_from_is_err_and c.from_residual.result c.from_residual.ensures.1 in
    rw (p.1, p.2) (fails_after g.N.Life.opens g.N.Life.log_faults g.N.Life.made _ _ _ _ _ _ c.see.ensures.calm.end c.see.ensures.seen.keeps _ _ (omega arith) c.in_err-records.ensures.refused)

pub returns-in_err-replay-clause-entered : goal.returns-in_err-replay-clause-entered
returns-in_err-replay-clause-entered g c = upheld_both _ _ _ _ _ _ _ _ _ (looks _ _ _ _ _ _ _ _ _ c.see.ensures.seen) c.follow.ensures.entered

pub returns-then-not-branch-clause-entered : goal.returns-then-not-branch-clause-entered
returns-then-not-branch-clause-entered g c = upheld_both _ _ _ _ _ _ _ _ _ (looks _ _ _ _ _ _ _ _ _ c.see.ensures.seen) c.follow.ensures.entered

pub returns-in-Some-clause-entered : goal.returns-in-Some-clause-entered
returns-in-Some-clause-entered g c = upheld_both _ _ _ _ _ _ _ _ _ (looks _ _ _ _ _ _ _ _ _ c.see.ensures.seen) c.follow.ensures.entered

pub returns-in-None-clause-entered : goal.returns-in-None-clause-entered
returns-in-None-clause-entered g c = upheld_both _ _ _ _ _ _ _ _ _ (looks _ _ _ _ _ _ _ _ _ c.see.ensures.seen) c.follow.ensures.entered
