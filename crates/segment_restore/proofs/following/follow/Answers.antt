use Rattle.std.proofs.Common.{◌≡◌, arith, ap, sym, subst, List, [], ◌∷◌, ◌++◌, reverse, ◌∙◌}
use Rattle.std.proofs.lemmas.Result.{err_from_is_err_and}
use Rattle.wal_record.specs.History.{life_log}
use Rattle.wal_record.specs.declared.record.Record.{Record}
use Rattle.chain_laws.specs.Steps.{named_between}
use Rattle.page_repair.specs.Rebuild.{AreSpelled}
use Rattle.front.proofs.Keeping.{prefix_trans}
use Rattle.page_repair.proofs.Following.{found_more, named_before, spelled_more}
use Rattle.segment_restore.proofs.Chains.{found_in, head_later, looks, open_then, rises_untold, upheld_both}
use Rattle.segment_restore.proofs.Owned.{fails_after}
use Rattle.segment_restore.proofs.following.follow.Goals as goal

pub record_at-requires : goal.record_at-requires
record_at-requires g c =
    let named = c.loop-lsn.invariant.named (λ z. omega (arith, z, c.loop-lsn-test.true)) in
    record { named = head_later g.N.Life.opens c.args.pass.now.log c.loop-lsn.pass.log c.args.page c.loop-lsn.lsn c.loop-lsn.invariant.begins named }

pub loop-lsn-preserved : goal.loop-lsn-preserved
loop-lsn-preserved g c =
    let named = c.loop-lsn.invariant.named (λ z. omega (arith, z, c.loop-lsn-test.true)) in
    let u = c.record_at.ensures.entered in
    let begins = prefix_trans c.args.pass.now.log c.loop-lsn.pass.log c.record_at.new.pass.log c.loop-lsn.invariant.begins (u.gained, sym u.is) in
    let found = c.in_ok-record.ensures.found in
    let pushed : c.push_reserved.new.self.items ≡ c.loop-lsn.records.items ++ c.in_ok-record.record ∷ [] = c.push_reserved.ensures.items ∙ ap (λ (rs : List Record). rs ++ c.in_ok-record.record ∷ []) c.reserve.ensures.items in
    record {
      records = λ opening stands.
          found_more _ c.args.page c.loop-lsn.lsn c.in_ok-record.record ((c.requires.consistent.sound opening stands).lawful) (named opening stands)
          (found_in g.N.Life.opens c.args.pass.now.log c.record_at.new.pass.log c.args.page c.loop-lsn.lsn c.in_ok-record.record begins named opening stands (found.1 opening stands))
          c.args.low c.args.head c.previous-before.result c.loop-lsn.records.items c.push_reserved.new.self.items c.loop-lsn-test.true c.previous-before.ensures pushed (c.loop-lsn.invariant.records opening stands);
      named = λ some opening stands.
          named_before _ c.args.page c.loop-lsn.lsn c.in_ok-record.record ((c.requires.consistent.sound opening stands).lawful) (named opening stands)
          (found_in g.N.Life.opens c.args.pass.now.log c.record_at.new.pass.log c.args.page c.loop-lsn.lsn c.in_ok-record.record begins named opening stands (found.1 opening stands))
          c.previous-before.result c.previous-before.ensures some;
      spelled = rw pushed (spelled_more c.loop-lsn.records.items c.in_ok-record.record c.loop-lsn.invariant.spelled found.0);
      begins = begins;
      entered = upheld_both _ _ _ _ _ _ _ _ _ c.loop-lsn.invariant.entered c.record_at.ensures.entered;
      open_still = open_then _ _ _ c.loop-lsn.invariant.open_still c.in_ok-record.ensures.open;
      faults = let i = c.loop-lsn.invariant.faults in let j = c.record_at.ensures.faults in omega (arith, i, j);
    }

-- an untold step that doesn't fall
pub returns-then-lsn-before-clause-refused : goal.returns-then-lsn-before-clause-refused
returns-then-lsn-before-clause-refused g c =
    let named = head_later g.N.Life.opens c.args.pass.now.log c.loop-lsn.pass.log c.args.page c.loop-lsn.lsn c.loop-lsn.invariant.begins (c.loop-lsn.invariant.named (λ z. omega (arith, z, c.loop-lsn-test.true))) in
    let u = c.record_at.ensures.entered in
    rw (c.bad_chain.ensures) (
      open_then _ _ _ c.loop-lsn.invariant.open_still c.in_ok-record.ensures.open,
      rises_untold g.N.Life.opens c.loop-lsn.pass.log c.record_at.new.pass.log c.args.page c.loop-lsn.lsn c.in_ok-record.record (u.gained, sym u.is) u.consistent named c.in_ok-record.ensures.found.1 (omega (arith, c.if-lsn-before.true, c.previous-before.ensures)),
    )

pub returns-then-lsn-before-clause-entered : goal.returns-then-lsn-before-clause-entered
returns-then-lsn-before-clause-entered g c = upheld_both _ _ _ _ _ _ _ _ _ c.loop-lsn.invariant.entered c.record_at.ensures.entered

pub returns-in_err-record-clause-entered : goal.returns-in_err-record-clause-entered
returns-in_err-record-clause-entered g c = upheld_both _ _ _ _ _ _ _ _ _ c.loop-lsn.invariant.entered c.record_at.ensures.entered

pub returns-in_err-record-clause-refused : goal.returns-in_err-record-clause-refused
returns-in_err-record-clause-refused g c =
    let p = err_from_is_err_and c.from_residual-in_err-record.result c.from_residual-in_err-record.ensures.1 in
    rw (p.1, p.2) (fails_after g.N.Life.opens g.N.Life.log_faults g.N.Life.made _ _ _ _ _ _ c.loop-lsn.invariant.open_still c.loop-lsn.invariant.entered.keeps _ _ c.loop-lsn.invariant.faults c.in_err-record.ensures.refused)

pub loop-lsn-init : goal.loop-lsn-init
loop-lsn-init g c = record {
  records = λ opening stands. ap (λ (rs : List Record). rs ++ reverse (named_between (life_log opening c.args.pass.now.log) c.args.page c.args.low c.args.head)) (sym c.new-records.ensures.items);
  named = λ some. c.requires.named;
  spelled = subst AreSpelled (sym c.new-records.ensures.items) tt;
  begins = c.see.ensures.seen.now.begins;
  entered = looks _ _ _ _ _ _ _ _ _ c.see.ensures.seen;
  open_still = c.see.ensures.calm.end;
  faults = omega arith;
}
