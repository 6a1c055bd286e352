use Rattle.std.proofs.Common.{◌≡◌, List, arith, ap, length, length-append, ◌∷◌, ◌++◌, [], ◌∙◌}
use Rattle.wal_record.specs.declared.record.Record.{Record}
use Rattle.page_repair.proofs.Following.{falls, few_more, found_more, named_before, spelled_more, still_ended, still_known, at_head, was_open_before}
use Rattle.page_repair.proofs.back.follow.Goals as goal

pub record_at-requires : goal.record_at-requires
record_at-requires g c = record { named = λ log h. c.loop-lsn.invariant.named log ((c.loop-lsn.invariant.answers log).1 h) (λ z. omega (arith, z, c.loop-lsn-test.true)) }

pub returns-in-Err-clause-few : goal.returns-in-Err-clause-few
returns-in-Err-clause-few g c = λ log h.
    let some = few_more log c.args.page c.args.low c.loop-lsn.lsn c.args.head c.loop-lsn.records.items (c.requires.chain.lawful log h) (c.loop-lsn.invariant.named log h (λ z. omega (arith, z, c.loop-lsn-test.true))) c.loop-lsn-test.true (c.loop-lsn.invariant.records log h) in
    omega (arith, some, c.record_at.ensures.counted, c.loop-lsn.invariant.counted)

pub returns-then-lsn-before-clause-few : goal.returns-then-lsn-before-clause-few
returns-then-lsn-before-clause-few g c = λ log h.
    let some = few_more log c.args.page c.args.low c.loop-lsn.lsn c.args.head c.loop-lsn.records.items (c.requires.chain.lawful log h) (c.loop-lsn.invariant.named log h (λ z. omega (arith, z, c.loop-lsn-test.true))) c.loop-lsn-test.true (c.loop-lsn.invariant.records log h) in
    omega (arith, some, c.record_at.ensures.counted, c.loop-lsn.invariant.counted)

-- an untold step that doesn't fall
pub returns-then-lsn-before-clause-refused : goal.returns-then-lsn-before-clause-refused
returns-then-lsn-before-clause-refused g c = rw (c.bad_chain.ensures) (λ log h.
    falls log c.args.page c.loop-lsn.lsn c.in-Ok.record (c.requires.chain.lawful log h) (c.loop-lsn.invariant.named log h (λ z. omega (arith, z, c.loop-lsn-test.true))) (c.in-Ok.ensures.found log ((c.loop-lsn.invariant.answers log).0 h))
    (omega (arith, c.if-lsn-before.true, c.previous-before.ensures)))

pub loop-lsn-preserved : goal.loop-lsn-preserved
loop-lsn-preserved g c =
    let pushed : c.push_reserved.new.self.items ≡ c.loop-lsn.records.items ++ c.in-Ok.record ∷ [] = c.push_reserved.ensures.items ∙ ap (λ (rs : List Record). rs ++ c.in-Ok.record ∷ []) c.reserve.ensures.items in
    record {
      records = λ log h.
          found_more log c.args.page c.loop-lsn.lsn c.in-Ok.record (c.requires.chain.lawful log h) (c.loop-lsn.invariant.named log h (λ z. omega (arith, z, c.loop-lsn-test.true)))
          (c.in-Ok.ensures.found log ((c.loop-lsn.invariant.answers log).0 h)) c.args.low c.args.head c.previous-before.result c.loop-lsn.records.items c.push_reserved.new.self.items c.loop-lsn-test.true c.previous-before.ensures pushed
          (c.loop-lsn.invariant.records log h);
      named = λ log h.
          named_before log c.args.page c.loop-lsn.lsn c.in-Ok.record (c.requires.chain.lawful log h) (c.loop-lsn.invariant.named log h (λ z. omega (arith, z, c.loop-lsn-test.true)))
          (c.in-Ok.ensures.found log ((c.loop-lsn.invariant.answers log).0 h)) c.previous-before.result c.previous-before.ensures;
      spelled = rw pushed (spelled_more c.loop-lsn.records.items c.in-Ok.record c.loop-lsn.invariant.spelled c.in-Ok.ensures.spelling);
      answers = λ log. (λ h. (c.record_at.ensures.answers log).0 ((c.loop-lsn.invariant.answers log).0 h), λ h. (c.loop-lsn.invariant.answers log).1 ((c.record_at.ensures.answers log).1 h));
      counted = omega (arith, c.record_at.ensures.counted, c.loop-lsn.invariant.counted, ap length pushed, length-append c.loop-lsn.records.items (c.in-Ok.record ∷ []));
      faults = record { log = omega (arith, c.loop-lsn.invariant.faults.log, c.record_at.ensures.faults.log); vault = omega (arith, c.loop-lsn.invariant.faults.vault, c.record_at.ensures.faults.vault) };
      ended = still_ended (g.C.Chain.ended c.args.chain.now) (g.C.Chain.ended c.loop-lsn.chain) _ c.loop-lsn.invariant.ended (still_known c.record_at.result (g.C.Chain.ended c.loop-lsn.chain) _ c.record_at.ensures.ended);
      first = was_open_before c.in-Ok.record (g.C.Chain.ended c.args.chain.now) (g.C.Chain.ended c.loop-lsn.chain) _ _ c.loop-lsn.invariant.ended c.in-Ok.ensures.ended;
    }

pub returns-clause-ends : goal.returns-clause-ends
returns-clause-ends g c = λ some. at_head (g.C.Chain.ended c.args.chain.now) c.args.low c.loop-lsn.lsn c.args.head _ c.loop-lsn-test.false some c.loop-lsn.invariant.first
