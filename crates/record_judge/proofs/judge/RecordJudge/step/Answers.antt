use Rattle.std.proofs.Common.{refl, subst, arith, ◌≡◌, ◌+◌, length}
use Rattle.std.specs.Prelude.{IfSome}
use Rattle.wal_record.specs.Rules.{HasSpelling}
use Rattle.record_judge.specs.Judging.{IsVerdict}
use Rattle.record_judge.proofs.Taking.{on_err}
use Rattle.record_judge.proofs.judge.RecordJudge.step.Goals as goal

pub take-requires-clause-spelled : goal.take-requires-clause-spelled
take-requires-clause-spelled g c = subst (λ found. IfSome found (λ x. HasSpelling c.args.entered.now)) c.in-Some.is c.in_ok-found.ensures.spelled

pub returns-in-None-clause-judged : goal.returns-in-None-clause-judged
returns-in-None-clause-judged g c = λ log k. (subst (IsVerdict log c.args.entered.now) c.in-None.is (c.in_ok-found.ensures.verdict log k), refl)

pub returns-in_ok-take-in-Some-clause-judged : goal.returns-in_ok-take-in-Some-clause-judged
returns-in_ok-take-in-Some-clause-judged g c = λ log k.
    let small = c.length_law.ensures log k.names in
    let v = subst (IsVerdict log c.args.entered.now) c.in-Some.is (c.in_ok-found.ensures.verdict log k) in
    let last = c.last.ensures log k.listing in
    let next : c.saturating_add-lsn.result ≡ length log + 1 = let sum = c.saturating_add-lsn.ensures in omega (arith, sum, last, small) in
    (v.0, c.in_ok-take-in-Some.ensures.ok log k v next)

pub returns-in_err-take-in-Some-clause-err : goal.returns-in_err-take-in-Some-clause-err
returns-in_err-take-in-Some-clause-err g c = λ log k.
    let small = c.length_law.ensures log k.names in
    let last = c.last.ensures log k.listing in
    let next : c.saturating_add-lsn.result ≡ length log + 1 = let sum = c.saturating_add-lsn.ensures in omega (arith, sum, last, small) in
    on_err _ (c.in_err-take-in-Some.ensures.err log k next)
