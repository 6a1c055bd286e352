use Rattle.std.proofs.Common.{◌≡◌, ◌≤◌, ◌+◌, length, refl, subst}
use Rattle.std.specs.Prelude.{IfSome}
use Rattle.wal_record.specs.History.{life_log}
use Rattle.wal_record.specs.Rules.{HasSpelling}
use Rattle.record_judge.proofs.Taking.{on_err}
use Rattle.history_core.specs.Judging.{IsVerdictOn}
use Rattle.history_core.proofs.judge.Judge.step_record.Goals as goal

pub take_record-requires-clause-first : goal.take_record-requires-clause-first
take_record-requires-clause-first g c = subst (λ found. IfSome found (λ x. 1 ≤ c.args.lsn)) c.in-Some.is c.in_ok-found.ensures.first

pub take_record-requires-clause-spelled : goal.take_record-requires-clause-spelled
take_record-requires-clause-spelled g c = subst (λ found. IfSome found (λ x. HasSpelling c.args.entered.now)) c.in-Some.is c.in_ok-found.ensures.spelled

pub returns-in-None-clause-judged : goal.returns-in-None-clause-judged
returns-in-None-clause-judged g c = λ opening h k. (subst (IsVerdictOn opening h c.args.lsn c.args.entered.now) c.in-None.is (c.in_ok-found.ensures.verdict opening h k), refl)

pub returns-in_ok-take_record-in-Some-clause-judged : goal.returns-in_ok-take_record-in-Some-clause-judged
returns-in_ok-take_record-in-Some-clause-judged g c = λ opening h k.
    let v = subst (IsVerdictOn opening h c.args.lsn c.args.entered.now) c.in-Some.is (c.in_ok-found.ensures.verdict opening h k) in
    (v.0, c.in_ok-take_record-in-Some.ensures.ok opening h k v)

pub returns-in_err-take_record-in-Some-clause-err : goal.returns-in_err-take_record-in-Some-clause-err
returns-in_err-take_record-in-Some-clause-err g c = λ opening h k.
    on_err _ (c.in_err-take_record-in-Some.ensures.err opening h k (subst (λ found. IfSome found (λ x. c.args.lsn ≡ length (life_log opening h) + 1)) c.in-Some.is (c.in_ok-found.ensures.place opening h k)))
