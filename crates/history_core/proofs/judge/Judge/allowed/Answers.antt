use Rattle.std.proofs.Common.{◌≡◌, true, false, sym, ◌∙◌}
use Rattle.std.proofs.lemmas.Result.{IfOk-weaker}
use Rattle.wal_record.specs.History.{life_log}
use Rattle.record_judge.proofs.Deciding.{ok_all, some_all}
use Rattle.history_core.proofs.Entered.{next_of, verdict_on}
use Rattle.history_core.proofs.judge.Judge.allowed.Goals as goal

pub returns-then-not-may_enter-clause-verdict : goal.returns-then-not-may_enter-clause-verdict
returns-then-not-may_enter-clause-verdict g c = λ opening h k ok.
    (let both : true ≡ false = sym ((c.may_enter.ensures.exact opening h k).1 (next_of opening h c.args.lsn c.args.entered.now ok)) ∙ c.if-not-may_enter.true in absurd (cc both))

pub returns-clause-first : goal.returns-clause-first
returns-clause-first g c = ok_all c.verdict.result _ (λ found. some_all found _ (λ x. c.may_enter.ensures.first c.if-not-may_enter.false))

pub returns-clause-place : goal.returns-clause-place
returns-clause-place g c = λ opening h k. ok_all c.verdict.result _ (λ found. some_all found _ (λ x. ((c.may_enter.ensures.exact opening h k).0 c.if-not-may_enter.false).place))

pub returns-clause-verdict : goal.returns-clause-verdict
returns-clause-verdict g c = λ opening h k. IfOk-weaker c.verdict.result _ _
    (λ found v. verdict_on opening h c.args.lsn c.args.entered.now found ((c.may_enter.ensures.exact opening h k).0 c.if-not-may_enter.false) v)
    (c.verdict.ensures.verdict (life_log opening h) k.log)
