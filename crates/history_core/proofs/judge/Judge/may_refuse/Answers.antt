use Rattle.wal_record.specs.Legal.{held}
use Rattle.judge_laws.proofs.Barring.{refusing}
use Rattle.history_core.proofs.Deciding.{chain}
use Rattle.history_core.proofs.judge.Judge.may_refuse.Goals as goal

pub returns-then-may_act : goal.returns-then-may_act
returns-then-may_act c = λ opening h k.
    let may = (c.may_act.ensures opening h k).0 c.if-may_act.true in
    chain (c.is_first.ensures opening h k) ((refusing opening h).may k.sound k.legal may.0 c.args.tx (held c.args.range.now c.args.mode) may.1 c.args.holder)
