use Rattle.history_core.proofs.Entered.{write_exact}
use Rattle.history_core.proofs.judge.Judge.may_write.Goals as goal

pub returns-then-is_live : goal.returns-then-is_live
returns-then-is_live c = λ opening h k.
    write_exact opening h k.sound k.legal c.args.tx c.args.key.now ((c.is_live.ensures opening h k.phases).0 c.if-is_live.true) _ (c.covers_write.ensures h k.locks)
