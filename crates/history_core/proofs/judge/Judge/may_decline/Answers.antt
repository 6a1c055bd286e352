use Rattle.history_core.proofs.Deciding.{chain, declines}
use Rattle.history_core.proofs.judge.Judge.may_decline.Goals as goal

pub returns-then-may_own : goal.returns-then-may_own
returns-then-may_own g c = λ opening h k.
    let may = (c.may_own.ensures opening h k).0 c.if-may_own.true in
    chain (c.is_declined.ensures opening h k) (declines opening h k.legal c.args.session c.args.tx may.0 may.1.0 may.1.1 c.args.request.now c.args.why.now)
