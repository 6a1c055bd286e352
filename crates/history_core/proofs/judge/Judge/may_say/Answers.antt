use Rattle.std.proofs.Common.{sym, ◌∙◌}
use Rattle.history_core.proofs.Deciding.{chain, says}
use Rattle.history_core.proofs.judge.Judge.may_say.Goals as goal

pub returns-then-is_owner : goal.returns-then-is_owner
returns-then-is_owner c = λ opening h k.
    chain (c.is_reply.ensures opening h k) (says opening h k.legal c.args.session c.args.tx (sym (c.is_owner.ensures opening h k.phases) ∙ c.if-is_owner.true) c.args.request.now c.args.reply.now)
