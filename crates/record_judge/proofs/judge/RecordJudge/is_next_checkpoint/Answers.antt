use Rattle.std.proofs.Common.{◌≡◌, subst}
use Rattle.std.specs.Prelude.{◌↔◌, IsTrue}
use Rattle.record_judge.proofs.judge.RecordJudge.is_next_checkpoint.Goals as goal

pub returns : goal.returns
returns c = λ log k. subst (λ x. IsTrue c.same_checkpoint.result ↔ (c.args.checkpoint.now ≡ x)) (c.in_ok-next.ensures log k.listing) c.same_checkpoint.ensures
