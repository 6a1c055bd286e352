use Rattle.std.proofs.Common.{◌≡◌, ℕ, suc, subst}
use Rattle.std.specs.Prelude.{◌↔◌, IsTrue}
use Rattle.record_judge.proofs.judge.RecordJudge.is_next_page.Goals as goal

pub returns : goal.returns
returns c = λ log k. subst (λ (n : ℕ). IsTrue c.is_one_above.result ↔ (c.args.page ≡ suc n)) (c.pages.ensures log k.listing) c.is_one_above.ensures
