use Rattle.std.proofs.Common.{◌≡◌, ◌∙◌, ℕ, List, length, ap, arith, subst, sym}
use Rattle.std.specs.Prelude.{map}
use Rattle.wal_record.specs.declared.analysis.PageHead.{PageHead}
use Rattle.restart.specs.Plans.{flags, is_behind}
use Rattle.restart.proofs.Bits.{flags_same, item_within}
use Rattle.restart.proofs.plan.RestartPlan.new.Goals as goal

pub returns : goal.returns
returns c =
    let heads_are = ap (λ (l : List PageHead). length l) c.as_slice-heads.ensures in
    let pages_are : c.in-Ok.pages ≡ length c.args.analysis.now.heads = c.in-Ok.ensures.1 ∙ heads_are in
    subst (λ (count : ℕ). flags count c.loop-place.words.items ≡ map is_behind c.args.analysis.now.heads) (sym pages_are)
    (flags_same is_behind _ _ (λ k h at. c.loop-place.invariant.1 k h (let w = item_within _ k h at in let f = c.loop-place-test.false in omega (arith, w, f, heads_are)) at))
