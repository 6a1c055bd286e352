use Rattle.std.proofs.Common.{List, length, ℕ, Bool, arith, ap, subst, sym, ◌∙◌}
use Rattle.std.proofs.lemmas.List.{with_items_is}
use Rattle.restart.specs.Plans.{Comes, flag_at, flags}
use Rattle.restart.proofs.Bits.{comes, plan_length}
use Rattle.restart.proofs.plan.RestartPlan.came.Goals as goal

pub clear_flag-requires : goal.clear_flag-requires
clear_flag-requires c = rw c.as_mut_slice.ensures.value (let l = plan_length _ _ _ c.self.view_is in let v = c.self.invariant in let i = c.in-Some.ensures.inside in omega (arith, l, v, i))

pub returns-in-Some : goal.returns-in-Some
returns-in-Some c =
    let len = c.clear_flag.auto.words ∙ ap (λ (ws : List ℕ). length ws) c.as_mut_slice.ensures.value ∙ sym c.self.inside.words.ok.0 in
    subst (λ (ws : List ℕ). Comes c.args.page c.args.self.now (flags c.self.inside.pages ws)) (sym (with_items_is c.self.inside.words c.clear_flag.new.words len))
    (subst (λ (old : List Bool). Comes c.args.page old (flags c.self.inside.pages c.clear_flag.new.words)) c.self.view_is
    (comes c.self.inside.pages c.in-Some.place c.args.page c.self.inside.words.items c.clear_flag.new.words c.in-Some.ensures.page
    (let l = plan_length _ _ _ c.self.view_is in let i = c.in-Some.ensures.inside in omega (arith, l, i)) c.clear_flag.ensures.clear
    (λ m apart. c.clear_flag.ensures.others m apart ∙ ap (λ (ws : List ℕ). flag_at ws m) c.as_mut_slice.ensures.value)))
