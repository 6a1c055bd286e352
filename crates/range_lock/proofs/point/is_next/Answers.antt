use Rattle.std.proofs.Common.{◌≡◌, ℕ, List, [], ◌∷◌, ◌++◌, true, ap, sym, subst, ◌∙◌, nat_eq}
use Rattle.std.specs.Cmp.Lexicographic.{pointwise, same_text}
use Rattle.std.proofs.lemmas.List.{same_from_push}
use Rattle.std.proofs.lemmas.Cmp.{nat_list_eq_equiv}
use Rattle.range_lock.proofs.point.is_next.Goals as goal

pub returns-then-last-eq0 : goal.returns-then-last-eq0
returns-then-last-eq0 c =
    let front = c.in-Some.front.now in
    let text = c.args.text.now in
    let is : c.args.next.now ≡ front ++ 0 ∷ [] = c.in-Some.ensures.cases.0 ∙ ap (λ (n : ℕ). front ++ n ∷ []) c.if-last-eq0.true in (
      λ h. is ∙ ap (λ (t : List ℕ). t ++ 0 ∷ []) (same_text front text (sym h ∙ c.eq.ensures)),
      λ e. c.eq.ensures ∙ subst (λ (t : List ℕ). pointwise nat_eq front t ≡ true) (same_from_push front text 0 0 (sym is ∙ e)).0 (nat_list_eq_equiv.refl front),
    )
