use Rattle.std.proofs.Common.{sym, ◌∙◌}
use Rattle.std.proofs.Math.Facts.{Fits-lt-pow}
use Rattle.std.specs.Ordering.{nat_cmp}
use Rattle.text_order.proofs.Words.{by_words, goes_on, is_equal, rest_is, same_number}
use Rattle.text_order.proofs.order.compare_texts.Goals as goal

pub returns-then-x-y : goal.returns-then-x-y
returns-then-x-y c =
    let a = c.args.a.now in
    let b = c.args.b.now in
    let x = c.in-Some-Some.ensures.value in
    let y = c.in-Some-Some.ensures'.value in
    c.compare_by_words-then-x-y.ensures ∙ rw (rest_is 8 a x.1, rest_is 8 b y.1)
    (goes_on a b (λ i. Fits-lt-pow (c.type_inv.a i)) (λ i. Fits-lt-pow (c.type_inv.b i)) (rw (← x.0, ← y.0, c.if-x-y.true) (is_equal c.in-Some-Some.y)) x.1 y.1)

pub returns-else-x-y : goal.returns-else-x-y
returns-else-x-y c =
    let x = c.in-Some-Some.ensures.value.0 in
    let y = c.in-Some-Some.ensures'.value.0 in
    c.cmp.ensures ∙ rw (x, y)
    (by_words c.args.a.now c.args.b.now (λ i. Fits-lt-pow (c.type_inv.a i)) (λ i. Fits-lt-pow (c.type_inv.b i)) (λ e. c.if-x-y.false (x ∙ same_number _ _ e ∙ sym y)))
