use Rattle.std.proofs.Common.{◌≡◌, ◌<◌, ◌+◌, ◌⊎◌, true, false, not, ℕ, List, length, drop, inl, inr, refl, sym, subst, ◌∙◌, arith}
use Rattle.std.specs.declared.cmp.Ordering.{Ordering}
use Rattle.std.specs.declared.cmp.Ordering.TheVariants.{Less, Equal, Greater}
use Rattle.std.specs.Ordering.{ordering_index, nat_cmp}
use Rattle.std.specs.Bool.{◌==◌}
use Rattle.std.proofs.Math.Facts.{Fits-lt-pow}
use Rattle.std.proofs.lemmas.List.{get_or-drop}
use Rattle.std.specs.Cmp.Lexicographic.{slice_cmp}
use Rattle.text_order.specs.Words.{word}
use Rattle.text_order.proofs.Words.{AreBytes, by_words, goes_on, ends, rest_is}
use Rattle.text_order.proofs.order.compare_by_words.Goals.{in_default-via-in-Some+in_default, in_default-via-in_default}
use Rattle.text_order.proofs.order.compare_by_words.Goals as goal

behind_bytes : (xs : List ℕ) → AreBytes xs → AreBytes (drop 8 xs)
behind_bytes xs s i = subst (λ (x : ℕ). x < 256) (sym (get_or-drop 8 xs i 0)) (s (8 + i))

short_of : (n : ℕ) → (n < 8) ⊎ (n < n) → n < 8
short_of n (inl l) = l
short_of n (inr l) = absurd (omega (arith, l))

-- an order that isn't `Equal`, and one that is
other : (o : Ordering) → not (ordering_index o == 1) ≡ true → o ≡ Equal → ⊥
other Less e f = absurd cc
other Equal e f = absurd cc
other Greater e f = absurd cc

same : (o : Ordering) → not (ordering_index o == 1) ≡ false → o ≡ Equal
same Less e = absurd cc
same Equal e = refl
same Greater e = absurd cc

pub loop-left-init : goal.loop-left-init
loop-left-init c = record { left = λ i. Fits-lt-pow (c.type_inv.a i); right = λ i. Fits-lt-pow (c.type_inv.b i); order = refl }

pub returns-then-ne : goal.returns-then-ne
returns-then-ne c =
    let here = c.loop-left in
    c.cmp-order.ensures ∙ rw (c.word_of.ensures, c.word_of-in-loop-left.ensures)
    (by_words here.left.now here.right.now here.invariant.left here.invariant.right
    (λ e. other c.cmp-order.result (sym c.ne.ensures ∙ c.if-ne.true) (c.cmp-order.ensures ∙ rw (c.word_of.ensures, c.word_of-in-loop-left.ensures) e)))
    ∙ here.invariant.order

pub loop-left-preserved : goal.loop-left-preserved
loop-left-preserved c =
    let here = c.loop-left in
    let left = c.in-Some-Some.ensures.lookup.0 in
    let right = c.in-Some-Some.ensures'.lookup.0 in
    let x : c.in-Some-Some.x.now ≡ drop 8 here.left.now = left.2 ∙ rest_is 8 here.left.now left.0 in
    let y : c.in-Some-Some.y.now ≡ drop 8 here.right.now = right.2 ∙ rest_is 8 here.right.now right.0 in
    let tied : nat_cmp (word 8 here.left.now) (word 8 here.right.now) ≡ Equal =
    rw (← c.word_of.ensures, ← c.word_of-in-loop-left.ensures) (sym c.cmp-order.ensures ∙ same c.cmp-order.result (sym c.ne.ensures ∙ c.if-ne.false)) in
    record {
      left = rw x (behind_bytes here.left.now here.invariant.left);
      right = rw y (behind_bytes here.right.now here.invariant.right);
      order = rw (x, y) (goes_on here.left.now here.right.now here.invariant.left here.invariant.right tied left.0 right.0) ∙ here.invariant.order;
    }

pub returns-in_default : goal.returns-in_default
returns-in_default c =
    let here = c.loop-left in
    let tied : nat_cmp (word 8 here.left.now) (word 8 here.right.now) ≡ Equal =
    rw (← c.word_of.ensures, ← c.word_of-in-loop-left.ensures) (sym c.cmp-order.ensures ∙ same c.cmp-order.result (sym c.ne.ensures ∙ c.if-ne.false)) in
    let at_end : (length here.left.now < 8) ⊎ (length here.right.now < 8) → nat_cmp (length here.left.now) (length here.right.now) ≡ slice_cmp nat_cmp c.args.a.now c.args.b.now =
    λ short. ends here.left.now here.right.now here.invariant.left here.invariant.right tied short ∙ here.invariant.order in
    c.cmp.ensures ∙ elim c.in_default.branch [
      | in_default-via-in-Some+in_default w ↦ at_end (inr (short_of (length here.right.now) w.in_default.ensures'.lookup.0))
      | in_default-via-in_default w ↦ at_end (inl (short_of (length here.left.now) w.in_default.ensures.lookup.0))
    ]
