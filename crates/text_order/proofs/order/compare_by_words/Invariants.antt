use Rattle.std.proofs.Common.{◌≡◌, length}
use Rattle.std.specs.Ordering.{nat_cmp}
use Rattle.std.specs.Cmp.Lexicographic.{slice_cmp}
use Rattle.text_order.proofs.Words.{AreBytes}
use Rattle.text_order.proofs.order.compare_by_words.Given as goal

-- what is left to compare is ordered as the texts are
abbrev pub invariant-loop-left : goal.invariant-loop-left
invariant-loop-left l = record {
  left : AreBytes l.left;
  right : AreBytes l.right;
  order : slice_cmp nat_cmp l.left l.right ≡ slice_cmp nat_cmp l.a l.b;
}

abbrev pub decreases-loop-left : goal.decreases-loop-left
decreases-loop-left l = length l.left
