use Rattle.std.proofs.Common.{◌≡◌, Some, sym, ap, subst, ◌∙◌, Less}
use Rattle.std.specs.Ordering.{nat_cmp}
use Rattle.std.specs.Option.{option_copied}
use Rattle.std.specs.Cmp.Lexicographic.{slice_cmp}
use Rattle.std.proofs.lemmas.Option.{IfSome_then}
use Rattle.range_lock.specs.Point.{PointLock}
use Rattle.range_lock.proofs.Texts.{below_front_bound}
use Rattle.range_lock.proofs.search.first_entry.Goals as goal

pub returns-clause-below : goal.returns-clause-below
returns-clause-below g c = IfSome_then c.new.result c.new.ensures.value (λ p is q e.
    let low : c.args.range.now.low ≡ Some c.in_ok-low.low.now = sym c.low.ensures.value ∙ sym c.as_bytes.ensures ∙ ap option_copied c.in_ok-low.was in
    below_front_bound c.min.result q c.in_ok-low.low.now c.args.range.now.low low (subst (λ (k : PointLock). slice_cmp nat_cmp q k.key ≡ Less) is e))

pub returns-clause-first : goal.returns-clause-first
returns-clause-first g c = IfSome_then c.new.result c.new.ensures.value (λ p is. ap (λ (k : PointLock). k.tx) is)
