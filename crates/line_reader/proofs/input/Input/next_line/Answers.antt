use Rattle.std.proofs.Common.{◌≡◌, ◌∷◌, [], ◌+◌, ℕ, Ok, refl, sym, ap, subst, ◌∙◌, arith, length, length-append, nat_le}
use Rattle.std.specs.Prelude.{if◌then◌else◌}
use Rattle.media.specs.declared.fault.Failed.{Failed}
use Rattle.line_reader.specs.declared.input.Filled.{Filled}
use Rattle.line_reader.specs.Lines.{Fills, TakesNext, has_end, longest_script}
use Rattle.line_reader.proofs.Reading.{at_line, end_off, more, one_more, parted}
use Rattle.line_reader.proofs.input.Input.next_line.Goals as goal

pub returns-then-ends-clause-bytes : goal.returns-then-ends-clause-bytes
returns-then-ends-clause-bytes g c =
    let left = g.S.Source.left c.fill.new.source in
    let fill = subst (λ (x : Filled). Fills {E = Failed} c.loop.self c.fill.new.self (g.S.Source.left c.loop.source) left (Ok x)) c.in-Some.is c.in-Ok.ensures.bytes in
    let p = c.in-Ok-give.ensures.part in
    let old = c.args.self.now in
    let line = c.give.new.line in
    let size : length line.items ≡ length c.loop.line.items + length p.part = ap length p.line ∙ length-append c.loop.line.items p.part in
    let taken : c.skip.new.self.taken ≡ old.taken + length line.items + 1 = omega (arith, c.skip.ensures.counts.0, p.taken, c.fill.ensures.counts.0, c.loop.invariant.taken, size) in
    let lines : c.skip.new.self.lines ≡ old.lines = c.skip.ensures.counts.1 ∙ c.give.ensures.same.0 ∙ c.fill.ensures.counts.1 ∙ c.loop.invariant.lines in
    subst (TakesNext old c.finish.new.self (g.S.Source.left c.args.source.now) left) (sym c.finish.ensures.next)
    (at_line old c.give.new.self c.skip.new.self c.finish.new.self _ left _ line 10
    (more old c.loop.self c.fill.new.self c.give.new.self _ (g.S.Source.left c.loop.source) left c.loop.line.items line.items _ _ c.loop.invariant.bytes fill.0 p)
    (parted c.give.new.self c.skip.new.self left (10 ∷ []) (end_off c.give.new.self c.skip.new.self _ _ _ c.if-ends.true p.next c.skip.ensures.pending)) refl
    (ap has_end p.line ∙ one_more c.loop.line.items p.part c.loop.invariant.one p.one) (omega (arith, size, p.bound, c.loop.invariant.short, c.len.ensures, c.if-len-eq-LONGEST_LINE.false)) taken c.finish.ensures.same.0 c.finish.ensures.same.1
    (subst (λ (n : ℕ). c.finish.new.self.lines ≡ (if nat_le c.skip.new.self.taken longest_script then n + 1 else n)) lines c.finish.ensures.lines))
