use Rattle.std.proofs.Common.{arith, refl, take, slice_index_or, ap, ◌∙◌, ◌+◌, ◌≡◌, suc, ℕ}
use Rattle.std.specs.Prelude.{IsTrue}
use Rattle.wal_record.specs.Rules.{segment_fits}
use Rattle.checkpoint_form.proofs.Along.{along_none, along_more, along_at, along_whole, above_more, item_is}
use Rattle.checkpoint_form.proofs.Items.{segment_goes_on, segment_above}
use Rattle.checkpoint_form.proofs.lists.are_segments.Goals as goal

pub loop-segment-init : goal.loop-segment-init
loop-segment-init c = record { least = refl; fit = along_none (λ before segment. IsTrue (segment_fits before segment)) c.args.segments.now }

pub returns-then-from-least-clause-all : goal.returns-then-from-least-clause-all
returns-then-from-least-clause-all c all =
    let i = c.loop-segment.segment-index in
    let least = segment_above (take i c.args.segments.now) (slice_index_or c.args.segments.now i 0) c.loop-segment.least c.loop-segment.invariant.least
    (along_at (λ before segment. IsTrue (segment_fits before segment)) c.args.segments.now i (slice_index_or c.args.segments.now i 0) (item_is c.args.segments.now i 0 c.loop-segment-test.true) c.loop-segment-test.true all) in
    absurd (omega (arith, least, c.from.ensures, c.if-from-least.true))

next : (n : ℕ) → n + 1 ≡ suc n
next n = omega arith

pub loop-segment-preserved : goal.loop-segment-preserved
loop-segment-preserved c =
    let i = c.loop-segment.segment-index in
    let xs = c.args.segments.now in
    let x = slice_index_or xs i 0 in
    let is = item_is xs i 0 c.loop-segment-test.true in
    record {
      least = ap (λ (n : ℕ). n + 1) c.from-least.ensures ∙ next x ∙ above_more xs i _ x is (omega arith) c.loop-segment-test.true;
      fit = along_more (λ before segment. IsTrue (segment_fits before segment)) xs i _ x is (omega arith) c.loop-segment-test.true c.loop-segment.invariant.fit
          (segment_goes_on (take i xs) x c.loop-segment.least c.loop-segment.invariant.least (grind (arith, c.type_inv.segments i)) (omega (arith, c.from.ensures, c.if-from-least.false)));
    }

pub returns-clause-fit : goal.returns-clause-fit
returns-clause-fit c true = along_whole (λ before segment. IsTrue (segment_fits before segment)) c.args.segments.now c.loop-segment.segment-index (omega (arith, c.loop-segment-test.false)) c.loop-segment.invariant.fit
