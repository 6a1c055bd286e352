use Rattle.std.proofs.Common.{◌/◌, arith, inl, inr}
use Rattle.std.proofs.Math.Facts.{Fits-lt-pow}
use Rattle.std.proofs.lemmas.Bool.{cases_lt}
use Rattle.restart.proofs.Bits.{found_there, none_ahead, none_before}
use Rattle.restart.proofs.flags.next_flag.Goals as goal

pub returns-then-found-count : goal.returns-then-found-count
returns-then-found-count c =
    let some = c.if-rest-ne0.true in (
      (let f = c.loop-place.invariant.0 in omega (arith, f)),
      c.if-found-count.true,
      found_there c.args.words.now c.loop-place.place (omega (arith, some)) (Fits-lt-pow (c.type_inv.words (c.loop-place.place / 64))),
      λ n from below. elim (cases_lt n c.loop-place.place) [
        | inl before ↦ c.loop-place.invariant.1 n from before
        | inr there ↦ none_before c.args.words.now c.loop-place.place (omega (arith, some)) (Fits-lt-pow (c.type_inv.words (c.loop-place.place / 64))) n there below
      ],
    )

pub returns-else-found-count : goal.returns-else-found-count
returns-else-found-count c =
    let some = c.if-rest-ne0.true in
    λ n from below. elim (cases_lt n c.loop-place.place) [
      | inl before ↦ c.loop-place.invariant.1 n from before
      | inr there ↦ none_before c.args.words.now c.loop-place.place (omega (arith, some)) (Fits-lt-pow (c.type_inv.words (c.loop-place.place / 64))) n there (let far = c.if-found-count.false in omega (arith, far, below))
    ]

pub loop-place-preserved : goal.loop-place-preserved
loop-place-preserved c = (
  (let f = c.loop-place.invariant.0 in omega (arith, f)),
  λ n from below. elim (cases_lt n c.loop-place.place) [
    | inl before ↦ c.loop-place.invariant.1 n from before
    | inr there ↦ none_ahead c.args.words.now c.loop-place.place c.if-rest-ne0.false n there below
  ],
)
