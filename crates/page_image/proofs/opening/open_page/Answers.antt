use Rattle.std.proofs.Common.{◌≡◌, ℕ, ◌≤◌, Ok, Err, Result, drop, sym, ap, ◌∙◌, arith}
use Rattle.store_model.proofs.Bools.{not_both}
use Rattle.std.proofs.lemmas.List.{length-drop}
use Rattle.state_codec.proofs.Fields.{IsBytes-drop}
use Rattle.page_image.specs.Reading.{number_in, sealed_at}
use Rattle.page_image.proofs.Reading.{image_found, image_is, sealed_within}
use Rattle.page_image.specs.declared.sealed.Sealed.{Sealed}
use Rattle.page_image.proofs.opening.open_page.Goals as goal

never : (x : Sealed) (left : ℕ) → ◌≡◌ {A = Result Sealed ℕ} (Ok x) (Err left) → ⊥
never x left e = absurd cc

ok_is : (x y : Sealed) → ◌≡◌ {A = Result Sealed ℕ} (Ok x) (Ok y) → x ≡ y
ok_is x y e = cc

pub returns-then-not-verifies-clause-only : goal.returns-then-not-verifies-clause-only
returns-then-not-verifies-clause-only c x keeps number e = not_both _ (c.verifies.ensures.1 (image_is c.args.page c.ranges.page.fits c.args.bytes.now x keeps number e).verifies) c.if-not-verifies.true

pub returns-then-number_in-page-clause-only : goal.returns-then-number_in-page-clause-only
returns-then-number_in-page-clause-only c x keeps number e = c.if-number_in-page.true (c.number_in.ensures ∙ ap number_in c.split_at.ensures.back ∙ (image_is c.args.page c.ranges.page.fits c.args.bytes.now x keeps number e).number)

pub overflow_sub-result : goal.overflow_sub-result
overflow_sub-result c =
    let le = sealed_within c.args.page c.ranges.page.fits (drop 32 c.args.bytes.now) c.in-Err-Bad.left (IsBytes-drop 32 c.args.bytes.now c.fits-bytes) (ap (sealed_at c.args.page) (sym c.split_at.ensures.back) ∙ (rw c.in-Err-Bad.field-0-is at c.in-Err-Bad.ensures)) in
    omega (arith, length-drop 32 c.args.bytes.now, c.told-bytes)

pub returns-in-Ok-clause-found : goal.returns-in-Ok-clause-found
returns-in-Ok-clause-found c = image_found c.args.page c.ranges.page.fits c.args.bytes.now c.in-Ok.sealed c.fits-bytes c.told-bytes (c.verifies.ensures.0 c.if-not-verifies.false) (ap (sealed_at c.args.page) (sym c.split_at.ensures.back) ∙ c.in-Ok.ensures)

pub returns-in-Ok-clause-only : goal.returns-in-Ok-clause-only
returns-in-Ok-clause-only c x keeps number e = ok_is c.in-Ok.sealed x (sym c.in-Ok.ensures ∙ ap (sealed_at c.args.page) c.split_at.ensures.back ∙ (image_is c.args.page c.ranges.page.fits c.args.bytes.now x keeps number e).reads)

pub returns-in-Err-Bad-clause-exact : goal.returns-in-Err-Bad-clause-exact
returns-in-Err-Bad-clause-exact c =
    let le : c.in-Err-Bad.left ≤ 4096 = overflow_sub-result c in (
      c.verifies.ensures.0 c.if-not-verifies.false,
      ap number_in (sym c.split_at.ensures.back) ∙ sym c.number_in.ensures ∙ c.if-number_in-page.false,
      (c.in-Err-Bad.left, ap (sealed_at c.args.page) (sym c.split_at.ensures.back) ∙ (rw c.in-Err-Bad.field-0-is at c.in-Err-Bad.ensures), omega arith),
    )

pub returns-in-Err-Bad-clause-only : goal.returns-in-Err-Bad-clause-only
returns-in-Err-Bad-clause-only c x keeps number e = never x c.in-Err-Bad.left (sym (image_is c.args.page c.ranges.page.fits c.args.bytes.now x keeps number e).reads ∙ ap (sealed_at c.args.page) (sym c.split_at.ensures.back) ∙ (rw c.in-Err-Bad.field-0-is at c.in-Err-Bad.ensures))
