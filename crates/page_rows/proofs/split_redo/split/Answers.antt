use Rattle.std.proofs.Common.{false, ap, length, refl, arith}
use Rattle.store_model.proofs.Bools.{not_both}
use Rattle.page_rows.proofs.Halves.{is_a_key}
use Rattle.page_rows.proofs.split_redo.split.Goals as goal

pub returns-in_default-new : goal.returns-in_default-new
returns-in_default-new c =
    let key = is_a_key c.args.split.now c.args.state.now c.in-Some.kept c.requires.child c.in-Some.ensures.some in
    let text = ap length c.text.ensures.value in
    absurd (not_both false (c.in_default-new.ensures.exact.1 (omega (arith, key.0, text), omega (arith, key.1, text))) refl)
