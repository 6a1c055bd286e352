use Rattle.std.proofs.Common.{false, ap, ◌∙◌, length, refl, arith}
use Rattle.store_model.proofs.Bools.{not_both}
use Rattle.wal_record.specs.State.{text_of}
use Rattle.page_halves.proofs.Lowers.{key_there, kept_is}
use Rattle.page_halves.proofs.halves.keep_lower.Goals as goal

pub unreachable-requires : goal.unreachable-requires
unreachable-requires c =
    let key = key_there c.args.state.now c.requires.keeps c.requires.stays c.requires.goes in
    let text = ap length (c.text.ensures.value ∙ ap text_of c.first_key-low.ensures) in
    not_both false (c.in_default.ensures.exact.1 (omega (arith, key.0, text), omega (arith, key.1, text))) refl

pub returns : goal.returns
returns c =
    kept_is c.args.state.now c.requires.keeps c.requires.goes c.args.child c.split_point-kept.result c.split_point-kept.ensures c.in-Some.key (c.in-Some.ensures.value ∙ c.text.ensures.value ∙ ap text_of c.first_key-low.ensures) c.keep_first.new.rows c.keep_first.ensures
