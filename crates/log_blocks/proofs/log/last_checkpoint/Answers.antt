use Rattle.std.proofs.Common.{◌≡◌, ◌++◌, [], List, append-nil, ap, sym, ◌∙◌, refl}
use Rattle.std.proofs.lemmas.List.{nil_from_length}
use Rattle.log_blocks.specs.declared.header.Place.{Place}
use Rattle.std.specs.Prelude.{map}
use Rattle.log_blocks.specs.LogState.{last_or}
use Rattle.log_blocks.proofs.Lasts.{last_of, last_behind, none_is}
use Rattle.log_blocks.proofs.log.last_checkpoint.Goals as goal

pub returns-in-Some : goal.returns-in-Some
returns-in-Some c = sym (last_behind (λ (p : Place). p.checkpoint) c.args.places.now c.args.recent.now _ 0 (c.in-Some.ensures.variant.0 refl) c.in-Some.ensures.lookup)

pub returns-in-Some-last : goal.returns-in-Some-last
returns-in-Some-last c =
    let none : c.args.recent.now ≡ [] = nil_from_length c.args.recent.now (none_is _ c.in-None.ensures.variant.1) in
    let all : c.args.places.now ++ c.args.recent.now ≡ c.args.places.now = ap (λ (l : List Place). c.args.places.now ++ l) none ∙ append-nil c.args.places.now in
    let got = c.in-Some-last.ensures.item in
    sym (last_of (λ (p : Place). p.checkpoint) c.args.places.now _ 0 got.3.0 got.1) ∙ ap (λ (l : List Place). last_or 0 (map (λ (p : Place). p.checkpoint) l)) (sym all)
