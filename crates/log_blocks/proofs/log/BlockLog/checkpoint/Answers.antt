use Rattle.std.proofs.Common.{◌≡◌, ◌-◌, ◌++◌, [], List, ap, arith, get_or, sym, ◌∙◌}
use Rattle.log_blocks.specs.Log.{Block}
use Rattle.log_blocks.specs.LogState.{checkpoint_of, last_or}
use Rattle.log_blocks.specs.declared.header.Place.{Place}
use Rattle.std.specs.Prelude.{map}
use Rattle.std.proofs.lemmas.List.{nil_from_length}
use Rattle.log_blocks.proofs.Lasts.{last_of}
use Rattle.log_blocks.proofs.log.BlockLog.checkpoint.Goals as goal

pub returns : goal.returns
returns g c =
    let pending = c.self.inside.pending in
    let at = c.get.ensures ∙ ap (λ n. get_or pending (n - 1) c.get.result.now) c.len-pending.ensures.value in
    c.checkpoint.ensures ∙ sym (last_of (λ (b : Block). b.checkpoint) pending _ _ (omega (arith, c.len-pending.ensures.value, c.if-pending-eq0.false)) at)
    ∙ ap checkpoint_of c.self.view_is

pub returns-then-pending-eq0 : goal.returns-then-pending-eq0
returns-then-pending-eq0 g c =
    let none : c.self.inside.pending ≡ [] = nil_from_length c.self.inside.pending (omega (arith, c.len-pending.ensures.value, c.if-pending-eq0.true)) in
    let found = c.self.inside.places.items ++ c.self.inside.recent in
    c.last_checkpoint.ensures ∙ ap (λ (l : List Place). last_or 0 (map (λ (p : Place). p.checkpoint) (l ++ c.self.inside.recent))) c.deref.ensures.value
    ∙ ap (λ (l : List Block). last_or (last_or 0 (map (λ (p : Place). p.checkpoint) found)) (map (λ (b : Block). b.checkpoint) l)) (sym none)
    ∙ ap checkpoint_of c.self.view_is
