use Rattle.std.proofs.Common.{◌≡◌, ℕ, ◌+◌, ◌-◌, length, sym, ap, subst, ◌∙◌, arith}
use Rattle.vault_objects.proofs.Numbers.{eq_is}
use Rattle.state_codec.specs.Gives.{Gives}
use Rattle.log_archive.specs.Reading.{behind_items}
use Rattle.log_archive.proofs.Loops.{chunk_fits}
use Rattle.log_archive.proofs.outline.chunk_at.Goals as goal

pub returns : goal.returns
returns c =
    let fits : c.args.entry.offset + length c.args.bytes.now ≡ c.args.size = eq_is _ _ (sym c.is_place.ensures ∙ c.if-not-is_place.false) in
    let above : c.saturating_sub-above.result ≡ c.args.head.first - 1 = omega arith in
    subst (Gives (λ x. x.now) c.behind_items.result)
    (ap (λ (n : ℕ). behind_items c.args.entry.page c.args.head.last c.args.entry.count n c.args.bytes.now) above ∙ sym (chunk_fits c.args.size c.args.head c.args.place c.args.entry c.args.bytes.now fits)) c.behind_items.ensures
