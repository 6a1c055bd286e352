use Rattle.std.proofs.Common.{◌<◌, ◌≤◌, length, refl, sym, ap, subst, ◌∙◌}
use Rattle.wal_record.specs.State.{KeepsState, row_sizes, split_point}
use Rattle.wal_record.specs.Images.{IsLeafOf}
use Rattle.wal_record.specs.declared.page.PageState.{PageState}
use Rattle.store_model.specs.Range.{is_below}
use Rattle.page_halves.specs.Parts.{lower_with}
use Rattle.std.specs.Prelude.{Some}
use Rattle.leaf_writes.proofs.Halves.{at_lower, goes, lower_keeps_rules, stays, upper_keeps_rules}
use Rattle.leaf_writes.proofs.split_writing.halves_with.Goals as goal

pub upper_half-requires-clause-goes : goal.upper_half-requires-clause-goes
upper_half-requires-clause-goes c = goes c.args.state.now c.requires.keeps c.args.change.now.key c.requires.leaf c.requires.purged c.args.change.now.new c.read.ensures.key c.read.ensures.new c.requires.full

pub keep_lower-requires-clause-stays : goal.keep_lower-requires-clause-stays
keep_lower-requires-clause-stays c =
    subst (λ (t : PageState). 1 ≤ split_point (row_sizes t.rows)) (sym c.in_ok-lower.ensures)
    (stays c.args.state.now c.requires.keeps c.args.change.now.key c.requires.leaf c.requires.purged c.args.change.now.new c.read.ensures.key c.read.ensures.new c.requires.full)

pub keep_lower-requires-clause-goes : goal.keep_lower-requires-clause-goes
keep_lower-requires-clause-goes c =
    subst (λ (t : PageState). split_point (row_sizes t.rows) < length (row_sizes t.rows)) (sym c.in_ok-lower.ensures)
    (goes c.args.state.now c.requires.keeps c.args.change.now.key c.requires.leaf c.requires.purged c.args.change.now.new c.read.ensures.key c.read.ensures.new c.requires.full)

pub with_row-requires-clause-keeps : goal.with_row-requires-clause-keeps
with_row-requires-clause-keeps c =
    subst KeepsState (sym (c.keep_lower.ensures ∙ ap (lower_with 2) c.in_ok-lower.ensures))
    (lower_keeps_rules c.args.state.now c.requires.keeps c.args.change.now.key c.requires.leaf c.requires.purged c.args.change.now.new c.read.ensures.key c.read.ensures.new c.requires.full 2 refl)

pub with_row-requires-clause-leaf : goal.with_row-requires-clause-leaf
with_row-requires-clause-leaf c =
    subst (IsLeafOf c.args.change.now.key) (sym (c.keep_lower.ensures ∙ ap (lower_with 2) c.in_ok-lower.ensures))
    (at_lower c.args.state.now c.requires.keeps c.args.change.now.key c.requires.leaf c.requires.purged c.args.change.now.new c.read.ensures.key c.read.ensures.new c.requires.full 2
    (ap (λ (t : PageState). is_below (Some c.args.change.now.key) t.low) (sym c.in_ok-upper.ensures) ∙ sym c.is_above.ensures ∙ c.if-is_above.true))

pub with_row-requires-2-clause-keeps : goal.with_row-requires-2-clause-keeps
with_row-requires-2-clause-keeps c =
    subst KeepsState (sym c.in_ok-upper.ensures)
    (upper_keeps_rules c.args.state.now c.requires.keeps c.args.change.now.key c.requires.leaf c.requires.purged c.args.change.now.new c.read.ensures.key c.read.ensures.new c.requires.full)
