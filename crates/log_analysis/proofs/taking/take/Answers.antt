use Rattle.std.proofs.Common.{ap, ◌∙◌, arith, ℕ}
use Rattle.log_index.specs.Table.{noted_step}
use Rattle.log_analysis.proofs.Listed.{begun, noted_behind}
use Rattle.log_analysis.proofs.taking.take.Goals as goal

pub returns-then-lsn-named-2-clause-listed : goal.returns-then-lsn-named-2-clause-listed
returns-then-lsn-named-2-clause-listed c =
    noted_behind c.args.named.checkpoint c.args.lsn c.args.entry.now c.args.listing.now c.note.new.self (omega (arith, c.if-lsn-named-2.true)) (λ log k lawful is short. c.note.ensures.more log (c.prepare.ensures.same log k) lawful is short)
    (λ q. c.note.ensures.noted q ∙ ap (λ (n : ℕ). noted_step c.args.lsn q n c.args.entry.now) (c.prepare.ensures.noted q))

pub returns-in_ok-listing-in-Checkpoint-clause-listed : goal.returns-in_ok-listing-in-Checkpoint-clause-listed
returns-in_ok-listing-in-Checkpoint-clause-listed c =
    let made = c.in_ok-listing-in-Checkpoint in
    begun c.args.named.checkpoint c.args.lsn c.args.entry.now c.in-Checkpoint.listed c.args.listing.now made.field-0 c.in-Checkpoint.is made.ensures.listing made.ensures.noted
