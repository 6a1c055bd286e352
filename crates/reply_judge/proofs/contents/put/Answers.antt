use Rattle.std.proofs.Common.{cond, Some, ◌∙◌}
use Rattle.std.specs.Ordering.{nat_cmp}
use Rattle.std.specs.Cmp.Lexicographic.{slice_cmp}
use Rattle.std.specs.BTreeMap.{is_at}
use Rattle.reply_judge.specs.Contents.{value_in}
use Rattle.reply_judge.proofs.Keeping.{has_same, has_set, on_err}
use Rattle.reply_judge.proofs.contents.put.Goals as goal

pub returns-in_err-insert-clause-err : goal.returns-in_err-insert-clause-err
returns-in_err-insert-clause-err c = λ m k. on_err _ (has_same m c.args.pairs.now c.insert.new.self k c.in_err-insert.ensures.err)

pub returns-clause-ok : goal.returns-clause-ok
returns-clause-ok c = λ m k. has_set m c.args.pairs.now c.insert.new.self k c.args.key.now (Some c.args.value.now)
    (λ q. c.in_ok-insert.ensures.updates.0 q ∙ (λ i. cond (is_at (slice_cmp nat_cmp (c.copied.ensures i)) q) (Some (c.copied-2.ensures i)) (value_in c.args.pairs.now q)))
