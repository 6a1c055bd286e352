use Rattle.std.proofs.Common.{ap, sym, ◌∙◌}
use Rattle.life_history.specs.Groups as groups
use Rattle.life_history.proofs.Grouped.{heads_behind}
use Rattle.group_filling.proofs.filling.head_behind.Goals as goal

pub returns : goal.returns
returns c log is lawful at =
    c.head_after.ensures.value ∙ ap (λ b. groups.head_behind c.args.page b c.args.lsn c.args.before.now) (c.head.ensures log is lawful)
    ∙ sym (heads_behind c.args.page log c.args.before.now c.args.lsn at)
