use Rattle.history_core.proofs.Entered.{not_record}
use Rattle.history_core.proofs.judge.Judge.step.Goals as goal

pub step_other-requires : goal.step_other-requires
step_other-requires g c = record { kind = not_record c.args.entry.now c.in_default.not-Rec }
