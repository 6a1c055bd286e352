use Rattle.std.proofs.Common.{◌≡◌, true, false, sym, ◌∙◌}
use Rattle.upkeep_judge.specs.Backups.{AreBackupsOf}
use Rattle.upkeep_judge.proofs.Keeping.{fresh_last, fresh_next}
use Rattle.upkeep_judge.proofs.backups.Backups.is_fresh.Goals as goal

pub returns-then-is_last : goal.returns-then-is_last
unfolding AreBackupsOf
returns-then-is_last c = λ log k. fresh_last log c.args.self.now.number c.args.self.now.segments k c.args.backup c.args.segment c.lacks.result (c.is_last.ensures.0 c.if-is_last.true) c.lacks.ensures

pub returns-else-is_last : goal.returns-else-is_last
unfolding AreBackupsOf
returns-else-is_last c = λ log k. fresh_next log c.args.self.now.number c.args.self.now.segments k c.args.backup c.args.segment c.is_next.result
    (λ is. (let both : true ≡ false = sym (c.is_last.ensures.1 is) ∙ c.if-is_last.false in absurd (cc both))) c.is_next.ensures
