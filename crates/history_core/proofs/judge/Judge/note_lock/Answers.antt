use Rattle.std.proofs.Common.{◌++◌, ◌∷◌, [], refl, subst, sym}
use Rattle.history_core.specs.Judging.{IsJudgeOf}
use Rattle.history_core.proofs.Going.{lock_other, phases_still, quiet_on}
use Rattle.history_core.proofs.judge.Judge.note_lock.Goals as goal

pub returns-clause-ok : goal.returns-clause-ok
returns-clause-ok c = λ opening h k ok is.
    let other = lock_other c.args.entry.now is in
    subst (IsJudgeOf opening (h ++ c.args.entry.now ∷ [])) (sym c.settle.ensures)
    (quiet_on opening h c.args.self.now _ k c.args.entry.now ok other.0 (phases_still opening h c.args.self.now.phases c.args.entry.now k.phases other.0 other.1) (c.in_ok-note.ensures.ok h k.locks) refl refl refl refl)
