use Rattle.std.proofs.Common.{◌++◌, ◌∷◌, [], refl, subst, sym}
use Rattle.history_core.specs.Judging.{IsJudgeOf}
use Rattle.history_core.proofs.Going.{locks_still, move_other, quiet_on}
use Rattle.history_core.proofs.judge.Judge.note_move.Goals as goal

pub returns-clause-ok : goal.returns-clause-ok
returns-clause-ok c = λ opening h k ok is.
    let other = move_other c.args.entry.now is in
    subst (IsJudgeOf opening (h ++ c.args.entry.now ∷ [])) (sym c.settle.ensures)
    (quiet_on opening h c.args.self.now _ k c.args.entry.now ok other.0 (c.in_ok-note.ensures.ok opening h k.phases ok) (locks_still h c.args.self.now.locks c.args.entry.now k.locks other.0 other.1) refl refl refl refl)
