use Rattle.std.proofs.Common.{◌++◌, ◌∷◌, [], refl, subst, sym}
use Rattle.history_core.specs.Judging.{IsJudgeOf}
use Rattle.history_core.proofs.Going.{locks_still, phases_still, quiet_kind, quiet_on}
use Rattle.history_core.proofs.judge.Judge.note.Goals as goal

pub returns-in_default-clause-ok : goal.returns-in_default-clause-ok
returns-in_default-clause-ok c = λ opening h k ok.
    let other = quiet_kind c.args.entry.now c.requires.kind c.in_default.not-Lock c.in_default.not-Acked c.in_default.not-Began in
    subst (IsJudgeOf opening (h ++ c.args.entry.now ∷ [])) (sym c.settle.ensures)
    (quiet_on opening h c.args.self.now _ k c.args.entry.now ok other.0 (phases_still opening h c.args.self.now.phases c.args.entry.now k.phases other.0 other.2) (locks_still h c.args.self.now.locks c.args.entry.now k.locks other.0 other.1) refl refl refl refl)
