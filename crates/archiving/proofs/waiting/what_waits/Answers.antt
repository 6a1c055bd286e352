use Rattle.std.proofs.Common.{refl, ap, ◌∙◌, arith, length, List}
use Rattle.wal_record.specs.History.{life_log}
use Rattle.wal_record.specs.Upkeep.{archived}
use Rattle.wal_record.specs.declared.analysis.Run.{Run}
use Rattle.archiving.proofs.Standing.{told_next}
use Rattle.archiving.proofs.waiting.what_waits.Goals as goal

pub returns-clause-next : goal.returns-clause-next
returns-clause-next g c = λ opening stands.
    let runs = c.as_slice-runs.ensures in
    let last = c.archived-last.ensures ∙ ap archived runs in
    told_next (life_log opening c.survey.new.pass.log) c.in_ok-survey.survey.analysis _ (c.in_ok-survey.ensures.survey.analysis opening stands) refl (omega (arith, last)) (ap (λ (rs : List Run). length rs) runs)
