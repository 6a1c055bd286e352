-- What a survey tells of the history.
use Rattle.std.proofs.Common.{◌≡◌, ℕ, List, Result, Ok, Err, sym, subst}
use Rattle.std.specs.Prelude.{IfOk}
use Rattle.front.specs.Seen.{PassSeen}
use Rattle.store_model.specs.declared.fault.Fault.{Fault}
use Rattle.wal_record.specs.declared.entry.Entry.{Entry}
use Rattle.wal_record.specs.declared.record.Record.{Record}
use Rattle.page_ops.specs.Outcomes.{IsSurvey}
use Rattle.page_ops.specs.declared.outcome.Survey.{Survey}

pub surveyed : (opens : List Record → Type 0) (seen : PassSeen Entry) (h : List Entry) → h ≡ seen.log → (r : Result Survey Fault) → IfOk r (IsSurvey opens seen) → IfOk r (λ x. (durable : ℕ) × IsSurvey opens (record { log = h; durable = durable }) x)
surveyed opens seen h is (Ok x) s = (seen.durable, subst (λ (l : List Entry). IsSurvey opens (record { log = l; durable = seen.durable }) x) (sym is) s)
surveyed opens seen h is (Err f) s = tt
