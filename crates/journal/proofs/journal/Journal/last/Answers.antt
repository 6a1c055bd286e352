use Rattle.std.proofs.Common.{List, ap, ◌∙◌, length}
use Rattle.wal_record.specs.History.{life_log}
use Rattle.wal_record.specs.declared.entry.Entry.{Entry}
use Rattle.journal.proofs.Calls.{history_is}
use Rattle.journal.proofs.journal.Journal.last.Goals as goal

pub returns : goal.returns
returns g c opening stands = c.last.ensures.length _ (life_log opening c.self.inside.history) (c.self.invariant.1.life.records opening stands) ∙ ap (λ (h : List Entry). length (life_log opening h)) (history_is _ _ c.self.view_is)
