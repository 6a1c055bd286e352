use Rattle.std.proofs.Common.{◌++◌, ◌∷◌, [], subst, sym}
use Rattle.std.proofs.lemmas.Result.{on_err_weaker, on_ok_weaker}
use Rattle.wal_record.specs.History.{life_log}
use Rattle.wal_record.specs.declared.record.Record.{Record}
use Rattle.record_judge.specs.Judging.{HasContents}
use Rattle.record_judge.proofs.Taking.{over_commit, over_end}
use Rattle.history_core.proofs.Going.{contents_on, record_phases}
use Rattle.history_core.proofs.judge.Judge.note_change.Goals as goal

pub returns-in-Commit-clause-ok : goal.returns-in-Commit-clause-ok
returns-in-Commit-clause-ok g c = λ opening h lsn k.
    let same = subst (λ (r : Record). HasContents (life_log opening h ++ r ∷ []) c.args.self.now.log) (sym c.in-Commit.is) (over_commit (life_log opening h) _ _ k.contents) in
    on_ok_weaker c.note_record.result (λ p. record { phases = p; contents = contents_on opening h lsn c.args.entered.now _ same }) (c.note_record.ensures.ok opening h lsn k.phases)

pub returns-in-Commit-clause-err : goal.returns-in-Commit-clause-err
returns-in-Commit-clause-err g c = λ opening h k. on_err_weaker c.note_record.result (λ p. record { phases = p; contents = k.contents }) (c.note_record.ensures.err opening h k.phases)

pub returns-in-End-clause-ok : goal.returns-in-End-clause-ok
returns-in-End-clause-ok g c = λ opening h lsn k.
    let same = subst (λ (r : Record). HasContents (life_log opening h ++ r ∷ []) c.args.self.now.log) (sym c.in-End.is) (over_end (life_log opening h) _ _ k.contents) in
    on_ok_weaker c.note_record-in-End.result (λ p. record { phases = p; contents = contents_on opening h lsn c.args.entered.now _ same }) (c.note_record-in-End.ensures.ok opening h lsn k.phases)

pub returns-in-End-clause-err : goal.returns-in-End-clause-err
returns-in-End-clause-err g c = λ opening h k. on_err_weaker c.note_record-in-End.result (λ p. record { phases = p; contents = k.contents }) (c.note_record-in-End.ensures.err opening h k.phases)

pub returns-in_default-clause-ok : goal.returns-in_default-clause-ok
returns-in_default-clause-ok g c = λ opening h lsn k.
    let still = record_phases opening h c.args.self.now.phases lsn c.args.entered.now k.phases c.in_default.not-Commit c.in_default.not-End in
    on_ok_weaker c.change.result (λ now. record { phases = still; contents = contents_on opening h lsn c.args.entered.now _ now }) (c.change.ensures.ok (life_log opening h) k.contents)

pub returns-in_default-clause-err : goal.returns-in_default-clause-err
returns-in_default-clause-err g c = λ opening h k. on_err_weaker c.change.result (λ now. record { phases = k.phases; contents = now }) (c.change.ensures.err (life_log opening h) k.contents)
