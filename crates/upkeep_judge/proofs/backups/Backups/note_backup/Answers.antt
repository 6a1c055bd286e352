use Rattle.std.proofs.Common.{◌≡◌, ℕ, ◌++◌, ◌∷◌, [], true, false, subst, sym, ◌∙◌}
use Rattle.std.proofs.lemmas.Result.{on_ok_weaker}
use Rattle.wal_record.specs.declared.record.Record.TheVariants as kinds
use Rattle.upkeep_judge.specs.Backups.{AreBackupsOf, AreKept}
use Rattle.upkeep_judge.proofs.Keeping.{kept_next, kept_older, kept_on, rest_below}
use Rattle.upkeep_judge.proofs.backups.Backups.note_backup.Goals as goal

pub returns-then-is_last-clause-ok : goal.returns-then-is_last-clause-ok
unfolding AreBackupsOf
returns-then-is_last-clause-ok c = λ log k. on_ok_weaker c.go_on.result
    (λ p. subst (λ (n : ℕ). AreKept (log ++ kinds.BackupDone c.args.done.now ∷ []) n c.go_on.new.self.segments) (sym p.0)
    (subst (AreKept (log ++ kinds.BackupDone c.args.done.now ∷ []) c.args.self.now.number) (sym p.1)
    (kept_on log c.args.self.now.number c.args.self.now.segments k c.args.done.now (c.is_last.ensures.0 c.if-is_last.true))))
    c.go_on.ensures.ok

pub returns-then-is_above-clause-ok : goal.returns-then-is_above-clause-ok
unfolding AreBackupsOf
returns-then-is_above-clause-ok c = λ log k. on_ok_weaker c.begin.result
    (λ p. subst (λ (n : ℕ). AreKept (log ++ kinds.BackupDone c.args.done.now ∷ []) n c.begin.new.self.segments) (sym p.0)
    (subst (AreKept (log ++ kinds.BackupDone c.args.done.now ∷ []) c.args.done.now.backup) (sym p.1)
    (kept_next log c.args.self.now.number c.args.self.now.segments k c.args.done.now (c.is_above.ensures.0 c.if-is_above.true))))
    c.begin.ensures.ok

pub returns-clause-ok : goal.returns-clause-ok
unfolding AreBackupsOf
returns-clause-ok c = λ log k. kept_older log c.args.self.now.number c.args.self.now.segments k c.args.done.now
    (rest_below c.args.done.now.backup c.args.self.now.number
    (λ is. (let both : true ≡ false = sym (c.is_last.ensures.1 is) ∙ c.if-is_last.false in absurd (cc both)))
    (λ is. (let both : true ≡ false = sym (c.is_above.ensures.1 is) ∙ c.if-is_above.false in absurd (cc both))))
