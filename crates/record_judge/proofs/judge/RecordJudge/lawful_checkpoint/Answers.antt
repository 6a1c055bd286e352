use Rattle.std.proofs.Common.{◌≡◌, true, false, subst, sym, ◌∙◌}
use Rattle.wal_record.specs.Rules.{KeepsCheckpoint}
use Rattle.wal_record.specs.declared.record.Record.TheVariants as kinds
use Rattle.checkpoint_form.specs.Modest.{IsModest}
use Rattle.page_judge.specs.Images.{IsMadeBy}
use Rattle.record_judge.proofs.Deciding.{checkpoint_lawful, checkpoint_rules}
use Rattle.record_judge.proofs.judge.RecordJudge.lawful_checkpoint.Goals as goal

pub returns-then-not-has_form-clause-verdict : goal.returns-then-not-has_form-clause-verdict
returns-then-not-has_form-clause-verdict c = λ log k lawful.
    let is = sym (checkpoint_rules log c.args.checkpoint.now lawful).2 in
    (let both : true ≡ false = sym (c.has_form.ensures.all (subst KeepsCheckpoint is (c.lawful_law.ensures.keeps log k.lawful (c.length_law.ensures log k.names))) (subst IsModest is (c.lawful_law.ensures.modest log k.lawful))) ∙ c.if-not-has_form.true in absurd (cc both))

pub returns-then-not-may_list-clause-verdict : goal.returns-then-not-may_list-clause-verdict
returns-then-not-may_list-clause-verdict c = λ log k lawful.
    let rules = checkpoint_rules log c.args.checkpoint.now lawful in
    (let both : true ≡ false = sym ((c.may_list.ensures log k).1 (rules.0, rules.1)) ∙ c.if-not-may_list.true in absurd (cc both))

pub returns-then-is_next-clause-verdict : goal.returns-then-is_next-clause-verdict
returns-then-is_next-clause-verdict c = λ log k.
    let may = (c.may_list.ensures log k).0 c.if-not-may_list.false in (
      checkpoint_lawful log c.args.checkpoint.now (c.has_form.ensures.keeps c.if-not-has_form.false) may.0 may.1 ((c.in_ok-is_next.ensures log k).0 c.if-is_next.true),
      subst (IsMadeBy log (kinds.Checkpoint c.args.checkpoint.now)) (sym c.no_pages.ensures) (tt, tt),
    )

pub returns-else-is_next-clause-verdict : goal.returns-else-is_next-clause-verdict
returns-else-is_next-clause-verdict c = λ log k lawful.
    (let both : true ≡ false = sym ((c.in_ok-is_next.ensures log k).1 (checkpoint_rules log c.args.checkpoint.now lawful).2) ∙ c.if-is_next.false in absurd (cc both))
