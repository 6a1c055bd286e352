use Rattle.std.proofs.Common.{Bool, ◌<◌, subst, sym, ◌∙◌}
use Rattle.std.specs.Prelude.{◌↔◌, IsTrue}
use Rattle.wal_record.specs.Checkpoints.{limit_of}
use Rattle.wal_record.specs.Sound.{is_undo, used}
use Rattle.record_judge.proofs.Rooms.{back_by, back_exact}
use Rattle.record_judge.proofs.judge.RecordJudge.gives_back.Goals as goal

pub returns-then-is_undo : goal.returns-then-is_undo
returns-then-is_undo c = λ log k. subst (λ (b : Bool). IsTrue b ↔ (limit_of log < used log → IsTrue (is_undo c.args.entered.now))) (sym c.if-is_undo.true) (back_by (is_undo c.args.entered.now) (used log) (limit_of log) (sym c.is_undo.ensures ∙ c.if-is_undo.true))

pub returns-else-is_undo : goal.returns-else-is_undo
returns-else-is_undo c = λ log k. back_exact (is_undo c.args.entered.now) c.has_room.result (used log) (limit_of log) (sym c.is_undo.ensures ∙ c.if-is_undo.false) (c.has_room.ensures log k)
