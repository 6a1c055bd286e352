use Rattle.std.proofs.Common.{arith, refl, ◌∙◌, subst}
use Rattle.journal.specs.Restored.{HasRoomIn}
use Rattle.journal.proofs.Restoring.{each_all, each_none, room_more}
use Rattle.journal.proofs.restored.prepare_group.Goals as goal

pub loop-rec-init : goal.loop-rec-init
loop-rec-init c = record { same = λ s. refl; room = each_none (HasRoomIn c.args.places.now) c.args.recs.now }

pub returns-in_err-prepare-clause-same : goal.returns-in_err-prepare-clause-same
returns-in_err-prepare-clause-same c s = c.prepare.ensures.same s ∙ c.loop-rec.invariant.same s

pub loop-rec-preserved : goal.loop-rec-preserved
loop-rec-preserved c = record {
  same = λ s. c.prepare.ensures.same s ∙ c.loop-rec.invariant.same s;
  room = room_more c.loop-rec.places c.prepare.new.places c.loop-rec.rec-index _ c.args.recs.now c.rec-item.result c.loop-rec.invariant.room c.prepare.ensures.kept (omega arith) (omega (arith, c.loop-rec-test.true)) (subst (HasRoomIn c.prepare.new.places) c.rec-item.is c.in_ok-prepare.ensures.room);
}

pub returns-clause-room : goal.returns-clause-room
returns-clause-room c = each_all (HasRoomIn c.loop-rec.places) c.loop-rec.rec-index c.args.recs.now c.loop-rec.invariant.room (omega (arith, c.loop-rec-test.false))
