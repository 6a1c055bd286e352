use Rattle.std.proofs.Common.{ℕ, Option, subst}
use Rattle.std.specs.Prelude.{OnOk}
use Rattle.journal.specs.Restored.{HasRoomAt}
use Rattle.journal.proofs.Restoring.{room_kept}
use Rattle.journal.proofs.restored.prepare.Goals as goal

pub returns-in-Some-clause-room : goal.returns-in-Some-clause-room
returns-in-Some-clause-room c = subst (λ (o : Option ℕ). OnOk c.make_room.result (HasRoomAt c.make_room.new.places o)) c.in-Some.ensures c.make_room.ensures.room

pub returns-in-None-clause-room : goal.returns-in-None-clause-room
returns-in-None-clause-room c = subst (HasRoomAt c.args.places.now) c.in-None.ensures tt

pub returns-in-Some-clause-kept : goal.returns-in-Some-clause-kept
returns-in-Some-clause-kept c = room_kept c.args.places.now c.make_room.new.places c.make_room.ensures.kept
