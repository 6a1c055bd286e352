use Rattle.std.proofs.Common.{subst, sym}
use Rattle.journal.specs.Restored.{HasRoomAt}
use Rattle.journal.proofs.Restoring.{restored_here, restored_not, room_kept}
use Rattle.journal.proofs.restored.note.Goals as goal

pub set_place-requires : goal.set_place-requires
set_place-requires c = subst (HasRoomAt c.args.places.now) (sym c.in-Some.ensures) c.requires

pub returns-in-Some-clause-more : goal.returns-in-Some-clause-more
returns-in-Some-clause-more c h lsn k at = restored_here h c.args.places.now c.set_place.new.places lsn c.args.place c.in-Some.segment c.args.rec.now k at c.in-Some.ensures c.set_place.ensures.places

pub returns-in-None-clause-more : goal.returns-in-None-clause-more
returns-in-None-clause-more c h lsn k at = restored_not h c.args.places.now lsn c.args.rec.now k c.in-None.ensures

pub returns-in-Some-clause-kept : goal.returns-in-Some-clause-kept
returns-in-Some-clause-kept c = room_kept c.args.places.now c.set_place.new.places c.set_place.ensures.kept
