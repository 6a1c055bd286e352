use Rattle.log_laws.proofs.Pending.{undo_room}
use Rattle.log_laws.proofs.undo_room_law.Goals as goal

pub returns : goal.returns
returns c = undo_room
