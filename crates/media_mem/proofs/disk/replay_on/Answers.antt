use Rattle.std.proofs.Common.{ap, arith, length}
use Rattle.media_mem.specs.History.{Wrote}
use Rattle.media_mem.proofs.Keeping.{room_next}
use Rattle.media_mem.proofs.disk.replay_on.Goals as goal

pub put_over-requires-clause-room : goal.put_over-requires-clause-room
put_over-requires-clause-room c =
    let room = room_next c.args.start _ _ c.loop-write.write-index c.args.writes.now c.write-item.result c.loop-write-test.true c.write-item.is c.loop-write.invariant.room in
    omega (arith, room, ap length c.deref.ensures.value, ap (λ (w : Wrote). length w.bytes) c.write.view_is, ap (λ (w : Wrote). w.at) c.write.view_is)
