use Rattle.std.proofs.Common.{◌+◌, [], ◌∷◌, ◌++◌, arith, subst, sym}
use Rattle.wal_record.specs.declared.entry.Entry.TheVariants as entries
use Rattle.wal_record.specs.declared.record.Record.{Record}
use Rattle.journal.specs.Restored.{AreRestored, HasRoomIn}
use Rattle.journal.proofs.Restoring.{all_noted, each_at, each_kept, none_noted, one_noted}
use Rattle.journal.proofs.restored.note_group.Goals as goal

pub loop-rec-init : goal.loop-rec-init
loop-rec-init c = record { place = omega arith; room = c.requires.room; kept = λ h lsn k at. none_noted h c.args.places.now lsn c.args.recs.now k }

pub note-requires : goal.note-requires
note-requires c = subst (HasRoomIn c.loop-rec.places) (sym c.rec-item.is) (each_at (HasRoomIn c.loop-rec.places) c.loop-rec.rec-index c.args.recs.now c.rec-item.result (omega (arith, c.loop-rec-test.true)) c.loop-rec.invariant.room)

pub loop-rec-preserved : goal.loop-rec-preserved
loop-rec-preserved c = record {
  place = omega (arith, c.loop-rec.invariant.place);
  room = each_kept (HasRoomIn c.loop-rec.places) (HasRoomIn c.note.new.places) c.args.recs.now c.note.ensures.kept c.loop-rec.invariant.room;
  kept = λ h lsn k at. one_noted h c.loop-rec.places c.note.new.places lsn (c.loop-rec.place + 1) c.loop-rec.rec-index _ c.args.recs.now c.rec-item.result (c.loop-rec.invariant.kept h lsn k at) (omega (arith, c.loop-rec.invariant.place, at)) (omega (arith, c.loop-rec-test.true)) (omega arith)
      (λ g n before here. subst (λ (r : Record). AreRestored (g ++ entries.Rec n r ∷ []) c.note.new.places) c.rec-item.is (c.note.ensures.more g n before here));
}

pub returns : goal.returns
returns c h lsn said k at = all_noted h c.loop-rec.places lsn c.loop-rec.rec-index c.args.recs.now said (c.loop-rec.invariant.kept h lsn k at) (omega (arith, c.loop-rec-test.false))
