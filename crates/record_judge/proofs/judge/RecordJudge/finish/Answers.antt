use Rattle.std.proofs.Common.{◌++◌, ◌∷◌, [], refl}
use Rattle.wal_record.proofs.Pushes.{lawful_back}
use Rattle.record_judge.proofs.Taking.{behind, grown}
use Rattle.record_judge.proofs.judge.RecordJudge.finish.Goals as goal

pub returns : goal.returns
returns c = λ log k v is.
    let small = grown log c.args.entered.now (c.length_law.ensures (log ++ c.args.entered.now ∷ []) k.names) in
    behind log c.args.entered.now c.args.self.now _ k v.0
    (c.note.ensures.more log k.listing (lawful_back log c.args.entered.now k.lawful v.0) is small) (c.note-2.ensures log k.chains is) (c.note-3.ensures log c.args.entered.now k.images v.1) refl refl refl
