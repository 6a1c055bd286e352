use Rattle.std.proofs.Common.{Option, List, [], ap, ◌∙◌}
use Rattle.std.specs.Prelude.{unwrap_or}
use Rattle.std.specs.List.{list_any}
use Rattle.wal_record.specs.Locks.{Held, covers_write}
use Rattle.lock_judge.specs.Taken.{AreTaken}
use Rattle.lock_judge.proofs.taken.TakenLocks.covers_write.Goals as goal

pub returns-in-Some : goal.returns-in-Some
unfolding AreTaken
returns-in-Some c = λ h k.
    c.any_covers_write.ensures
    ∙ ap (list_any (covers_write c.args.key.now)) (c.as_slice.ensures ∙ ap (λ (o : Option (List Held)). unwrap_or o []) c.in-Some.ensures.value)
    ∙ k c.args.tx (covers_write c.args.key.now)

pub returns-in-None : goal.returns-in-None
unfolding AreTaken
returns-in-None c = λ h k. ap (λ (o : Option (List Held)). list_any (covers_write c.args.key.now) (unwrap_or o [])) c.in-None.ensures.value ∙ k c.args.tx (covers_write c.args.key.now)
