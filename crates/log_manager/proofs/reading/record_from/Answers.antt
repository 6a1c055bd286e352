use Rattle.log_manager.proofs.Taking.{in_front}
use Rattle.log_manager.proofs.reading.record_from.Goals as goal

pub returns-in-Ok-clause-next : goal.returns-in-Ok-clause-next
returns-in-Ok-clause-next c = (
  c.in-Ok.ensures.found.0,
  in_front c.args.payload.now c.split_at.result.1.now _ c.args.at c.in-Ok.length c.split_at.ensures.back c.requires.within c.in-Ok.ensures.found.1,
)
