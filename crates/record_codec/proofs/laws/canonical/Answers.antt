use Rattle.record_codec.proofs.AnyKind.{record_field, spelled_apart}
use Rattle.record_codec.proofs.laws.canonical.Goals as goal

pub returns-clause-again : goal.returns-clause-again
returns-clause-again c = record_field.again

pub returns-clause-apart : goal.returns-clause-apart
returns-clause-apart c = spelled_apart
