use Rattle.transcript.proofs.Reading.{token_law}
use Rattle.transcript.proofs.token_law.Goals as goal

pub returns : goal.returns
returns c = token_law
