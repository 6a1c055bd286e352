use Rattle.front.proofs.Keeping.{begins}
use Rattle.front.proofs.count.Count.new.Goals as goal

pub of_words-requires : goal.of_words-requires
of_words-requires g c = begins
