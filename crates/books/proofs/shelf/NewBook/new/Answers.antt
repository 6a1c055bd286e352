use Rattle.books.proofs.Keeping.{begins}
use Rattle.books.proofs.shelf.NewBook.new.Goals as goal

pub of_words-requires : goal.of_words-requires
of_words-requires c = begins
