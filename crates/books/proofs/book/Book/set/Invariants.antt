use Rattle.books.specs.Booking.{entry}
use Rattle.books.proofs.book.Book.set.Given as goal

abbrev pub ghosts-change : goal.ghosts-change
ghosts-change g a = record { entry = entry a.old.number a.first a.second }
