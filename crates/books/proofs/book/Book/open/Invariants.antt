use Rattle.books.proofs.book.Book.open.Given as goal

abbrev pub ghosts-add : goal.ghosts-add
ghosts-add g a = record { entry = a.entry }
