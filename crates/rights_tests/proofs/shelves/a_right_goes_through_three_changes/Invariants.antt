use Rattle.rights_tests.proofs.shelves.a_right_goes_through_three_changes.Given as goal

abbrev pub ghosts-three_changes : goal.ghosts-three_changes
ghosts-three_changes g a = record { pages = a.shelf.pages; sessions = a.shelf.sessions; maint = a.shelf.maint }
