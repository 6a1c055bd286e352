use Rattle.page_index.proofs.tests.a_right_is_at_home_or_out.Given as goal

abbrev pub ghosts-one_right : goal.ghosts-one_right
ghosts-one_right g a = record { pages = a.shelf.pages; sessions = a.shelf.sessions; maint = a.shelf.maint }
