use Rattle.rights_tests.proofs.counts.a_stored_number_is_seen.Given as goal

abbrev pub ghosts-one_mark : goal.ghosts-one_mark
ghosts-one_mark g a = record { count = a.count }
