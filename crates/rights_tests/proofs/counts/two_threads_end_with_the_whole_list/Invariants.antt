use Rattle.rights_tests.proofs.counts.two_threads_end_with_the_whole_list.Given as goal

abbrev pub ghosts-two_threads : goal.ghosts-two_threads
ghosts-two_threads g a = record { count = a.count }
