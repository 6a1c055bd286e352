use Rattle.vault_bases_tests.proofs.runs.told.Given as goal

abbrev pub ghosts-life-N-Life : goal.ghosts-life-N-Life
ghosts-life-N-Life g a =
    record {
      opens = λ _. ⊥;
      entries = a.unnamed.entries;
      session_entries = a.unnamed.session_entries;
      log_faults = a.unnamed.log_faults;
      vault_faults = a.unnamed.vault_faults;
      data_faults = a.unnamed.data_faults;
      made = a.unnamed.made;
      log_faults_before = 0;
      vault_faults_before = 0;
      data_faults_before = 0;
    }

abbrev pub ghosts-life-N-CountName : goal.ghosts-life-N-CountName
ghosts-life-N-CountName g a = record { count = a.unnamed.count }

abbrev pub ghosts-life-N-BookNames : goal.ghosts-life-N-BookNames
ghosts-life-N-BookNames g a = record { pages = a.unnamed.pages; sessions = a.unnamed.sessions; maint = a.unnamed.maint }
