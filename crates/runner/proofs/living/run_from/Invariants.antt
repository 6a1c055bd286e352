use Rattle.life_commands.specs.Stores.{stores}
use Rattle.runner.specs.Machine.{OpensOn}
use Rattle.runner.proofs.living.run_from.Given as goal

abbrev pub ghosts-run_named-N-Life : goal.ghosts-run_named-N-Life
ghosts-run_named-N-Life g a = record {
  opens = OpensOn g.L.Disk.tells g.L.Disk (stores g.D.PageDevice g.V.Vault) a.opened (a.pages, a.vault);
  entries = a.unnamed.entries;
  session_entries = a.unnamed.session_entries;
  log_faults = a.unnamed.log_faults;
  vault_faults = a.unnamed.vault_faults;
  data_faults = a.unnamed.data_faults;
  made = a.unnamed.made;
  log_faults_before = 0;
  vault_faults_before = 0;
  data_faults_before = 0;
}

abbrev pub ghosts-run_named-N-CountName : goal.ghosts-run_named-N-CountName
ghosts-run_named-N-CountName g a = record { count = a.unnamed.count }

abbrev pub ghosts-run_named-N-BookNames : goal.ghosts-run_named-N-BookNames
ghosts-run_named-N-BookNames g a = record { pages = a.unnamed.pages; sessions = a.unnamed.sessions; maint = a.unnamed.maint }
