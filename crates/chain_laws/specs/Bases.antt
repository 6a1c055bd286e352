-- Images to begin a repair from: where those that the log tells of stand.
use Rattle.std.specs.Prelude.{◌≢◌, ℕ, List, IsTrue}
use Rattle.wal_record.specs.Chains.{names_at}
use Rattle.wal_record.specs.Upkeep.{page_backup, written_lsn}
use Rattle.wal_record.specs.declared.record.Record.{Record}

-- a page's last backup, and its last written image, stand at a record that names the page
pub record BaseLaw (log : List Record) (p : ℕ) : Type 0 where
  pub backed_up : (page_backup log p).backup ≢ 0 → IsTrue (names_at log (page_backup log p).lsn p)
  pub written : written_lsn log p ≢ 0 → IsTrue (names_at log (written_lsn log p) p)
