-- What names a life.
use Rattle.std.specs.Prelude.{◌≡◌, ℕ}
use Rattle.atomic_table.specs.Seated.{TableId}

-- a ledger, and the number of its parts
pub record LedgerName : Type 0 where
  pub name : ℕ
  pub parts : ℕ

-- the name of no ledger
abbrev pub no_ledger : LedgerName
no_ledger = record { name = 0; parts = 0 }

-- the names of a life's count, of its three books, and of its six ledgers
pub record LifeNames : Type 0 where
  pub count : TableId
  pub pages : TableId
  pub sessions : TableId
  pub maint : TableId
  pub entries : LedgerName
  pub session_entries : LedgerName
  pub log_faults : LedgerName
  pub vault_faults : LedgerName
  pub data_faults : LedgerName
  pub made : LedgerName

abbrev pub life_names : TableId → TableId → TableId → TableId → LedgerName → LedgerName → LedgerName → LedgerName → LedgerName → LedgerName → LifeNames
life_names count pages sessions maint entries session_entries log_faults vault_faults data_faults made =
    record { count = count; pages = pages; sessions = sessions; maint = maint; entries = entries; session_entries = session_entries; log_faults = log_faults; vault_faults = vault_faults; data_faults = data_faults; made = made }

-- each ledger has this many parts
pub record HasParts (names : LifeNames) (parts : ℕ) : Type 0 where
  pub entries : names.entries.parts ≡ parts
  pub session_entries : names.session_entries.parts ≡ parts
  pub log_faults : names.log_faults.parts ≡ parts
  pub vault_faults : names.vault_faults.parts ≡ parts
  pub data_faults : names.data_faults.parts ≡ parts
  pub made : names.made.parts ≡ parts
