-- What the entries of the three books stand for.
use Rattle.std.specs.Prelude.{ℕ}
use Rattle.books.specs.declared.entry.BookEntry.{BookEntry}

-- a page, and the LSN of its last record, 0 for none
pub record PageClaim : Type 0 where
  pub page : ℕ
  pub lsn : ℕ

abbrev pub page_claim : BookEntry → PageClaim
page_claim e = record { page = e.number; lsn = e.first }

abbrev pub page_entry : PageClaim → BookEntry
page_entry c = record { number = c.page; first = c.lsn; second = 0 }

-- a session, the number of the history's entries that belong to it, and its transaction, 0 for none
pub record SessionClaim : Type 0 where
  pub session : ℕ
  pub entries : ℕ
  pub tx : ℕ

abbrev pub session_claim : BookEntry → SessionClaim
session_claim e = record { session = e.number; entries = e.first; tx = e.second }

abbrev pub session_entry : SessionClaim → BookEntry
session_entry c = record { number = c.session; first = c.entries; second = c.tx }

-- a number, and the LSN of the last record that says that a backup or a run is done, 0 for none
pub record MaintClaim : Type 0 where
  pub number : ℕ
  pub lsn : ℕ

abbrev pub maint_claim : BookEntry → MaintClaim
maint_claim e = record { number = e.number; lsn = e.first }

abbrev pub maint_entry : MaintClaim → BookEntry
maint_entry c = record { number = c.number; first = c.lsn; second = 0 }
