-- What rights claim, and when their claims agree with a history.
use Rattle.std.specs.Prelude.{◌≡◌, List, Option, Some, None, IfSome, IsTrue}
use Rattle.books.specs.Rights.{PageClaim, SessionClaim, MaintClaim}
use Rattle.wal_record.specs.Rules.{is_number, is_page}
use Rattle.wal_record.specs.Books.{page_book, maintenance_book, session_entries, session_transaction}
use Rattle.wal_record.specs.declared.record.Record.{Record}
use Rattle.wal_record.specs.declared.entry.Entry.{Entry}

-- of the rights that a call is handed: three to pages, one to a session, one to maintenance
pub record Claims : Type 0 where
  pub a : Option PageClaim
  pub b : Option PageClaim
  pub c : Option PageClaim
  pub s : Option SessionClaim
  pub m : Option MaintClaim

abbrev pub no_claims : Claims
no_claims = record { a = None; b = None; c = None; s = None; m = None }

abbrev pub session_alone : SessionClaim → Claims
session_alone s = record { a = None; b = None; c = None; s = Some s; m = None }

-- the number of the page and the LSN of its head are in their ranges
abbrev pub IsInRange : PageClaim → Type 0
IsInRange p = IsTrue (is_page p.page) × IsTrue (is_number p.lsn)

-- those of each right to a page are
pub record AreInRange (x : Claims) : Type 0 where
  pub a : IfSome x.a IsInRange
  pub b : IfSome x.b IsInRange
  pub c : IfSome x.c IsInRange

-- the right to a page has its head
abbrev pub PageAgrees : (List Record → Type 0) → List Entry → PageClaim → Type 0
PageAgrees opens h p = (opening : List Record) → opens opening → p.lsn ≡ page_book opening h p.page

-- the right to a session has the number of its entries, and its transaction
pub record SessionAgrees (h : List Entry) (s : SessionClaim) : Type 0 where
  pub entries : s.entries ≡ session_entries h s.session
  pub tx : s.tx ≡ session_transaction h s.session

-- the right to maintenance has the LSN of the last record that says that a backup or a run is done
abbrev pub MaintAgrees : List Entry → MaintClaim → Type 0
MaintAgrees h m = m.lsn ≡ maintenance_book h

-- each claim is what its book has after this history
pub record Agree (opens : List Record → Type 0) (h : List Entry) (x : Claims) : Type 0 where
  pub a : IfSome x.a (PageAgrees opens h)
  pub b : IfSome x.b (PageAgrees opens h)
  pub c : IfSome x.c (PageAgrees opens h)
  pub s : IfSome x.s (SessionAgrees h)
  pub m : IfSome x.m (MaintAgrees h)
