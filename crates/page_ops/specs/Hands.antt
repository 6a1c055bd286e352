-- A page in somebody's hand.
use Rattle.std.specs.Prelude.{◌≡◌, ℕ, List, Option, Some, Bool, IsTrue}
use Rattle.books.specs.Rights.{PageClaim}
use Rattle.front.specs.Seen.{PassSeen}
use Rattle.wal_record.specs.Rules.{is_number, is_page}
use Rattle.wal_record.specs.State.{KeepsState}
use Rattle.wal_record.specs.Books.{page_book}
use Rattle.wal_record.specs.History.{life_log}
use Rattle.wal_record.specs.Images.{image}
use Rattle.wal_record.specs.declared.page.PageState.{PageState}
use Rattle.wal_record.specs.declared.record.Record.{Record}
use Rattle.wal_record.specs.declared.entry.Entry.{Entry}

pub record Hand : Type 0 where
  pub page : ℕ
  pub lsn : ℕ
  pub state : PageState
  pub dirty : Bool
  pub right : Option PageClaim
  pub pass : PassSeen Entry

-- the right is to this page at this LSN, which is the page's head after what its own pass has seen, and the state is
-- the page's image there; the page's number and LSN are in their ranges, also where the log isn't told
pub record IsInHand (opens : List Record → Type 0) (h : Hand) : Type 0 where
  pub right : h.right ≡ Some (record { page = h.page; lsn = h.lsn })
  pub head : (opening : List Record) → opens opening → h.lsn ≡ page_book opening h.pass.log h.page
  pub image : (opening : List Record) → opens opening → image (life_log opening h.pass.log) h.page ≡ Some h.state
  pub keeps : KeepsState h.state
  pub number : IsTrue (is_page h.page)
  pub place : IsTrue (is_number h.lsn)
