-- Pages in hand behind a group that was entered.
use Rattle.std.specs.Prelude.{◌≡◌, Option, None, true}
use Rattle.books.specs.Rights.{SessionClaim}
use Rattle.front.specs.Seen.{PassSeen}
use Rattle.wal_record.specs.declared.page.PageState.{PageState}
use Rattle.wal_record.specs.declared.entry.Entry.{Entry}
use Rattle.page_ops.specs.Claims.{Claims}
use Rattle.page_ops.specs.Hands.{Hand}

-- the right to the page in hand, and that to a session, if there is one
abbrev pub claims_of : Hand → Option SessionClaim → Claims
claims_of hand owner = record { a = hand.right; b = None; c = None; s = owner; m = None }

-- the page has this state now, and its own pass has seen all that the caller's has
pub record IsSettled (made : PageState) (seen : PassSeen Entry) (old new : Hand) : Type 0 where
  pub page : new.page ≡ old.page
  pub state : new.state ≡ made
  pub pass : new.pass ≡ seen
  pub dirty : new.dirty ≡ true
