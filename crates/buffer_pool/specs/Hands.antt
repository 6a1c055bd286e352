-- The one right to a page that is brought.
use Rattle.std.specs.Prelude.{Some, None}
use Rattle.books.specs.Rights.{PageClaim}
use Rattle.page_ops.specs.Claims.{Claims}

abbrev pub one_right : PageClaim → Claims
one_right p = record { a = Some p; b = None; c = None; s = None; m = None }
