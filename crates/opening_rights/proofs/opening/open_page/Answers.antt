use Rattle.std.proofs.Common.{ap, ◌∙◌}
use Rattle.books.specs.Booking.{entry, replaced}
use Rattle.books.specs.Rights.{page_claim}
use Rattle.books.specs.declared.entry.BookEntry.{BookEntry}
use Rattle.opening_rights.proofs.Pages.{homes, replaced_last}
use Rattle.opening_rights.proofs.opening.open_page.Goals as goal

pub returns-clause-book : goal.returns-clause-book
returns-clause-book g c =
    c.set.ensures.book
    ∙ (λ i. replaced (entry ((c.open-right.ensures.right i).number) c.args.head 0) (c.open-right.ensures.book i))
    ∙ replaced_last c.args.page c.args.head c.args.book.now c.requires.none

pub returns-clause-home : goal.returns-clause-home
returns-clause-home g c = homes _ _ _ c.args.page c.args.head c.args.written c.of-right.result (c.of-right.ensures ∙ ap page_claim (c.set.ensures.right ∙ ap (λ (e : BookEntry). entry e.number c.args.head 0) c.open-right.ensures.right)) c.give_right.ensures.home c.note_written.ensures
