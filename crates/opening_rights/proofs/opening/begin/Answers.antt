use Rattle.opening_rights.proofs.Pages.{begin_kept}
use Rattle.opening_rights.proofs.opening.begin.Goals as goal

pub returns-clause-books : goal.returns-clause-books
returns-clause-books g c =
    begin_kept g.N.Life.opens _ _ _ _ c.requires.empty.1 c.requires.empty.2 c.open.ensures.book
    (λ opening stands. (c.in_ok-index.ensures.pages opening (c.requires.listed opening stands) (c.requires.sound opening stands).0.lawful).heads)
