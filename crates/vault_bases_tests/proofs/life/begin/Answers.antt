use Rattle.std.proofs.Common.{◌≡◌, [], ap, sym, ◌∙◌}
use Rattle.books.specs.Rights.{MaintClaim, maint_claim}
use Rattle.front.specs.Seen.{PassSeen}
use Rattle.wal_record.specs.Books.{maintenance_book}
use Rattle.wal_record.specs.declared.entry.Entry.{Entry}
use Rattle.vault_bases_tests.proofs.Opened.{kept, none_named, small}
use Rattle.vault_bases_tests.proofs.life.begin.Goals as goal

pub new-history-requires-clause-books : goal.new-history-requires-clause-books
new-history-requires-clause-books g c = kept g.N.Life.opens c.requires.untold _ _ _ _ c.requires.sessions c.requires.maint c.open.ensures.book

pub new-history-requires-clause-small : goal.new-history-requires-clause-small
new-history-requires-clause-small g c = small _ _ _ _ c.requires.pages c.requires.maint c.open.ensures.book

pub new-objects-requires-clause-right : goal.new-objects-requires-clause-right
new-objects-requires-clause-right g c =
    let begun : c.copy.result.log ≡ [] = ap (λ (p : PassSeen Entry). p.log) c.copy.ensures.copy ∙ c.requires.pass in
    ap (λ (m : MaintClaim). m.lsn) (c.of-right.ensures ∙ ap maint_claim c.open.ensures.right) ∙ sym none_named ∙ ap maintenance_book (sym begun)

pub new-objects-requires-clause-told : goal.new-objects-requires-clause-told
new-objects-requires-clause-told g c = λ opening stands. absurd (c.requires.untold opening stands)

pub new-objects-requires-clause-named : goal.new-objects-requires-clause-named
new-objects-requires-clause-named g c = λ t opening name bytes stands is. absurd (c.requires.untold opening stands)
