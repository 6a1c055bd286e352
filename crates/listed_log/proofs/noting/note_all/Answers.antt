use Rattle.std.proofs.Common.{◌≡◌, List, [], ◌∷◌, ◌++◌, arith, sym, subst}
use Rattle.log_index.specs.GoingOn.{KnowsLast}
use Rattle.log_index.specs.Listing.{IsListingOf}
use Rattle.wal_record.specs.Sound.{AreLawful}
use Rattle.wal_record.specs.declared.record.Record.{Record}
use Rattle.listed_log.proofs.Adding.{one_item, two_items, noted_on, noted_two, listed_two}
use Rattle.listed_log.proofs.noting.note_all.Goals as goal

pub returns-in-len1-clause-noted : goal.returns-in-len1-clause-noted
returns-in-len1-clause-noted c goes log at low before =
    let r = c.one-item.result in
    let is : c.args.recs.now ≡ r ∷ [] = one_item c.args.recs.now r c.in-len1.len_at_least c.in-len1.len_below c.one-item.is in
    subst (λ (l : List Record). KnowsLast goes (log ++ l) c.note.new.self) (sym is) (noted_on goes log r c.args.lsn c.args.listing.now c.note.new.self before c.note.ensures.noted at)

pub returns-in-len2-clause-more : goal.returns-in-len2-clause-more
returns-in-len2-clause-more c log k lawful at low =
    let r = c.one-item-then-recs-lt3.result in
    let q = c.two-item.result in
    let is : c.args.recs.now ≡ r ∷ q ∷ [] = two_items c.args.recs.now r q c.in-len2.len_at_least c.in-len2.len_below c.one-item-then-recs-lt3.is c.two-item.is in
    subst (λ (l : List Record). IsListingOf (log ++ l) c.note-in-len2-2.new.self) (sym is)
    (listed_two log r q c.args.lsn c.saturating_add.result c.args.listing.now c.note-in-len2.new.self c.note-in-len2-2.new.self (subst (λ (l : List Record). AreLawful (log ++ l)) is lawful) at (omega (arith, c.saturating_add.ensures, at, low)) low k
    (c.note-in-len2.ensures.more log) (c.note-in-len2-2.ensures.more (log ++ r ∷ [])))

pub returns-in-len2-clause-noted : goal.returns-in-len2-clause-noted
returns-in-len2-clause-noted c goes log at low before =
    let r = c.one-item-then-recs-lt3.result in
    let q = c.two-item.result in
    let is : c.args.recs.now ≡ r ∷ q ∷ [] = two_items c.args.recs.now r q c.in-len2.len_at_least c.in-len2.len_below c.one-item-then-recs-lt3.is c.two-item.is in
    subst (λ (l : List Record). KnowsLast goes (log ++ l) c.note-in-len2-2.new.self) (sym is)
    (noted_two goes log r q c.args.lsn c.saturating_add.result c.args.listing.now c.note-in-len2.new.self c.note-in-len2-2.new.self before c.note-in-len2.ensures.noted c.note-in-len2-2.ensures.noted at (omega (arith, c.saturating_add.ensures, at, low)))
