-- Whoever has all parts of the ledger of entries, and whose pass has seen as many as were entered, is alone: nobody else
-- enters anything meanwhile.
use Rattle.std.proofs.Common.{◌≡◌, List, [], ◌++◌, length, sym, ap, ◌∙◌, arith, length-append, append-nil}
use Rattle.std.proofs.lemmas.List.{nil_from_length}
use Rattle.wal_record.specs.declared.record.Record.{Record}
use Rattle.wal_record.specs.declared.entry.Entry.{Entry}
use Rattle.page_ops.specs.Names.{LedgerName}
use Rattle.page_ops.specs.Seeing.{Known, Enters}

nothing_after : (xs t ys : List Entry) → xs ++ t ≡ ys → length ys ≡ length xs → ys ≡ xs
nothing_after xs t ys is same =
    let none : t ≡ [] = nil_from_length t (omega (arith, length-append xs t, ap (λ (l : List Entry). length l) is, same)) in
    sym is ∙ ap (λ l. xs ++ l) none ∙ append-nil xs

pub alone : (opens : List Record → Type 0) (entries sessions : LedgerName) (old new : Known) (es : List Entry) → Enters opens entries sessions old es new
    → old.account.entries.parts ≡ entries.parts → length old.log ≡ old.account.entries.amount → new.log ≡ old.log ++ es
alone opens entries sessions old new es e whole counted =
    let all = e.totals.all (e.keeps.entry_parts ∙ whole) in
    let same : length e.moment ≡ length old.log = omega (arith, all, counted, e.counted, ap (λ (l : List Entry). length l) e.is, length-append e.moment es) in
    e.is ∙ ap (λ l. l ++ es) (nothing_after old.log e.found.begins.0 e.moment e.found.begins.1 same)
