-- What is entered by whoever is alone.
use Rattle.std.proofs.Common.{◌≡◌, ◌+◌, ◌≤◌, List, [], ◌∷◌, ◌++◌, length, refl, sym, ap, ◌∙◌, arith, length-append, append-nil, inl, inr}
use mathlib.Core.List.{IsPrefix}
use Rattle.std.proofs.lemmas.List.{nil_from_length}
use Rattle.wal_record.specs.declared.record.Record.{Record}
use Rattle.wal_record.specs.declared.entry.Entry.{Entry}
use Rattle.page_ops.specs.Gains.{Gains}
use Rattle.page_ops.specs.Names.{LedgerName}
use Rattle.page_ops.specs.Seeing.{IsAmong, Known}
use Rattle.command_laws.specs.Alone.{IsAlone}

among_length : (es xs : List Entry) → IsAmong es xs → length es ≤ length xs
among_length [] xs h = omega arith
among_length (e ∷ es) [] h = absurd h
among_length (e ∷ es) (x ∷ xs) h = elim h [
  | inl g ↦ let n = among_length es xs g.1 in omega (arith, n)
  | inr g ↦ let n = among_length (e ∷ es) xs g in omega (arith, n)
]

-- where no more were added, these were
among_same : (es xs : List Entry) → IsAmong es xs → length xs ≤ length es → xs ≡ es
among_same [] [] h n = refl
among_same [] (x ∷ xs) h n = absurd (omega (arith, n))
among_same (e ∷ es) [] h n = absurd h
among_same (e ∷ es) (x ∷ xs) h n = elim h [
  | inl g ↦ let rest = among_same es xs g.1 (omega (arith, n)) in λ i. sym g.0 i ∷ rest i
  | inr g ↦ let m = among_length (e ∷ es) xs g in absurd (omega (arith, n, m))
]

module _ (opens : List Record → Type 0) (ledger sessions : LedgerName) (h own : List Entry) (old new : Known) (alone : IsAlone opens ledger old.account h) (begins : IsPrefix h old.log) (gains : Gains opens ledger sessions own old new) where
  -- nobody was there between
  as_many : length new.log ≡ length h + length own
  as_many =
      let all = gains.totals.all (gains.keeps.entry_parts ∙ alone.parts) in
      let c = gains.counted in
      let n = alone.counted in
      omega (arith, all, c, n)

  added : length h + length begins.0 + length gains.gained ≡ length new.log
  added =
      let a = length-append h begins.0 in
      let b = length-append old.log gains.gained in
      let is = ap (λ (l : List Entry). length l) begins.1 in
      let now = ap (λ (l : List Entry). length l) gains.is in
      omega (arith, a, b, is, now)

  seen_all : begins.0 ≡ []
  seen_all =
      let m = among_length own gains.gained gains.among in
      let a = as_many in
      let b = added in
      nil_from_length begins.0 (omega (arith, m, a, b))

  same : gains.gained ≡ own
  same = among_same own gains.gained gains.among (let a = as_many in let b = added in omega (arith, a, b))

  -- what had been seen before is all that there was
  pub found : old.log ≡ h
  found = sym begins.1 ∙ ap (λ (l : List Entry). h ++ l) seen_all ∙ append-nil h

  pub entered : new.log ≡ h ++ own
  entered = gains.is ∙ (λ i. found i ++ same i)

  pub still_alone : IsAlone opens ledger new.account new.log
  still_alone = record {
    parts = gains.keeps.entry_parts ∙ alone.parts;
    counted = gains.totals.all (gains.keeps.entry_parts ∙ alone.parts);
    consistent = gains.consistent;
  }
