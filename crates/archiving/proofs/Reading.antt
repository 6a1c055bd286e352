-- Records are read one by one: each log of the life answers as it was first seen.
use Rattle.std.proofs.Common.{◌≡◌, ℕ, zero, suc, ◌+◌, ◌-◌, ◌<◌, ◌≤◌, List, [], ◌∷◌, ◌++◌, length, Some, refl, sym, ap, ◌∙◌, arith}
use Rattle.std.specs.Prelude.{false, slice_get}
use mathlib.Core.List.{IsPrefix}
use Rattle.wal_record.specs.Chains.{record_with}
use Rattle.wal_record.specs.History.{life_log, log_of}
use Rattle.wal_record.specs.declared.record.Record.{Record}
use Rattle.wal_record.specs.declared.entry.Entry.{Entry}
use Rattle.log_archive.specs.Items.{numbered, part}
use Rattle.log_archive.specs.Run.{items_size}
use Rattle.log_archive.specs.Shelves.{AddsWithin, Gathered, Gathering}
use Rattle.log_archive.specs.declared.layout.TheConstants.{RUN_BYTES}
use Rattle.log_archive.proofs.Gathering.{items_more, part_more}
use Rattle.page_ops.proofs.Staying.{longer_log}
use Rattle.archiving.specs.Archives.{IsLongest, run_size}
use Rattle.archiving.specs.Going.{IsLifeLog}

-- a record that stands in a longer log, too
front_of : (log more : List Record) (n : ℕ) → n < length log → slice_get (log ++ more) n ≡ slice_get log n
front_of [] more n lt = absurd (omega (arith, lt))
front_of (x ∷ xs) more zero lt = refl
front_of (x ∷ xs) more (suc n) lt = front_of xs more n (omega (arith, lt))

record_before : (log more : List Record) (lsn : ℕ) → 1 ≤ lsn → lsn ≤ length log → record_with (log ++ more) lsn ≡ record_with log lsn
record_before log more zero one within = absurd (omega (arith, one))
record_before log more (suc n) one within = front_of log more n (omega (arith, within))

module _ (opens : List Record → Type 0) (h now : List Entry) (begins : IsPrefix h now) where
  longer : (opening : List Record) → life_log opening now ≡ life_log opening h ++ log_of begins.0
  longer opening = ap (life_log opening) (sym begins.1) ∙ longer_log opening h begins.0

  pub stays_there : (lsn : ℕ) (opening : List Record) → lsn ≤ length (life_log opening h) → lsn ≤ length (life_log opening now)
  stays_there lsn opening within = let l = ap length (longer opening) in let n = length_more (life_log opening h) (log_of begins.0) in omega (arith, within, l, n)
    where
      length_more : (xs ys : List Record) → length xs ≤ length (xs ++ ys)
      length_more [] ys = omega arith
      length_more (x ∷ xs) ys = let l = length_more xs ys in omega (arith, l)

  pub found_first : (lsn : ℕ) (r : Record) → 1 ≤ lsn → ((opening : List Record) → opens opening → lsn ≤ length (life_log opening h)) → ((opening : List Record) → opens opening → record_with (life_log opening now) lsn ≡ Some r)
      → (log : List Record) → IsLifeLog opens h log → record_with log lsn ≡ Some r
  found_first lsn r one there found log x =
      let opening = x.0 in
      let at : record_with (life_log opening h) lsn ≡ Some r = sym (record_before (life_log opening h) (log_of begins.0) lsn one (there opening x.1)) ∙ ap (λ (l : List Record). record_with l lsn) (sym (longer opening)) ∙ found opening x.1 in
      ap (λ (l : List Record). record_with l lsn) x.2 ∙ at

-- ---- the longest run

module _ (opens : List Record → Type 0) (h : List Entry) (first upto : ℕ) where
  size_is : (last : ℕ) (g : Gathering) (x : Gathered (IsLifeLog opens h) first (last + 1) g) (opening : List Record) → opens opening → run_size (life_log opening h) first last ≡ g.size
  size_is last g x opening stands = ap (λ (rs : List Record). items_size (numbered first rs)) (sym (x.told (life_log opening h) (opening, stands, refl))) ∙ sym x.items.size

  -- all of the records
  pub whole_longest : (g : Gathering) → Gathered (IsLifeLog opens h) first (upto + 1) g → g.size ≤ RUN_BYTES → (opening : List Record) → opens opening → IsLongest (life_log opening h) first upto upto
  whole_longest g x small opening stands = let e = size_is upto g x opening stands in record { within = omega arith; fits = omega (arith, e, small); next = λ less. absurd (omega (arith, less)) }

  -- up to the one before a record with which they are too many
  pub part_longest : (lsn : ℕ) (g new : Gathering) (r : Record) → (x : Gathered (IsLifeLog opens h) first lsn g) → g.size ≤ RUN_BYTES → 1 ≤ first → first < lsn → lsn ≤ upto → ((log : List Record) → IsLifeLog opens h log → record_with log lsn ≡ Some r)
      → AddsWithin RUN_BYTES (numbered first x.records) (record { lsn = lsn; rec = r }) g new false → (opening : List Record) → opens opening → IsLongest (life_log opening h) first (lsn - 1) upto
  part_longest lsn g new r x small one some within found full opening stands =
      let log = life_log opening h in
      let known : IsLifeLog opens h log = (opening, stands, refl) in
      let back : lsn - 1 + 1 ≡ lsn = omega (arith, some) in
      let here : run_size log first (lsn - 1) ≡ g.size = ap (λ (n : ℕ). items_size (numbered first (part first n log))) back ∙ ap (λ (rs : List Record). items_size (numbered first rs)) (sym (x.told log known)) ∙ sym x.items.size in
      let more : run_size log first lsn ≡ items_size (numbered first x.records ++ record { lsn = lsn; rec = r } ∷ []) =
      ap (λ (rs : List Record). items_size (numbered first rs)) (sym (part_more first lsn x.records r log x.count one (x.told log known) (found log known))) ∙ ap items_size (sym (items_more first lsn x.records r x.count)) in
      let over = full.1 in
      let behind : run_size log first (lsn - 1 + 1) ≡ run_size log first lsn = ap (run_size log first) back in
      record {
        within = omega (arith, within);
        fits = omega (arith, here, small);
        next = λ less. omega (arith, over, more, behind);
      }
