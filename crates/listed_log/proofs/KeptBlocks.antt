-- What the log keeps: where a record stands, and which blocks are forgotten.
use Rattle.std.proofs.Common.{◌≡◌, ℕ, zero, suc, ◌+◌, ◌<◌, ◌≤◌, List, [], ◌∷◌, ◌++◌, length, get_or, take, drop, Some, None, Bool, refl, sym, ap, ◌∙◌, subst, arith, append_assoc, length-append, inl, inr}
use Rattle.std.specs.Prelude.{◌-◌, ◌⊎◌, map, Result, Ok, Err, OnOk, OnErr, IfOk, IfErr, slice_get}
use Rattle.std.proofs.lemmas.List.{take-append-drop}
use Rattle.media.specs.Kept.{Kept}
use Rattle.log_blocks.specs.Log.{Block, IsRun, first_lsn, next_lsn}
use Rattle.log_blocks.specs.LogState.{LogState, Refused, durable_lsn, firsts, lsn_behind}
use Rattle.log_blocks.specs.declared.header.Place.{Place}
use Rattle.log_index.specs.declared.listing.Listing.{Listing}
use Rattle.log_manager.specs.Managed.{EndBefore, IsAt, IsLogFrom, IsNoBadLog, Managed, ReadRefused, before_lsn, first_kept, recycled}
use Rattle.log_manager.specs.Records.{AreIn, IsLogOf, checkpoint_in}
use Rattle.log_manager.proofs.Finding.{first_of, firsts_all, next_of_all}
use Rattle.log_manager.proofs.Joining.{checkpoint_after-append, in_append, in_count, next_count}
use Rattle.store_model.specs.declared.fault.Fault.{Fault}
use Rattle.store_model.specs.declared.fault.Fault.TheVariants as faults
use Rattle.wal_record.specs.Chains.{record_with}
use Rattle.wal_record.specs.Checkpoints.{checkpoint_after, last_checkpoint}
use Rattle.wal_record.specs.declared.record.Record.{Record}
use Rattle.listed_log.specs.Listed.{HoldsEnd, IsLogWith}

-- ---- the records of a log end before the next LSN

count_all : (n before : ℕ) (bs : List Block) (rs : List Record) → AreIn before bs rs → next_lsn n bs ≡ n + length rs
count_all n before bs rs a = next_count n bs ∙ ap (λ (k : ℕ). n + k) (in_count before bs rs a)

module _ {D : Type 0} (told : D → Kept) (may_leave : D → Kept → Type 0) (log : LogState D) (before : ℕ) (stable waiting : List Record) (k : IsLogOf told may_leave log before stable waiting) where
  abbrev all : List Block
  all = k.bs ++ log.pending

  run : IsRun (lsn_behind log.places) log.pending
  run = k.numbered.run

  next_is : log.next ≡ next_lsn (first_lsn all) all
  next_is =
      let start = (told log.device).start in
      k.numbered.next ∙ ap (λ (ps : List Place). next_lsn (lsn_behind ps) log.pending) k.durable.places_are
      ∙ next_of_all start k.bs log.pending k.durable.stands.sequence (subst (λ (ps : List Place). IsRun (lsn_behind ps) log.pending) k.durable.places_are run)

  whole : AreIn before all (stable ++ waiting)
  whole = in_append before k.bs log.pending stable waiting k.records.records k.more

  pub kept_next : log.next ≡ first_kept log + length (stable ++ waiting)
  kept_next = by all whole next_is (firsts_all log (told log.device).start k.bs k.durable.places_are)
    where
      by : (bs : List Block) → AreIn before bs (stable ++ waiting) → log.next ≡ next_lsn (first_lsn bs) bs → firsts log ≡ map first_of bs → log.next ≡ first_kept log + length (stable ++ waiting)
      by [] a next first = let one : first_kept log ≡ log.next = ap (λ (l : List ℕ). get_or l 0 log.next) first in omega (arith, one, ap length a)
      by (b ∷ bs) a next first = let one : first_kept log ≡ b.first = ap (λ (l : List ℕ). get_or l 0 log.next) first in omega (arith, one, next, count_all b.first before (b ∷ bs) (stable ++ waiting) a)

  -- the durable ones end before those that wait
  pub waiting_next : log.next ≡ lsn_behind log.places + length waiting
  waiting_next = k.numbered.next ∙ count_all (lsn_behind log.places) (checkpoint_in before k.bs) log.pending waiting k.more

-- ---- a record that is read

record_behind : (front rs : List Record) (i : ℕ) (r : Record) → IsAt rs i r → slice_get (front ++ rs) (length front + i) ≡ Some r
record_behind [] rs i r at =
    let none : 0 + i ≡ i = omega arith in
    ap (slice_get rs) none ∙ ap (λ (l : List Record). slice_get l i) at.is ∙ ap (slice_get (at.front ++ r ∷ at.back)) (sym at.place) ∙ here at.front at.back
  where
    here : (xs ys : List Record) → slice_get (xs ++ r ∷ ys) (length xs) ≡ Some r
    here [] ys = refl
    here (x ∷ xs) ys = here xs ys
record_behind (x ∷ front) rs i r at = let one : suc (length front) + i ≡ suc (length front + i) = omega arith in ap (slice_get (x ∷ (front ++ rs))) one ∙ record_behind front rs i r at

pub found_at : {D : Type 0} (told : D → Kept) (may_leave : D → Kept → Type 0) (log : LogState D) (rs : List Record) (h : HoldsEnd told may_leave log rs) → log.next ≡ suc (length rs) → (lsn : ℕ) → first_kept log ≤ lsn
    → (r : Record) → IsAt (h.stable ++ h.waiting) (lsn - first_kept log) r → record_with rs lsn ≡ Some r
found_at told may_leave log rs h next lsn kept r at =
    let most = kept_next told may_leave log (last_checkpoint h.forgotten) h.stable h.waiting h.blocks in
    let size = ap length h.is ∙ length-append h.forgotten (h.stable ++ h.waiting) in
    let first : first_kept log ≡ suc (length h.forgotten) = omega (arith, most, size, next) in
    let place : lsn ≡ suc (length h.forgotten + (lsn - first_kept log)) = omega (arith, first, kept) in
    ap (record_with rs) place ∙ ap (λ (l : List Record). slice_get l (length h.forgotten + (lsn - first_kept log))) h.is ∙ record_behind h.forgotten (h.stable ++ h.waiting) (lsn - first_kept log) r at

module _ {D : Type 0} (tells : Type 0) (told : D → Kept) (may_leave : D → Kept → Type 0) (goes : ℕ → Bool) (rs : List Record) (m m' : Managed D) (s : Listing) (k : IsLogWith tells told may_leave goes rs m s) where
  read_on : tells → (tells → (before : ℕ) (stable waiting : List Record) → IsLogOf told may_leave m.log before stable waiting → IsLogOf told may_leave m'.log before stable waiting) → m.log.ended ≡ None → HoldsEnd told may_leave m'.log rs
  read_on t blocks runs =
      let old = k.records t runs in
      record { forgotten = old.forgotten; stable = old.stable; waiting = old.waiting; is = old.is; blocks = blocks t (last_checkpoint old.forgotten) old.stable old.waiting old.blocks }

  before_if : (count : D → ℕ) (fault : Fault) → ReadRefused count m.log m'.log fault → m'.log.ended ≡ None → m.log.ended ≡ None
  before_if count (faults.LogBad block byte) why runs = why.0
  before_if count (faults.Ended at) why runs = ap (λ (l : LogState D). l.ended) (sym why.1) ∙ runs
  before_if count faults.LogFault why runs = why.0
  before_if count faults.Memory why runs = why.1
  before_if count _ why runs = absurd why

  before : {A : Type 0} (count : D → ℕ) (result : Result A Fault) → OnOk result ((m.log.ended ≡ None) × (m'.log.ended ≡ None)) → IfErr result (ReadRefused count m.log m'.log) → m'.log.ended ≡ None → m.log.ended ≡ None
  before count (Ok x) live why runs = live.0
  before count (Err fault) live why runs = before_if count fault why runs

  -- a read leaves the records, whatever comes of it
  pub kept_read : {A : Type 0} (count : D → ℕ) (result : Result A Fault) → m'.log.next ≡ m.log.next
      → (tells → (before : ℕ) (stable waiting : List Record) → IsLogOf told may_leave m.log before stable waiting → IsLogOf told may_leave m'.log before stable waiting)
      → OnOk result ((m.log.ended ≡ None) × (m'.log.ended ≡ None)) → IfErr result (ReadRefused count m.log m'.log) → IsLogWith tells told may_leave goes rs m' s
  kept_read count result next blocks live why = record { lawful = k.lawful; listing = k.listing; noted = k.noted; next = next ∙ k.next; records = λ t runs. read_on t blocks (before count result live why runs) }

-- ---- blocks that are forgotten

firsts_left : (n : ℕ) (ps : List Place) (more : List ℕ) (d : ℕ) → n < length ps → get_or (map (λ (p : Place). p.first) (drop n ps) ++ more) 0 d ≡ get_or (map (λ (p : Place). p.first) ps) n 0
firsts_left n [] more d lt = absurd (omega (arith, lt))
firsts_left zero (p ∷ ps) more d lt = refl
firsts_left (suc n) (p ∷ ps) more d lt = firsts_left n ps more d (omega (arith, lt))

-- where blocks go, the first record that is kept then is at most at the point
pub first_left : {D : Type 0} (m m' : Managed D) (point : ℕ) → EndBefore point m.log.places (before_lsn point m.log.places)
    → m' ≡ record m { log = record m.log { device = m'.log.device; places = drop (before_lsn point m.log.places) m.log.places } } → (first_kept m'.log ≡ first_kept m.log) ⊎ (first_kept m'.log ≤ point)
first_left m m' point ends is = by (before_lsn point m.log.places) ends is
  where
    by : (n : ℕ) → EndBefore point m.log.places n → m' ≡ record m { log = record m.log { device = m'.log.device; places = drop n m.log.places } } → (first_kept m'.log ≡ first_kept m.log) ⊎ (first_kept m'.log ≤ point)
    by zero e is = inl (ap (λ (x : Managed _). first_kept x.log) is)
    by (suc n) e is =
        let within = e.not_last in
        let first = ap (λ (x : Managed _). first_kept x.log) is ∙ firsts_left (suc n) m.log.places (map (λ (b : Block). b.first) m.log.pending) m.log.next (omega (arith, within)) in
        let one : n + 1 ≡ suc n = omega arith in
        let low = subst (λ (i : ℕ). get_or (map (λ (p : Place). p.first) m.log.places) i 0 ≤ point) one (e.each n (omega arith)) in
        inr (omega (arith, first, low))

module _ {D : Type 0} (tells : Type 0) (told : D → Kept) (may_leave : D → Kept → Type 0) (count : D → ℕ) (goes : ℕ → Bool) (rs : List Record) (m m' : Managed D) (s : Listing) (k : IsLogWith tells told may_leave goes rs m s) (next : m'.log.next ≡ m.log.next) (point : ℕ) where
  abbrev Blocks : Type 0
  Blocks = tells → (before : ℕ) (stable waiting : List Record) → IsLogOf told may_leave m.log before stable waiting → IsLogFrom told may_leave before (first_kept m.log) stable waiting (recycled point m.log.places) m'.log

  left_blocks : tells → Blocks → m.log.ended ≡ None → HoldsEnd told may_leave m'.log rs
  left_blocks t blocks runs =
      let old = k.records t runs in
      let n = recycled point m.log.places in
      let most = kept_next told may_leave m.log (last_checkpoint old.forgotten) old.stable old.waiting old.blocks in
      let size = ap length old.is ∙ length-append old.forgotten (old.stable ++ old.waiting) in
      let first : first_kept m.log ≡ 1 + length old.forgotten = let at = k.next in omega (arith, most, size, at) in
      let from = (blocks t (last_checkpoint old.forgotten) old.stable old.waiting old.blocks).stands in
      record {
        forgotten = old.forgotten ++ take n old.stable;
        stable = drop n old.stable;
        waiting = old.waiting;
        is =
            old.is
            ∙ ap (λ (l : List Record). old.forgotten ++ (l ++ old.waiting)) (sym (take-append-drop n old.stable))
            ∙ ap (λ (l : List Record). old.forgotten ++ l) (append_assoc (take n old.stable) (drop n old.stable) old.waiting)
            ∙ sym (append_assoc old.forgotten (take n old.stable) (drop n old.stable ++ old.waiting));
        blocks = subst (λ (c : ℕ). IsLogOf told may_leave m'.log c (drop n old.stable) old.waiting) (ap (λ (f : ℕ). checkpoint_after (last_checkpoint old.forgotten) f (take n old.stable)) first ∙ sym (checkpoint_after-append 0 1 old.forgotten (take n old.stable))) from;
      }

  refused_blocks : (fault : Fault) → Refused ⊥ count m.log m'.log fault → m'.log.ended ≡ None → HoldsEnd told may_leave m'.log rs
  refused_blocks (faults.Ended at) why runs = ended_same (why.1) runs
    where
      ended_same : m'.log ≡ m.log → m'.log.ended ≡ None → HoldsEnd told may_leave m'.log rs
      ended_same same runs = absurd (cc (ap (λ (l : LogState D). l.ended) same, why.0, runs))
  refused_blocks faults.LogFault why runs = absurd (cc (why.2, runs))
  refused_blocks faults.Memory why runs = absurd why.0
  refused_blocks _ why runs = absurd why

  pub kept_recycled : {A : Type 0} (result : Result A Fault) → (tells → (before : ℕ) (stable waiting : List Record) → IsLogOf told may_leave m.log before stable waiting → OnOk result (IsLogFrom told may_leave before (first_kept m.log) stable waiting (recycled point m.log.places) m'.log))
      → OnOk result ((m.log.ended ≡ None) × (m'.log.ended ≡ None)) → IfErr result (Refused ⊥ count m.log m'.log) → IsLogWith tells told may_leave goes rs m' s
  kept_recycled (Ok x) blocks live why = record { lawful = k.lawful; listing = k.listing; noted = k.noted; next = next ∙ k.next; records = λ t runs. left_blocks t blocks live.0 }
  kept_recycled (Err fault) blocks live why = record { lawful = k.lawful; listing = k.listing; noted = k.noted; next = next ∙ k.next; records = λ t runs. refused_blocks fault why runs }

  -- what is stable stays so
  pub stays_durable : {A : Type 0} (result : Result A Fault) → (tells → (before : ℕ) (stable waiting : List Record) → IsLogOf told may_leave m.log before stable waiting → OnOk result (IsLogFrom told may_leave before (first_kept m.log) stable waiting (recycled point m.log.places) m'.log))
      → OnErr result (m' ≡ record m { log = record m.log { device = m'.log.device; ended = m'.log.ended } }) → tells → m.log.ended ≡ None → durable_lsn m.log.places ≤ durable_lsn m'.log.places
  stays_durable (Ok x) blocks same t runs =
      let old = k.records t runs in
      let from = (blocks t (last_checkpoint old.forgotten) old.stable old.waiting old.blocks).stands in
      let was = waiting_next told may_leave m.log (last_checkpoint old.forgotten) old.stable old.waiting old.blocks in
      let now = waiting_next told may_leave m'.log (checkpoint_after (last_checkpoint old.forgotten) (first_kept m.log) (take (recycled point m.log.places) old.stable)) (drop (recycled point m.log.places) old.stable) old.waiting from in
      omega (arith, was, now, next)
  stays_durable (Err fault) blocks same t runs = subst (λ (ps : List Place). durable_lsn m.log.places ≤ durable_lsn ps) (ap (λ (x : Managed D). x.log.places) (sym same)) (omega arith)

-- ---- what a read finds

module _ {D : Type 0} (tells : Type 0) (told : D → Kept) (may_leave : D → Kept → Type 0) (count : D → ℕ) (goes : ℕ → Bool) (rs : List Record) (m m' : Managed D) (s : Listing) (k : IsLogWith tells told may_leave goes rs m s) (lsn : ℕ) (kept : first_kept m.log ≤ lsn) (t : tells) where
  pub found_in : (result : Result Record Fault) → ((before : ℕ) (stable waiting : List Record) → IsLogOf told may_leave m.log before stable waiting → IfOk result (IsAt (stable ++ waiting) (lsn - first_kept m.log)) × IfErr result IsNoBadLog)
      → OnOk result ((m.log.ended ≡ None) × (m'.log.ended ≡ None)) → IfErr result (ReadRefused count m.log m'.log) → IfOk result (λ r. record_with rs lsn ≡ Some r) × IfErr result IsNoBadLog
  found_in (Ok r) found live why = let old = k.records t live.0 in (found_at told may_leave m.log rs old k.next lsn kept r (found (last_checkpoint old.forgotten) old.stable old.waiting old.blocks).0, tt)
  found_in (Err fault) found live why = (tt, by fault found why)
    where
      by : (fault : Fault) → ((before : ℕ) (stable waiting : List Record) → IsLogOf told may_leave m.log before stable waiting → Unit {0} × IsNoBadLog fault) → ReadRefused count m.log m'.log fault → IsNoBadLog fault
      by (faults.LogBad block byte) found why = let old = k.records t why.0 in (found (last_checkpoint old.forgotten) old.stable old.waiting old.blocks).1
      by _ found why = tt

pub needed_left : (first left point needed lsn many durable : ℕ) → (left ≡ first) ⊎ (left ≤ point) → lsn ≡ left → (point ≡ 0) ⊎ ((point ≡ needed) × (many ≤ durable)) → (lsn ≡ first) ⊎ (lsn ≤ needed)
needed_left first left point needed lsn many durable (inl same) is at = inl (is ∙ same)
needed_left first left point needed lsn many durable (inr low) is (inl none) = inr (omega (arith, low, is, none))
needed_left first left point needed lsn many durable (inr low) is (inr at) = inr (omega (arith, low, is, at.0))
