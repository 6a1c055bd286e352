-- Of a log for which the disk stands: what is read is its end, and no block is bad.
use Rattle.std.proofs.Common.{◌≡◌, inl, inr, ℕ, zero, suc, ◌+◌, ◌<◌, ◌≤◌, ◌^◌, true, false, List, [], ◌∷◌, ◌++◌, length, take, refl, sym, ◌∙◌, ap, subst, arith, append_assoc, append-nil, length-append}
use Rattle.std.specs.List.{All}
use Rattle.std.specs.Prelude.{Err, Ok}
use Rattle.log_blocks.specs.Log.{Block, IsRun, first_lsn, next_lsn}
use Rattle.log_index.specs.declared.listing.Listing.{Listing}
use Rattle.log_manager.specs.Managed.{IsNoBadLog}
use Rattle.log_manager.specs.Payload.{Breaks, IsFirstFault, IsPayloadOf, bytes_of}
use Rattle.log_manager.specs.Records.{AreIn, IsLastCheckpoint, checkpoint_in}
use Rattle.log_manager.proofs.Joining.{checkpoint_below, in_split, last_is}
use Rattle.log_manager.proofs.Taking.{first_records, same_next}
use Rattle.record_codec.proofs.AnyKind.{record_field}
use Rattle.store_model.specs.declared.fault.Fault.{Fault}
use Rattle.store_model.specs.declared.fault.Fault.TheVariants as faults
use Rattle.wal_record.specs.Checkpoints.{is_checkpoint, last_checkpoint}
use Rattle.wal_record.specs.Reading.{Read, record_at}
use Rattle.wal_record.specs.Rules.{HasSpelling}
use Rattle.wal_record.specs.Sound.{AreLawful}
use Rattle.wal_record.specs.Spelling.{spelling}
use Rattle.wal_record.specs.declared.record.Record.{Record}
use Rattle.log_analysis.specs.Analysed.{LacksNamed, begins_at}
use Rattle.log_manager.specs.Devices.{HoldEnd}
use Rattle.log_analysis.specs.Taken.{GoesOnWith, HasNoCheckpoint, IsNotTakenIn, ListsMore}
use Rattle.log_analysis.specs.declared.taking.Named.{Named}
use Rattle.log_manager.proofs.Blocks.{HasBlock, all_blocks, spelled_front}
use Rattle.log_analysis.proofs.Listed.{from_checkpoint, from_start}
use Rattle.log_analysis.proofs.Reading.{AreReadFrom, held_count, names_last, run_at}

-- no block holds no record
pub no_blocks : (rs : List Record) (bs : List Block) → HoldEnd rs bs → length bs ≡ 0 → rs ≡ []
no_blocks rs (b ∷ bs) hold none = absurd (omega (arith, none))
no_blocks rs [] hold none = hold.is ∙ ap (λ (l : List Record). l ++ hold.kept) (empty hold.dropped (let e = hold.first in omega (arith, e))) ∙ hold.records.records
  where
    empty : (xs : List Record) → length xs ≡ 0 → xs ≡ []
    empty [] e = refl
    empty (x ∷ xs) e = absurd (omega (arith, e))

-- ---- payloads that are records

-- have no fault
pub no_fault_in : (own : List Record) (count byte : ℕ) (payload : List ℕ) → IsPayloadOf own count payload → IsFirstFault count payload byte → ⊥
no_fault_in own count byte payload p f = by f.breaks (first_records f.front own f.rest f.goes_on.spelled p.spelled (sym p.payload_is ∙ f.goes_on.bytes) (few f.breaks))
  where
    few : Breaks count (length f.front) f.rest f.left → length f.front ≤ length own
    few (inl (lt, bad)) = omega (arith, lt, p.count_is)
    few (inr (same, left, some)) = omega (arith, same, p.count_is)

    read : (r : Record) (back : List Record) → HasSpelling r → f.rest ≡ bytes_of (r ∷ back) → record_at f.rest ≡ Err f.left → ⊥
    read r back spelled is bad = let x : ◌≡◌ {A = Read Record} (Ok (r, bytes_of back)) (Err f.left) = sym (record_field.again r (bytes_of back) spelled) ∙ ap record_at (sym is) ∙ bad in cc x

    all_at : (front back : List Record) (r : Record) → All HasSpelling (front ++ r ∷ back) → HasSpelling r
    all_at [] back r all = all 0 r (omega arith)
    all_at (x ∷ front) back r all = all_at front back r (λ k d lt. all (suc k) d (omega (arith, lt)))

    by : Breaks count (length f.front) f.rest f.left → (back : List Record) × (own ≡ f.front ++ back) × (f.rest ≡ bytes_of back) → ⊥
    by (inl (lt, bad)) ([], is, rest) = omega (arith, lt, p.count_is, ap length (is ∙ append-nil f.front))
    by (inl (lt, bad)) (r ∷ back, is, rest) = read r back (all_at f.front back r (subst (All HasSpelling) is p.spelled)) rest bad
    by (inr (same, left, some)) ([], is, rest) = omega (arith, left, some, ap length rest)
    by (inr (same, left, some)) (r ∷ back, is, rest) = omega (arith, same, p.count_is, ap length is, length-append f.front (r ∷ back))

-- what stands at one place of a list is one
same_at : (xs ys : List Record) (x y : Record) (more rest : List Record) → xs ++ x ∷ more ≡ ys ++ y ∷ rest → length xs ≡ length ys → x ≡ y
same_at [] [] x y more rest is e = head_of is
  where
    head_of : x ∷ more ≡ y ∷ rest → x ≡ y
    head_of is = cc
same_at [] (b ∷ ys) x y more rest is e = absurd (omega (arith, e))
same_at (a ∷ xs) [] x y more rest is e = absurd (omega (arith, e))
same_at (a ∷ xs) (b ∷ ys) x y more rest is e = same_at xs ys x y more rest (tail_of is) (omega (arith, e))
  where
    tail_of : a ∷ (xs ++ x ∷ more) ≡ b ∷ (ys ++ y ∷ rest) → xs ++ x ∷ more ≡ ys ++ y ∷ rest
    tail_of is = cc

-- the record at the LSN of the last Checkpoint is one
pub is_last : (rs front back : List Record) (r : Record) → rs ≡ front ++ r ∷ back → last_checkpoint rs ≡ length front + 1 → is_checkpoint r ≡ false → ⊥
is_last rs front back r is at other = by (last_is 0 1 rs)
  where
    by : IsLastCheckpoint 0 1 rs (last_checkpoint rs) → ⊥
    by (inl (none, all)) = omega (arith, at, none)
    by (inr l) =
        let same : r ≡ l.found = same_at front l.front r l.found back l.back (sym is ∙ l.is) (omega (arith, at, l.place)) in
        let yes : is_checkpoint r ≡ true = ap is_checkpoint same ∙ l.checkpoint in
        let x : true ≡ false = sym yes ∙ other in
        cc

module _ (rs : List Record) (bs : List Block) (hold : HoldEnd rs bs) (run : IsRun (first_lsn bs) bs) where
  -- the record named by the last header is kept
  pub has_named : 0 < length bs → LacksNamed bs → ⊥
  has_named some lacks = omega (arith, hold.enough.checkpoint, names_last rs bs hold run some, lacks)

  -- the records of a block, and those before and behind it
  record Own (h : Block) (n : ℕ) : Type 0 where
    front : List Record
    own : List Record
    back : List Record
    is : rs ≡ front ++ (own ++ back)
    payload : IsPayloadOf own h.count h.payload
    first : h.first ≡ length front + 1

  own_of : (n : ℕ) (h : HasBlock bs n) → Own h.block n
  own_of n h =
      let s = in_split (last_checkpoint hold.dropped) (take n bs) (h.block ∷ h.behind) hold.kept (subst (λ (l : List Block). AreIn (last_checkpoint hold.dropped) l hold.kept) h.is hold.records.records) in
      let b = s.4 in
      let at = run_at (first_lsn bs) (take n bs) h.behind h.block (subst (IsRun (first_lsn bs)) h.is run) in
      record {
        front = hold.dropped ++ s.0;
        own = b.0;
        back = b.1;
        is = hold.is ∙ ap (λ (l : List Record). hold.dropped ++ l) (s.2 ∙ ap (λ (l : List Record). s.0 ++ l) b.2) ∙ sym (append_assoc hold.dropped s.0 (b.0 ++ b.1));
        payload = b.3.records;
        first = omega (arith, at.0, held_count (first_lsn bs) (last_checkpoint hold.dropped) (take n bs) s.0 s.3, hold.first, length-append hold.dropped s.0);
      }

  no_other : (n : ℕ) (h : HasBlock bs n) (named : Named) → named.checkpoint ≡ checkpoint_in 0 bs → 0 < length bs → HasNoCheckpoint named h.block.first h.block.count h.block.payload → ⊥
  no_other n h named named_is some x = by (first_records x.front o.own (spelling x.found ++ x.next.rest) x.next.spelled.0 o.payload.spelled (sym o.payload.payload_is ∙ x.next.bytes) (omega (arith, x.within, o.payload.count_is)))
    where
      o : Own h.block n
      o = own_of n h

      all_at : (front back : List Record) (r : Record) → All HasSpelling (front ++ r ∷ back) → HasSpelling r
      all_at [] back r all = all 0 r (omega arith)
      all_at (x ∷ front) back r all = all_at front back r (λ k d lt. all (suc k) d (omega (arith, lt)))

      by : (back : List Record) × (o.own ≡ x.front ++ back) × (spelling x.found ++ x.next.rest ≡ bytes_of back) → ⊥
      by ([], is, rest) = omega (arith, x.within, o.payload.count_is, ap length (is ∙ append-nil x.front))
      by (r ∷ back, is, rest) =
          let same = same_next x.found r x.next.rest (bytes_of back) x.next.spelled.1 (all_at x.front back r (subst (All HasSpelling) is o.payload.spelled)) rest in
          let whole : rs ≡ (o.front ++ x.front) ++ r ∷ (back ++ o.back) =
          o.is ∙ ap (λ (l : List Record). o.front ++ (l ++ o.back)) is ∙ ap (λ (l : List Record). o.front ++ l) (append_assoc x.front (r ∷ back) o.back) ∙ sym (append_assoc o.front x.front (r ∷ back ++ o.back)) in
          is_last rs (o.front ++ x.front) (back ++ o.back) r whole
          (omega (arith, names_last rs bs hold run some, named_is, x.none.here, o.first, length-append o.front x.front)) (ap is_checkpoint (sym same.0) ∙ x.none.other)

  -- none of its blocks isn't taken but for want of memory
  pub never_bad : (n : ℕ) (h : HasBlock bs n) (named : Named) → named.checkpoint ≡ checkpoint_in 0 bs → 0 < length bs → (fault : Fault)
      → IsNotTakenIn named n h.block.first h.block.count h.block.payload fault → IsNoBadLog fault
  never_bad n h named named_is some (faults.LogBad block byte) (inl (same, f)) = no_fault_in (own_of n h).own h.block.count byte h.block.payload (own_of n h).payload f
  never_bad n h named named_is some (faults.LogBad block byte) (inr (same, at, x)) = no_other n h named named_is some x
  never_bad n h named named_is some faults.Memory bad = tt
  never_bad n h named named_is some fault bad = absurd bad

  -- all blocks from the Checkpoint's on have been read
  module _ (lawful : AreLawful rs) (short : length rs < 2 ^ 63) (from n : ℕ) (old new : Listing) (le : length bs ≤ n) (s : AreReadFrom bs from n (checkpoint_in 0 bs) old new)
      (begins : next_lsn (first_lsn bs) (take from bs) ≤ begins_at bs) (some : 0 < length bs) (none : GoesOnWith [] old) where
    ends : (front : List Record) × (rs ≡ front ++ s.own) × (next_lsn (first_lsn bs) (take from bs) ≡ length front + 1)
    ends =
        let whole : bs ≡ take from bs ++ s.read = sym (all_blocks bs n le) ∙ s.is in
        let h = in_split (last_checkpoint hold.dropped) (take from bs) s.read hold.kept (subst (λ (l : List Block). AreIn (last_checkpoint hold.dropped) l hold.kept) whole hold.records.records) in
        let f = spelled_front (checkpoint_in (last_checkpoint hold.dropped) (take from bs)) s.read [] s.own h.1 s.spelled
        (subst (λ (l : List Block). AreIn (checkpoint_in (last_checkpoint hold.dropped) (take from bs)) l h.1) (sym (append-nil s.read)) h.4) in
        let own : h.1 ≡ s.own = f.2 ∙ ap (λ (l : List Record). s.own ++ l) f.3 ∙ append-nil s.own in (
          hold.dropped ++ h.0,
          hold.is ∙ ap (λ (l : List Record). hold.dropped ++ l) (h.2 ∙ ap (λ (l : List Record). h.0 ++ l) own) ∙ sym (append_assoc hold.dropped h.0 s.own),
          omega (arith, held_count (first_lsn bs) (last_checkpoint hold.dropped) (take from bs) h.0 h.3, hold.first, length-append hold.dropped h.0),
        )

    pub all_listed : GoesOnWith rs new
    all_listed = subst (λ (l : List Record). GoesOnWith l new) (sym ends.1) (by (checkpoint_in 0 bs) ends.0 refl ends.1 ends.2)
      where
        by : (c : ℕ) (front : List Record) → checkpoint_in 0 bs ≡ c → rs ≡ front ++ s.own → next_lsn (first_lsn bs) (take from bs) ≡ length front + 1 → GoesOnWith (front ++ s.own) new
        by zero [] is whole first =
            from_start s.own old new (subst AreLawful whole lawful) (omega (arith, short, ap length whole)) none
            (subst (λ (c : ℕ). ListsMore c 1 s.own old new) is (subst (λ (m : ℕ). ListsMore (checkpoint_in 0 bs) m s.own old new) (first ∙ omega arith) s.more))
        by zero (r ∷ front) is whole first = absurd (omega (arith, first, begins, is))
        by (suc c) front is whole first =
            from_checkpoint (suc c) front s.own old new (subst AreLawful whole lawful) (omega (arith, short, ap length whole)) (omega (arith, first, begins, is))
            (omega (arith, names_last rs bs hold run some, is, checkpoint_below 0 1 rs (omega arith), ap length whole))
            (subst (λ (d : ℕ). ListsMore d (length front + 1) s.own old new) is (subst (λ (m : ℕ). ListsMore (checkpoint_in 0 bs) m s.own old new) first s.more))
