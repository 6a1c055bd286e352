-- What calls make of the records of a log.
use Rattle.std.proofs.Common.{get_or, ◌≡◌, ◌⊎◌, inl, inr, ℕ, zero, suc, ◌+◌, ◌-◌, ◌<◌, ◌≤◌, List, [], ◌∷◌, ◌++◌, length, take, drop, max, refl, sym, ◌∙◌, ap, subst, arith, append-nil, append_assoc, take-append-drop, length-drop}
use Rattle.std.specs.Prelude.{map, Option}
use Rattle.std.specs.List.{All}
use Rattle.media.specs.Kept.{Kept}
use Rattle.log_blocks.specs.Batch.{numbered, records_in, with_group}
use Rattle.log_blocks.specs.Log.{Block, IsRun, IsSequence, StandsFor, StandsForMore, StandsForSome, first_lsn, next_lsn}
use Rattle.log_blocks.specs.LogState.{AreNumbered, IsDurable, LogState, checkpoint_of, firsts, last_or, lsn_behind, payload_at}
use Rattle.log_blocks.specs.Opening.{DropLeaves, FlushLeaves, Progress, places}
use Rattle.log_blocks.specs.declared.header.Place.{Place}
use Rattle.log_blocks.proofs.Lasts.{map-append}
use Rattle.log_blocks.proofs.Progressing.{length-places}
use Rattle.log_blocks.proofs.Walking.{next_above}
use Rattle.log_blocks.proofs.Whole.{behind-places, behind_first, lsn_after-drop, next_lsn-append, numbered_next, run_append, run_rest, sequence_whole}
use Rattle.log_blocks.proofs.BlockLists.{run_front}
use Rattle.wal_record.specs.Rules.{HasSpelling}
use Rattle.wal_record.specs.declared.record.Record.{Record}
use Rattle.log_manager.specs.declared.counted.Counted.{Counted}
use Rattle.log_manager.specs.Payload.{bytes_of}
use Rattle.log_manager.specs.Groups.{EndsBlock}
use Rattle.log_manager.specs.Records.{AreIn, AreRecordsOf, IsLastCheckpoint, IsLogOf, StandsForMoreRecords, StandsForRecords, checkpoint_in}
use Rattle.log_manager.specs.Managed.{HasLsn, IsAt, IsCounted, IsLogFrom, RecordsLeft, RecycleLeaves, StandsForRest, first_kept, records_at, with_batch}
use Rattle.log_manager.proofs.Counting.{checkpoint_of_block, checkpoints-places, group_run, without_first}
use Rattle.log_manager.proofs.Finding.{at_more, first_front, first_of, firsts-places, found_at, found_in, next_of_all}
use Rattle.log_manager.proofs.Joining.{checkpoint_in-append, checkpoint_is, last_is, group_in, in_append, in_count, in_drop, in_split, in_take, next_count, records_most, records_places, records_take}
use Rattle.wal_record.specs.Checkpoints.{checkpoint_after}

-- ---- the last Checkpoint

-- the Checkpoint of blocks in a run is a record of theirs, or stands before them
last_below : (n c : ℕ) (bs : List Block) → IsRun n bs → c ≤ n - 1 → checkpoint_in c bs ≤ next_lsn n bs - 1
last_below n c [] run le = le
last_below n c (b ∷ bs) run le = last_below (n + b.count) b.checkpoint bs run.2 (omega (arith, run.0, run.1.checkpoint))

durable_below : (start : ℕ) (bs : List Block) → IsSequence start bs → checkpoint_in 0 bs ≤ lsn_behind (places start bs) - 1
durable_below start [] s = omega arith
durable_below start (b ∷ bs) s = omega (arith, last_below b.first 0 (b ∷ bs) s.run (omega arith), behind_first start b bs s.run)

none_before : (before : ℕ) (bs : List Block) → (first_lsn bs ≡ 1 → before ≡ 0) → checkpoint_in 0 bs ≡ checkpoint_in before bs
none_before before [] none = sym (none refl)
none_before before (b ∷ bs) none = refl

-- more blocks behind those that are there change nothing of the first
front_one : (xs ys : List Block) → first_lsn (xs ++ ys) ≡ 1 → first_lsn xs ≡ 1
front_one [] ys e = refl
front_one (x ∷ xs) ys e = e

-- without the first n blocks the first LSN is that behind their records
first_drop : (n first : ℕ) (bs : List Block) → IsRun first bs → n < length bs → first_lsn (drop n bs) ≡ first + records_in (take n bs)
first_drop n first [] run lt = absurd (omega (arith, lt))
first_drop zero first (b ∷ bs) run lt = omega (arith, run.0)
first_drop (suc n) first (b ∷ bs) run lt = let rest = first_drop n (first + b.count) bs run.2 (omega (arith, lt)) in omega (arith, rest)

some_first : (n : ℕ) (bs : List Block) → IsRun (first_lsn bs) bs → n < length bs → 1 ≤ first_lsn bs
some_first n [] run lt = absurd (omega (arith, lt))
some_first n (b ∷ bs) run lt = run.1.first

-- and the last Checkpoint before is the last one among these records, or the one before them
module _ (before n : ℕ) (bs : List Block) (s : List Record) (run : IsRun (first_lsn bs) bs) (a : AreIn before bs s) where
  checkpoint_drop : checkpoint_in before (take n bs) ≡ checkpoint_after before (first_lsn bs) (take (records_in (take n bs)) s)
  checkpoint_drop =
      checkpoint_is before (first_lsn bs) (take n bs) (take (records_in (take n bs)) s)
      (run_front (first_lsn bs) (take n bs) (drop n bs) (subst (IsRun (first_lsn bs)) (sym (take-append-drop n bs)) run)) (in_take before n bs s a)

  none_drop : n < length bs → (first_lsn bs ≡ 1 → before ≡ 0) → first_lsn (drop n bs) ≡ 1 → checkpoint_in before (take n bs) ≡ 0
  none_drop lt none one =
      let first = first_drop n (first_lsn bs) bs run lt in
      let some = some_first n bs run lt in
      let no_record : records_in (take n bs) ≡ 0 = omega (arith, first, some, one) in
      checkpoint_drop ∙ ap (λ m. checkpoint_after before (first_lsn bs) (take m s)) no_record ∙ none (omega (arith, first, some, one))

module _ {D : Type 0} (told : D → Kept) (may_leave : D → Kept → Type 0) where
  abbrev Stands : LogState D → List Block → Type 0
  Stands log bs = IsDurable told may_leave log bs

  -- the durable blocks don't depend on those in memory
  pub inner : (log : LogState D) (bs ds : List Block) → Stands (with_batch log bs) ds → Stands log ds
  inner log bs ds d = record { stands = d.stands; only = d.only; places_are = d.places_are; gate_is = d.gate_is }

  pub outer : (log : LogState D) (bs ds : List Block) → Stands log ds → Stands (with_batch log bs) ds
  outer log bs ds d = record { stands = d.stands; only = d.only; places_are = d.places_are; gate_is = d.gate_is }

  -- the Checkpoint that the headers tell is that of the records
  checkpoint_told : (log : LogState D) (before : ℕ) (s w : List Record) (h : IsLogOf told may_leave log before s w) → checkpoint_of log ≡ checkpoint_in (checkpoint_in before h.bs) log.pending
  checkpoint_told log before s w h =
      ap (λ (l : List Place). last_or (last_or 0 (map (λ p. p.checkpoint) l)) (map checkpoint_of_block log.pending)) h.durable.places_are
      ∙ ap (λ (l : List ℕ). last_or (last_or 0 l) (map checkpoint_of_block log.pending)) (checkpoints-places (told log.device).start h.bs)
      ∙ ap (λ n. checkpoint_in n log.pending) (none_before before h.bs h.records.none)

  -- it is the last of them
  pub checkpoint_last : (log : LogState D) (before : ℕ) (s w : List Record) (h : IsLogOf told may_leave log before s w) → IsLastCheckpoint before (first_kept log) (s ++ w) (checkpoint_of log)
  checkpoint_last log before s w h =
      let start = (told log.device).start in
      let all = h.bs ++ log.pending in
      let run = subst (λ (l : List Place). IsRun (lsn_behind l) log.pending) h.durable.places_are h.numbered.run in
      let sequence = sequence_whole start h.bs log.pending h.durable.stands.sequence run in
      let records = in_append before h.bs log.pending s w h.records.records h.more in
      let is : firsts log ≡ map first_of all =
      ap (λ (l : List Place). map (λ (p : Place). p.first) l ++ map first_of log.pending) h.durable.places_are
      ∙ ap (λ (l : List ℕ). l ++ map first_of log.pending) (firsts-places start h.bs) ∙ sym (map-append first_of h.bs log.pending) in
      let last = checkpoint_told log before s w h ∙ sym (checkpoint_in-append before h.bs log.pending) ∙ checkpoint_is before (first_lsn all) all (s ++ w) sequence.run records
      ∙ kept all (s ++ w) before log.next records ∙ ap (λ (l : List ℕ). checkpoint_after before (get_or l 0 log.next) (s ++ w)) (sym is) in
      subst (IsLastCheckpoint before (first_kept log) (s ++ w)) (sym last) (last_is before (first_kept log) (s ++ w))
    where
      -- the first LSN tells nothing where there is no block
      kept : (all : List Block) (rs : List Record) (c d : ℕ) → AreIn c all rs → checkpoint_after c (first_lsn all) rs ≡ checkpoint_after c (get_or (map first_of all) 0 d) rs
      kept [] rs c d a = ap (checkpoint_after c 1) a ∙ sym (ap (checkpoint_after c d) a)
      kept (b ∷ bs) rs c d a = refl

  checkpoint_below_next : (log : LogState D) (before : ℕ) (s w : List Record) → IsLogOf told may_leave log before s w → checkpoint_of log ≤ log.next - 1
  checkpoint_below_next log before s w h =
      let behind = ap (λ (l : List Place). lsn_behind l) h.durable.places_are in
      let first = durable_below (told log.device).start h.bs h.durable.stands.sequence in
      let last = last_below (lsn_behind log.places) (checkpoint_in 0 h.bs) log.pending h.numbered.run (omega (arith, first, behind)) in
      let is = checkpoint_told log before s w h ∙ ap (λ n. checkpoint_in n log.pending) (sym (none_before before h.bs h.records.none)) in
      omega (arith, last, is, h.numbered.next)

  -- what is counted is the Checkpoint of the records
  pub checkpoint_counted : (log : LogState D) (bs : List Block) (spare : ℕ) (c : Counted) (before : ℕ) (s w : List Record) → IsCounted log bs spare c → IsLogOf told may_leave (with_batch log bs) before s w
      → c.checkpoint ≡ checkpoint_of (with_batch log bs)
  checkpoint_counted log bs spare c before s w counted h = omega (arith, counted.checkpoint, counted.count, checkpoint_below_next (with_batch log bs) before s w h)

  -- the blocks that have joined the log are numbered by themselves
  pub inner_numbered : (log : LogState D) (bs : List Block) → AreNumbered (with_batch log bs) → AreNumbered log
  inner_numbered log bs num =
      let behind = lsn_behind log.places in
      let next_is : log.next + records_in bs ≡ next_lsn (next_lsn behind log.pending) (numbered log.next bs) = num.next ∙ next_lsn-append behind log.pending (numbered log.next bs) in
      record {
        run = run_front behind log.pending (numbered log.next bs) num.run;
        next = sym (start_of log.next (next_lsn behind log.pending) bs (run_rest behind log.pending (numbered log.next bs) num.run) next_is);
      }
    where
      -- blocks that are numbered from an LSN on begin a run there, where they end where it ends
      start_of : (n m : ℕ) (bs : List Block) → IsRun m (numbered n bs) → n + records_in bs ≡ next_lsn m (numbered n bs) → m ≡ n
      start_of n m [] run e = omega (arith, e)
      start_of n m (b ∷ bs) run e = sym run.0

  -- ---- records join

  pub grown : (log : LogState D) (bs : List Block) (spare k : ℕ) (c : Counted) (before : ℕ) (s w recs : List Record) → IsCounted log bs spare c → All HasSpelling recs
      → 1 ≤ length recs → length recs ≤ 3 → 1 ≤ length (bytes_of recs) → length (bytes_of recs) ≤ 4194304 → log.next + c.records + length recs ≤ 9223372036854775808
      → k ≡ checkpoint_after c.checkpoint (log.next + c.records) recs → k ≤ log.next + c.records + length recs - 1
      → IsLogOf told may_leave (with_batch log bs) before s w → IsLogOf told may_leave (with_batch log (with_group bs (length recs) k (bytes_of recs))) before s (w ++ recs)
  grown log bs spare k c before s w recs counted spelled one three byte most bound is below h =
      let bs2 = with_group bs (length recs) k (bytes_of recs) in
      let kept = checkpoint_in before h.bs in
      let known : c.checkpoint ≡ checkpoint_in kept (log.pending ++ numbered log.next bs) = checkpoint_counted log bs spare c before s w counted h ∙ checkpoint_told (with_batch log bs) before s w h in
      let at : log.next + c.records ≡ log.next + records_in bs = omega (arith, counted.count) in
      let is2 = is ∙ ap (λ n. checkpoint_after n (log.next + c.records) recs) known ∙ ap (λ n. checkpoint_after (checkpoint_in kept (log.pending ++ numbered log.next bs)) n recs) at in
      let behind = lsn_behind log.places in
      let run : IsRun behind (log.pending ++ numbered log.next bs) = h.numbered.run in
      let from : next_lsn behind log.pending ≡ log.next = sym (inner_numbered log bs h.numbered).next in
      let some : 1 ≤ log.next = omega (arith, from, next_above behind log.pending) in
      let run2 = group_run log.next bs (length recs) k (bytes_of recs) (subst (λ n. IsRun n (numbered log.next bs)) from (run_rest behind log.pending (numbered log.next bs) run))
      some one three byte most (omega (arith, below, counted.count, one)) (omega (arith, bound, counted.count)) in
      record {
        bs = h.bs;
        durable = outer log bs2 h.bs (inner log bs h.bs h.durable);
        records = h.records;
        more = group_in kept log.next log.pending bs w recs k h.more spelled is2;
        numbered = record {
          run = run_append behind log.pending (numbered log.next bs2) (run_front behind log.pending (numbered log.next bs) run) (subst (λ n. IsRun n (numbered log.next bs2)) (sym from) run2);
          next = sym (next_lsn-append behind log.pending (numbered log.next bs2) ∙ ap (λ n. next_lsn n (numbered log.next bs2)) from ∙ numbered_next log.next bs2);
        };
      }

  -- ---- the disk at hand

  -- the same blocks, on a disk that keeps them
  pub kept_same : (old new : LogState D) (bs : List Block) (before : ℕ) (s w : List Record) → new ≡ record old { device = new.device; ended = new.ended } → ((ds : List Block) → Stands old ds → Stands new ds)
      → IsLogOf told may_leave (with_batch old bs) before s w → IsLogOf told may_leave (with_batch new bs) before s w
  kept_same old new bs before s w same durable h = record {
    bs = h.bs;
    durable = outer new bs h.bs (durable h.bs (inner old bs h.bs h.durable));
    records = h.records;
    more = subst (λ (x : LogState D). AreIn (checkpoint_in before h.bs) (x.pending ++ numbered x.next bs) w) (sym same) h.more;
    numbered = record {
      run = subst (λ (x : LogState D). IsRun (lsn_behind x.places) (x.pending ++ numbered x.next bs)) (sym same) h.numbered.run;
      next = subst (λ (x : LogState D). x.next + records_in bs ≡ next_lsn (lsn_behind x.places) (x.pending ++ numbered x.next bs)) (sym same) h.numbered.next;
    };
  }

  -- all has been flushed
  pub flushed : (old new : LogState D) (before : ℕ) (s w : List Record) → new.pending ≡ [] → AreNumbered new → ((ds : List Block) → Stands old ds → Stands new (ds ++ old.pending))
      → IsLogOf told may_leave old before s w → IsLogOf told may_leave new before (s ++ w) []
  flushed old new before s w none numbered durable h = record {
    bs = h.bs ++ old.pending;
    durable = durable h.bs h.durable;
    records = record { none = λ e. h.records.none (front_one h.bs old.pending e); records = in_append before h.bs old.pending s w h.records.records h.more };
    more = subst (λ (l : List Block). AreIn (checkpoint_in before (h.bs ++ old.pending)) l []) (sym none) refl;
    numbered = numbered;
  }

  -- the first of the pending blocks have the first of the waiting records
  first_stand : (log : LogState D) (before : ℕ) (s w : List Record) (h : IsLogOf told may_leave log before s w) (k : Kept) (n : ℕ) → StandsFor (h.bs ++ take n log.pending) k
      → StandsForRecords before (s ++ take (records_in (take n log.pending)) w) k
  first_stand log before s w h k n stands = record {
    bs = h.bs ++ take n log.pending;
    stands = stands;
    records = record {
      none = λ e. h.records.none (front_one h.bs (take n log.pending) e);
      records = in_append before h.bs (take n log.pending) s (take (records_in (take n log.pending)) w) h.records.records (in_take (checkpoint_in before h.bs) n log.pending w h.more);
    };
  }

  -- they begin with the first LSN that the log keeps
  first_number : (log : LogState D) (before : ℕ) (s w : List Record) (h : IsLogOf told may_leave log before s w) (n : ℕ) → first_lsn (h.bs ++ take n log.pending) ≡ first_kept log
  first_number log before s w h n =
      let start = (told log.device).start in
      let is = h.durable.places_are in
      first_front start log.next n h.bs log.pending (subst (λ (l : List Place). IsRun (lsn_behind l) log.pending) is h.numbered.run)
      (subst (λ (l : List Place). log.next ≡ next_lsn (lsn_behind l) log.pending) is h.numbered.next)
      ∙ ap (λ (l : List Place). get_or (map (λ (p : Place). p.first) l ++ map first_of log.pending) 0 log.next) (sym is)

  -- what a crash within a flush leaves
  pub some_flushed : (log : LogState D) (before : ℕ) (s w : List Record) (h : IsLogOf told may_leave log before s w) (k : Kept) → StandsForSome h.bs log.pending k
      → (n : ℕ) × (t : StandsForRecords before (s ++ take n w) k) × (first_lsn t.bs ≡ first_kept log) × EndsBlock log.pending n
  unfolding first_stand
  some_flushed log before s w h k some = (
    records_in (take some.whole log.pending),
    first_stand log before s w h k some.whole some.stands,
    first_number log before s w h some.whole,
    record { blocks = some.whole; records = refl },
  )

  more_flushed : (log : LogState D) (before : ℕ) (s w : List Record) (h : IsLogOf told may_leave log before s w) (k : Kept) (done : ℕ) → StandsForMore h.bs log.pending done k
      → StandsForMoreRecords before (first_kept log) s w (records_in (take done log.pending)) k
  unfolding first_stand
  more_flushed log before s w h k done some = record {
    whole = records_in (take some.whole log.pending);
    no_fewer = records_take done some.whole log.pending some.no_fewer;
    within = omega (arith, records_most some.whole log.pending, in_count (checkpoint_in before h.bs) log.pending w h.more);
    stands = first_stand log before s w h k some.whole some.stands;
    numbered = first_number log before s w h some.whole;
  }

  -- what a flush leaves
  pub records_left : (old new : LogState D) (bs : List Block) (before : ℕ) (s w : List Record) (h : IsLogOf told may_leave old before s w) → FlushLeaves told may_leave h.bs old.pending new.pending new.device
      → Progress old.gate old.places old.pending new.gate new.places new.pending → RecordsLeft told may_leave before s w old (with_batch new bs)
  unfolding more_flushed
  records_left old new bs before s w h f p =
      let same : p.count ≡ f.done = omega (arith, p.within, f.within, ap length (sym p.left ∙ f.rest_is), length-drop p.count old.pending, length-drop f.done old.pending) in
      let behind = lsn_behind old.places in
      let run : IsRun behind (take p.count old.pending) = run_front behind (take p.count old.pending) (drop p.count old.pending) (subst (IsRun behind) (sym (take-append-drop p.count old.pending)) h.numbered.run) in
      let next : lsn_behind new.places ≡ behind + records_in (take f.done old.pending) =
      ap (λ (l : List Place). lsn_behind l) p.places_are ∙ behind-places old.places old.gate (take p.count old.pending) run ∙ next_count behind (take p.count old.pending)
      ∙ ap (λ n. behind + records_in (take n old.pending)) same in
      record {
        done = records_in (take f.done old.pending);
        within = omega (arith, records_most f.done old.pending, in_count (checkpoint_in before h.bs) old.pending w h.more);
        durable = omega (arith, next);
        read = more_flushed old before s w h (told new.device) f.done f.read;
        crash = λ k may. more_flushed old before s w h k f.done (f.crash k may);
        read_whole = record { blocks = f.read.whole; records = refl };
        crash_whole = λ k may. record { blocks = (f.crash k may).whole; records = refl };
      }

  -- what is left where nothing was flushed
  pub none_left : (log : LogState D) (before : ℕ) (s w : List Record) → IsLogOf told may_leave log before s w → RecordsLeft told may_leave before s w log log
  none_left log before s w h =
      let stand : (k : Kept) → StandsFor h.bs k → StandsForMore h.bs log.pending 0 k = λ k stands. record {
        whole = 0;
        no_fewer = omega arith;
        within = omega arith;
        stands = subst (λ (l : List Block). StandsFor l k) (sym (append-nil h.bs)) stands;
      } in
      let same : FlushLeaves told may_leave h.bs log.pending log.pending log.device = record {
        done = 0;
        within = omega arith;
        rest_is = refl;
        read = stand (told log.device) h.durable.stands;
        crash = λ k may. stand k (subst (StandsFor h.bs) (sym (h.durable.only k may)) h.durable.stands);
      } in
      let left = records_left log log [] before s w h same (record { count = 0; within = omega arith; left = refl; places_are = sym (append-nil log.places); gate_is = omega arith }) in
      record { done = left.done; within = left.within; durable = left.durable; read = left.read; crash = left.crash; read_whole = left.read_whole; crash_whole = left.crash_whole }

  -- what the disk has now
  pub none_flushed : (log : LogState D) (before : ℕ) (s w : List Record) → IsLogOf told may_leave log before s w → (k : Kept) → may_leave log.device k
      → (n : ℕ) × (t : StandsForRecords before (s ++ take n w) k) × (first_lsn t.bs ≡ first_kept log) × EndsBlock log.pending n
  none_flushed log before s w h k left =
      some_flushed log before s w h k (record {
        whole = 0;
        within = omega arith;
        stands = subst (λ (l : List Block). StandsFor l k) (sym (append-nil h.bs)) (subst (StandsFor h.bs) (sym (h.durable.only k left)) h.durable.stands);
      })

  -- a log that has just been opened
  pub opened : (log : LogState D) (bs : List Block) (before : ℕ) (rs : List Record) → log.pending ≡ [] → AreNumbered log → Stands log bs → AreRecordsOf before bs rs → IsLogOf told may_leave log before rs []
  opened log bs before rs none numbered durable records = record {
    bs = bs;
    durable = durable;
    records = records;
    more = subst (λ (l : List Block). AreIn (checkpoint_in before bs) l []) (sym none) refl;
    numbered = numbered;
  }

  -- ---- blocks that go

  -- the places know how many records their blocks have
  records_known : (log : LogState D) (bs : List Block) (n : ℕ) → Stands log bs → records_in (take n bs) ≡ records_at (take n log.places)
  records_known log bs n d = sym (ap (λ (l : List Place). records_at (take n l)) d.places_are ∙ records_places (told log.device).start n bs)

  -- the log without its first n durable blocks
  pub dropped : (old : LogState D) (device : D) (ended : Option ℕ) (bs : List Block) (before : ℕ) (s w : List Record) (n : ℕ) → n < length old.places
      → ((ds : List Block) → Stands old ds → Stands (without_first old device ended n) (drop n ds))
      → (h : IsLogOf told may_leave (with_batch old bs) before s w) → IsLogOf told may_leave (with_batch (without_first old device ended n) bs) (checkpoint_in before (take n h.bs)) (drop (records_at (take n old.places)) s) w
  dropped old device ended bs before s w n lt durable h =
      let some : n < length h.bs = omega (arith, lt, ap length h.durable.places_are, length-places (told old.device).start h.bs) in
      let t = in_drop before n h.bs s h.records.records in
      let same : checkpoint_in before h.bs ≡ checkpoint_in (checkpoint_in before (take n h.bs)) (drop n h.bs) =
      ap (checkpoint_in before) (sym (take-append-drop n h.bs)) ∙ checkpoint_in-append before (take n h.bs) (drop n h.bs) in
      let behind : lsn_behind old.places ≡ lsn_behind (drop n old.places) = ap (λ m. max 1 m) (sym (lsn_after-drop old.places n lt)) in
      let new = without_first old device ended n in
      record {
        bs = drop n h.bs;
        durable = outer new bs (drop n h.bs) (durable h.bs (inner old bs h.bs h.durable));
        records = record {
          none = none_drop before n h.bs s h.durable.stands.sequence.run h.records.records some h.records.none;
          records = subst (λ m. AreIn (checkpoint_in before (take n h.bs)) (drop n h.bs) (drop m s)) (records_known (with_batch old bs) h.bs n h.durable) t;
        };
        more = subst (λ c. AreIn c (old.pending ++ numbered old.next bs) w) same h.more;
        numbered = record {
          run = subst (λ m. IsRun m (old.pending ++ numbered old.next bs)) behind h.numbered.run;
          next = h.numbered.next ∙ ap (λ m. next_lsn m (old.pending ++ numbered old.next bs)) behind;
        };
      }

  -- they begin with the first LSN that the log keeps
  first_now : (log : LogState D) (before : ℕ) (s w : List Record) (h : IsLogOf told may_leave log before s w) → first_lsn h.bs ≡ first_kept log
  first_now log before s w h = ap first_lsn (sym (append-nil h.bs)) ∙ first_number log before s w h 0

  -- their numbers, and the Checkpoint before them
  module _ (old : LogState D) (before : ℕ) (s w : List Record) (h : IsLogOf told may_leave old before s w) (n : ℕ) (lt : n < length old.places) where
    some_block : n < length h.bs
    some_block = omega (arith, lt, ap length h.durable.places_are, length-places (told old.device).start h.bs)

    first_behind : first_lsn (drop n h.bs) ≡ first_kept old + records_at (take n old.places)
    first_behind =
        let first = first_drop n (first_lsn h.bs) h.bs h.durable.stands.sequence.run some_block in
        let count = records_known old h.bs n h.durable in
        omega (arith, first, first_now old before s w h, count)

    checkpoint_behind : checkpoint_in before (take n h.bs) ≡ checkpoint_after before (first_kept old) (take (records_at (take n old.places)) s)
    checkpoint_behind =
        checkpoint_drop before n h.bs s h.durable.stands.sequence.run h.records.records
        ∙ ap (λ f. checkpoint_after before f (take (records_in (take n h.bs)) s)) (first_now old before s w h)
        ∙ ap (λ m. checkpoint_after before (first_kept old) (take m s)) (records_known old h.bs n h.durable)

    -- what a crash then leaves, and a read
    pub all_or_dropped : (k : Kept) → StandsFor h.bs k ⊎ StandsFor (drop n h.bs) k → StandsForRest before (first_kept old) s (records_at (take n old.places)) k
    all_or_dropped k (inl stands) = inl (record {
      stands = record { bs = h.bs; stands = stands; records = h.records };
      numbered = omega (arith, first_now old before s w h);
    })
    all_or_dropped k (inr stands) =
        inr (record {
          stands = record {
            bs = drop n h.bs;
            stands = stands;
            records = subst (λ c. AreRecordsOf c (drop n h.bs) (drop (records_at (take n old.places)) s)) checkpoint_behind (record {
              none = none_drop before n h.bs s h.durable.stands.sequence.run h.records.records some_block h.records.none;
              records = subst (λ m. AreIn (checkpoint_in before (take n h.bs)) (drop n h.bs) (drop m s)) (records_known old h.bs n h.durable) (in_drop before n h.bs s h.records.records);
            });
          };
          numbered = first_behind;
        })

  -- what it leaves where none goes
  pub none_dropped : (log : LogState D) (before : ℕ) (s w : List Record) (n : ℕ) → (h : IsLogOf told may_leave log before s w) → (k : Kept) → may_leave log.device k → StandsForRest before (first_kept log) s n k
  none_dropped log before s w n h k left = inl (record {
    stands = record { bs = h.bs; stands = subst (StandsFor h.bs) (sym (h.durable.only k left)) h.durable.stands; records = h.records };
    numbered = omega (arith, first_now log before s w h);
  })

  pub none_recycled : (log : LogState D) (before : ℕ) (s w : List Record) (n : ℕ) → (h : IsLogOf told may_leave log before s w) → RecycleLeaves told may_leave before (first_kept log) s n log.device
  none_recycled log before s w n h = record {
    read = inl (record {
      stands = record { bs = h.bs; stands = h.durable.stands; records = h.records };
      numbered = omega (arith, first_now log before s w h);
    });
    crash = none_dropped log before s w n h;
  }

  pub recycle_left : (old : LogState D) (device : D) (before : ℕ) (s w : List Record) (h : IsLogOf told may_leave old before s w) (n : ℕ) → n < length old.places → DropLeaves told may_leave h.bs n device
      → RecycleLeaves told may_leave before (first_kept old) s (records_at (take n old.places)) device
  recycle_left old device before s w h n lt d = record { read = all_or_dropped old before s w h n lt (told device) d.read; crash = λ k left. all_or_dropped old before s w h n lt k (d.crash k left) }

  pub none_from : (log : LogState D) (before : ℕ) (s w : List Record) (h : IsLogOf told may_leave log before s w) → IsLogFrom told may_leave before (first_kept log) s w 0 log
  none_from log before s w h = record { stands = h; numbered = omega arith }

  pub dropped_from : (old : LogState D) (device : D) (ended : Option ℕ) (bs : List Block) (before : ℕ) (s w : List Record) (n : ℕ) → n < length old.places
      → ((ds : List Block) → Stands old ds → Stands (without_first old device ended n) (drop n ds)) → (h : IsLogOf told may_leave (with_batch old bs) before s w)
      → IsLogFrom told may_leave before (first_kept (with_batch old bs)) s w (records_at (take n old.places)) (with_batch (without_first old device ended n) bs)
  unfolding dropped
  dropped_from old device ended bs before s w n lt durable h =
      let new = with_batch (without_first old device ended n) bs in
      let rest = drop (records_at (take n old.places)) s in
      let left = dropped old device ended bs before s w n lt durable h in
      let first : first_lsn (drop n h.bs) ≡ first_kept new = first_now new (checkpoint_in before (take n h.bs)) rest w left in
      record {
        stands = subst (λ c. IsLogOf told may_leave new c rest w) (checkpoint_behind (with_batch old bs) before s w h n lt) left;
        numbered = sym first ∙ first_behind (with_batch old bs) before s w h n lt;
      }

  -- ---- the record of an LSN

  -- a block that has joined the log has the record
  pub record Reached (log : LogState D) (bs : List Block) (s w : List Record) (lsn i : ℕ) : Type 0 where
    pub own : List Record
    pub spelled : All HasSpelling own
    pub payload : payload_at (bs ++ log.pending) i ≡ bytes_of own
    pub place : lsn - get_or (firsts log) i 0 < length own
    pub at : (r : Record) → IsAt own (lsn - get_or (firsts log) i 0) r → IsAt (s ++ w) (lsn - first_kept log) r

  pub reached : (log : LogState D) (bs : List Block) (before : ℕ) (s w : List Record) (lsn i : ℕ) (h : IsLogOf told may_leave (with_batch log bs) before s w) → HasLsn (firsts log) lsn i → lsn < log.next
      → Reached log h.bs s w lsn i
  reached log bs before s w lsn i h has lt =
      let ds = h.bs in
      let all = ds ++ log.pending in
      let start = (told log.device).start in
      let split = in_split (checkpoint_in before ds) log.pending (numbered log.next bs) w h.more in
      let num = inner_numbered log bs h.numbered in
      let run = subst (λ (l : List Place). IsRun (lsn_behind l) log.pending) h.durable.places_are num.run in
      let sequence = sequence_whole start ds log.pending h.durable.stands.sequence run in
      let n = first_lsn all in
      let is : firsts log ≡ map first_of all =
      ap (λ (l : List Place). map (λ (p : Place). p.first) l ++ map first_of log.pending) h.durable.places_are
      ∙ ap (λ (l : List ℕ). l ++ map first_of log.pending) (firsts-places start ds) ∙ sym (map-append first_of ds log.pending) in
      let next : log.next ≡ next_lsn n all = num.next ∙ ap (λ (l : List Place). next_lsn (lsn_behind l) log.pending) h.durable.places_are
      ∙ next_of_all start ds log.pending h.durable.stands.sequence run in
      let has2 = subst (λ (l : List ℕ). HasLsn l lsn i) is has in
      let f = found_in n before lsn i all (s ++ split.0) sequence.run (in_append before ds log.pending s split.0 h.records.records split.3) has2 (omega (arith, lt, next)) in
      let first : get_or (firsts log) i 0 ≡ get_or (map first_of all) i 0 = ap (λ (l : List ℕ). get_or l i 0) is in
      let kept : first_kept log ≡ n = ap (λ (l : List ℕ). get_or l 0 log.next) is ∙ head_first all log.next i has2.within in
      let whole : (s ++ split.0) ++ split.1 ≡ s ++ w = append_assoc s split.0 split.1 ∙ ap (λ (l : List Record). s ++ l) (sym split.2) in
      record {
        own = f.own;
        spelled = f.spelled;
        payload = f.payload;
        place = omega (arith, first, f.first, f.within, has2.from);
        at = λ r at. subst (λ m. IsAt (s ++ w) (lsn - m) r) (sym kept)
            (subst (λ (l : List Record). IsAt l (lsn - n) r) whole
            (at_more (s ++ split.0) split.1 (lsn - n) r (found_at all (s ++ split.0) n lsn i r f has2.from (subst (λ m. IsAt f.own (lsn - m) r) first at))));
      }
    where
      head_first : (all : List Block) (d i : ℕ) → i < length (map first_of all) → get_or (map first_of all) 0 d ≡ first_lsn all
      head_first [] d i lt = absurd (omega (arith, lt))
      head_first (b ∷ bs) d i lt = refl
