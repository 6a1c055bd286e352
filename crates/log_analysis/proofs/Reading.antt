-- Blocks that have been read, one after the other, from one on.
use Rattle.std.proofs.Common.{◌≡◌, ℕ, zero, suc, ◌+◌, ◌-◌, ◌<◌, ◌≤◌, List, [], ◌∷◌, ◌++◌, length, get_or, take, refl, sym, ◌∙◌, ap, subst, arith, append_assoc, append-nil, length-append}
use Rattle.std.specs.Prelude.{map}
use Rattle.log_blocks.specs.Log.{Block, IsLawfulBlock, IsRun, first_lsn, next_lsn}
use Rattle.log_blocks.proofs.Whole.{next_lsn-append, run_rest}
use Rattle.log_index.specs.declared.listing.Listing.{Listing}
use Rattle.log_manager.specs.Managed.{HasLsn}
use Rattle.log_manager.specs.Payload.{IsPayloadOf}
use Rattle.log_manager.specs.Records.{AreIn, AreSpelled, checkpoint_in}
use Rattle.log_manager.proofs.Finding.{first_of}
use Rattle.log_manager.proofs.Joining.{checkpoint_after-append, checkpoint_is}
use Rattle.wal_record.specs.Checkpoints.{checkpoint_after, last_checkpoint}
use Rattle.wal_record.specs.declared.record.Record.{Record}
use Rattle.log_analysis.specs.Analysed.{ComesTo, begins_at}
use Rattle.log_manager.specs.Devices.{HoldEnd}
use Rattle.log_analysis.specs.Taken.{AreTaken, ListsMore}
use Rattle.log_manager.proofs.Blocks.{HasBlock, block_at, spelled_more}
use Rattle.log_analysis.proofs.Listed.{both, lists_none}

-- ---- the LSNs of a run

-- a block of a run is lawful, and begins behind those before it
pub run_at : (m : ℕ) (xs ys : List Block) (b : Block) → IsRun m (xs ++ b ∷ ys) → (b.first ≡ next_lsn m xs) × IsLawfulBlock b
run_at m xs ys b run = let r = run_rest m xs (b ∷ ys) run in (r.0, r.1)

-- blocks with these records count as many
spelled_count : (m : ℕ) (bs : List Block) (rs : List Record) → AreSpelled bs rs → next_lsn m bs ≡ m + length rs
spelled_count m [] rs none = omega (arith, ap length none)
spelled_count m (b ∷ bs) rs (own, more, is, payload, spelled) =
    let rest = spelled_count (m + b.count) bs more spelled in
    omega (arith, rest, payload.count_is, ap length is, length-append own more)

pub held_count : (m before : ℕ) (bs : List Block) (rs : List Record) → AreIn before bs rs → next_lsn m bs ≡ m + length rs
held_count m before [] rs none = omega (arith, ap length none)
held_count m before (b ∷ bs) rs (own, more, is, holds, rest) =
    let e = held_count (m + b.count) b.checkpoint bs more rest in
    omega (arith, e, holds.records.count_is, ap length is, length-append own more)

-- ---- blocks that have been read

-- the blocks from one on, up to another, have records by which the listing goes on
pub record AreReadFrom (bs : List Block) (from n checkpoint : ℕ) (old new : Listing) : Type 0 where
  pub read : List Block
  pub is : take n bs ≡ take from bs ++ read
  pub own : List Record
  pub spelled : AreSpelled read own
  pub more : ListsMore checkpoint (next_lsn (first_lsn bs) (take from bs)) own old new

pub none_read : (bs : List Block) (from checkpoint : ℕ) (s : Listing) → AreReadFrom bs from from checkpoint s s
none_read bs from checkpoint s = record {
  read = [];
  is = sym (append-nil (take from bs));
  own = [];
  spelled = refl;
  more = lists_none checkpoint (next_lsn (first_lsn bs) (take from bs)) s;
}

module _ (bs : List Block) (from n checkpoint : ℕ) (old now : Listing) (s : AreReadFrom bs from n checkpoint old now) (h : HasBlock bs n) (run : IsRun (first_lsn bs) bs) where
  whole : bs ≡ (take from bs ++ s.read) ++ h.block ∷ h.behind
  whole = h.is ∙ ap (λ (l : List Block). l ++ h.block ∷ h.behind) s.is

  here : (h.block.first ≡ next_lsn (first_lsn bs) (take from bs ++ s.read)) × IsLawfulBlock h.block
  here = run_at (first_lsn bs) (take from bs ++ s.read) h.behind h.block (subst (IsRun (first_lsn bs)) whole run)

  pub lawful_block : IsLawfulBlock h.block
  lawful_block = here.1

  -- the next block begins behind the records that were read
  numbered : h.block.first ≡ next_lsn (first_lsn bs) (take from bs) + length s.own
  numbered = here.0 ∙ next_lsn-append (first_lsn bs) (take from bs) s.read ∙ spelled_count (next_lsn (first_lsn bs) (take from bs)) s.read s.own s.spelled

  -- one block more
  pub one_more : (first count : ℕ) (payload : List ℕ) (new : Listing) → first ≡ h.block.first → count ≡ h.block.count → payload ≡ h.block.payload
      → AreTaken checkpoint first count payload now new → AreReadFrom bs from (n + 1) checkpoint old new
  one_more first count payload new begins counted is taken =
      let own : IsPayloadOf taken.0 h.block.count h.block.payload = subst (λ (k : ℕ). IsPayloadOf taken.0 k h.block.payload) counted (subst (IsPayloadOf taken.0 count) is taken.1) in
      let one : suc n ≡ n + 1 = omega arith in
      let more : ListsMore checkpoint (next_lsn (first_lsn bs) (take from bs) + length s.own) taken.0 now new =
      subst (λ (m : ℕ). ListsMore checkpoint m taken.0 now new) (begins ∙ numbered) taken.2 in
      record {
        read = s.read ++ h.block ∷ [];
        is = ap (λ (m : ℕ). take m bs) (sym one) ∙ h.with_it ∙ ap (λ (l : List Block). l ++ h.block ∷ []) s.is ∙ append_assoc (take from bs) s.read (h.block ∷ []);
        own = s.own ++ taken.0;
        spelled = spelled_more s.read h.block s.own taken.0 s.spelled own;
        more = both checkpoint (next_lsn (first_lsn bs) (take from bs)) s.own taken.0 old now new s.more more;
      }

  -- an analysis comes to the next block, where the first one that it reads has the LSN at which it begins
  pub comes_to : next_lsn (first_lsn bs) (take from bs) ≤ begins_at bs → begins_at bs < h.block.first + h.block.count → ComesTo bs n h.block
  comes_to le lt = record {
    before = take from bs;
    read = s.read;
    behind = h.behind;
    is = whole;
    number_is = ap length (sym s.is) ∙ h.number;
    needed = lt;
    from = omega (arith, le, first_is);
    own = s.own;
    spelled = s.spelled;
  }
    where
      by : (read : List Block) → IsRun (next_lsn (first_lsn bs) (take from bs)) (read ++ h.block ∷ h.behind) → first_lsn (read ++ h.block ∷ []) ≡ next_lsn (first_lsn bs) (take from bs)
      by [] r = r.0
      by (b ∷ read) r = r.0

      first_is : first_lsn (s.read ++ h.block ∷ []) ≡ next_lsn (first_lsn bs) (take from bs)
      first_is = by s.read (run_rest (first_lsn bs) (take from bs) (s.read ++ h.block ∷ h.behind) (subst (IsRun (first_lsn bs)) (whole ∙ append_assoc (take from bs) s.read (h.block ∷ h.behind)) run))

-- ---- the log for which the disk stands

-- the last header names the log's last Checkpoint
pub names_last : (rs : List Record) (bs : List Block) (hold : HoldEnd rs bs) → IsRun (first_lsn bs) bs → 0 < length bs → checkpoint_in 0 bs ≡ last_checkpoint rs
names_last rs bs hold run some =
    last_one 0 (last_checkpoint hold.dropped) bs some
    ∙ checkpoint_is (last_checkpoint hold.dropped) (first_lsn bs) bs hold.kept run hold.records.records
    ∙ ap (λ n. checkpoint_after (last_checkpoint hold.dropped) n hold.kept) (hold.first ∙ one (length hold.dropped))
    ∙ sym (checkpoint_after-append 0 1 hold.dropped hold.kept)
    ∙ ap last_checkpoint (sym hold.is)
  where
    one : (n : ℕ) → suc n ≡ 1 + n
    one n = omega arith

    last_one : (c d : ℕ) (bs : List Block) → 0 < length bs → checkpoint_in c bs ≡ checkpoint_in d bs
    last_one c d [] none = absurd (omega (arith, none))
    last_one c d (b ∷ bs) some = refl

-- ---- where an analysis begins

-- more blocks end no earlier
later_end : (m a b : ℕ) (bs : List Block) → a ≤ b → next_lsn m (take a bs) ≤ next_lsn m (take b bs)
later_end m zero zero bs le = omega arith
later_end m zero (suc b) [] le = omega arith
later_end m zero (suc b) (x ∷ bs) le = omega (arith, later_end (m + x.count) zero b bs (omega arith), same bs)
  where
    same : (bs : List Block) → next_lsn (m + x.count) (take zero bs) ≡ m + x.count
    same bs = refl
later_end m (suc a) zero bs le = absurd (omega (arith, le))
later_end m (suc a) (suc b) [] le = omega arith
later_end m (suc a) (suc b) (x ∷ bs) le = later_end (m + x.count) a b bs (omega (arith, le))

-- the last header names no LSN behind its block
last_named : (m c : ℕ) (xs : List Block) (b : Block) → checkpoint_in c (xs ++ b ∷ []) ≡ b.checkpoint
last_named m c [] b = refl
last_named m c (x ∷ xs) b = last_named m x.checkpoint xs b

-- a block from the first one on that is read ends behind it
pub ends_behind : (bs : List Block) (from n lsn : ℕ) (h : HasBlock bs n) → IsRun (first_lsn bs) bs → from ≤ n → HasLsn (map first_of bs) lsn from → lsn ≡ begins_at bs → length (map first_of bs) ≡ length bs
    → begins_at bs < h.block.first + h.block.count
ends_behind bs from n lsn h run le found is size = by h.behind refl
  where
    at : (h.block.first ≡ next_lsn (first_lsn bs) (take n bs)) × IsLawfulBlock h.block
    at = run_at (first_lsn bs) (take n bs) h.behind h.block (subst (IsRun (first_lsn bs)) h.is run)

    end : next_lsn (first_lsn bs) (take (suc n) bs) ≡ h.block.first + h.block.count
    end = ap (next_lsn (first_lsn bs)) h.with_it ∙ next_lsn-append (first_lsn bs) (take n bs) (h.block ∷ []) ∙ ap (λ m. m + h.block.count) (sym at.0)

    count : length bs ≡ n + suc (length h.behind)
    count = omega (arith, ap length h.is, length-append (take n bs) (h.block ∷ h.behind), h.number)

    by : (behind : List Block) → h.behind ≡ behind → begins_at bs < h.block.first + h.block.count
    by [] none =
        let named : checkpoint_in 0 bs ≡ h.block.checkpoint = ap (checkpoint_in 0) (h.is ∙ ap (λ (l : List Block). take n bs ++ h.block ∷ l) none) ∙ last_named 0 0 (take n bs) h.block in
        omega (arith, named, at.1.checkpoint, at.1.first, at.1.count.0)
    by (b ∷ behind) some =
        let lt : suc from < length bs = omega (arith, le, count, ap length some) in
        let next = block_at bs (suc from) lt in
        let first = run_at (first_lsn bs) (take (suc from) bs) next.behind next.block (subst (IsRun (first_lsn bs)) next.is run) in
        let one : from + 1 ≡ suc from = omega arith in
        let upto : lsn < get_or (map first_of bs) (suc from) 0 = subst (λ m. lsn < get_or (map first_of bs) m 0) one (found.upto (omega (arith, lt, size))) in
        omega (arith, upto, next.first, first.0, later_end (first_lsn bs) (suc from) (suc n) bs (omega (arith, le)), end, is)
