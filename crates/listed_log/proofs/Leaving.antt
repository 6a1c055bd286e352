-- What a call leaves of a log: one that goes on, with groups that wait; or a disk that keeps the first of its records.
use Rattle.std.proofs.Common.{◌≡◌, ℕ, zero, suc, ◌+◌, ◌-◌, ◌<◌, ◌≤◌, List, [], ◌∷◌, ◌++◌, length, get_or, take, drop, None, true, refl, sym, ap, ◌∙◌, subst, arith, append_assoc, append-nil, length-append, length-take, take-append-drop, inl, inr}
use Rattle.std.specs.Prelude.{◌⊎◌, map, is_some, Result, Ok, Err, OnOk, OnErr, IfErr}
use Rattle.std.proofs.Math.Seq.{drop-append_seam, take-append-add, take-append_seam}
use Rattle.std.proofs.lemmas.Grind.{flat_map-append}
use Rattle.std.proofs.lemmas.List.{take-append-le}
use Rattle.media.specs.Crash.{LeavesOnly}
use Rattle.media.specs.Kept.{Kept}
use Rattle.log_blocks.specs.Batch.{records_in}
use Rattle.log_blocks.specs.Log.{Block, IsRun, StandsFor, first_lsn, next_lsn}
use Rattle.log_blocks.specs.LogState.{LogState, Refused, durable_lsn, lsn_behind}
use Rattle.log_blocks.specs.declared.header.Place.{Place}
use Rattle.log_blocks.proofs.Progressing.{length-places}
use Rattle.log_manager.specs.Devices.{IsEnough}
use Rattle.log_manager.specs.Groups.{EndsBlock, EndsTogether, HoldGroups, records_of}
use Rattle.log_manager.specs.Managed.{EndBefore, HasMore, Managed, RecordsLeft, RecycleLeaves, StandsForFrom, StandsForRest, before_lsn, first_kept, records_at, recycled}
use Rattle.log_manager.specs.Records.{AreIn, AreRecordsOf, IsLogOf, StandsForMoreRecords, checkpoint_in}
use Rattle.log_manager.proofs.Finding.{first_of, firsts-places, next_of_all}
use Rattle.log_manager.proofs.Joining.{checkpoint_after-append, in_count, next_count, records_most, records_places}
use Rattle.store_model.specs.declared.fault.Fault.{Fault}
use Rattle.store_model.specs.declared.fault.Fault.TheVariants as faults
use Rattle.wal_record.specs.Checkpoints.{checkpoint_after, last_checkpoint, recycle_point}
use Rattle.wal_record.specs.Sound.{AreLawful, HasRoom, IsLawful}
use Rattle.wal_record.specs.declared.record.Record.{Record}
use Rattle.wal_record.proofs.Along.{AllAlong_less}
use Rattle.stop_laws.specs.Stops.{GoesOnOrEnds, KeepsFirst, StandsForFirst, WaitsInGroups}
use Rattle.stop_laws.proofs.Enough.{enough_more, enough_point}
use Rattle.listed_log.specs.Listed.{HoldsEnd}
use Rattle.listed_log.proofs.KeptBlocks.{first_left, kept_next, waiting_next}

-- ---- lists

split_same : (xs ys us vs : List Record) → xs ++ us ≡ ys ++ vs → length xs ≡ length ys → (xs ≡ ys) × (us ≡ vs)
split_same xs ys us vs same size = (
  sym (take-append_seam xs us) ∙ (λ i. take (size i) (same i)) ∙ take-append_seam ys vs,
  sym (drop-append_seam xs us) ∙ (λ i. drop (size i) (same i)) ∙ drop-append_seam ys vs,
)

no_groups : (n : ℕ) → take {A = List Record} n [] ≡ []
no_groups zero = refl
no_groups (suc n) = refl

all_groups : (groups : List (List Record)) → take (length groups) groups ≡ groups
all_groups groups = ap (take (length groups)) (sym (append-nil groups)) ∙ take-append_seam groups []

groups_more : (groups : List (List Record)) (recs : List Record) → records_of (groups ++ recs ∷ []) ≡ records_of groups ++ recs
groups_more groups recs = flat_map-append (λ (g : List Record). g) groups (recs ∷ []) ∙ ap (λ (l : List Record). records_of groups ++ l) (append-nil recs)

no_block : (next c : ℕ) (bs : List Block) → IsRun next bs → AreIn c bs [] → bs ≡ []
no_block next c [] run a = refl
no_block next c (b ∷ bs) run a =
    let none = in_count c (b ∷ bs) [] a in
    let some = run.1.count.0 in
    absurd (omega (arith, none, some))

-- ---- the records of a log

module _ {D : Type 0} (told : D → Kept) (may_leave : D → Kept → Type 0) (log : LogState D) (rs : List Record) (h : HoldsEnd told may_leave log rs) (next : log.next ≡ suc (length rs)) where
  abbrev front : List Record
  front = h.forgotten ++ h.stable

  whole : rs ≡ front ++ h.waiting
  whole = h.is ∙ sym (append_assoc h.forgotten h.stable h.waiting)

  size : length rs ≡ length h.forgotten + (length h.stable + length h.waiting)
  size = ap length h.is ∙ length-append h.forgotten (h.stable ++ h.waiting) ∙ ap (λ (n : ℕ). length h.forgotten + n) (length-append h.stable h.waiting)

  pub first_is : first_kept log ≡ suc (length h.forgotten)
  first_is = let most = kept_next told may_leave log (last_checkpoint h.forgotten) h.stable h.waiting h.blocks in omega (arith, most, length-append h.stable h.waiting, size, next)

  pub durable_is : durable_lsn log.places ≡ length front
  durable_is = let behind = waiting_next told may_leave log (last_checkpoint h.forgotten) h.stable h.waiting h.blocks in omega (arith, behind, size, next, length-append h.forgotten h.stable)

  -- the pending blocks have those that wait
  pub durable_and_pending : durable_lsn log.places + records_in log.pending ≡ length rs
  durable_and_pending = let count = in_count (checkpoint_in (last_checkpoint h.forgotten) h.blocks.bs) log.pending h.waiting h.blocks.more in omega (arith, count, durable_is, size, length-append h.forgotten h.stable)

  count_is : records_in h.blocks.bs ≡ length h.stable
  count_is = in_count (last_checkpoint h.forgotten) h.blocks.bs h.stable h.blocks.records.records

  bs_first : first_lsn h.blocks.bs ≡ suc (length h.forgotten)
  bs_first =
      let start = (told log.device).start in
      let at : lsn_behind log.places ≡ next_lsn (first_lsn h.blocks.bs) h.blocks.bs =
      ap (λ (ps : List Place). lsn_behind ps) h.blocks.durable.places_are ∙ next_of_all start h.blocks.bs [] h.blocks.durable.stands.sequence tt ∙ ap (λ (l : List Block). next_lsn (first_lsn l) l) (append-nil h.blocks.bs) in
      let count = next_count (first_lsn h.blocks.bs) h.blocks.bs in
      let behind = waiting_next told may_leave log (last_checkpoint h.forgotten) h.stable h.waiting h.blocks in
      omega (arith, at, count, count_is, behind, size, next)

  -- where nothing waits there is no group
  pub none_waits : h.waiting ≡ [] → HasRoom rs → IsEnough rs (first_kept log) → WaitsInGroups log rs
  none_waits none room enough =
      let pending : log.pending ≡ [] = no_block (lsn_behind log.places) (checkpoint_in (last_checkpoint h.forgotten) h.blocks.bs) log.pending h.blocks.numbered.run (subst (AreIn (checkpoint_in (last_checkpoint h.forgotten) h.blocks.bs) log.pending) none h.blocks.more) in
      record {
        stable = rs;
        groups = [];
        is = sym (append-nil rs);
        durable = omega (arith, durable_is, ap length whole, length-append front h.waiting, ap length none);
        held = subst (λ (bs : List Block). HoldGroups bs []) (sym pending) refl;
        room = λ n. subst HasRoom (sym (ap (λ (gs : List (List Record)). rs ++ records_of gs) (no_groups n) ∙ append-nil rs)) room;
        enough = enough;
      }

  module _ (lawful : AreLawful rs) (w : WaitsInGroups log rs) where
    parts : (w.stable ≡ front) × (records_of w.groups ≡ h.waiting)
    parts = split_same w.stable front (records_of w.groups) h.waiting (sym w.is ∙ whole) (w.durable ∙ durable_is)

    enough_is : IsEnough front (first_kept log)
    enough_is = subst (λ (l : List Record). IsEnough l (first_kept log)) parts.0 w.enough

    front_room : HasRoom front
    front_room = subst HasRoom (append-nil w.stable ∙ parts.0) (w.room 0)

    pub all_room : HasRoom rs
    all_room = subst HasRoom (ap (λ (gs : List (List Record)). w.stable ++ records_of gs) (all_groups w.groups) ∙ sym w.is) (w.room (length w.groups))

    -- what stands for the stable records
    stands_first : (k : Kept) → StandsFor h.blocks.bs k → StandsForFirst rs (durable_lsn log.places) k
    stands_first k stands = record {
      front = front;
      lost = h.waiting;
      is = whole;
      no_fewer = omega (arith, durable_is);
      room = front_room;
      stands = record {
        bs = h.blocks.bs;
        stands = stands;
        records = record {
          dropped = h.forgotten;
          kept = h.stable;
          is = refl;
          records = h.blocks.records;
          first = bs_first;
          enough = subst (IsEnough front) (first_is ∙ sym bs_first) enough_is;
        };
      };
    }

    -- as long as the log goes on
    pub keeps_durable : KeepsFirst told may_leave rs (durable_lsn log.places) log.device
    keeps_durable = record {
      now = stands_first (told log.device) h.blocks.durable.stands;
      crash = λ k left. stands_first k (subst (StandsFor h.blocks.bs) (sym (h.blocks.durable.only k left)) h.blocks.durable.stands);
    }

    -- ---- a flush that fails

    flush_first : EndsTogether → (k : Kept) (done : ℕ) (s : StandsForMoreRecords (last_checkpoint h.forgotten) (first_kept log) h.stable h.waiting done k) → EndsBlock log.pending s.whole → StandsForFirst rs (durable_lsn log.places + done) k
    flush_first together k done s ends =
        let g = together log.pending w.groups s.whole w.held ends in
        let more = take s.whole h.waiting in
        let rest = drop s.whole h.waiting in
        let grouped : more ≡ records_of (take g.whole w.groups) = ap (take s.whole) (sym parts.1) ∙ g.records in
        let is : rs ≡ (front ++ more) ++ rest = whole ∙ ap (λ (l : List Record). front ++ l) (sym (take-append-drop s.whole h.waiting)) ∙ sym (append_assoc front more rest) in
        record {
          front = front ++ more;
          lost = rest;
          is = is;
          no_fewer = let least = s.no_fewer in let most = s.within in omega (arith, durable_is, length-append front more, length-take s.whole h.waiting, least, most);
          room = subst HasRoom (λ i. parts.0 i ++ sym grouped i) (w.room g.whole);
          stands = record {
            bs = s.stands.bs;
            stands = s.stands.stands;
            records = record {
              dropped = h.forgotten;
              kept = h.stable ++ more;
              is = append_assoc h.forgotten h.stable more;
              records = s.stands.records;
              first = s.numbered ∙ first_is;
              enough = subst (IsEnough (front ++ more)) (sym s.numbered) (enough_more front more (first_kept log) (AllAlong_less IsLawful (front ++ more) rest (subst AreLawful is lawful)) enough_is);
            };
          };
        }

    pub keeps_flushed : EndsTogether → (new : LogState D) → RecordsLeft told may_leave (last_checkpoint h.forgotten) h.stable h.waiting log new → KeepsFirst told may_leave rs (durable_lsn new.places) new.device
    keeps_flushed together new left = subst (λ (n : ℕ). KeepsFirst told may_leave rs n new.device) (sym left.durable) (record {
      now = flush_first together (told new.device) left.done left.read left.read_whole;
      crash = λ k may. flush_first together k left.done (left.crash k may) (left.crash_whole k may);
    })

    -- ---- blocks that go, and maybe don't

    rest_first : (k : Kept) (m : ℕ) → m ≤ length h.stable → IsEnough front (first_kept log + m) → StandsForFrom (last_checkpoint h.forgotten) (first_kept log) h.stable m k → StandsForFirst rs (durable_lsn log.places) k
    rest_first k m within enough s =
        let gone = take m h.stable in
        let last : checkpoint_after (last_checkpoint h.forgotten) (first_kept log) gone ≡ last_checkpoint (h.forgotten ++ gone) =
        ap (λ (f : ℕ). checkpoint_after (last_checkpoint h.forgotten) f gone) (first_is ∙ omega arith) ∙ sym (checkpoint_after-append 0 1 h.forgotten gone) in
        record {
          front = front;
          lost = h.waiting;
          is = whole;
          no_fewer = omega (arith, durable_is);
          room = front_room;
          stands = record {
            bs = s.stands.bs;
            stands = s.stands.stands;
            records = record {
              dropped = h.forgotten ++ gone;
              kept = drop m h.stable;
              is = ap (λ (l : List Record). h.forgotten ++ l) (sym (take-append-drop m h.stable)) ∙ sym (append_assoc h.forgotten gone (drop m h.stable));
              records = subst (λ (c : ℕ). AreRecordsOf c s.stands.bs (drop m h.stable)) last s.stands.records;
              first = let at = s.numbered in omega (arith, at, first_is, length-append h.forgotten gone, length-take m h.stable, within);
              enough = subst (IsEnough front) (sym s.numbered) enough;
            };
          };
        }

    module _ (point : ℕ) (low : point ≤ recycle_point w.stable) where
      pub enough_at : (first : ℕ) → first ≤ point → IsEnough w.stable first
      enough_at first le = enough_point w.stable first (AllAlong_less IsLawful w.stable (records_of w.groups) (subst AreLawful w.is lawful)) (omega (arith, le, low))

      place_at : (n f : ℕ) (bs : List Block) → IsRun f bs → n < length bs → get_or (map first_of bs) n 0 ≡ f + records_in (take n bs)
      place_at n f [] run lt = absurd (omega (arith, lt))
      place_at zero f (b ∷ bs) run lt = omega (arith, run.0)
      place_at (suc n) f (b ∷ bs) run lt = let rest = place_at n (f + b.count) bs run.2 (omega (arith, lt)) in omega (arith, rest)

      gone_is : records_at (take (before_lsn point log.places) log.places) ≡ records_in (take (before_lsn point log.places) h.blocks.bs)
      gone_is =
          ap (λ (ps : List Place). records_at (take (before_lsn point log.places) ps)) h.blocks.durable.places_are ∙ records_places (told log.device).start (before_lsn point log.places) h.blocks.bs

      gone_within : recycled point log.places ≤ length h.stable
      gone_within = omega (arith, gone_is, records_most (before_lsn point log.places) h.blocks.bs, count_is)

      gone_enough : EndBefore point log.places (before_lsn point log.places) → IsEnough front (first_kept log + recycled point log.places)
      gone_enough ends = by (before_lsn point log.places) refl ends
        where
          by : (n : ℕ) → before_lsn point log.places ≡ n → EndBefore point log.places n → IsEnough front (first_kept log + recycled point log.places)
          by zero e ends = subst (IsEnough front) (let none : recycled point log.places ≡ 0 = ap (λ (m : ℕ). records_at (take m log.places)) e in omega (arith, none)) enough_is
          by (suc n) e ends =
              let start = (told log.device).start in
              let bs = h.blocks.bs in
              let many : length log.places ≡ length bs = ap length h.blocks.durable.places_are ∙ length-places start bs in
              let within = ends.not_last in
              let at = place_at (suc n) (first_lsn bs) bs h.blocks.durable.stands.sequence.run (omega (arith, within, many)) in
              let one : n + 1 ≡ suc n = omega arith in
              let least = subst (λ (i : ℕ). get_or (map (λ (p : Place). p.first) log.places) i 0 ≤ point) one (ends.each n (omega arith)) in
              let same : get_or (map (λ (p : Place). p.first) log.places) (suc n) 0 ≡ get_or (map first_of bs) (suc n) 0 =
              ap (λ (ps : List Place). get_or (map (λ (p : Place). p.first) ps) (suc n) 0) h.blocks.durable.places_are ∙ ap (λ (ns : List ℕ). get_or ns (suc n) 0) (firsts-places start bs) in
              let gone : recycled point log.places ≡ records_in (take (suc n) bs) = gone_is ∙ ap (λ (m : ℕ). records_in (take m bs)) e in
              subst (λ (l : List Record). IsEnough l (first_kept log + recycled point log.places)) parts.0 (enough_at (first_kept log + recycled point log.places) (omega (arith, first_is, bs_first, gone, at, same, least)))

      pub keeps_recycled : (device : D) → EndBefore point log.places (before_lsn point log.places) → RecycleLeaves told may_leave (last_checkpoint h.forgotten) (first_kept log) h.stable (recycled point log.places) device → KeepsFirst told may_leave rs (durable_lsn log.places) device
      keeps_recycled device ends left = record { now = by (told device) left.read; crash = λ k may. by k (left.crash k may) }
        where
          by : (k : Kept) → StandsForRest (last_checkpoint h.forgotten) (first_kept log) h.stable (recycled point log.places) k → StandsForFirst rs (durable_lsn log.places) k
          by k (inl all) = rest_first k 0 (omega arith) (subst (IsEnough front) (omega arith) enough_is) all
          by k (inr less) = rest_first k (recycled point log.places) gone_within (gone_enough ends) less

-- ---- the calls

-- records join as one group more
pub waits_more : {D : Type 0} (told : D → Kept) (may_leave : D → Kept → Type 0) (m m' : Managed D) (rs recs : List Record) (h : HoldsEnd told may_leave m.log rs) → WaitsInGroups m.log rs → HasRoom (rs ++ recs) → HasMore recs m.log m'.log
    → ((before : ℕ) (stable waiting : List Record) → IsLogOf told may_leave m.log before stable waiting → IsLogOf told may_leave m'.log before stable (waiting ++ recs))
    → ((groups : List (List Record)) → HoldGroups m.log.pending groups → HoldGroups m'.log.pending (groups ++ recs ∷ [])) → WaitsInGroups m'.log (rs ++ recs)
waits_more told may_leave m m' rs recs h w room more blocks held =
    let ckpt = last_checkpoint h.forgotten in
    let was = kept_next told may_leave m.log ckpt h.stable h.waiting h.blocks in
    let now = kept_next told may_leave m'.log ckpt h.stable (h.waiting ++ recs) (blocks ckpt h.stable h.waiting h.blocks) in
    let next : m'.log.next ≡ m.log.next + length recs = ap (λ (l : LogState _). l.next) more.is in
    let first : first_kept m'.log ≡ first_kept m.log = omega (arith, was, now, next, length-append h.stable h.waiting, length-append h.stable (h.waiting ++ recs), length-append h.waiting recs) in
    let joined : rs ++ recs ≡ w.stable ++ records_of (w.groups ++ recs ∷ []) =
    ap (λ (l : List Record). l ++ recs) w.is ∙ append_assoc w.stable (records_of w.groups) recs ∙ ap (λ (l : List Record). w.stable ++ l) (sym (groups_more w.groups recs)) in
    record {
      stable = w.stable;
      groups = w.groups ++ recs ∷ [];
      is = joined;
      durable = w.durable ∙ ap (λ (l : LogState _). durable_lsn l.places) (sym more.is);
      held = held w.groups w.held;
      room = λ n. by n (w.groups) (subst HasRoom joined room) w.room;
      enough = subst (IsEnough w.stable) (sym first) w.enough;
    }
  where
    by : (n : ℕ) (groups : List (List Record)) → HasRoom (w.stable ++ records_of (groups ++ recs ∷ [])) → ((i : ℕ) → HasRoom (w.stable ++ records_of (take i groups))) → HasRoom (w.stable ++ records_of (take n (groups ++ recs ∷ [])))
    by n groups full some = within (n - length groups) refl
      where
        within : (d : ℕ) → n - length groups ≡ d → HasRoom (w.stable ++ records_of (take n (groups ++ recs ∷ [])))
        within zero e = subst (λ (gs : List (List Record)). HasRoom (w.stable ++ records_of gs)) (sym (take-append-le n groups (recs ∷ []) (omega (arith, e)))) (some n)
        within (suc d) e =
            let at : n ≡ length groups + suc d = omega (arith, e) in
            let all : take n (groups ++ recs ∷ []) ≡ groups ++ recs ∷ [] = ap (λ (k : ℕ). take k (groups ++ recs ∷ [])) at ∙ take-append-add groups (recs ∷ []) (suc d) ∙ ap (λ (gs : List (List Record)). groups ++ recs ∷ gs) (no_groups d) in
            subst (λ (gs : List (List Record)). HasRoom (w.stable ++ records_of gs)) (sym all) full

module _ {D : Type 0} (told : D → Kept) (may_leave : D → Kept → Type 0) (count : D → ℕ) (m m' : Managed D) (rs : List Record) (lawful : AreLawful rs) (h : HoldsEnd told may_leave m.log rs) (next : m.log.next ≡ suc (length rs)) (runs : m.log.ended ≡ None) (w : WaitsInGroups m.log rs) where
  abbrev Done : Type 0
  Done = GoesOnOrEnds told may_leave rs m.log m'.log

  -- ---- a flush

  flushed_whole : m'.log.next ≡ m.log.next → first_kept m'.log ≡ first_kept m.log → (m' ≡ m) ⊎ IsLogOf told may_leave m'.log (last_checkpoint h.forgotten) (h.stable ++ h.waiting) [] → (durable_lsn m.log.places ≤ durable_lsn m'.log.places) × WaitsInGroups m'.log rs
  flushed_whole kept first (inl same) = subst (λ (x : Managed D). (durable_lsn m.log.places ≤ durable_lsn x.log.places) × WaitsInGroups x.log rs) (sym same) (omega arith, w)
  flushed_whole kept first (inr now) =
      let after : HoldsEnd told may_leave m'.log rs = record {
        forgotten = h.forgotten;
        stable = h.stable ++ h.waiting;
        waiting = [];
        is = h.is ∙ ap (λ (l : List Record). h.forgotten ++ l) (sym (append-nil (h.stable ++ h.waiting)));
        blocks = now;
      } in
      let all = whole told may_leave m.log rs h next in
      let enough = enough_more (h.forgotten ++ h.stable) h.waiting (first_kept m.log) (subst AreLawful all lawful) (enough_is told may_leave m.log rs h next lawful w) in
      let waits = none_waits told may_leave m'.log rs after (kept ∙ next) refl (all_room told may_leave m.log rs h next lawful w)
      (subst (λ (x : List Record × ℕ). IsEnough x.0 x.1) (λ i. (sym all i, sym first i)) enough) in
      let was = durable_and_pending told may_leave m.log rs h next in
      let now_all = durable_is told may_leave m'.log rs after (kept ∙ next) in
      (omega (arith, was, now_all, ap length after.is, length-append h.forgotten ((h.stable ++ h.waiting) ++ []), length-append (h.stable ++ h.waiting) [], length-append h.forgotten (h.stable ++ h.waiting)), waits)

  refused_ends : (fault : Fault) → Refused ⊥ count m.log m'.log fault → is_some m'.log.ended ≡ true
  refused_ends faults.LogFault why = ap is_some why.2
  refused_ends (faults.Ended at) why = absurd (cc (why.0, runs))
  refused_ends faults.Memory why = absurd why.0
  refused_ends _ why = absurd why

  pub flush_leaves : {A : Type 0} → EndsTogether → (result : Result A Fault) → m'.log.next ≡ m.log.next → first_kept m'.log ≡ first_kept m.log
      → OnOk result ((m' ≡ m) ⊎ IsLogOf told may_leave m'.log (last_checkpoint h.forgotten) (h.stable ++ h.waiting) []) → RecordsLeft told may_leave (last_checkpoint h.forgotten) h.stable h.waiting m.log m'.log
      → OnOk result ((m.log.ended ≡ None) × (m'.log.ended ≡ None)) → IfErr result (Refused ⊥ count m.log m'.log) → Done
  flush_leaves together (Ok x) kept first done left live why = record { rises = (flushed_whole kept first done).0; runs = λ _. (flushed_whole kept first done).1; ends = λ over. absurd (cc (over, ap is_some live.1)) }
  flush_leaves together (Err fault) kept first done left live why = record {
    rises = let more = left.durable in omega (arith, more);
    runs = λ goes. absurd (cc (refused_ends fault why, ap is_some goes));
    ends = λ _. keeps_flushed told may_leave m.log rs h next lawful w together m'.log left;
  }

  -- ---- a read

  waits_elsewhere : m' ≡ record m { log = record m.log { device = m'.log.device; ended = m'.log.ended } } → WaitsInGroups m'.log rs
  waits_elsewhere same = record {
    stable = w.stable;
    groups = w.groups;
    is = w.is;
    durable = w.durable ∙ ap (λ (x : Managed D). durable_lsn x.log.places) (sym same);
    held = subst (λ (x : Managed D). HoldGroups x.log.pending w.groups) (sym same) w.held;
    room = w.room;
    enough = subst (λ (x : Managed D). IsEnough w.stable (first_kept x.log)) (sym same) w.enough;
  }

  pub read_leaves : m' ≡ record m { log = record m.log { device = m'.log.device; ended = m'.log.ended } } → IsLogOf told may_leave m'.log (last_checkpoint h.forgotten) h.stable h.waiting → Done
  read_leaves same now =
      let after : HoldsEnd told may_leave m'.log rs = record { forgotten = h.forgotten; stable = h.stable; waiting = h.waiting; is = h.is; blocks = now } in
      let places : durable_lsn m'.log.places ≡ durable_lsn m.log.places = ap (λ (x : Managed D). durable_lsn x.log.places) same in
      record {
        rises = omega (arith, places);
        runs = λ _. waits_elsewhere same;
        ends = λ _. (keeps_durable told may_leave m'.log rs after (ap (λ (x : Managed D). x.log.next) same ∙ next) lawful (waits_elsewhere same));
      }

  -- ---- blocks that go

  -- nothing is forgotten that a prefix of the records needs
  pub point_low : (point : ℕ) → (point ≡ 0) ⊎ ((point ≡ recycle_point rs) × (length rs ≤ durable_lsn m.log.places)) → point ≤ recycle_point w.stable
  point_low point (inl none) = omega (arith, none)
  point_low point (inr (is, all)) =
      let none : records_of w.groups ≡ [] = nothing (records_of w.groups) (let at = w.durable in omega (arith, at, all, ap length w.is, length-append w.stable (records_of w.groups))) in
      let same : rs ≡ w.stable = w.is ∙ ap (λ (l : List Record). w.stable ++ l) none ∙ append-nil w.stable in
      omega (arith, is, ap recycle_point same)
    where
      nothing : (xs : List Record) → length xs ≡ 0 → xs ≡ []
      nothing [] e = refl
      nothing (x ∷ xs) e = absurd (omega (arith, e))

  recycled_whole : (point : ℕ) → point ≤ recycle_point w.stable → m' ≡ record m { log = record m.log { device = m'.log.device; places = drop (before_lsn point m.log.places) m.log.places } }
      → (first_kept m'.log ≡ first_kept m.log) ⊎ (first_kept m'.log ≤ point) → HoldsEnd told may_leave m'.log rs → (durable_lsn m.log.places ≤ durable_lsn m'.log.places) × WaitsInGroups m'.log rs
  recycled_whole point low same first after =
      let was = durable_and_pending told may_leave m.log rs h next in
      let now = durable_and_pending told may_leave m'.log rs after (ap (λ (x : Managed D). x.log.next) same ∙ next) in
      let pending : records_in m'.log.pending ≡ records_in m.log.pending = ap (λ (x : Managed D). records_in x.log.pending) same in
      let durable : durable_lsn m'.log.places ≡ durable_lsn m.log.places = omega (arith, was, now, pending) in (
        omega (arith, durable),
        record {
          stable = w.stable;
          groups = w.groups;
          is = w.is;
          durable = w.durable ∙ sym durable;
          held = subst (λ (x : Managed D). HoldGroups x.log.pending w.groups) (sym same) w.held;
          room = w.room;
          enough = by first;
        },
      )
    where
      by : (first_kept m'.log ≡ first_kept m.log) ⊎ (first_kept m'.log ≤ point) → IsEnough w.stable (first_kept m'.log)
      by (inl same) = subst (IsEnough w.stable) (sym same) w.enough
      by (inr le) = enough_at told may_leave m.log rs h next lawful w point low (first_kept m'.log) le

  pub recycle_leaves : {A : Type 0} (result : Result A Fault) (point : ℕ) → point ≤ recycle_point w.stable → EndBefore point m.log.places (before_lsn point m.log.places)
      → OnOk result (m' ≡ record m { log = record m.log { device = m'.log.device; places = drop (before_lsn point m.log.places) m.log.places } })
      → OnErr result (m' ≡ record m { log = record m.log { device = m'.log.device; ended = m'.log.ended } }) → (m'.log.ended ≡ None → HoldsEnd told may_leave m'.log rs)
      → RecycleLeaves told may_leave (last_checkpoint h.forgotten) (first_kept m.log) h.stable (recycled point m.log.places) m'.log.device
      → OnOk result ((m.log.ended ≡ None) × (m'.log.ended ≡ None)) → IfErr result (Refused ⊥ count m.log m'.log) → Done
  recycle_leaves (Ok x) point low ends same kept after left live why = record { rises = (recycled_whole point low same (first_left m m' point ends same) (after live.1)).0; runs = λ goes. (recycled_whole point low same (first_left m m' point ends same) (after goes)).1; ends = λ over. absurd (cc (over, ap is_some live.1)) }
  recycle_leaves (Err fault) point low ends same kept after left live why =
      let places : durable_lsn m'.log.places ≡ durable_lsn m.log.places = ap (λ (x : Managed D). durable_lsn x.log.places) kept in
      record {
        rises = omega (arith, places);
        runs = λ goes. absurd (cc (refused_ends fault why, ap is_some goes));
        ends = λ _. subst (λ (n : ℕ). KeepsFirst told may_leave rs n m'.log.device) (sym places) (keeps_recycled told may_leave m.log rs h next lawful w point low m'.log.device ends left);
      }

-- ---- the fuse

pub keeps_armed : {D : Type 0} (told : D → Kept) (may_leave : D → Kept → Type 0) (moment : D → ℕ) (left_since : D → ℕ → Kept → Type 0) (old new : D) → told new ≡ told old → LeavesOnly moment left_since old new (λ k. may_leave old k)
    → ((t : ℕ) (k : Kept) → t ≤ moment new → may_leave new k → left_since new t k) → (rs : List Record) (least : ℕ) → KeepsFirst told may_leave rs least old → KeepsFirst told may_leave rs least new
keeps_armed told may_leave moment left_since old new same crash counts rs least k = record {
  now = subst (StandsForFirst rs least) (sym same) k.now;
  crash = λ c left. k.crash c (crash.each c (counts (moment old) c crash.later left));
}
