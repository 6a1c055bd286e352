-- An open log, where its disk stood for one: its records, and how many they are.
use Rattle.std.proofs.Common.{◌≡◌, ◌≢◌, ◌≤◌, ℕ, suc, ◌+◌, None, List, [], ◌∷◌, ◌++◌, length, refl, sym, ap, ◌∙◌, subst, arith, append-nil, length-append}
use Rattle.log_blocks.specs.Log.{Block, IsRun, StandsFor, first_lsn, next_lsn}
use Rattle.log_blocks.specs.LogState.{LogState, AreNumbered, IsDurable, durable_lsn, lsn_behind}
use Rattle.log_blocks.specs.Opening.{IsBadAt, TellsFault, places}
use Rattle.log_blocks.specs.declared.header.Place.{Place}
use Rattle.log_manager.specs.Devices.{DevicesStandFor, HoldEnd, IsEnough}
use Rattle.opening.specs.Begins.{IsKept}
use Rattle.log_manager.specs.Managed.{IsNoBadLog}
use Rattle.log_manager.specs.Records.{AreRecordsOf, IsLogOf}
use Rattle.log_manager.proofs.Finding.{next_of_all}
use Rattle.log_manager.proofs.Joining.{in_count, next_count}
use Rattle.listed_log.specs.Listed.{HoldsEnd}
use Rattle.listed_log.proofs.Leaving.{durable_is, first_is, none_waits}
use Rattle.stop_laws.specs.Stops.{IsSafe}
use Rattle.stop_laws.proofs.Safe.{safe_start}
use Rattle.media.specs.Crash.{LeavesOnly}
use Rattle.media.specs.Kept.{Kept}
use Rattle.store_model.specs.declared.fault.Fault.{Fault}
use Rattle.store_model.specs.declared.fault.Fault.TheVariants as faults
use Rattle.wal_record.specs.Checkpoints.{last_checkpoint}
use Rattle.wal_record.specs.declared.record.Record.{Record}

-- where the disk stands for a log, no block of it is bad
pub not_bad : {D : Type 0} → ((bs : List Block) (block byte : ℕ) (k : Kept) → StandsFor bs k → IsBadAt block byte k → ⊥) → (told : D → Kept) (may_leave : D → Kept → Type 0) (disk : D) (opening : List Record)
    → IsKept told disk opening → (fault : Fault) → TellsFault (told disk) fault → IsNoBadLog fault
not_bad never told may_leave disk opening stands (faults.LogBad block byte) bad = never stands.stands.bs block byte (told disk) stands.stands.stands bad
not_bad never told may_leave disk opening stands fault bad = tt

-- a disk that stands for a log keeps it
pub kept_of : {D : Type 0} (told : D → Kept) (may_leave : D → Kept → Type 0) (disk : D) (opening : List Record) → DevicesStandFor told may_leave disk opening → IsKept told disk opening
kept_of told may_leave disk opening s = record { sound = s.sound; stands = record { bs = s.log_disk.bs; stands = s.log_disk.stands; records = s.log_disk.records } }

-- a disk that tells the same, and may leave no more, stands for the logs for which it stood
pub stands_still : {D : Type 0} (told : D → Kept) (may_leave : D → Kept → Type 0) (moment : D → ℕ) (left_since : D → ℕ → Kept → Type 0) (old new : D) (opening : List Record) → told new ≡ told old
    → LeavesOnly moment left_since old new (λ k. may_leave old k) → ((t : ℕ) (k : Kept) → t ≤ moment new → may_leave new k → left_since new t k) → DevicesStandFor told may_leave old opening → DevicesStandFor told may_leave new opening
stands_still told may_leave moment left_since old new opening same crash counts stands = record {
  sound = stands.sound;
  log_disk = record {
    bs = stands.log_disk.bs;
    stands = subst (StandsFor stands.log_disk.bs) (sym same) stands.log_disk.stands;
    only = λ k left. stands.log_disk.only k (crash.each k (counts (moment old) k crash.later left)) ∙ sym same;
    records = stands.log_disk.records;
  };
}

-- reads leave the next LSN as it was
pub next_kept : {D : Type 0} (old new : LogState D) → new ≡ record old { device = new.device; ended = new.ended } → new.next ≡ old.next
next_kept old new same = ap (λ (l : LogState _). l.next) same

module _ {D : Type 0} (told : D → Kept) (may_leave : D → Kept → Type 0) (disk : D) (log : LogState D) (opening : List Record) (stands : IsKept told disk opening) (bs : List Block) (d : IsDurable told may_leave log bs)
    (same : told log.device ≡ told disk) (one : (bs cs : List Block) (k : Kept) → StandsFor bs k → StandsFor cs k → bs ≡ cs) where
  pub held : HoldEnd opening bs
  held = subst (HoldEnd opening) (one stands.stands.bs bs (told disk) stands.stands.stands (subst (StandsFor bs) same d.stands)) stands.stands.records

  -- so does the disk of an open log that still has the blocks
  pub stands_open : (now : LogState D) → IsDurable told may_leave now bs → DevicesStandFor told may_leave now.device opening
  stands_open now durable = record { sound = stands.sound; log_disk = record { bs = bs; stands = durable.stands; only = durable.only; records = held } }

  module _ (fresh : log.pending ≡ []) (numbered : AreNumbered log) where
    behind_is : log.next ≡ lsn_behind log.places
    behind_is = numbered.next ∙ ap (λ (qs : List Block). next_lsn (lsn_behind log.places) qs) fresh

    pub next_is : log.next ≡ length opening + 1
    next_is =
        let start = (told log.device).start in
        let run : IsRun (lsn_behind (places start bs)) [] = subst (λ (ps : List Place). IsRun (lsn_behind ps) []) d.places_are (subst (λ (qs : List Block). IsRun (lsn_behind log.places) qs) fresh numbered.run) in
        let at : lsn_behind log.places ≡ next_lsn (first_lsn bs) bs =
        ap (λ (ps : List Place). lsn_behind ps) d.places_are ∙ next_of_all start bs [] d.stands.sequence run ∙ ap (λ (l : List Block). next_lsn (first_lsn l) l) (append-nil bs) in
        let count = next_count (first_lsn bs) bs in
        let size = in_count (last_checkpoint held.dropped) bs held.kept held.records.records in
        let whole = ap length held.is ∙ length-append held.dropped held.kept in
        omega (arith, behind_is, at, count, size, whole, held.first)

    pub last_is : (last : ℕ) → last ≡ durable_lsn log.places → last ≡ length opening
    last_is last is = omega (arith, is, behind_is, next_is)

    pub none_there : (last : ℕ) → last ≡ durable_lsn log.places → last ≡ 0 → opening ≡ []
    none_there last is none = by opening (let n = last_is last is in omega (arith, n, none))
      where
        by : (rs : List Record) → length rs ≡ 0 → rs ≡ []
        by [] e = refl
        by (r ∷ rs) e = absurd (omega (arith, e))

    pub some_there : (last : ℕ) → last ≡ durable_lsn log.places → (last ≡ 0 → ⊥) → opening ≢ []
    some_there last is some none = some (let n = last_is last is in omega (arith, n, ap length none))

  -- the log of a manager that has just been started
  pub holds_end : (now : LogState D) → ((before : ℕ) (rs : List Record) → AreRecordsOf before bs rs → IsLogOf told may_leave now before rs []) → HoldsEnd told may_leave now opening
  holds_end now blocks = record {
    forgotten = held.dropped;
    stable = held.kept;
    waiting = [];
    is = held.is ∙ ap (λ (l : List Record). held.dropped ++ l) (sym (append-nil held.kept));
    blocks = blocks (last_checkpoint held.dropped) held.kept held.records;
  }

  -- all of it is durable, and enough for the next opening
  pub begins_safe : (now : LogState D) → now.ended ≡ None → now.next ≡ length opening + 1 → ((before : ℕ) (rs : List Record) → AreRecordsOf before bs rs → IsLogOf told may_leave now before rs []) → IsSafe told may_leave opening [] now
  begins_safe now goes next blocks =
      let at : now.next ≡ suc (length opening) = omega (arith, next) in
      let whole : HoldsEnd told may_leave now opening = record {
        forgotten = held.dropped;
        stable = held.kept;
        waiting = [];
        is = held.is ∙ ap (λ (l : List Record). held.dropped ++ l) (sym (append-nil held.kept));
        blocks = blocks (last_checkpoint held.dropped) held.kept held.records;
      } in
      let first = first_is told may_leave now opening whole at in
      let waits = none_waits told may_leave now opening whole at refl stands.sound.room (subst (IsEnough opening) (held.first ∙ sym first) held.enough) in
      safe_start told may_leave opening now goes (ap length held.is ∙ sym (durable_is told may_leave now opening whole at)) waits
