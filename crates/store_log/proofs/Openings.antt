-- Openings and formats of a disk that keeps a log that may be found.
use Rattle.std.specs.Int.{w32}
use Rattle.std.proofs.Common.{◌≡◌, ◌≢◌, ℕ, zero, suc, ◌+◌, ◌≤◌, true, List, [], ◌∷◌, ◌++◌, refl, sym, ap, subst, ◌∙◌, arith, inl, inr, ⊎_elim, length, length-append, take}
use Rattle.media.specs.Crash.{NoMore, Only}
use Rattle.media.specs.Kept.{Kept}
use Rattle.media.specs.declared.disk.Disk.{Ghosts}
use Rattle.log_blocks.specs.Log.{Block, StandsFor, IsRun, first_lsn}
use Rattle.log_blocks.specs.LogState.{LogState, IsDurable, durable_lsn}
use Rattle.log_blocks.specs.Opening.{IsBadAt, TellsFault, places}
use Rattle.log_manager.specs.Payload.{bytes_of}
use Rattle.log_manager.specs.Managed.{HasMore, RecordsLeft, first_kept}
use Rattle.log_manager.specs.Records.{AreIn, AreRecordsOf, IsLogOf, StandsForRecords, StandsForMoreRecords}
use Rattle.log_manager.specs.Devices.{HoldEnd}
use Rattle.opening.specs.Begins.{IsKept, IsWhyNot, MayBegin}
use Rattle.opening.specs.Bytes.{IsRead, ShowsWhy, StaysSame}
use Rattle.opening.specs.declared.reading.WhyNot.{WhyNot}
use Rattle.opening.specs.declared.reading.WhyNot.TheVariants as causes
use Rattle.store_model.specs.declared.fault.Fault.{Fault}
use Rattle.store_model.specs.declared.fault.Fault.TheVariants as faults
use Rattle.wal_record.specs.Rules.{is_limit}
use Rattle.wal_record.specs.Sound.{IsSound}
use Rattle.wal_record.specs.Spelling.{spelling, number_bytes}
use Rattle.wal_record.specs.declared.record.Format.{Format}
use Rattle.wal_record.specs.declared.record.Record.{Record}
use Rattle.wal_record.specs.declared.record.Record.TheVariants as kinds
use Rattle.log_laws.specs.Right.{first_log}
use Rattle.life_laws.proofs.Leaving.{has_room}
use Rattle.life_laws.proofs.Start.{calm_start}
use Rattle.life_commands.specs.Bytes.{Allows, MayMake}
use Rattle.life_commands.specs.LogDisk.{StandsOn, Keeps, HoldsOne, lsn_from}
use Rattle.store_log.specs.Shows.{Shows}
use Rattle.store_log.specs.Beginnings.{Beginning}
use Rattle.store_log.specs.Openings.{CanRefuseOpening, IsMade, IsFirst, IsNotMade, IsNotBegunAt, IsBegun, IsFault, MadeStatus, ReadStatus}
use Rattle.life_commands.specs.Turns.{Last, Unformatted, MayFind, MayBeLeft}
use Rattle.life_commands.specs.declared.status.Status.{Status}
use Rattle.life_commands.specs.declared.status.Status.TheVariants as statuses
use Rattle.store_log.proofs.Gates.{NeverBad, OneLog, bad_formatted, log_formatted}
use Rattle.store_log.proofs.Known.{allows_make}
use Rattle.store_log.proofs.Lists.{first_kept_is, next_is}
use Rattle.life_commands.proofs.Lives.{left_too, keeps_map, keeps_same, keeps_only}
use Rattle.store_log.proofs.Whole.{stands_on}

-- ---- which log is found

-- the log that the blocks hold which an opening found
pub record Finds (last : Last) (bs : List Block) : Type 0 where
  pub log : List Record
  pub may : MayFind last log
  pub sound : IsSound log
  pub records : HoldEnd log bs

pub finds : (one_log : OneLog) {D : Type 0} (L : Ghosts D) (last : Last) (disk : D) (log : LogState D) (bs : List Block) → Keeps L last disk → L.told log.device ≡ L.told disk → IsDurable L.told L.may_leave log bs → Finds last bs
finds one_log L last disk log bs k same d =
    let s : StandsOn k.now.0 (L.told disk) = k.now.2 in
    let e : s.bs ≡ bs = one_log s.bs bs (L.told log.device) (subst (StandsFor s.bs) (sym same) s.stands) d.stands in
    record { log = k.now.0; may = k.now.1; sound = s.sound; records = subst (HoldEnd k.now.0) e s.records }

no_records : (log : List Record) → HoldEnd log [] → log ≡ []
no_records log h = h.is ∙ (λ i. nothing h.dropped (omega (arith, h.first)) i ++ h.records.records i)
  where
    nothing : (xs : List Record) → length xs ≡ 0 → ◌≡◌ {A = List Record} xs []
    nothing [] e = refl
    nothing (x ∷ xs) e = absurd (omega (arith, e))

-- blocks have records
some_records : (log : List Record) (b : Block) (bs : List Block) → IsRun (first_lsn (b ∷ bs)) (b ∷ bs) → HoldEnd log (b ∷ bs) → log ≢ []
some_records log b bs run h none =
    let own = h.records.records in
    omega (arith, run.1.count.0, own.3.records.count_is, ap length own.2, length-append own.0 own.1, ap length (sym h.is ∙ none), length-append h.dropped h.kept)

-- ---- a format

limit_sound : (limit : ℕ) → is_limit limit ≡ true → IsSound (first_log limit)
limit_sound limit e =
    let c = calm_start limit e in
    record { lawful = c.begins; room = has_room (first_log limit) c.begins c.log.whole }

module _ (one_log : OneLog) {D : Type 0} (L : Ghosts D) (limit : ℕ) (is : is_limit limit ≡ true) (last : Last) (disk : D) (log : LogState D) (keeps : Keeps L last disk) (same : L.told log.device ≡ L.told disk) (d : IsDurable L.told L.may_leave log []) where
  empty : Finds last []
  empty = finds one_log L last disk log [] keeps same d

  none_found : MayFind last []
  none_found = subst (MayFind last) (no_records empty.log empty.records) empty.may

  nothing_sound : IsSound []
  nothing_sound = subst IsSound (no_records empty.log empty.records) empty.sound

  whole_first : (n : ℕ) → 1 ≤ n → take n (first_log limit) ≡ first_log limit
  whole_first zero le = absurd (omega (arith, le))
  whole_first (suc n) le = more n
    where
      more : (n : ℕ) → take (suc n) (first_log limit) ≡ first_log limit
      more zero = refl
      more (suc n) = refl

  on_first : (k : Kept) (rs : List Record) (s : StandsForRecords 0 rs k) → first_lsn s.bs ≡ 1 → rs ≡ first_log limit → StandsOn (first_log limit) k
  on_first k rs s one e = stands_on (first_log limit) k (limit_sound limit is) (record { bs = s.bs; stands = s.stands; records = subst (AreRecordsOf 0 s.bs) e s.records }) one

  all_first : (k : Kept) → StandsForMoreRecords 0 1 [] (first_log limit) 1 k → HoldsOne (λ rs. rs ≡ first_log limit) k
  all_first k m = (first_log limit, refl, on_first k (take m.whole (first_log limit)) m.stands m.numbered (whole_first m.whole m.no_fewer))

  some_first : (P : List Record → Type 0) → P [] → P (first_log limit) → (k : Kept) → StandsForMoreRecords 0 1 [] (first_log limit) 0 k → HoldsOne P k
  some_first P none one k m = by m.whole refl
    where
      by : (n : ℕ) → m.whole ≡ n → HoldsOne P k
      by zero e = ([], none, stands_on [] k nothing_sound (record { bs = m.stands.bs; stands = m.stands.stands; records = subst (AreRecordsOf 0 m.stands.bs) (ap (λ (n : ℕ). take n (first_log limit)) e) m.stands.records }) m.numbered)
      by (suc n) e = (first_log limit, one, on_first k (take m.whole (first_log limit)) m.stands m.numbered (whole_first m.whole (omega (arith, e))))

  is_made : (left : D) → IsFirst L.told L.may_leave limit 1 left → IsMade L limit left last
  is_made left f = record { none = none_found; keeps = record { now = all_first (L.told left) f.now; crash = λ c may. all_first c (f.crash c may) } }

  half_made : (left : D) → IsFirst L.told L.may_leave limit 0 left → Keeps L (Unformatted last limit) left
  half_made left f = record {
    now = some_first (MayFind (Unformatted last limit)) (inl none_found) (inr (none_found, refl)) (L.told left) f.now;
    crash = λ c may. some_first (MayBeLeft (Unformatted last limit)) (inl (left_too last [] none_found)) (inr (none_found, refl)) c (f.crash c may);
  }

-- ---- an open gate

module _ (never_bad : NeverBad) {D : Type 0} (L : Ghosts D) (disk left : D) (same : L.tells → L.told left ≡ L.told disk) (more : NoMore L.may_leave disk left) where
  kept : L.tells → (last : Last) → Keeps L last disk → Keeps L last left
  kept t last k = keeps_same L last disk left (same t) more k

  -- a format that read no log
  pub made_refused : (limit : ℕ) (fault : Fault) (status : Status) → MadeStatus fault status → (L.tells → TellsFault (L.told disk) fault) → IsNotMade L limit disk left status × Shows L left status
  made_refused limit faults.LogFault status is bad = subst (λ (x : Status). IsNotMade L limit disk left x × Shows L left x) (sym is) ((λ t last k. keeps_map L last (Unformatted last limit) left (λ rs h. inl h) (λ rs h. inl h) (kept t last k)), tt)
  made_refused limit (faults.LogBad block byte) status is bad = subst (λ (x : Status). IsNotMade L limit disk left x × Shows L left x) (sym is) (
    (λ t last k. absurd (never_bad k.now.2.bs block byte (L.told disk) k.now.2.stands (bad t))),
    (λ t. bad_formatted block byte (L.told left) (subst (IsBadAt block byte) (sym (same t)) (bad t))),
  )
  made_refused limit _ status is bad = subst (λ (x : Status). IsNotMade L limit disk left x × Shows L left x) (sym is) ((λ t last k. kept t last k), tt)

-- the log that a format reads
module _ {D : Type 0} (L : Ghosts D) (disk : D) (log : LogState D) (found : L.tells → (bs : List Block) × IsDurable L.told L.may_leave log bs) (same : L.tells → L.told log.device ≡ L.told disk) where
  no_places : (bs : List Block) → IsDurable L.told L.may_leave log bs → length log.places + length log.pending ≡ 0 → bs ≡ []
  no_places [] d e = refl
  no_places (b ∷ bs) d e = absurd (omega (arith, e, ap length d.places_are))

  none_durable : length log.places + length log.pending ≡ 0 → (t : L.tells) → IsDurable L.told L.may_leave log []
  none_durable none t = let b = found t in subst (IsDurable L.told L.may_leave log) (no_places b.0 b.1 none) b.1

  -- what is known of the disk allows a format
  pub allows_format : NeverBad → length log.places + length log.pending ≡ 0 → Allows L.tells L disk MayMake
  allows_format never none = allows_make L.tells L disk never (λ t. let b = found t in (b.0, subst (StandsFor b.0) (same t) b.1.stands)) (λ t. subst (StandsFor []) (same t) (none_durable none t).stands)

  -- the manager of an empty log, as it begins
  nothing_stands : AreRecordsOf 0 [] []
  nothing_stands = record { none = λ _. refl; records = refl }

  module _ (one_log : OneLog) (more : NoMore L.may_leave disk log.device) where
    some_places : (bs : List Block) → log.pending ≡ [] → IsDurable L.told L.may_leave log bs → length log.places + length log.pending ≢ 0 → (b : Block) × (rest : List Block) × (bs ≡ b ∷ rest)
    some_places [] fresh d e = absurd (e (omega (arith, ap length d.places_are, ap length fresh)))
    some_places (b ∷ bs) fresh d e = (b, bs, refl)

    pub already_made : (limit : ℕ) → log.pending ≡ [] → length log.places + length log.pending ≢ 0 → IsNotMade L limit disk log.device statuses.AlreadyFormatted × Shows L log.device statuses.AlreadyFormatted
    already_made limit fresh some = (
      (λ t last k.
          let b = found t in
          let p = some_places b.0 fresh b.1 some in
          let d : IsDurable L.told L.may_leave log (p.0 ∷ p.1) = subst (IsDurable L.told L.may_leave log) p.2 b.1 in
          let f = finds one_log L last disk log (p.0 ∷ p.1) k (same t) d in
          (record { log = f.log; found = f.may; some = some_records f.log p.0 p.1 d.stands.sequence.run f.records }, keeps_same L last disk log.device (same t) more k)),
      (λ t.
          let b = found t in
          let p = some_places b.0 fresh b.1 some in
          log_formatted p.0 p.1 (L.told log.device) (subst (λ (bs : List Block). StandsFor bs (L.told log.device)) p.2 b.1.stands)),
    )

    module _ (start : LogState D) (starts : L.tells → (bs : List Block) (rs : List Record) → IsDurable L.told L.may_leave log bs → AreRecordsOf 0 bs rs → IsLogOf L.told L.may_leave start 0 rs []) (none : length log.places + length log.pending ≡ 0) (limit : ℕ) (is : is_limit limit ≡ true) where
      begun : (t : L.tells) → IsLogOf L.told L.may_leave start 0 [] []
      begun t = starts t [] [] (none_durable none t) nothing_stands

      pub format_made : (left : D) → (L.tells → IsLogOf L.told L.may_leave start 0 [] [] → IsFirst L.told L.may_leave limit 1 left) → L.tells → (last : Last) → Keeps L last disk → IsMade L limit left last
      format_made left first t last k = is_made one_log L limit is last disk log k (same t) (none_durable none t) left (first t (begun t))

      pub format_cut : (left : D) (status : Status) → IsFault status → (status ≡ statuses.LogFault → L.tells → IsLogOf L.told L.may_leave start 0 [] [] → IsFirst L.told L.may_leave limit 0 left) → (status ≡ statuses.Memory → left ≡ log.device) → IsNotMade L limit disk left status
      format_cut left statuses.Memory kind cut no_memory = λ t last k. subst (Keeps L last) (sym (no_memory refl)) (keeps_same L last disk log.device (same t) more k)
      format_cut left statuses.LogFault kind cut no_memory = λ t last k. half_made one_log L limit is last disk log k (same t) (none_durable none t) left (cut refl t (begun t))
      format_cut left _ kind cut no_memory = absurd kind

-- ---- an opening

-- a disk on which this log was found
module _ (one_log : OneLog) {D : Type 0} (T : Type 0) (L : Ghosts D) (disk : D) (last : Last) (k : Keeps L last disk) where
  held_by : (bs : List Block) → StandsFor bs (L.told disk) → HoldEnd k.now.0 bs
  held_by bs s = let z : StandsOn k.now.0 (L.told disk) = k.now.2 in subst (HoldEnd k.now.0) (one_log z.bs bs (L.told disk) z.stands s) z.records

  -- another disk with its blocks, of which a crash leaves nothing else
  blocks_keep : (left : D) (bs : List Block) → StandsFor bs (L.told disk) → StandsFor bs (L.told left) → Only (L.told left) (L.may_leave left) → Keeps L last left
  blocks_keep left bs old new only = let z : StandsOn k.now.0 (L.told disk) = k.now.2 in keeps_only L last left (k.now.0, k.now.1, record { sound = z.sound; bs = bs; stands = new; records = held_by bs old }) only

  kept_here : IsKept L.told disk k.now.0
  kept_here = let z : StandsOn k.now.0 (L.told disk) = k.now.2 in record { sound = z.sound; stands = record { bs = z.bs; stands = z.stands; records = z.records } }

  -- a life may begin on it
  pub is_begun : (b : Beginning D) → IsRead L.told L.may_leave disk b.log.log → ((opening : List Record) → IsKept L.told disk opening → MayBegin T L.told L.may_leave b.log b.listing opening) → IsBegun T L b last
  is_begun b read begins = record {
    opening = k.now.0;
    found = k.now.1;
    begins = record {
      may = begins k.now.0 kept_here;
      stands = record { sound = kept_here.sound; log_disk = record { bs = read.0; stands = read.2.stands; only = read.2.only; records = held_by read.0 read.1 } };
    };
  }

  -- the disk that was read keeps it
  pub read_keeps : (log : LogState D) → IsRead L.told L.may_leave disk log → Keeps L last log.device
  read_keeps log read = blocks_keep log.device read.0 read.1 read.2.stands read.2.only

  same_keeps : (left : D) → StaysSame L.told L.may_leave disk left → Keeps L last left
  same_keeps left same = ⊎_elim
      (λ x. keeps_same L last disk left x.0 x.1 k)
      (λ x. blocks_keep left x.0 x.1 x.2 x.3)
      same

  -- why none begins
  pub why_not : (left : D) (why : WhyNot) (status : Status) → ReadStatus why status → ((opening : List Record) → IsKept L.told disk opening → IsWhyNot opening why) → StaysSame L.told L.may_leave disk left → IsNotBegunAt L last left status
  why_not left causes.NotFormatted status is not same = subst (IsNotBegunAt L last left) (sym is) (subst (MayFind last) (not k.now.0 kept_here) k.now.1, same_keeps left same)
  why_not left (causes.Fault faults.LogFault) status is not same = subst (IsNotBegunAt L last left) (sym is) (same_keeps left same)
  why_not left (causes.Fault (faults.LogBad block byte)) status is not same = subst (IsNotBegunAt L last left) (sym is) (not k.now.0 kept_here)
  why_not left (causes.Fault _) status is not same = subst (IsNotBegunAt L last left) (sym is) (same_keeps left same)

pub read_shows : {D : Type 0} (L : Ghosts D) (left : D) (why : WhyNot) (status : Status) → ReadStatus why status → (L.tells → ShowsWhy (L.told left) why) → Shows L left status
read_shows L left causes.NotFormatted status is shows = subst (Shows L left) (sym is) shows
read_shows L left (causes.Fault (faults.LogBad block byte)) status is shows = subst (Shows L left) (sym is) shows
read_shows L left (causes.Fault faults.LogFault) status is shows = subst (Shows L left) (sym is) tt
read_shows L left (causes.Fault _) status is shows = subst (Shows L left) (sym is) tt

pub read_kind : (why : WhyNot) (status : Status) → ReadStatus why status → CanRefuseOpening status
read_kind causes.NotFormatted status is = subst CanRefuseOpening (sym is) tt
read_kind (causes.Fault faults.LogFault) status is = subst CanRefuseOpening (sym is) tt
read_kind (causes.Fault (faults.LogBad block byte)) status is = subst CanRefuseOpening (sym is) tt
read_kind (causes.Fault _) status is = subst CanRefuseOpening (sym is) tt

-- ---- the record of a format

length-u32 : (n : ℕ) → length (number_bytes w32 n) ≡ 4
unfolding number_bytes
length-u32 n = refl

pub format_size : (f : Format) → length (bytes_of (kinds.Format f ∷ [])) ≤ 4194304
format_size f = let e = length-u32 f.limit in omega (arith, e, length-append (spelling (kinds.Format f)) [])

-- the first record of a log, flushed or not
first_left : {D : Type 0} (L : Ghosts D) (limit : ℕ) (mid new : LogState D) → first_kept mid ≡ 1 → (left : RecordsLeft L.told L.may_leave 0 [] (first_log limit) mid new) → (least : ℕ) → least ≤ left.done → IsFirst L.told L.may_leave limit least new.device
first_left L limit mid new one left least le =
    record { now = fewer (L.told new.device) left.read; crash = λ c may. fewer c (left.crash c may) }
  where
    fewer : (k : Kept) → StandsForMoreRecords 0 (first_kept mid) [] (first_log limit) left.done k → StandsForMoreRecords 0 1 [] (first_log limit) least k
    fewer k m = record { whole = m.whole; no_fewer = omega (arith, le, m.no_fewer); within = m.within; stands = m.stands; numbered = m.numbered ∙ one }

-- ---- faults by other names

-- no block without records
no_blocks : (n k : ℕ) (bs : List Block) → IsRun n bs → AreIn k bs [] → bs ≡ []
no_blocks n k [] run r = refl
no_blocks n k (b ∷ bs) run (own, more, whole, holds, rest) = absurd (omega (arith, run.1.count.0, holds.records.count_is, ap length whole, length-append own more))

pub first_flushed : {D : Type 0} (L : Ghosts D) (limit : ℕ) (old mid new : LogState D) → old.next ≡ 1 → HasMore (first_log limit) old mid → IsLogOf L.told L.may_leave old 0 [] [] → IsLogOf L.told L.may_leave mid 0 [] (first_log limit) → (left : RecordsLeft L.told L.may_leave 0 [] (first_log limit) mid new) → (least : ℕ) → least ≤ durable_lsn new.places → IsFirst L.told L.may_leave limit least new.device
first_flushed L limit old mid new next added stands stands_mid left least reached =
    let none : stands.bs ≡ [] = no_blocks (first_lsn stands.bs) 0 stands.bs stands.durable.stands.sequence.run stands.records.records in
    let places_none : lsn_from mid.places ≡ 1 = ap (λ (x : LogState _). lsn_from x.places) added.is ∙ ap lsn_from stands.durable.places_are ∙ ap (λ (bs : List Block). lsn_from (places (L.told old.device).start bs)) none in
    first_left L limit mid new (first_kept_is mid stands_mid.numbered ∙ places_none) left least
    (omega (arith, reached, left.durable, next_is L.told L.may_leave mid [] (first_log limit) stands_mid, ap (λ (x : LogState _). x.next) added.is, next))
