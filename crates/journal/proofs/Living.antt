-- What each kind of step makes of what the journal keeps: an entry that is no record, a beginning, a group, a commit, a
-- flush.
use Rattle.std.proofs.Common.{◌≡◌, ◌≢◌, ℕ, eqb, cond, ◌+◌, ◌≤◌, ◌<◌, ◌^◌, List, [], ◌∷◌, ◌++◌, length, Option, None, Bool, true, false, refl, sym, ap, ◌∙◌, subst, inl, inr, arith, append-nil, length-append}
use Rattle.std.specs.List.{list_all}
use Rattle.std.specs.Prelude.{◌-◌, ◌⊎◌, ◌↔◌, Result, Ok, Err, OnOk, is_some}
use Rattle.std.proofs.lemmas.Bool.{eqb-true}
use Rattle.log_blocks.specs.LogState.{LogState, durable_lsn}
use Rattle.log_index.specs.GoingOn.{may_go_on}
use Rattle.log_index.specs.declared.listing.Listing.{Listing}
use Rattle.log_manager.specs.Managed.{Managed}
use Rattle.media.specs.Kept.{Kept}
use Rattle.page_ops.specs.Outcomes.{begun}
use Rattle.page_ops.specs.declared.group.Said.{Said}
use Rattle.range_lock.specs.Held as table
use Rattle.range_lock.specs.Lock.{IsAmong}
use Rattle.range_lock.specs.declared.range_locks.RangeLocks.{RangeLocks}
use Rattle.store_model.specs.declared.fault.Fault.{Fault}
use Rattle.wal_record.specs.History.{log_of, life_log, Phase, Live, Committed, Acknowledged, Ended, phase, phase_step, live_count}
use Rattle.wal_record.specs.Legal.{held}
use Rattle.wal_record.specs.Locks.{Held, locks_step, taken_locks}
use Rattle.wal_record.specs.declared.record.End.{End}
use Rattle.wal_record.specs.declared.record.Record.{Record}
use Rattle.wal_record.specs.declared.record.Record.TheVariants as kinds
use Rattle.wal_record.specs.declared.entry.Entry.{Entry}
use Rattle.wal_record.specs.declared.entry.Entry.TheVariants as entries
use Rattle.wal_record.proofs.Pushes.{log_same, log_more, phase_push, taken_push}
use Rattle.log_laws.proofs.Central.{differ}
use Rattle.life_history.specs.Groups.{is_still}
use Rattle.life_history.specs.Kept.{commit_entry}
use Rattle.life_history.proofs.Grouped.{log_group}
use Rattle.page_ops.specs.Groups.{group_entries}
use Rattle.listed_log.specs.Listed.{HoldsEnd, IsLogWith}
use Rattle.journal.specs.Ends.{EndsCall, GoesOn}
use Rattle.journal.specs.Kept.{HasPlaces, IsOfLife, EndsByFault, IsKept}
use Rattle.page_ops.specs.Seeing.{Account}
use Rattle.store_model.specs.declared.fault.Fault.TheVariants as answers
use Rattle.journal.specs.Locks.{AreHeld}
use Rattle.journal.specs.State.{HasOneMore}
use Rattle.journal.specs.Groups.{IsNext}
use Rattle.journal.proofs.Locking.{held_same}
use Rattle.journal.proofs.Grouping.{locks_group, phases_group}

-- ---- no commit waits

abbrev pub StaysAcknowledged : Entry → Type 0
StaysAcknowledged e = (t : ℕ) (p : Phase) → p ≢ Committed → phase_step t p e ≢ Committed

pub began_stays : (session tx : ℕ) → StaysAcknowledged (entries.Began session tx)
began_stays session tx t p waits = by (eqb tx t)
  where
    by : (b : Bool) → cond b Live p ≢ Committed
    by true e = absurd (cc e)
    by false e = waits e

pub end_stays : (lsn : ℕ) (end : End) → StaysAcknowledged (entries.Rec lsn (kinds.End end))
end_stays lsn end t p waits = by (eqb end.tx t)
  where
    by : (b : Bool) → cond b Ended p ≢ Committed
    by true e = absurd (cc e)
    by false e = waits e

pub ends_entry : (ended : Option ℕ) (h h' : List Entry) (faults faults' : ℕ) (e : Entry) → EndsByFault ended h faults → h' ≡ h ++ e ∷ [] → faults' ≡ faults → StaysAcknowledged e → EndsByFault ended h' faults'
ends_entry ended h h' faults faults' e k now same stays = record {
  acknowledged = λ runs t is. stays t (phase h t) (k.acknowledged runs t) (sym (ap (λ l. phase l t) now ∙ phase_push h e t) ∙ is);
  none = λ runs. same ∙ k.none runs;
  one = λ over. subst (λ n. 0 < n) (sym same) (k.one over);
}

-- an end by a fault
pub ends_failed : (ended : Option ℕ) (h : List Entry) (faults faults' : ℕ) → is_some ended ≡ true → faults' ≡ faults + 1 → EndsByFault ended h faults'
ends_failed ended h faults faults' over more = record {
  acknowledged = λ runs. absurd (cc (over, ap is_some runs));
  none = λ runs. absurd (cc (over, ap is_some runs));
  one = λ _. omega (arith, more);
}

-- ---- the log and the locks

same_blocks : {D : Type 0} (tells : Type 0) (told : D → Kept) (may_leave : D → Kept → Type 0) (goes : ℕ → Bool) (rs : List Record) (m m' : Managed D) (s : Listing) → IsLogWith tells told may_leave goes rs m s → m'.log ≡ m.log → IsLogWith tells told may_leave goes rs m' s
same_blocks tells told may_leave goes rs m m' s k same = record {
  lawful = k.lawful;
  listing = k.listing;
  noted = k.noted;
  next = ap (λ (l : LogState _). l.next) same ∙ k.next;
  records = λ t runs. subst (λ (l : LogState _). HoldsEnd told may_leave l rs) (sym same) (k.records t (ap (λ (l : LogState _). l.ended) (sym same) ∙ runs));
}

-- ---- room for commits

room_same : (live spare spare' : ℕ) → live ≤ spare → HasOneMore spare spare' → live ≤ spare'
room_same live spare spare' c (inl room) = let one = room.1 in omega (arith, c, one)
room_same live spare spare' c (inr room) = let same = room.1 in omega (arith, c, same)

room_begun : (live live' spare spare' : ℕ) → live ≤ spare → HasOneMore spare spare' → (live' ≡ live + 1) × (live' ≤ 64) → live' ≤ spare'
room_begun live live' spare spare' c (inl room) more = let one = room.1 in let now = more.0 in omega (arith, c, one, now)
room_begun live live' spare spare' c (inr room) more = let same = room.1 in let all = room.0 in let most = more.1 in omega (arith, same, all, most)

module _ {D : Type 0} (opens : List Record → Type 0) (tells : Type 0) (told : D → Kept) (may_leave : D → Kept → Type 0) (h h' : List Entry) (m m' : Managed D) (s s' : Listing) (t : RangeLocks) (mark : ℕ) (k : IsOfLife opens tells told may_leave h m s t mark) where
  -- an entry that is no record, and takes nobody's place
  pub life_entry : (t' : RangeLocks) (e : Entry) → h' ≡ h ++ e ∷ [] → log_of (e ∷ []) ≡ [] → AreHeld (h ++ e ∷ []) t' → live_count h' ≡ live_count h → IsOfLife opens tells told may_leave h' m s t' mark
  life_entry t' e now none locks live =
      let log : (opening : List Record) → life_log opening h' ≡ life_log opening h = λ opening. ap (life_log opening) now ∙ log_same opening h e none in
      record {
        records = λ opening stands. subst (λ (l : List Record). IsLogWith tells told may_leave (may_go_on opening) l m s) (sym (log opening)) (k.records opening stands);
        locks = subst (λ (l : List Entry). AreHeld l t') (sym now) locks;
        telling = k.telling;
        places = record {
          commits = let c = k.places.commits in omega (arith, c, live);
          numbers = λ opening stands. let n = k.places.numbers opening stands in omega (arith, n, live, ap (λ (l : List Record). length l) (log opening));
        };
        durable = k.durable;
      }

  -- room for a commit more
  life_room : m'.log ≡ m.log → HasOneMore m.spare m'.spare → s' ≡ s → IsOfLife opens tells told may_leave h m' s' t mark
  life_room same room listing =
      record {
        records = λ opening stands. subst (λ (x : Listing). IsLogWith tells told may_leave (may_go_on opening) (life_log opening h) m' x) (sym listing) (same_blocks tells told may_leave (may_go_on opening) (life_log opening h) m m' s (k.records opening stands) same);
        locks = k.locks;
        telling = k.telling;
        places = record {
          commits = room_same (live_count h) m.spare m'.spare k.places.commits room;
          numbers = k.places.numbers;
        };
        durable = λ opening stands tell. subst (λ (l : LogState D). mark ≤ durable_lsn l.places) (sym same) (k.durable opening stands tell);
      }

  -- a beginning, or only room for its commit
  pub life_begin : (session : ℕ) (result : Result ℕ Fault) → m'.log ≡ m.log → HasOneMore m.spare m'.spare → s' ≡ s → m.log.next - 1 < 2 ^ 62 → h' ≡ h ++ begun session result
      → OnOk result ((live_count h' ≡ live_count h + 1) × (live_count h' ≤ 64)) → IsOfLife opens tells told may_leave h' m' s' t mark
  life_begin session (Err fault) same room listing few now live = subst (λ (l : List Entry). IsOfLife opens tells told may_leave l m' s' t mark) (sym (now ∙ append-nil h)) (life_room same room listing)
  life_begin session (Ok tx) same room listing few now live =
      let roomy = life_room same room listing in
      let log : (opening : List Record) → life_log opening h' ≡ life_log opening h = λ opening. ap (life_log opening) now ∙ log_same opening h (entries.Began session tx) refl in
      record {
        records = λ opening stands. subst (λ (l : List Record). IsLogWith tells told may_leave (may_go_on opening) l m' s') (sym (log opening)) (roomy.records opening stands);
        locks = λ l. subst (λ (ls : List Held). table.Holds t l ↔ IsAmong (held l.range l.mode) ls) (sym (ap (λ x. taken_locks x l.tx) now ∙ taken_push h (entries.Began session tx) l.tx)) (k.locks l);
        telling = k.telling;
        places = record {
          commits = room_begun (live_count h) (live_count h') m.spare m'.spare k.places.commits room live;
          numbers = λ opening stands. let n = (k.records opening stands).next in let most = live.1 in omega (arith, n, few, most, ap (λ (l : List Record). length l) (log opening));
        };
        durable = roomy.durable;
      }

  -- a group by which no transaction ends
  pub life_group : (lsn : ℕ) (recs : List Record) (said : Option Said) → h' ≡ h ++ group_entries lsn recs said → list_all is_still recs ≡ true → length recs ≤ 2 → m'.log.ended ≡ m.log.ended → m'.log.places ≡ m.log.places → m'.spare ≡ m.spare
      → (live_count h' ≡ live_count h) × (live_count h ≤ 64) → IsNext opens h lsn
      → ((opening : List Record) → opens opening → IsLogWith tells told may_leave (may_go_on opening) (life_log opening h ++ recs) m' s') → IsOfLife opens tells told may_leave h' m' s' t mark
  life_group lsn recs said now still few ended places spare live next records =
      let log : (opening : List Record) → life_log opening h' ≡ life_log opening h ++ recs = λ opening. ap (life_log opening) now ∙ log_group opening h lsn recs said in
      record {
        records = λ opening stands. subst (λ (l : List Record). IsLogWith tells told may_leave (may_go_on opening) l m' s') (sym (log opening)) (records opening stands);
        locks = λ l. subst (λ (ls : List Held). table.Holds t l ↔ IsAmong (held l.range l.mode) ls) (sym (ap (λ x. taken_locks x l.tx) now ∙ locks_group h lsn recs said still l.tx)) (k.locks l);
        telling = k.telling;
        places = record {
          commits = let c = k.places.commits in let same = live.0 in omega (arith, c, spare, same);
          numbers = λ opening stands.
              let at = (next opening stands).0 in
              let low = (next opening stands).1 in
              let most = live.1 in
              let same = live.0 in
              omega (arith, at, low, most, same, few, ap (λ (l : List Record). length l) (log opening), length-append (life_log opening h) recs);
        };
        durable = λ opening stands tell. subst (λ ps. mark ≤ durable_lsn ps) (sym places) (k.durable opening stands tell);
      }

  -- ---- a commit

  -- the entry lets the locks of this transaction go
  abbrev LetsGo : ℕ → Entry → Type 0
  LetsGo tx e = (u : ℕ) (ls : List Held) → locks_step u ls e ≡ cond (eqb tx u) [] ls

  released : (t' : RangeLocks) (e : Entry) (tx : ℕ) → LetsGo tx e → table.Releases t t' tx → AreHeld (h ++ e ∷ []) t'
  released t' e tx goes free l = subst (λ (ls : List Held). table.Holds t' l ↔ IsAmong (held l.range l.mode) ls) (sym (taken_push h e l.tx ∙ goes l.tx (taken_locks h l.tx))) (by (eqb tx l.tx) refl)
    where
      by : (b : Bool) → eqb tx l.tx ≡ b → table.Holds t' l ↔ IsAmong (held l.range l.mode) (cond b [] (taken_locks h l.tx))
      by true e = (λ now. absurd (((free l).0 now).0 (sym (eqb-true tx l.tx e))), λ among. absurd among)
      by false e = (λ now. (k.locks l).0 ((free l).0 now).1, λ among. (free l).1 (λ same. absurd (differ tx l.tx e (sym same)), (k.locks l).1 among))

  longer : (lsn : ℕ) (r : Record) → h' ≡ h ++ entries.Rec lsn r ∷ [] → (opening : List Record) → length (life_log opening h') ≡ length (life_log opening h) + 1
  longer lsn r now opening = ap (λ (l : List Record). length l) (ap (life_log opening) now ∙ log_more opening h lsn r) ∙ length-append (life_log opening h) (r ∷ [])

  -- by a record a live transaction is over, with the room for its commit or without
  pub places_over : (lsn : ℕ) (r : Record) → h' ≡ h ++ entries.Rec lsn r ∷ [] → live_count h' + 1 ≡ live_count h → m.spare ≤ m'.spare + 1 → HasPlaces opens h' m'.spare
  places_over lsn r now live spare = record {
    commits = let c = k.places.commits in omega (arith, c, spare, live);
    numbers = λ opening stands. let n = k.places.numbers opening stands in omega (arith, n, live, longer lsn r now opening);
  }

  -- as many are live behind it
  pub places_same : (lsn : ℕ) (r : Record) → h' ≡ h ++ entries.Rec lsn r ∷ [] → (live_count h' ≡ live_count h) × (live_count h ≤ 64) → m'.spare ≡ m.spare → IsNext opens h lsn → HasPlaces opens h' m'.spare
  places_same lsn r now live spare next = record {
    commits = let c = k.places.commits in let same = live.0 in omega (arith, c, spare, same);
    numbers = λ opening stands.
        let at = (next opening stands).0 in
        let low = (next opening stands).1 in
        let same = live.0 in
        let most = live.1 in
        omega (arith, at, low, same, most, longer lsn r now opening);
  }

  -- a record by which a transaction is over
  pub life_over : (t' : RangeLocks) (lsn tx : ℕ) (r : Record) → LetsGo tx (entries.Rec lsn r) → h' ≡ h ++ entries.Rec lsn r ∷ [] → table.Releases t t' tx → HasPlaces opens h' m'.spare → m'.log.places ≡ m.log.places → m'.log.ended ≡ m.log.ended
      → ((opening : List Record) → opens opening → IsLogWith tells told may_leave (may_go_on opening) (life_log opening h ++ r ∷ []) m' s') → IsOfLife opens tells told may_leave h' m' s' t' mark
  life_over t' lsn tx r goes now free room places ended records =
      let log : (opening : List Record) → life_log opening h' ≡ life_log opening h ++ r ∷ [] = λ opening. ap (life_log opening) now ∙ log_more opening h lsn r in
      record {
        records = λ opening stands. subst (λ (l : List Record). IsLogWith tells told may_leave (may_go_on opening) l m' s') (sym (log opening)) (records opening stands);
        locks = subst (λ (l : List Entry). AreHeld l t') (sym now) (released t' (entries.Rec lsn r) tx goes free);
        telling = k.telling;
        places = room;
        durable = λ opening stands tell. subst (λ ps. mark ≤ durable_lsn ps) (sym places) (k.durable opening stands tell);
      }

  pub life_commit : (t' : RangeLocks) (lsn tx prev : ℕ) → h' ≡ h ++ commit_entry lsn tx prev ∷ [] → table.Releases t t' tx → live_count h' + 1 ≡ live_count h → m'.spare + 1 ≡ m.spare → m'.log.places ≡ m.log.places → m'.log.ended ≡ m.log.ended
      → ((opening : List Record) → opens opening → IsLogWith tells told may_leave (may_go_on opening) (life_log opening h ++ kinds.Commit (record { tx = tx; prev = prev }) ∷ []) m' s') → IsOfLife opens tells told may_leave h' m' s' t' mark
  life_commit t' lsn tx prev now free live spare places ended records =
      let r : Record = kinds.Commit (record { tx = tx; prev = prev }) in
      life_over t' lsn tx r (λ u ls. refl) now free (places_over lsn r now live (omega (arith, spare))) places ended records

-- ---- a flush

pub life_flush : {D : Type 0} (opens : List Record → Type 0) (tells : Type 0) (told : D → Kept) (may_leave : D → Kept → Type 0) (h : List Entry) (m m' : Managed D) (s s' : Listing) (t : RangeLocks) (mark mark' durable : ℕ)
    → IsOfLife opens tells told may_leave h m s t mark → m.log.ended ≡ None → ((goes : ℕ → Bool) (rs : List Record) → IsLogWith tells told may_leave goes rs m s → IsLogWith tells told may_leave goes rs m' s') → m'.spare ≡ m.spare
    → ((goes : ℕ → Bool) (rs : List Record) → IsLogWith tells told may_leave goes rs m s → tells → m.log.ended ≡ None → durable_lsn m.log.places ≤ durable_lsn m'.log.places)
    → durable ≡ durable_lsn m'.log.places → (mark' ≡ mark) ⊎ (mark' ≡ durable) → IsOfLife opens tells told may_leave h m' s' t mark'
life_flush opens tells told may_leave h m m' s s' t mark mark' durable k runs same spare rises is marked = record {
  records = λ opening stands. same (may_go_on opening) (life_log opening h) (k.records opening stands);
  locks = k.locks;
  telling = k.telling;
  places = record { commits = subst (λ n. live_count h ≤ n) (sym spare) k.places.commits; numbers = k.places.numbers };
  durable = λ opening stands tell.
      let more = rises (may_go_on opening) (life_log opening h) (k.records opening stands) tell runs in
      let was = k.durable opening stands tell in
      elim marked [
        | inl old ↦ omega (arith, old, was, more)
        | inr new ↦ omega (arith, new, is)
      ];
}

-- ---- behind a commit

-- the transaction is acknowledged, and no other one waits
pub ends_acknowledged : (ended : Option ℕ) (h h1 h2 : List Entry) (faults faults' lsn session tx prev : ℕ) → EndsByFault ended h faults → h1 ≡ h ++ commit_entry lsn tx prev ∷ [] → h2 ≡ h1 ++ entries.Acked session tx ∷ [] → faults' ≡ faults → (ended2 : Option ℕ) → ended2 ≡ ended → EndsByFault ended2 h2 faults'
ends_acknowledged ended h h1 h2 faults faults' lsn session tx prev k first second same ended2 still = record {
  acknowledged = λ runs t is.
      let now : phase h2 t ≡ cond (eqb tx t) Acknowledged (cond (eqb tx t) Committed (phase h t)) =
      ap (λ l. phase l t) second ∙ phase_push h1 (entries.Acked session tx) t ∙ ap (λ (p : Phase). cond (eqb tx t) Acknowledged p) (ap (λ l. phase l t) first ∙ phase_push h (commit_entry lsn tx prev) t) in
      by (eqb tx t) (phase h t) (k.acknowledged (sym still ∙ runs) t) (sym now ∙ is);
  none = λ runs. same ∙ k.none (sym still ∙ runs);
  one = λ over. subst (λ n. 0 < n) (sym same) (k.one (ap is_some (sym still) ∙ over));
}
  where
    by : (b : Bool) (p : Phase) → p ≢ Committed → cond b Acknowledged (cond b Committed p) ≡ Committed → ⊥
    by true p waits e = absurd (cc e)
    by false p waits e = waits e

-- ---- whole steps

module _ {D : Type 0} (opens : List Record → Type 0) (tells : Type 0) (told : D → Kept) (may_leave : D → Kept → Type 0) (h h' : List Entry) (m m' : Managed D) (s s' : Listing) (t t' : RangeLocks) (mark faults faults' : ℕ) (k : IsKept opens tells told may_leave h m s t mark faults) (same : faults' ≡ faults) where
  pub kept_begin : (session : ℕ) (result : Result ℕ Fault) → m'.log ≡ m.log → HasOneMore m.spare m'.spare → s' ≡ s → m.log.next - 1 < 2 ^ 62 → h' ≡ h ++ begun session result
      → OnOk result ((live_count h' ≡ live_count h + 1) × (live_count h' ≤ 64)) → IsKept opens tells told may_leave h' m' s' t mark faults'
  kept_begin session result same_log room listing few now live = record {
    life = life_begin opens tells told may_leave h h' m m' s s' t mark k.life session result same_log room listing few now live;
    ends = subst (λ (e : Option ℕ). EndsByFault e h' faults') (sym (ap (λ (x : LogState D). x.ended) same_log)) (by result now);
  }
    where
      by : (result : Result ℕ Fault) → h' ≡ h ++ begun session result → EndsByFault m.log.ended h' faults'
      by (Ok tx) now = ends_entry m.log.ended h h' faults faults' (entries.Began session tx) k.ends now same (began_stays session tx)
      by (Err fault) now = subst (λ (x : List Entry × ℕ). EndsByFault m.log.ended x.0 x.1) (λ i. (sym (now ∙ append-nil h) i, sym same i)) k.ends

  -- an entry that is no record, and by which no commit waits
  pub kept_entry : (e : Entry) → h' ≡ h ++ e ∷ [] → log_of (e ∷ []) ≡ [] → AreHeld (h ++ e ∷ []) t' → live_count h' ≡ live_count h → StaysAcknowledged e → IsKept opens tells told may_leave h' m s t' mark faults'
  kept_entry e now none locks live stays = record {
    life = life_entry opens tells told may_leave h h' m m s s t mark k.life t' e now none locks live;
    ends = ends_entry m.log.ended h h' faults faults' e k.ends now same stays;
  }

  -- a group by which no transaction ends
  pub kept_group : (lsn : ℕ) (recs : List Record) (said : Option Said) → h' ≡ h ++ group_entries lsn recs said → list_all is_still recs ≡ true → length recs ≤ 2 → m'.log.ended ≡ m.log.ended → m'.log.places ≡ m.log.places → m'.spare ≡ m.spare
      → (live_count h' ≡ live_count h) × (live_count h ≤ 64) → IsNext opens h lsn
      → ((opening : List Record) → opens opening → IsLogWith tells told may_leave (may_go_on opening) (life_log opening h ++ recs) m' s') → IsKept opens tells told may_leave h' m' s' t mark faults'
  kept_group lsn recs said now still few ended places spare live next records = record {
    life = life_group opens tells told may_leave h h' m m' s s' t mark k.life lsn recs said now still few ended places spare live next records;
    ends = record {
      acknowledged = λ runs u is. k.ends.acknowledged (sym ended ∙ runs) u (sym (ap (λ l. phase l u) now ∙ phases_group h lsn recs said still u) ∙ is);
      none = λ runs. same ∙ k.ends.none (sym ended ∙ runs);
      one = λ over. subst (λ n. 0 < n) (sym same) (k.ends.one (ap is_some (sym ended) ∙ over));
    };
  }

  -- the End of a transaction
  over_kept : (lsn : ℕ) (end : End) → h' ≡ h ++ entries.Rec lsn (kinds.End end) ∷ [] → table.Releases t t' end.tx → HasPlaces opens h' m'.spare → m'.log.places ≡ m.log.places → m'.log.ended ≡ m.log.ended
      → ((opening : List Record) → opens opening → IsLogWith tells told may_leave (may_go_on opening) (life_log opening h ++ kinds.End end ∷ []) m' s') → IsKept opens tells told may_leave h' m' s' t' mark faults'
  over_kept lsn end now free room places ended records = record {
    life = life_over opens tells told may_leave h h' m m' s s' t mark k.life t' lsn end.tx (kinds.End end) (λ u ls. refl) now free room places ended records;
    ends = subst (λ (e : Option ℕ). EndsByFault e h' faults') (sym ended) (ends_entry m.log.ended h h' faults faults' (entries.Rec lsn (kinds.End end)) k.ends now same (end_stays lsn end));
  }

  -- of a live one
  pub kept_end : (lsn : ℕ) (end : End) → h' ≡ h ++ entries.Rec lsn (kinds.End end) ∷ [] → table.Releases t t' end.tx → live_count h' + 1 ≡ live_count h → m'.spare ≡ m.spare → m'.log.places ≡ m.log.places → m'.log.ended ≡ m.log.ended
      → ((opening : List Record) → opens opening → IsLogWith tells told may_leave (may_go_on opening) (life_log opening h ++ kinds.End end ∷ []) m' s') → IsKept opens tells told may_leave h' m' s' t' mark faults'
  kept_end lsn end now free live spare places ended records =
      over_kept lsn end now free (places_over opens tells told may_leave h h' m m' s s' t mark k.life lsn (kinds.End end) now live (omega (arith, spare))) places ended records

  -- of a loser
  pub kept_loser_end : (lsn : ℕ) (end : End) → h' ≡ h ++ entries.Rec lsn (kinds.End end) ∷ [] → table.Releases t t' end.tx → (live_count h' ≡ live_count h) × (live_count h ≤ 64) → IsNext opens h lsn → m'.spare ≡ m.spare
      → m'.log.places ≡ m.log.places → m'.log.ended ≡ m.log.ended → ((opening : List Record) → opens opening → IsLogWith tells told may_leave (may_go_on opening) (life_log opening h ++ kinds.End end ∷ []) m' s') → IsKept opens tells told may_leave h' m' s' t' mark faults'
  kept_loser_end lsn end now free live next spare places ended records =
      over_kept lsn end now free (places_same opens tells told may_leave h h' m m' s s' t mark k.life lsn (kinds.End end) now live spare next) places ended records

  -- the log went on by nothing, or its disk is as before
  pub kept_refused : h' ≡ h → m'.spare ≡ m.spare → m'.log.places ≡ m.log.places → m'.log.ended ≡ m.log.ended → ((opening : List Record) → opens opening → IsLogWith tells told may_leave (may_go_on opening) (life_log opening h) m' s') → IsKept opens tells told may_leave h' m' s' t mark faults'
  kept_refused now spare places ended records = subst (λ (x : List Entry × ℕ). IsKept opens tells told may_leave x.0 m' s' t mark x.1) (λ i. (sym now i, sym same i)) (record {
    life = record {
      records = records;
      locks = k.life.locks;
      telling = k.life.telling;
      places = record { commits = let c = k.life.places.commits in omega (arith, c, spare); numbers = k.life.places.numbers };
      durable = λ opening stands tell. subst (λ ps. mark ≤ durable_lsn ps) (sym places) (k.life.durable opening stands tell);
    };
    ends = record {
      acknowledged = λ runs. k.ends.acknowledged (sym ended ∙ runs);
      none = λ runs. k.ends.none (sym ended ∙ runs);
      one = λ over. k.ends.one (ap is_some (sym ended) ∙ over);
    };
  })

  -- where nothing is entered, the locks may stand otherwise in their table
  pub kept_locks : h' ≡ h → table.HoldsTheSame t t' → IsKept opens tells told may_leave h' m s t' mark faults'
  kept_locks now held = subst (λ (x : List Entry × ℕ). IsKept opens tells told may_leave x.0 m s t' mark x.1) (λ i. (sym now i, sym same i)) (record {
    life = record { records = k.life.records; locks = held_same h t k.life.locks t' held; telling = k.life.telling; places = k.life.places; durable = k.life.durable };
    ends = k.ends;
  })

-- a call of the log's disk that enters nothing
goes_on : (was ended : Option ℕ) (h : List Entry) (faults before faults' : ℕ) (old new : Account) → EndsByFault was h faults → was ≡ None → before ≡ faults → GoesOn ended before faults' old new → EndsByFault ended h faults'
goes_on was ended h faults before faults' old new k runs same g = record {
  acknowledged = λ _. k.acknowledged runs;
  none = λ _. g.faults ∙ same ∙ k.none runs;
  one = λ over. absurd (cc (over, ap is_some g.runs));
}

ends_call : {A : Type 0} (was ended : Option ℕ) (h : List Entry) (faults before faults' : ℕ) (old new : Account) (result : Result A Fault) → EndsByFault was h faults → was ≡ None → before ≡ faults → EndsCall ended before faults' old new result → EndsByFault ended h faults'
ends_call was ended h faults before faults' old new (Ok x) k runs same g = goes_on was ended h faults before faults' old new k runs same g
ends_call was ended h faults before faults' old new (Err answers.LogFault) k runs same b = ends_failed ended h before faults' b.over b.faults
ends_call was ended h faults before faults' old new (Err _) k runs same g = goes_on was ended h faults before faults' old new k runs same g

pub kept_call : {D A : Type 0} (opens : List Record → Type 0) (tells : Type 0) (told : D → Kept) (may_leave : D → Kept → Type 0) (h h' : List Entry) (m m' : Managed D) (s s' : Listing) (t : RangeLocks) (mark faults before faults' : ℕ)
    → IsKept opens tells told may_leave h m s t mark faults → h' ≡ h → before ≡ faults → m.log.ended ≡ None → ((goes : ℕ → Bool) (rs : List Record) → IsLogWith tells told may_leave goes rs m s → IsLogWith tells told may_leave goes rs m' s') → m'.spare ≡ m.spare
    → ((goes : ℕ → Bool) (rs : List Record) → IsLogWith tells told may_leave goes rs m s → tells → m.log.ended ≡ None → durable_lsn m.log.places ≤ durable_lsn m'.log.places)
    → (old new : Account) (result : Result A Fault) → EndsCall m'.log.ended before faults' old new result → IsKept opens tells told may_leave h' m' s' t mark faults'
kept_call opens tells told may_leave h h' m m' s s' t mark faults before faults' k now same runs records spare rises old new result ends =
    subst (λ (l : List Entry). IsKept opens tells told may_leave l m' s' t mark faults') (sym now) (record {
      life = life_flush opens tells told may_leave h m m' s s' t mark mark (durable_lsn m'.log.places) k.life runs records spare rises refl (inl refl);
      ends = ends_call m.log.ended m'.log.ended h faults before faults' old new result k.ends runs same ends;
    })

-- passes are told how far it is durable
pub kept_told : {D : Type 0} (opens : List Record → Type 0) (tells : Type 0) (told : D → Kept) (may_leave : D → Kept → Type 0) (h : List Entry) (m : Managed D) (s : Listing) (t : RangeLocks) (mark mark' durable faults : ℕ)
    → IsKept opens tells told may_leave h m s t mark faults → durable ≡ durable_lsn m.log.places → (mark' ≡ mark) ⊎ (mark' ≡ durable) → IsKept opens tells told may_leave h m s t mark' faults
kept_told opens tells told may_leave h m s t mark mark' durable faults k is marked = record {
  life = record {
    records = k.life.records;
    locks = k.life.locks;
    telling = k.life.telling;
    places = k.life.places;
    durable = λ opening stands tell.
        let was = k.life.durable opening stands tell in
        elim marked [
          | inl old ↦ omega (arith, old, was)
          | inr new ↦ omega (arith, new, is)
        ];
  };
  ends = k.ends;
}

-- the disk's fuse changes nothing of it
pub kept_fused : {D : Type 0} (opens : List Record → Type 0) (tells : Type 0) (told : D → Kept) (may_leave : D → Kept → Type 0) (h : List Entry) (m m' : Managed D) (s s' : Listing) (t : RangeLocks) (mark faults : ℕ)
    → IsKept opens tells told may_leave h m s t mark faults → ((goes : ℕ → Bool) (rs : List Record) → IsLogWith tells told may_leave goes rs m s → IsLogWith tells told may_leave goes rs m' s') → m'.spare ≡ m.spare → m'.log.places ≡ m.log.places → m'.log.ended ≡ m.log.ended
    → IsKept opens tells told may_leave h m' s' t mark faults
kept_fused opens tells told may_leave h m m' s s' t mark faults k same spare places ended = record {
  life = record {
    records = λ opening stands. same (may_go_on opening) (life_log opening h) (k.life.records opening stands);
    locks = k.life.locks;
    telling = k.life.telling;
    places = record { commits = subst (λ n. live_count h ≤ n) (sym spare) k.life.places.commits; numbers = k.life.places.numbers };
    durable = λ opening stands tell. subst (λ ps. mark ≤ durable_lsn ps) (sym places) (k.life.durable opening stands tell);
  };
  ends = subst (λ (e : Option ℕ). EndsByFault e h faults) (sym ended) k.ends;
}
