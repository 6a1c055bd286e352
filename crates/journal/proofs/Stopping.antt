-- What of the life's log is durable, behind each kind of step, and what a stop leaves.
use Rattle.std.proofs.Common.{◌≡◌, ℕ, eqb, suc, ◌≤◌, List, [], ◌∷◌, ◌++◌, length, take, Option, Some, None, Bool, true, false, refl, sym, ap, ◌∙◌, subst, arith, append-nil}
use Rattle.std.specs.Prelude.{◌||◌, Result, Ok, Err, is_some}
use Rattle.std.specs.List.{list_any}
use Rattle.std.proofs.lemmas.List.Folds.{list_any-append}
use Rattle.log_blocks.specs.LogState.{LogState, durable_lsn}
use Rattle.log_index.specs.GoingOn.{may_go_on}
use Rattle.log_index.specs.declared.listing.Listing.{Listing}
use Rattle.log_manager.specs.Devices.{IsEnough}
use Rattle.log_manager.specs.Groups.{HoldGroups}
use Rattle.log_manager.specs.Managed.{Managed, first_kept}
use Rattle.media.specs.Kept.{Kept}
use Rattle.page_ops.specs.Groups.{group_entries, record_entries, said_entries}
use Rattle.page_ops.specs.Outcomes.{begun}
use Rattle.page_ops.specs.Seeing.{IsConsistent}
use Rattle.page_ops.specs.declared.group.Said.{Said}
use Rattle.store_model.specs.declared.fault.Fault.{Fault}
use Rattle.wal_record.specs.History.{life_log, log_of}
use Rattle.wal_record.specs.Left.{acknowledges, is_commit_of}
use Rattle.wal_record.specs.Sound.{HasRoom}
use Rattle.wal_record.specs.declared.entry.Entry.{Entry}
use Rattle.wal_record.specs.declared.entry.Entry.TheVariants as entries
use Rattle.wal_record.specs.declared.record.Record.{Record}
use Rattle.wal_record.specs.declared.record.Record.TheVariants as kinds
use Rattle.wal_record.proofs.Pushes.{log_more}
use Rattle.life_history.proofs.Grouped.{log_group}
use Rattle.log_laws.proofs.Central.{eqb_self}
use Rattle.stop_laws.specs.Stops.{GoesOnOrEnds, HasAcknowledged, KeepsFirst, WaitsInGroups}
use Rattle.stop_laws.proofs.Safe.{leaves_life, logs_append, safe_acked, safe_call, safe_entry, safe_records, safe_still}
use Rattle.listed_log.specs.Listed.{IsLogWith}
use Rattle.journal.specs.Kept.{AreRecords, IsTold}
use Rattle.journal.specs.Stops.{AreSafe, Leaves}

-- ---- entries that acknowledge no commit

records_quiet : (t lsn : ℕ) (recs : List Record) → list_any (acknowledges t) (record_entries lsn recs) ≡ false
records_quiet t lsn [] = refl
records_quiet t lsn (r ∷ recs) = records_quiet t (suc lsn) recs

said_quiet : (t : ℕ) (said : Option Said) → list_any (acknowledges t) (said_entries said) ≡ false
said_quiet t None = refl
said_quiet t (Some s) = refl

group_quiet : (t lsn : ℕ) (recs : List Record) (said : Option Said) → list_any (acknowledges t) (group_entries lsn recs said) ≡ false
group_quiet t lsn recs said = list_any-append (acknowledges t) (record_entries lsn recs) (said_entries said) ∙ (λ i. records_quiet t lsn recs i || said_quiet t said i)

records_logged : (lsn : ℕ) (recs : List Record) → log_of (record_entries lsn recs) ≡ recs
records_logged lsn [] = refl
records_logged lsn (r ∷ recs) = ap (λ (rs : List Record). r ∷ rs) (records_logged (suc lsn) recs)

said_logged : (said : Option Said) → log_of (said_entries said) ≡ []
said_logged None = refl
said_logged (Some s) = refl

group_logged : (lsn : ℕ) (recs : List Record) (said : Option Said) → log_of (group_entries lsn recs said) ≡ recs
group_logged lsn recs said = logs_append (record_entries lsn recs) (said_entries said) ∙ (λ i. records_logged lsn recs i ++ said_logged said i) ∙ append-nil recs

-- ---- steps

module _ {D : Type 0} (opens : List Record → Type 0) (told : D → Kept) (may_leave : D → Kept → Type 0) (h h' : List Entry) (log log' : LogState D) (s : AreSafe opens told may_leave h log) where
  pub still_safe : h' ≡ h → log' ≡ log → AreSafe opens told may_leave h' log'
  still_safe now same opening stands = safe_still told may_leave opening h h' log log' (s opening stands) now same

  pub entry_safe : (e : Entry) → h' ≡ h ++ e ∷ [] → log_of (e ∷ []) ≡ [] → ((t : ℕ) → acknowledges t e ≡ false) → log' ≡ log → AreSafe opens told may_leave h' log'
  entry_safe e now none quiet same opening stands = safe_entry told may_leave opening h h' log log' (s opening stands) e now none quiet same

  pub begun_safe : (session : ℕ) (result : Result ℕ Fault) → h' ≡ h ++ begun session result → log' ≡ log → AreSafe opens told may_leave h' log'
  begun_safe session (Ok tx) now same = entry_safe (entries.Began session tx) now refl (λ t. refl) same
  begun_safe session (Err fault) now same = still_safe (now ∙ append-nil h) same

  -- a commit that stands in the log is acknowledged once all is durable
  pub acked_safe : (session tx : ℕ) → h' ≡ h ++ entries.Acked session tx ∷ [] → log' ≡ log → log.ended ≡ None → ((opening : List Record) → opens opening → list_any (is_commit_of tx) (life_log opening h) ≡ true)
      → ((opening : List Record) → opens opening → length (life_log opening h) ≤ durable_lsn log.places) → AreSafe opens told may_leave h' log'
  acked_safe session tx now same goes there all opening stands = safe_acked told may_leave opening h h' log log' (s opening stands) session tx now same goes (there opening stands) (all opening stands)

module _ {D : Type 0} (opens : List Record → Type 0) (tells : Type 0) (told : D → Kept) (may_leave : D → Kept → Type 0) (h h' : List Entry) (m m' : Managed D) (l : Listing) (records : AreRecords opens tells told may_leave h m l) (telling : IsTold opens tells) (s : AreSafe opens told may_leave h m.log) where
  -- a group joins the log
  pub group_safe : (lsn : ℕ) (recs : List Record) (said : Option Said) → h' ≡ h ++ group_entries lsn recs said → IsConsistent opens (h ++ group_entries lsn recs said) → m'.log.device ≡ m.log.device → m'.log.places ≡ m.log.places → m'.log.ended ≡ m.log.ended
      → ((goes : ℕ → Bool) (rs : List Record) → IsLogWith tells told may_leave goes rs m l → tells → m.log.ended ≡ None → WaitsInGroups m.log rs → HasRoom (rs ++ recs) → WaitsInGroups m'.log (rs ++ recs)) → AreSafe opens told may_leave h' m'.log
  group_safe lsn recs said now consistent device places ended joins opening stands =
      let sound = consistent.sound opening stands in
      let room = subst HasRoom (log_group opening h lsn recs said) sound.room in
      safe_records told may_leave opening h h' m.log m'.log (s opening stands) (group_entries lsn recs said) recs now (group_logged lsn recs said) (λ t. group_quiet t lsn recs said) device places ended
      (λ goes w. joins (may_go_on opening) (life_log opening h) (records opening stands) (telling opening stands) goes w room)

  -- a call of the disk, which goes well or fails
  pub call_safe : h' ≡ h → m.log.ended ≡ None
      → ((goes : ℕ → Bool) (rs : List Record) → IsLogWith tells told may_leave goes rs m l → tells → m.log.ended ≡ None → WaitsInGroups m.log rs → GoesOnOrEnds told may_leave rs m.log m'.log) → AreSafe opens told may_leave h' m'.log
  call_safe now goes left opening stands =
      safe_call told may_leave opening h h' m.log m'.log (s opening stands) now (left (may_go_on opening) (life_log opening h) (records opening stands) (telling opening stands) goes ((s opening stands).runs goes))

  -- ---- a stop

  pub leaves : (disk : D) (number : ℕ) → disk ≡ m.log.device → ((opening : List Record) → opens opening → tells → number ≤ durable_lsn m.log.places)
      → ((goes : ℕ → Bool) (rs : List Record) → IsLogWith tells told may_leave goes rs m l → tells → m.log.ended ≡ None → WaitsInGroups m.log rs → KeepsFirst told may_leave rs (durable_lsn m.log.places) disk) → Leaves opens told may_leave h number disk
  leaves disk number is low live opening stands =
      let safe = s opening stands in
      let k = records opening stands in
      leaves_life told may_leave opening h disk (durable_lsn m.log.places) number safe.begins safe.acknowledged k.lawful (low opening stands (telling opening stands)) (by m.log.ended refl)
    where
      by : (o : Option ℕ) → m.log.ended ≡ o → KeepsFirst told may_leave (life_log opening h) (durable_lsn m.log.places) disk
      by None e = live (may_go_on opening) (life_log opening h) (records opening stands) (telling opening stands) e ((s opening stands).runs e)
      by (Some at) e = subst (KeepsFirst told may_leave (life_log opening h) (durable_lsn m.log.places)) (sym is) ((s opening stands).ends (ap is_some e))

  -- the fuse changes nothing of it
  pub fused_safe : m'.log ≡ record m.log { device = m'.log.device } → ((rs : List Record) (least : ℕ) → tells → KeepsFirst told may_leave rs least m.log.device → KeepsFirst told may_leave rs least m'.log.device) → AreSafe opens told may_leave h m'.log
  fused_safe same keeps opening stands =
      let safe = s opening stands in
      let durable : durable_lsn m'.log.places ≡ durable_lsn m.log.places = ap (λ (x : LogState D). durable_lsn x.places) same in
      let ended : m'.log.ended ≡ m.log.ended = ap (λ (x : LogState D). x.ended) same in
      let first = safe.begins in
      let within = safe.within in
      record {
        begins = omega (arith, first, durable);
        within = omega (arith, within, durable);
        acknowledged = subst (λ (n : ℕ). HasAcknowledged h (take n (life_log opening h))) (sym durable) safe.acknowledged;
        runs = λ goes.
            let w = safe.runs (sym ended ∙ goes) in
            record {
              stable = w.stable;
              groups = w.groups;
              is = w.is;
              durable = w.durable ∙ sym durable;
              held = subst (λ (x : LogState D). HoldGroups x.pending w.groups) (sym same) w.held;
              room = w.room;
              enough = subst (λ (x : LogState D). IsEnough w.stable (first_kept x)) (sym same) w.enough;
            };
        ends = λ over. subst (λ (n : ℕ). KeepsFirst told may_leave (life_log opening h) n m'.log.device) (sym durable) (keeps (life_log opening h) (durable_lsn m.log.places) (telling opening stands) (safe.ends (ap is_some (sym ended) ∙ over)));
      }

-- ---- a commit

-- the Commit stands in the log behind it
pub commit_there : (opening : List Record) (h h' : List Entry) (lsn tx prev : ℕ) → h' ≡ h ++ entries.Rec lsn (kinds.Commit (record { tx = tx; prev = prev })) ∷ [] → list_any (is_commit_of tx) (life_log opening h') ≡ true
commit_there opening h h' lsn tx prev now =
    ap (λ (x : List Entry). list_any (is_commit_of tx) (life_log opening x)) now ∙ ap (list_any (is_commit_of tx)) (log_more opening h lsn (kinds.Commit (record { tx = tx; prev = prev })))
    ∙ list_any-append (is_commit_of tx) (life_log opening h) (kinds.Commit (record { tx = tx; prev = prev }) ∷ [])
    ∙ either (list_any (is_commit_of tx) (life_log opening h)) (eqb tx tx) (eqb_self tx)
  where
    either : (a b : Bool) → b ≡ true → (a || (b || false)) ≡ true
    either true b e = refl
    either false true e = refl
    either false false e = absurd (cc e)
