-- A commit, as it is entered: what the journal keeps behind each of its calls, and what the caller knows then.
use Rattle.std.proofs.Common.{◌≡◌, ℕ, cond, ◌+◌, ◌≤◌, ◌<◌, ◌^◌, List, [], ◌∷◌, ◌++◌, length, None, Bool, true, false, refl, sym, ap, ◌∙◌, subst, inl, inr, arith, length-append}
use Rattle.std.specs.Prelude.{◌⊎◌, is_some, is_err, IfErr, OnOk, Result, Ok, Err}
use Rattle.std.specs.List.{list_any}
use Rattle.books.specs.Rights.{SessionClaim}
use Rattle.front.specs.Seen.{PassSeen}
use Rattle.front.proofs.Keeping.{prefix_self}
use Rattle.log_blocks.specs.LogState.{LogState, Refused, durable_lsn}
use Rattle.log_index.specs.GoingOn.{may_go_on}
use Rattle.log_index.specs.declared.listing.Listing.{Listing}
use Rattle.log_manager.specs.Managed.{Managed}
use Rattle.media.specs.Kept.{Kept}
use Rattle.range_lock.specs.Held as table
use Rattle.range_lock.specs.declared.range_locks.RangeLocks.{RangeLocks}
use Rattle.store_model.specs.declared.fault.Fault.{Fault}
use Rattle.store_model.specs.declared.fault.Fault.TheVariants as faults
use Rattle.wal_record.specs.Chains.{finishes, last}
use Rattle.wal_record.specs.Checkpoints.{commits}
use Rattle.wal_record.specs.History.{life_log, live_count, Committed, phase}
use Rattle.wal_record.specs.Sound.{AreLawful, HasRoom}
use Rattle.wal_record.specs.declared.record.Record.{Record}
use Rattle.wal_record.specs.declared.record.Record.TheVariants as kinds
use Rattle.wal_record.specs.declared.entry.Entry.{Entry}
use Rattle.wal_record.specs.declared.entry.Entry.TheVariants as entries
use Rattle.wal_record.proofs.Pushes.{log_more, log_same, phase_push}
use Rattle.log_laws.proofs.Central.{eqb_self}
use Rattle.claim_laws.proofs.Filling.{last_in}
use Rattle.page_ops.specs.Causes.{IsOpen}
use Rattle.page_ops.specs.Claims.{SessionAgrees, session_alone}
use Rattle.page_ops.specs.Names.{LedgerName}
use Rattle.page_ops.specs.Outcomes.{Commits, MayCommit}
use Rattle.page_ops.specs.Seeing.{Account, known, Enters, IsConsistent, of_sessions}
use Rattle.page_ops.specs.declared.outcome.Committed as answers
use Rattle.life_history.specs.Kept.{commit_entry, counted_more}
use Rattle.life_history.proofs.Entries.{entered_own}
use Rattle.listed_log.specs.Listed.{IsLogWith}
use Rattle.stop_laws.specs.Stops.{GoesOnOrEnds, WaitsInGroups}
use Rattle.journal.specs.Ends.{IsFailed}
use Rattle.journal.specs.Stops.{AreSafe}
use Rattle.journal.specs.Kept.{IsOfLife, EndsByFault, IsKept}
use Rattle.journal.proofs.Committing.{commit_spelled, goes_on, unfinished, commit_lawful, commit_consistent}
use Rattle.journal.proofs.Ending.{failed}
use Rattle.journal.proofs.Entering.{IsLive, entered_entry}
use Rattle.journal.proofs.Locking.{held_still}
use Rattle.journal.proofs.Stopping.{acked_safe, call_safe, commit_there, group_safe}
use Rattle.journal.proofs.Living.{life_entry, life_commit, life_flush, ends_acknowledged, ends_failed}

abbrev commit_of : ℕ → ℕ → Record
commit_of tx prev = kinds.Commit (record { tx = tx; prev = prev })

pub on_ok : {P : Type 0} (r : Result (Unit {0}) Fault) → is_err r ≡ false → OnOk r P → P
on_ok (Ok done) e is = is
on_ok (Err fault) e is = absurd (cc e)

-- a flush that fails ends the log
pub flush_ended : {D : Type 0} (F : D → ℕ) (old new : LogState D) (r : Result (Unit {0}) Fault) → is_err r ≡ true → IfErr r (Refused ⊥ F old new) → old.ended ≡ None → is_some new.ended ≡ true
flush_ended F old new (Ok done) e is runs = absurd (cc e)
flush_ended F old new (Err faults.LogFault) e is runs = ap is_some is.2
flush_ended F old new (Err (faults.Ended at)) e is runs = absurd (cc (is.0, runs))
flush_ended F old new (Err faults.Memory) e is runs = absurd is.0
flush_ended F old new (Err _) e is runs = absurd is

module _ {D : Type 0} (opens : List Record → Type 0) (tells : Type 0) (told : D → Kept) (may_leave : D → Kept → Type 0) (h0 h : List Entry) (m m1 m2 : Managed D) (s s1 s2 : Listing) (t : RangeLocks) (mark : ℕ)
    (k : IsOfLife opens tells told may_leave h0 m s t mark) (same : h ≡ h0) (x : SessionClaim) (l : IsLive opens h x) (tx prev lsn noted : ℕ) (own : tx ≡ x.tx) (small : x.tx ≤ 2 ^ 62) (low : prev < 2 ^ 63)
    (chain : (goes : ℕ → Bool) (rs : List Record) → IsLogWith tells told may_leave goes rs m s → goes tx ≡ true → list_any (finishes tx) rs ≡ false → noted ≡ last rs tx) (kept : noted < 2 ^ 63 → prev ≡ noted) (place : lsn ≡ m.log.next) where
  abbrev commit : Entry
  commit = commit_entry lsn x.tx prev

  prev_is : (opening : List Record) → opens opening → prev ≡ last (life_log opening h) x.tx
  prev_is opening stands =
      let over = unfinished opens h l.consistent x l.agrees l.some l.live opening stands in
      let runs : list_any (finishes tx) (life_log opening h0) ≡ false = (λ i. list_any (finishes (own i)) (life_log opening (sym same i))) ∙ over in
      let is = chain (may_go_on opening) (life_log opening h0) (k.records opening stands) (subst (λ (n : ℕ). may_go_on opening n ≡ true) (sym own) (goes_on opens h l.consistent x l.agrees l.some l.live opening stands)) runs in
      let within = last_in tx (life_log opening h0) in
      let few = k.places.numbers opening stands in
      kept (omega (arith, is, within, few)) ∙ is ∙ (λ i. last (life_log opening (sym same i)) (own i))

  place_is : (opening : List Record) → opens opening → lsn ≡ length (life_log opening h) + 1
  place_is opening stands = let n = (k.records opening stands).next in omega (arith, place, n, ap (λ (y : List Entry). length (life_log opening y)) same)

  pub consistent_then : IsConsistent opens (h ++ commit ∷ [])
  consistent_then = commit_consistent opens h l.consistent x l.agrees l.some l.live lsn prev (commit_spelled x.tx prev l.some small low) prev_is place_is

  lawful_then : (opening : List Record) → opens opening → AreLawful (life_log opening h ++ commit_of x.tx prev ∷ [])
  lawful_then = commit_lawful opens h l.consistent x l.agrees l.some l.live lsn prev (commit_spelled x.tx prev l.some small low) prev_is place_is

  module _ (more : (goes : ℕ → Bool) (rs : List Record) → IsLogWith tells told may_leave goes rs m s → AreLawful (rs ++ commit_of tx prev ∷ []) → length rs < 2 ^ 63 → IsLogWith tells told may_leave goes (rs ++ commit_of tx prev ∷ []) m1 s1)
      (spare : m1.spare + 1 ≡ m.spare) (places : m1.log.places ≡ m.log.places) (ended : m1.log.ended ≡ m.log.ended) (t1 : RangeLocks) (free : table.Releases t t1 tx) (h1 : List Entry) (now : h1 ≡ h ++ commit ∷ []) (live : live_count h1 + 1 ≡ live_count h) where
    committed : IsOfLife opens tells told may_leave h1 m1 s1 t1 mark
    committed =
        life_commit opens tells told may_leave h0 h1 m m1 s s1 t mark k t1 lsn x.tx prev (now ∙ ap (λ y. y ++ commit ∷ []) same) (subst (table.Releases t t1) own free) (live ∙ ap live_count same) spare places ended (λ opening stands.
        let few = k.places.numbers opening stands in
        subst (λ n. IsLogWith tells told may_leave (may_go_on opening) (life_log opening h0 ++ commit_of n prev ∷ []) m1 s1) own
        (more (may_go_on opening) (life_log opening h0) (k.records opening stands)
        (subst (λ (y : List Entry × ℕ). AreLawful (life_log opening y.0 ++ commit_of y.1 prev ∷ [])) (λ i. (same i, sym own i)) (lawful_then opening stands)) (omega (arith, few))))

    module _ (runs : m.log.ended ≡ None) (flushed : (goes : ℕ → Bool) (rs : List Record) → IsLogWith tells told may_leave goes rs m1 s1 → IsLogWith tells told may_leave goes rs m2 s2) (spare2 : m2.spare ≡ m1.spare)
        (rises : (goes : ℕ → Bool) (rs : List Record) → IsLogWith tells told may_leave goes rs m1 s1 → tells → m1.log.ended ≡ None → durable_lsn m1.log.places ≤ durable_lsn m2.log.places) where
      flushed_life : (mark' durable : ℕ) → durable ≡ durable_lsn m2.log.places → (mark' ≡ mark) ⊎ (mark' ≡ durable) → IsOfLife opens tells told may_leave h1 m2 s2 t1 mark'
      flushed_life mark' durable is marked = life_flush opens tells told may_leave h1 m1 m2 s1 s2 t1 mark mark' durable committed (ended ∙ runs) flushed spare2 rises is marked

      -- the disk failed
      pub kept_failed : (faults' before : ℕ) → is_some m2.log.ended ≡ true → faults' ≡ before + 1 → (h2 : List Entry) → h2 ≡ h1 → IsKept opens tells told may_leave h2 m2 s2 t1 mark faults'
      kept_failed faults' before over one h2 still = subst (λ (y : List Entry). IsKept opens tells told may_leave y m2 s2 t1 mark faults') (sym still) (record {
        life = flushed_life mark (durable_lsn m2.log.places) refl (inl refl);
        ends = ends_failed m2.log.ended h1 before faults' over one;
      })

      -- the commit is acknowledged
      pub kept_acknowledged : (faults faults' mark' durable session : ℕ) → EndsByFault m.log.ended h0 faults → faults' ≡ faults → m2.log.ended ≡ None → durable ≡ durable_lsn m2.log.places → (mark' ≡ mark) ⊎ (mark' ≡ durable) → (h2 : List Entry) → h2 ≡ h1 ++ entries.Acked session x.tx ∷ [] → live_count h2 ≡ live_count h1
          → IsKept opens tells told may_leave h2 m2 s2 t1 mark' faults'
      kept_acknowledged faults faults' mark' durable session ends counted goes is marked h2 acked still =
          let first : h1 ≡ h0 ++ commit ∷ [] = now ∙ ap (λ y. y ++ commit ∷ []) same in
          let life = flushed_life mark' durable is marked in
          record {
            life = life_entry opens tells told may_leave h1 h2 m2 m2 s2 s2 t1 mark' life t1 (entries.Acked session x.tx) acked refl (held_still h1 t1 life.locks (entries.Acked session x.tx) (λ u ls. refl)) still;
            ends = ends_acknowledged m.log.ended h0 h1 h2 faults faults' lsn session x.tx prev ends first acked counted m2.log.ended (goes ∙ sym runs);
          }

      -- ---- the durable blocks

      pub rises_since : (opening : List Record) → opens opening → durable_lsn m1.log.places ≤ durable_lsn m2.log.places
      rises_since opening stands = rises (may_go_on opening) (life_log opening h1) (committed.records opening stands) (k.telling opening stands) (ended ∙ runs)

      -- the Commit was the last record
      pub all_stable : (session : ℕ) → lsn ≤ durable_lsn m2.log.places → (h2 : List Entry) → h2 ≡ h1 ++ entries.Acked session x.tx ∷ [] → (opening : List Record) → opens opening → length (life_log opening h2) ≤ durable_lsn m2.log.places
      all_stable session durable h2 acked opening stands =
          let at = place_is opening stands in
          let one : length (life_log opening h1) ≡ length (life_log opening h) + 1 = ap (λ (y : List Entry). length (life_log opening y)) now ∙ ap (λ (rs : List Record). length rs) (log_more opening h lsn (commit_of x.tx prev)) ∙ length-append (life_log opening h) (commit_of x.tx prev ∷ []) in
          let two : length (life_log opening h2) ≡ length (life_log opening h1) = ap (λ (y : List Entry). length (life_log opening y)) acked ∙ ap (λ (rs : List Record). length rs) (log_same opening h1 (entries.Acked session x.tx) refl) in
          omega (arith, at, one, two, durable)

      -- ---- what of the log is safe

      module _ (safe : AreSafe opens told may_leave h0 m.log) (device : m1.log.device ≡ m.log.device)
          (joins : (goes : ℕ → Bool) (rs : List Record) → IsLogWith tells told may_leave goes rs m s → tells → m.log.ended ≡ None → WaitsInGroups m.log rs → HasRoom (rs ++ commit_of tx prev ∷ []) → WaitsInGroups m1.log (rs ++ commit_of tx prev ∷ []))
          (left : (goes : ℕ → Bool) (rs : List Record) → IsLogWith tells told may_leave goes rs m1 s1 → tells → m1.log.ended ≡ None → WaitsInGroups m1.log rs → GoesOnOrEnds told may_leave rs m1.log m2.log) where
        committed_safe : AreSafe opens told may_leave h1 m1.log
        committed_safe =
            group_safe opens tells told may_leave h0 h1 m m1 s k.records k.telling safe lsn (commit_of x.tx prev ∷ []) None (now ∙ ap (λ (y : List Entry). y ++ commit ∷ []) same)
            (subst (λ (y : List Entry). IsConsistent opens (y ++ commit ∷ [])) same consistent_then) device places ended
            (subst (λ (n : ℕ). (goes : ℕ → Bool) (rs : List Record) → IsLogWith tells told may_leave goes rs m s → tells → m.log.ended ≡ None → WaitsInGroups m.log rs → HasRoom (rs ++ commit_of n prev ∷ []) → WaitsInGroups m1.log (rs ++ commit_of n prev ∷ [])) own joins)

        pub failed_safe : (h2 : List Entry) → h2 ≡ h1 → AreSafe opens told may_leave h2 m2.log
        failed_safe h2 still = call_safe opens tells told may_leave h1 h2 m1 m2 s1 committed.records committed.telling committed_safe still (ended ∙ runs) left

        pub acknowledged_safe : (session : ℕ) → m2.log.ended ≡ None → lsn ≤ durable_lsn m2.log.places → (h2 : List Entry) → h2 ≡ h1 ++ entries.Acked session x.tx ∷ [] → AreSafe opens told may_leave h2 m2.log
        acknowledged_safe session goes durable h2 acked =
            acked_safe opens told may_leave h1 h2 m2.log m2.log (failed_safe h1 refl) session x.tx acked refl goes (λ opening stands. commit_there opening h h1 lsn x.tx prev now)
            (λ opening stands.
            let at = place_is opening stands in
            let one : length (life_log opening h1) ≡ length (life_log opening h) + 1 = ap (λ (y : List Entry). length (life_log opening y)) now ∙ ap (λ (rs : List Record). length rs) (log_more opening h lsn (commit_of x.tx prev)) ∙ length-append (life_log opening h) (commit_of x.tx prev ∷ []) in
            omega (arith, at, one, durable))

      pub number_is : (number : ℕ) → ((goes : ℕ → Bool) (rs : List Record) → IsLogWith tells told may_leave goes rs m2 s2 → number ≡ commits rs) → (opening : List Record) → opens opening → number ≡ commits (life_log opening h1)
      number_is number counts opening stands = counts (may_go_on opening) (life_log opening h1) ((flushed_life mark (durable_lsn m2.log.places) refl (inl refl)).records opening stands)

-- the transaction waits for its acknowledgement
pub waits : (h h1 : List Entry) (lsn tx prev own : ℕ) → h1 ≡ h ++ commit_entry lsn tx prev ∷ [] → own ≡ tx → phase h1 own ≡ Committed
waits h h1 lsn tx prev own now same =
    ap (phase h1) same ∙ ap (λ y. phase y tx) now ∙ phase_push h (commit_entry lsn tx prev) tx ∙ ap (λ (c : Bool). cond c Committed (phase h tx)) (eqb_self tx)

-- ---- what the caller knows

module _ (opens : List Record → Type 0) (ledger sessions log_faults : LedgerName) (a0 a1 a2 a3 : Account) (s0 s1 : PassSeen Entry) (x0 x1 x3 : SessionClaim) (h h1 : List Entry) (lsn prev : ℕ)
    (first : Enters opens ledger sessions (known a0 s0 (session_alone x0)) [] (known a1 s1 (session_alone x1))) (account : a1 ≡ a0) (checked : a2 ≡ a1) (claim : x1 ≡ x0) (log : s1.log ≡ h)
    (now : h1 ≡ h ++ commit_entry lsn x0.tx prev ∷ []) (counts : a3 ≡ counted_more a2 1) (more : of_sessions h1 ≡ of_sessions h + 1) (consistent : IsConsistent opens (h ++ commit_entry lsn x0.tx prev ∷ [])) (agrees : SessionAgrees h1 x3) where
  entered : (s3 : PassSeen Entry) → s3.log ≡ h1 → s1.durable ≤ s3.durable → Enters opens ledger sessions (known a0 s0 (session_alone x0)) (commit_entry lsn x0.tx prev ∷ []) (known a3 s3 (session_alone x3))
  entered s3 seen later = entered_entry opens ledger sessions a0 a1 a2 a3 s0 s1 s3 x0 x1 x3 h h1 (commit_entry lsn x0.tx prev) first account checked claim log now seen later counts more consistent agrees

  pub may_commit : (s4 : PassSeen Entry) (a4 a5 : Account) → s4.log ≡ h1 → s1.durable ≤ s4.durable → IsOpen a0 → IsFailed a3 a4 → a5 ≡ a4 → MayCommit opens ledger sessions x0 (known a0 s0 (session_alone x0)) (known a5 s4 (session_alone x3))
  may_commit s4 a4 a5 seen later goes fails same = record {
    lsn = lsn;
    prev = prev;
    may = inr (
      goes,
      failed opens ledger sessions log_faults a0 a3 a5 s0 s4 (session_alone x0) (session_alone x3) 1 (commit_entry lsn x0.tx prev ∷ []) (entered s4 seen later)
          (counts ∙ ap (λ (a : Account). counted_more a 1) (checked ∙ account)) goes.0 (subst (IsFailed a3) (sym same) fails),
    );
  }

  pub commits_then : (a4 a5 : Account) (s4 s5 : PassSeen Entry) (x4 : SessionClaim) (h2 : List Entry) (answer : answers.Committed) → h2 ≡ h1 ++ entries.Acked x0.session x0.tx ∷ [] → a4 ≡ counted_more a3 1 → a5 ≡ a4 → IsConsistent opens h2 → SessionAgrees h2 x4 → s5.log ≡ h2
      → s1.durable ≤ s5.durable → answer.pos ≡ length h2 → ((opening : List Record) → opens opening → answer.number ≡ commits (life_log opening h1)) → lsn ≤ s5.durable
      → Commits opens ledger sessions x0 answer (known a0 s0 (session_alone x0)) (known a5 s5 (session_alone x4))
  commits_then a4 a5 s4 s5 x4 h2 answer acked counted same whole done seen later pos number durable =
      let between : PassSeen Entry = record { log = h1; durable = s1.durable } in
      let one = entered between refl (omega arith) in
      let e : Entry = entries.Acked x0.session x0.tx in
      let two = entered_own opens ledger sessions a3 s5.durable between h1 x3 x4 e later
      (record { begins = prefix_self h1; consistent = one.now.consistent; rights = one.now.rights }) one.totals refl (subst (IsConsistent opens) acked whole) (subst (λ y. SessionAgrees y x4) acked done) in
      record {
        lsn = lsn;
        prev = prev;
        between = known a3 between (session_alone x3);
        commit = one;
        acked =
            subst (λ (y : Account × List Entry). Enters opens ledger sessions (known a3 between (session_alone x3)) (e ∷ []) (known y.0 (record { log = y.1; durable = s5.durable }) (session_alone x4)))
            (λ i. (sym (same ∙ counted) i, sym (seen ∙ acked) i)) two;
        pos = pos ∙ ap (λ (y : List Entry). length y) (sym seen);
        number = number;
        durable = durable;
      }
