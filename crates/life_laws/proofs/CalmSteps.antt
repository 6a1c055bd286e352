-- What holds of a calm life holds after each entry, and so after each command.
use Rattle.std.proofs.Common.{◌≡◌, ℕ, ◌+◌, ◌<◌, ◌≤◌, Bool, true, cond, List, [], ◌∷◌, ◌++◌, Option, Some, None, refl, sym, ap, subst, ◌∙◌, arith, append_assoc}
use Rattle.std.specs.Prelude.{◌^◌}
use Rattle.std.specs.List.{list_any}
use Rattle.std.proofs.lemmas.List.{append-nil}
use Rattle.store_model.proofs.Bools.{or_left, and_true, not_from}
use Rattle.store_model.specs.Range.{Interval, point, includes}
use Rattle.store_model.specs.declared.request.Request.TheVariants as requests
use Rattle.store_model.specs.declared.reply.Reply.TheVariants as replies
use Rattle.store_model.specs.declared.reply.Outcome.TheVariants as outcomes
use Rattle.store_model.specs.declared.range.Mode.{Mode}
use Rattle.store_model.specs.declared.range.Mode.TheVariants.{Shared, Exclusive}
use Rattle.wal_record.specs.State.{is_key, is_value, live, state_size, page_room}
use Rattle.wal_record.specs.OpenWrites.{open_writes, has_items}
use Rattle.wal_record.specs.Contents.{current}
use Rattle.wal_record.specs.Checkpoints.{limit_of}
use Rattle.wal_record.specs.History.{log_of, life_log, Committed, phase, is_owner, last_begun, IsFree}
use Rattle.wal_record.specs.Locks.{Held, taken_locks, loser_locks, locks, conflict, covers, covers_write}
use Rattle.wal_record.specs.Legal.{held, split_leaf, FollowsSplit, ReplyRule, EntryRule, IsAllowed, IsLegal}
use Rattle.wal_record.specs.declared.page.PageState.{PageState}
use Rattle.wal_record.specs.declared.page.LeafRow.{LeafRow}
use Rattle.wal_record.specs.declared.record.Record.{Record}
use Rattle.wal_record.specs.declared.entry.Entry.{Entry}
use Rattle.wal_record.specs.declared.entry.Entry.TheVariants.{Rec, Lock, Said, Declined, Acked, Began}
use Rattle.wal_record.proofs.Along.{AllAlong_back}
use Rattle.wal_record.proofs.Pushes.{log_same, log_more, phase_push, taken_push, untold_push}
use Rattle.log_laws.proofs.Central.{eqb_self, eqb_differ}
use Rattle.log_laws.proofs.Locked.{in_point}
use Rattle.log_laws.proofs.Serial.{sound_after}
use Rattle.tree_laws.proofs.Keys.{below_itself}
use Rattle.life_laws.specs.Calm.{Opened, only_leaf, CalmLog, Calm}
use Rattle.life_laws.specs.Commands.{writing, committing, with_write, with_row, begun, get_entries, put_entries, full_entries, commit_entries}
use Rattle.life_laws.proofs.CalmLog.{limit_kept, live_is, write_lawful, log_written, commit_lawful, log_committed, log_began}
use Rattle.life_laws.proofs.CalmHistory.{none_live, owner_kept, history_same, history_began, history_committed, history_acked}

-- ---- locks

module _ (opening : List Record) (settled : (t : ℕ) → open_writes opening t ≡ []) where
  locks_are : (h : List Entry) (t : ℕ) → locks opening h t ≡ taken_locks h t
  unfolding locks
  locks_are h t = ap (λ (ws : List Record). taken_locks h t ++ loser_locks (has_items ws) (open_writes (life_log opening h) t)) (settled t) ∙ append-nil (taken_locks h t)

  lock_holds : (h : List Entry) (t : ℕ) (range : Interval) (mode : Mode) (p : Held → Bool) → p (held range mode) ≡ true → list_any p (locks opening (h ++ Lock t range mode ∷ []) t) ≡ true
  lock_holds h t range mode p e =
      ap (list_any p) (locks_are (h ++ Lock t range mode ∷ []) t ∙ taken_push h (Lock t range mode) t ∙ ap (λ (b : Bool). cond b (held range mode ∷ taken_locks h t) (taken_locks h t)) (eqb_self t))
      ∙ or_left (p (held range mode)) (list_any p (taken_locks h t)) e

included : (key : List ℕ) → includes (point key) (point key) ≡ true
included key = and_true _ _ (not_from _ (below_itself key)) (not_from _ (below_itself (key ++ 0 ∷ [])))

-- ---- entries

allowed : (opening : List Record) (h : List Entry) (e : Entry) → IsLegal opening h → split_leaf opening h ≡ None → EntryRule opening h e → IsLegal opening (h ++ e ∷ [])
allowed opening h e legal none rule = AllAlong_back (IsAllowed opening) h e legal (record { split = subst (λ (s : Option PageState). FollowsSplit s e) (sym none) tt; rule = rule })

-- the log is as before
log_kept : (opening : List Record) (h : List Entry) (e : Entry) (rows : List LeafRow) (top : ℕ) (active : Option Opened) (next count lsn : ℕ) → log_of (e ∷ []) ≡ [] → CalmLog (life_log opening h) rows top active next count lsn → CalmLog (life_log opening (h ++ e ∷ [])) rows top active next count lsn
log_kept opening h e rows top active next count lsn none c = subst (λ (log : List Record). CalmLog log rows top active next count lsn) (sym (log_same opening h e none)) c

module _ (opening : List Record) (h : List Entry) (rows : List LeafRow) (top next count lsn : ℕ) where
  -- a session that has none begins a transaction
  pub calm_began : Calm opening h rows top None next count lsn → (session : ℕ) → session ≤ next → IsFree h (last_begun h session)
      → Calm opening (h ++ Began session next ∷ []) rows top (Some (begun session next)) (next + 1) count lsn
  calm_began c session low free =
      let number = c.history.number in
      let none = none_live h (λ t. (c.history.rest t refl).idle) in
      record {
        found = c.found;
        begins = c.begins;
        settled = c.settled;
        legal = allowed opening h (Began session next) c.legal c.history.no_split (record { told = c.told; number = number; room = omega (arith, none); free = free });
        told = untold_push h (Began session next);
        log = log_kept opening h (Began session next) rows top _ (next + 1) count lsn refl (log_began (life_log opening h) rows top session next count lsn (omega (arith, number)) c.log);
        history = history_began opening h next c.history session low;
      }

module _ (opening : List Record) (h : List Entry) (rows : List LeafRow) (top : ℕ) (o : Opened) (next count lsn : ℕ) where
  -- the open transaction locks a range
  pub calm_locked : Calm opening h rows top (Some o) next count lsn → (range : Interval) (mode : Mode) → Calm opening (h ++ Lock o.tx range mode ∷ []) rows top (Some o) next count lsn
  calm_locked c range mode =
      let e : Entry = Lock o.tx range mode in
      record {
        found = c.found;
        begins = c.begins;
        settled = c.settled;
        legal = allowed opening h e c.legal c.history.no_split (record {
          told = c.told;
          live = c.history.opened.live;
          free = λ other n. ap (list_any (conflict (held range mode))) (locks_are opening c.settled h other ∙ (c.history.rest other (eqb_differ o.tx other (λ z. n (sym z)))).unlocked);
        });
        told = untold_push h e;
        log = log_kept opening h e rows top (Some o) next count lsn refl c.log;
        history = history_same opening h next (Some o) c.history e (λ t p. refl) (λ n. refl) (λ s t. refl) (λ t ls a. ap (λ (b : Bool). cond b (held range mode ∷ ls) ls) a) refl;
      }

  -- it is told what a key has
  pub calm_found : Calm opening h rows top (Some o) next count lsn → (key : List ℕ) → list_any (covers (point key)) (locks opening h o.tx) ≡ true
      → Calm opening (h ++ Said o.session o.tx (requests.Get key) (replies.Found (live rows key)) ∷ []) rows top (Some o) next count lsn
  calm_found c key covered =
      let e : Entry = Said o.session o.tx (requests.Get key) (replies.Found (live rows key)) in
      let log = life_log opening h in
      let sound = sound_after opening c.begins h c.legal in
      record {
        found = c.found;
        begins = c.begins;
        settled = c.settled;
        legal = allowed opening h e c.legal c.history.no_split (record {
          owner = c.history.opened.owner;
          answer = subst (λ (d : Option Record). ReplyRule d (current log) (locks opening h o.tx) o.tx (requests.Get key) (replies.Found (live rows key))) (sym c.told) (covered, ap replies.Found (live_is log rows top (Some o) next count lsn c.log sound key));
        });
        told = untold_push h e;
        log = log_kept opening h e rows top (Some o) next count lsn refl c.log;
        history = history_same opening h next (Some o) c.history e (λ t p. refl) (λ n. refl) (λ s t. refl) (λ t ls a. refl) refl;
      }

  -- it writes a key, and is told so
  pub calm_wrote : Calm opening h rows top (Some o) next count lsn → (key value : List ℕ) → list_any (covers_write key) (locks opening h o.tx) ≡ true → is_key key ≡ true → is_value value ≡ true
      → state_size (only_leaf (with_row rows key value)) ≤ page_room → o.writes + 2 ≤ limit_of (life_log opening h) → lsn < 2 ^ 63 → next ≤ 2 ^ 63
      → Calm opening ((h ++ Rec (lsn + 1) (writing o top rows key value) ∷ []) ++ Said o.session o.tx (requests.Put key value) (replies.Was (live rows key)) ∷ []) (with_row rows key value) (lsn + 1) (Some (with_write o (lsn + 1))) next count (lsn + 1)
  calm_wrote c key value covered k v size room top_lsn top_tx =
      let r : Record = writing o top rows key value in
      let e : Entry = Rec (lsn + 1) r in
      let h' : List Entry = h ++ e ∷ [] in
      let s : Entry = Said o.session o.tx (requests.Put key value) (replies.Was (live rows key)) in
      let log = life_log opening h in
      let sound = sound_after opening c.begins h c.legal in
      let legal = allowed opening h e c.legal c.history.no_split (record {
        told = c.told;
        place = ap (λ (n : ℕ). n + 1) (sym c.log.size);
        lawful = write_lawful log rows top o next count lsn c.log key value sound k v size room top_lsn top_tx;
        rule = (c.history.opened.live, covered);
      }) in
      let kept = history_same opening h next (Some o) c.history e (λ t p. refl) (λ n. refl) (λ s t. refl) (λ t ls a. refl) refl in
      let done = history_same opening h' next (Some o) kept s (λ t p. refl) (λ n. refl) (λ s t. refl) (λ t ls a. refl) refl in
      record {
        found = c.found;
        begins = c.begins;
        settled = c.settled;
        legal = allowed opening h' s legal kept.no_split (record {
          owner = kept.opened.owner;
          answer = subst (λ (d : Option Record). ReplyRule d (current (life_log opening h')) (locks opening h' o.tx) o.tx (requests.Put key value) (replies.Was (live rows key))) (sym (untold_push h e)) (refl, (refl, refl, refl));
        });
        told = untold_push h' s;
        log = log_kept opening h' s _ _ _ _ _ _ refl (subst (λ (l : List Record). CalmLog l (with_row rows key value) (lsn + 1) (Some (with_write o (lsn + 1))) next count (lsn + 1)) (sym (log_more opening h (lsn + 1) r)) (log_written log rows top o next count lsn c.log key value room));
        history = record { number = done.number; sessions = done.sessions; rest = done.rest; opened = record { live = done.opened.live; owner = done.opened.owner }; no_split = done.no_split };
      }

  -- it is told that there is no room for a write and a page
  pub calm_refused : Calm opening h rows top (Some o) next count lsn → (key value : List ℕ) → list_any (covers_write key) (locks opening h o.tx) ≡ true → limit_of (life_log opening h) < o.writes + 3
      → Calm opening (h ++ Declined o.session o.tx (requests.Put key value) (outcomes.Full 1 o.writes) ∷ []) rows top (Some o) next count lsn
  calm_refused c key value covered over =
      let e : Entry = Declined o.session o.tx (requests.Put key value) (outcomes.Full 1 o.writes) in
      record {
        found = c.found;
        begins = c.begins;
        settled = c.settled;
        legal = allowed opening h e c.legal c.history.no_split (record {
          told = c.told;
          owner = c.history.opened.owner;
          live = c.history.opened.live;
          locked = covered;
          cause = (sym c.log.one_page, sym c.log.unfinished, (let p = c.log.one_page in let q = c.log.unfinished in omega (arith, p, q, over)), tt);
        });
        told = untold_push h e;
        log = log_kept opening h e rows top (Some o) next count lsn refl c.log;
        history = history_same opening h next (Some o) c.history e (λ t p. refl) (λ n. refl) (λ s t. refl) (λ t ls a. refl) refl;
      }

  -- its commit is entered
  pub calm_committed : Calm opening h rows top (Some o) next count lsn → lsn < 2 ^ 63 → next ≤ 2 ^ 63 → Calm opening (h ++ Rec (lsn + 1) (committing o) ∷ []) rows top None next (count + 1) (lsn + 1)
  calm_committed c top_lsn top_tx =
      let e : Entry = Rec (lsn + 1) (committing o) in
      let log = life_log opening h in
      record {
        found = c.found;
        begins = c.begins;
        settled = c.settled;
        legal = allowed opening h e c.legal c.history.no_split (record {
          told = c.told;
          place = ap (λ (n : ℕ). n + 1) (sym c.log.size);
          lawful = commit_lawful log rows top o next count lsn c.log top_lsn top_tx;
          rule = c.history.opened.live;
        });
        told = untold_push h e;
        log = subst (λ (l : List Record). CalmLog l rows top None next (count + 1) (lsn + 1)) (sym (log_more opening h (lsn + 1) (committing o))) (log_committed log rows top o next count lsn c.log);
        history = history_committed opening h next o c.history (lsn + 1);
      }

  -- so it may be acknowledged
  pub committed_phase : (lsn' : ℕ) → phase (h ++ Rec lsn' (committing o) ∷ []) o.tx ≡ Committed
  committed_phase lsn' = phase_push h (Rec lsn' (committing o)) o.tx ∙ ap (λ (b : Bool). cond b Committed (phase h o.tx)) (eqb_self o.tx)

-- a commit is acknowledged
pub calm_acked : (opening : List Record) (h : List Entry) (rows : List LeafRow) (top : ℕ) (active : Option Opened) (next count lsn : ℕ) → Calm opening h rows top active next count lsn → (session tx : ℕ) → is_owner h session tx ≡ true → phase h tx ≡ Committed
    → Calm opening (h ++ Acked session tx ∷ []) rows top active next count lsn
calm_acked opening h rows top active next count lsn c session tx owner done =
    record {
      found = c.found;
      begins = c.begins;
      settled = c.settled;
      legal = allowed opening h (Acked session tx) c.legal c.history.no_split (record { told = c.told; owner = owner; committed = done });
      told = untold_push h (Acked session tx);
      log = log_kept opening h (Acked session tx) rows top active next count lsn refl c.log;
      history = history_acked opening h next active c.history session tx done;
    }

-- ---- commands

two : (h : List Entry) (a b : Entry) → (h ++ a ∷ []) ++ b ∷ [] ≡ h ++ a ∷ b ∷ []
two h a b = append_assoc h (a ∷ []) (b ∷ [])

three : (h : List Entry) (a b c : Entry) → ((h ++ a ∷ []) ++ b ∷ []) ++ c ∷ [] ≡ h ++ a ∷ b ∷ c ∷ []
three h a b c = ap (λ (xs : List Entry). xs ++ c ∷ []) (two h a b) ∙ append_assoc h (a ∷ b ∷ []) (c ∷ [])

-- a transaction begins in a session of its own
pub calm_begin : (opening : List Record) (h : List Entry) (rows : List LeafRow) (top next count lsn : ℕ) → Calm opening h rows top None next count lsn → Calm opening (h ++ Began next next ∷ []) rows top (Some (begun next next)) (next + 1) count lsn
calm_begin opening h rows top next count lsn c = calm_began opening h rows top next count lsn c next (omega arith) (subst (IsFree h) (sym (c.history.sessions next (omega arith))) tt)

module _ (opening : List Record) (h : List Entry) (rows : List LeafRow) (top : ℕ) (o : Opened) (next count lsn : ℕ) where
  -- the open one gets a key
  pub calm_get : Calm opening h rows top (Some o) next count lsn → (key : List ℕ) → Calm opening (h ++ get_entries o rows key) rows top (Some o) next count lsn
  calm_get c key =
      subst (λ (x : List Entry). Calm opening x rows top (Some o) next count lsn) (two h _ _)
      (calm_found opening _ rows top o next count lsn (calm_locked opening h rows top o next count lsn c (point key) Shared) key (lock_holds opening c.settled h o.tx (point key) Shared (covers (point key)) (included key)))

  -- puts one
  pub calm_put : Calm opening h rows top (Some o) next count lsn → (key value : List ℕ) → is_key key ≡ true → is_value value ≡ true
      → state_size (only_leaf (with_row rows key value)) ≤ page_room → o.writes + 2 ≤ limit_of opening → lsn < 2 ^ 63 → next ≤ 2 ^ 63
      → Calm opening (h ++ put_entries o top rows lsn key value) (with_row rows key value) (lsn + 1) (Some (with_write o (lsn + 1))) next count (lsn + 1)
  calm_put c key value k v size room top_lsn top_tx =
      let e : Entry = Lock o.tx (point key) Exclusive in
      subst (λ (x : List Entry). Calm opening x (with_row rows key value) (lsn + 1) (Some (with_write o (lsn + 1))) next count (lsn + 1)) (three h _ _ _)
      (calm_wrote opening (h ++ e ∷ []) rows top o next count lsn (calm_locked opening h rows top o next count lsn c (point key) Exclusive) key value
      (lock_holds opening c.settled h o.tx (point key) Exclusive (covers_write key) (and_true _ true (in_point key) refl))
      k v size (subst (λ (n : ℕ). o.writes + 2 ≤ n) (sym (limit_kept opening (log_of (h ++ e ∷ [])) c.found)) room) top_lsn top_tx)

  -- is refused a put, since pages and pending writes and two are above the limit
  pub calm_declined : Calm opening h rows top (Some o) next count lsn → (key value : List ℕ) → limit_of opening < o.writes + 3
      → Calm opening (h ++ full_entries o key value) rows top (Some o) next count lsn
  calm_declined c key value over =
      let e : Entry = Lock o.tx (point key) Exclusive in
      subst (λ (x : List Entry). Calm opening x rows top (Some o) next count lsn) (two h _ _)
      (calm_refused opening (h ++ e ∷ []) rows top o next count lsn (calm_locked opening h rows top o next count lsn c (point key) Exclusive) key value
      (lock_holds opening c.settled h o.tx (point key) Exclusive (covers_write key) (and_true _ true (in_point key) refl))
      (subst (λ (n : ℕ). n < o.writes + 3) (sym (limit_kept opening (log_of (h ++ e ∷ [])) c.found)) over))

  -- commits, and is acknowledged
  pub calm_commit : Calm opening h rows top (Some o) next count lsn → lsn < 2 ^ 63 → next ≤ 2 ^ 63 → Calm opening (h ++ commit_entries o lsn) rows top None next (count + 1) (lsn + 1)
  calm_commit c top_lsn top_tx =
      let e : Entry = Rec (lsn + 1) (committing o) in
      subst (λ (x : List Entry). Calm opening x rows top None next (count + 1) (lsn + 1)) (two h _ _)
      (calm_acked opening (h ++ e ∷ []) rows top None next (count + 1) (lsn + 1) (calm_committed opening h rows top o next count lsn c top_lsn top_tx) o.session o.tx
      (owner_kept h e o.session o.tx c.history.opened.owner) (committed_phase opening h rows top o next count lsn (lsn + 1)))
