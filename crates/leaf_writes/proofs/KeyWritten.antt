-- A change of a key's row: of its parts, and behind a purge.
use Rattle.std.proofs.Common.{◌≡◌, ℕ, List, [], ◌∷◌, ◌++◌, Option, Some, None, Result, Ok, Err, Bool, true, false, cond, sym, ap, subst, ◌∙◌, refl, inl, inr}
use Rattle.std.specs.Prelude.{IfOk, IfErr, IfSome, IsTrue, OnOk, not, ◌||◌, ◌<◌, ◌==◌}
use Rattle.std.specs.List.{list_any}
use mathlib.Core.List.{IsPrefix}
use Rattle.std.proofs.lemmas.List.{append_cancel_right}
use Rattle.books.specs.Rights.{SessionClaim}
use Rattle.front.specs.Seen.{PassSeen}
use Rattle.front.proofs.Keeping.{prefix_trans}
use Rattle.store_model.specs.declared.fault.Fault.{Fault}
use Rattle.store_model.specs.declared.fault.Fault.TheVariants as faults
use Rattle.store_model.specs.declared.reply.Outcome.TheVariants as outcomes
use Rattle.wal_record.specs.State.{KeepsState, leaf_rows, live}
use Rattle.wal_record.specs.Books.{session_entries}
use Rattle.wal_record.specs.Images.{IsLeafOf, purged, with_value}
use Rattle.wal_record.specs.Legal.{IsLegal}
use Rattle.wal_record.specs.History.{is_owner, life_log}
use Rattle.wal_record.specs.Locks.{covers_write}
use Rattle.wal_record.specs.OpenWrites.{open_writes}
use Rattle.wal_record.specs.Rules.{is_number}
use Rattle.wal_record.specs.Sound.{UndoRule}
use Rattle.wal_record.specs.declared.page.PageState.{PageState}
use Rattle.wal_record.specs.declared.record.Undo.{Undo}
use Rattle.wal_record.specs.declared.record.Record.{Record}
use Rattle.wal_record.specs.declared.record.Record.TheVariants as kinds
use Rattle.wal_record.specs.declared.entry.Entry.{Entry}
use Rattle.wal_record.specs.declared.entry.Entry.TheVariants.{Rec}
use Rattle.foster_laws.specs.Purges.{has_tombstone}
use Rattle.foster_laws.proofs.Purging.{purge}
use Rattle.page_ops.specs.Asking.{HasRoomFor, IsForestalled, IsLate, can_be_late, forestalls, last_place}
use Rattle.page_ops.specs.Causes.{Ends, MeetsNoFault}
use Rattle.page_ops.specs.Claims.{Claims, SessionAgrees}
use Rattle.page_ops.specs.Desks.{Desk}
use Rattle.page_ops.specs.Gains.{Gains}
use Rattle.page_ops.specs.Groups.{AreFilled, declined_entries, group_entries}
use Rattle.page_ops.specs.Hands.{Hand}
use Rattle.page_ops.specs.Names.{LedgerName}
use Rattle.page_ops.specs.Outcomes.{EntersGroup, IsAnswer, IsFull, OnEntered, answered}
use Rattle.page_ops.specs.Seeing.{Account, Enters, IsConsistent, Keeps, Known, known}
use Rattle.page_ops.specs.declared.group.Group.{Group}
use Rattle.page_ops.specs.declared.group.Said.{Said}
use Rattle.page_ops.specs.declared.outcome.Entered.{Entered}
use Rattle.page_ops.specs.declared.outcome.Entered.TheVariants.{At, NoRoom, Late}
use Rattle.page_ops.proofs.Composing.{done_meets_none, ends_then}
use Rattle.page_ops.proofs.Gaining.{gains_of, gains_then, keeps_then}
use Rattle.group_laws.specs.Stays.{StaysAs}
use Rattle.group_laws.proofs.Owners.{transaction}
use Rattle.group_laws.proofs.Quiet.{stays}
use Rattle.smo.specs.Asked.{Asked}
use Rattle.smo.specs.Purges.{EntersPurge, purge_of}
use Rattle.smo.specs.Settled.{IsSettled}
use Rattle.leaf_writes.specs.Changes.{UnlessEntered, change_group, half_of, record_by, said_by, split_change_group}
use Rattle.leaf_writes.specs.Halves.{SplitsLeaf, lower_written}
use Rattle.leaf_writes.specs.KeyWrites.{HadRoom, WritesAlone, WritesBy, WritesKey, group_on, has_room, needs_purge, state_on, desk_on, found}
use Rattle.leaf_writes.specs.Owners.{EndsWith, IsDeclined, KeepsOwner}
use Rattle.leaf_writes.specs.MayChange.{IsOwnUndo, IsWriter, MayBy, MayChange, undo_of}
use Rattle.leaf_writes.specs.declared.change.Change.{Change}
use Rattle.leaf_writes.specs.declared.change.How.{How}
use Rattle.leaf_writes.specs.declared.change.How.TheVariants as hows
use Rattle.leaf_writes.proofs.AsksOne.{above_none}
use Rattle.leaf_writes.proofs.ChangedLeaf.{filled_of}
use Rattle.leaf_writes.proofs.EachKind.{rule_on}

-- ---- one group

module _ (opens : List Record → Type 0) (ledger sessions : LedgerName) (c : Change) (owner : Option SessionClaim) (seen : PassSeen Entry) (leaf leaf_now : Hand) (result : Result Entered Fault) (old new : Known) where
  last_of : (result : Result Entered Fault) (g now : Group) (old new : Known) → Enters opens ledger sessions old (answered now.lsn now.recs g.said result) new → OnEntered result (EndsWith (group_entries now.lsn now.recs g.said) new.log)
  last_of (Ok (At pos)) g now old new e = (e.moment, e.is)
  last_of (Ok NoRoom) g now old new e = tt
  last_of (Ok (Late pos)) g now old new e = tt
  last_of (Err fault) g now old new e = tt

  room_of : (result : Result Entered Fault) (g now : Group) (old new : Known) → EntersGroup opens ledger sessions g now result old new → OnEntered result (HadRoom opens g now new.log)
  room_of (Ok (At pos)) g now old new e = λ opening stands before is.
      subst (λ (h : List Entry). HasRoomFor opening h g) (append_cancel_right e.enters.moment before (group_entries now.lsn now.recs g.said) (sym e.enters.is ∙ is)) (e.room opening stands)
  room_of (Ok NoRoom) g now old new e = tt
  room_of (Ok (Late pos)) g now old new e = tt
  room_of (Err fault) g now old new e = tt

  abbrev Alone : Type 0
  Alone = WritesAlone opens ledger sessions c owner seen leaf leaf_now result old new

  alone_of : (g now : Group) (child : ℕ) → g ≡ group_on c owner leaf.page leaf.state → EntersGroup opens ledger sessions g now result old new → OnEntered result (AreFilled child g.recs now.recs)
      → OnEntered result (IsSettled (state_on child c leaf.state) seen leaf leaf_now) → UnlessEntered result (leaf_now ≡ leaf) → Alone
  alone_of g now child is enters filled settled same = record {
    writes = record {
      now = now;
      child = child;
      gains = subst (λ (h : Group). Gains opens ledger sessions (answered now.lsn now.recs h.said result) old new) is (gains_of opens ledger sessions (answered now.lsn now.recs g.said result) old new enters.enters);
      filled = subst (λ (h : Group). OnEntered result (AreFilled child h.recs now.recs)) is filled;
      settled = settled;
      last = subst (λ (h : Group). OnEntered result (EndsWith (group_entries now.lsn now.recs h.said) new.log)) is (last_of result g now old new enters.enters);
      room = subst (λ (h : Group). OnEntered result (HadRoom opens h now new.log)) is (room_of result g now old new enters);
    };
    same = same;
  }

  -- the leaf has room
  pub fit_alone : has_room c leaf.state ≡ true → Asked opens ledger sessions (change_group c owner leaf.page) result old new → OnEntered result (IsSettled (with_value c.key c.new leaf.state) seen leaf leaf_now) → UnlessEntered result (leaf_now ≡ leaf) → Alone
  fit_alone room asked settled same =
      let filled = filled_of result (change_group c owner leaf.page) asked.now old.claims new.claims asked.filled in
      alone_of (change_group c owner leaf.page) asked.now filled.0 (sym (ap (λ (b : Bool). cond b (change_group c owner leaf.page) (split_change_group c owner leaf.page leaf.state)) room)) asked.enters filled.1
      (subst (λ (t : PageState). OnEntered result (IsSettled t seen leaf leaf_now)) (sym (ap (λ (b : Bool). cond b (with_value c.key c.new leaf.state) (lower_written filled.0 c.key c.new leaf.state)) room)) settled) same

  -- it has none
  pub split_alone : has_room c leaf.state ≡ false → SplitsLeaf opens ledger sessions (split_change_group c owner leaf.page leaf.state) c.key c.new seen leaf leaf_now result old new → UnlessEntered result (leaf_now ≡ leaf) → Alone
  split_alone room splits same =
      alone_of (split_change_group c owner leaf.page leaf.state) splits.now splits.child (sym (ap (λ (b : Bool). cond b (change_group c owner leaf.page) (split_change_group c owner leaf.page leaf.state)) room)) splits.enters splits.filled
      (subst (λ (t : PageState). OnEntered result (IsSettled t seen leaf leaf_now)) (sym (ap (λ (b : Bool). cond b (with_value c.key c.new leaf.state) (lower_written splits.child c.key c.new leaf.state)) room)) splits.settled) same

-- ---- what its answer says doesn't depend on the split

late_on : (how : How) (opening : List Record) (h : List Entry) (pos tx page half : ℕ) (key : List ℕ) (new : Option (List ℕ)) → IsForestalled opening h pos (record_by how tx half key new) → IsForestalled opening h pos (record_by how tx page key new)
late_on (hows.Write old) opening h pos tx page half key new f = absurd (f.late tt)
late_on (hows.Apply old operator argument) opening h pos tx page half key new f = absurd (f.late tt)
late_on (hows.Undo undo_next) opening h pos tx page half key new f =
    let u : Undo = record { tx = tx; prev = 0; page = half; page_prev = 0; key = key; restores = new; undo_next = undo_next } in
    let v : Undo = record { tx = tx; prev = 0; page = page; page_prev = 0; key = key; restores = new; undo_next = undo_next } in
    record {
      late = λ timely. f.late (λ loser. rule_on (open_writes (life_log opening h) tx) v u refl refl refl (timely loser));
      first = f.first ∙ (λ i. last_place (λ e. same u v refl e i) h);
    }
  where
    same : (u v : Undo) → u.tx ≡ v.tx → (e : Entry) → forestalls (kinds.Undo u) e ≡ forestalls (kinds.Undo v) e
    same u v is (Rec lsn (kinds.Undo x)) = λ i. x.tx == is i
    same u v is (Rec lsn (kinds.End x)) = λ i. x.tx == is i
    same u v is _ = refl

can_be_late_on : (how : How) (tx page half : ℕ) (key : List ℕ) (new : Option (List ℕ)) → IsTrue (list_any can_be_late (record_by how tx half key new ∷ [])) → IsTrue (list_any can_be_late (record_by how tx page key new ∷ []))
can_be_late_on (hows.Write old) tx page half key new late = absurd (cc late)
can_be_late_on (hows.Apply old operator argument) tx page half key new late = absurd (cc late)
can_be_late_on (hows.Undo undo_next) tx page half key new late = refl

module _ (opens : List Record → Type 0) (h : List Entry) (c : Change) (owner : Option SessionClaim) (page : ℕ) (s : PageState) where
  late_of : (opening : List Record) (pos : ℕ) → IsLate opening h pos (split_change_group c owner page s).recs → IsLate opening h pos (change_group c owner page).recs
  late_of opening pos (inl split) = absurd (split.late tt)
  late_of opening pos (inr (inl change)) = inl (late_on c.how opening h pos c.tx page (half_of page 0 c.key s) c.key c.new change)
  late_of opening pos (inr (inr none)) = absurd none

  answer_by : (e : Entered) → IsAnswer opens h (split_change_group c owner page s) e → IsAnswer opens h (change_group c owner page) e
  answer_by (At pos) a = a
  answer_by NoRoom a = a
  answer_by (Late pos) a = (can_be_late_on c.how c.tx page (half_of page 0 c.key s) c.key c.new a.0, λ opening stands. late_of opening pos (a.1 opening stands))

  pub answer_of : (result : Result Entered Fault) → IfOk result (IsAnswer opens h (split_change_group c owner page s)) → IfOk result (IsAnswer opens h (change_group c owner page))
  answer_of (Ok e) a = answer_by e a
  answer_of (Err fault) a = tt

  full_by : (f : Fault) → IsFull opens h (split_change_group c owner page s) f → IsFull opens h (change_group c owner page) f
  full_by (faults.Full p q at) f = f
  full_by _ f = tt

  pub full_of : (result : Result Entered Fault) → IfErr result (IsFull opens h (split_change_group c owner page s)) → IfErr result (IsFull opens h (change_group c owner page))
  full_of (Ok e) f = tt
  full_of (Err fault) f = full_by fault f

-- ---- behind a purge

-- whatever rights were handed in
reclaimed : (opens : List Record → Type 0) (ledger sessions : LedgerName) (own : List Entry) (a a' : Account) (t t' : PassSeen Entry) (x x' y y' : Claims) → Gains opens ledger sessions own (known a t x) (known a' t' x') → Gains opens ledger sessions own (known a t y) (known a' t' y')
reclaimed opens ledger sessions own a a' t t' x x' y y' g = record { gained = g.gained; is = g.is; among = g.among; consistent = g.consistent; durable = g.durable; keeps = g.keeps; counted = g.counted; totals = g.totals }

-- while a session's right agrees, its transaction stays
session_stays : (opens : List Record → Type 0) (seen h : List Entry) (s : SessionClaim) → IsPrefix seen h → IsConsistent opens h → SessionAgrees h s → SessionAgrees seen s → 0 < s.tx → (opening : List Record) → opens opening → StaysAs opening seen h s.tx
session_stays opens seen h s begins consistent agrees before some opening stands =
    let own = transaction seen s.session s.tx before.tx some in
    let more = begins.0 in
    let same : session_entries (seen ++ more) s.session ≡ session_entries seen s.session = ap (λ (l : List Entry). session_entries l s.session) begins.1 ∙ sym agrees.entries ∙ before.entries in
    (subst (λ (l : List Entry). StaysAs opening seen l s.tx × (is_owner l s.session s.tx ≡ true)) begins.1
    (stays opening seen more s.session s.tx own.0 (subst (IsLegal opening) (sym begins.1) (consistent.legal opening stands)) same)).0

still_writer : (opens : List Record → Type 0) (seen h : List Entry) (key : List ℕ) (s : SessionClaim) → IsPrefix seen h → IsConsistent opens h → SessionAgrees h s → IsWriter opens seen key s → IsWriter opens h key s
still_writer opens seen h key s begins consistent agrees writer =
    let steady = session_stays opens seen h s begins consistent agrees writer.agrees (above_none s.tx writer.number) in
    record {
      agrees = agrees;
      number = writer.number;
      live = λ opening stands. (steady opening stands).phase ∙ writer.live opening stands;
      locked = λ opening stands. ap (list_any (covers_write key)) (steady opening stands).locks ∙ writer.locked opening stands;
    }

still_own : (opens : List Record → Type 0) (seen h : List Entry) (u : Undo) (s : SessionClaim) → is_number u.tx ≡ true → IsPrefix seen h → IsConsistent opens h → SessionAgrees h s → IsOwnUndo opens seen u s → IsOwnUndo opens h u s
still_own opens seen h u s number begins consistent agrees own =
    let some : 0 < s.tx = subst (λ (t : ℕ). 0 < t) (sym own.tx) (above_none u.tx number) in
    let steady = λ (opening : List Record) (stands : opens opening). subst (λ (t : ℕ). StaysAs opening seen h t) own.tx (session_stays opens seen h s begins consistent agrees own.agrees some opening stands) in
    record {
      agrees = agrees;
      tx = own.tx;
      live = λ opening stands. (steady opening stands).phase ∙ own.live opening stands;
      last = λ opening stands. subst (λ (ws : List Record). UndoRule ws u) (sym (steady opening stands).writes) (own.last opening stands);
    }

still_by : (how : How) (opens : List Record → Type 0) (seen h : List Entry) (s t : PageState) (tx : ℕ) (key : List ℕ) (new : Option (List ℕ)) (owner : Option SessionClaim) → IsPrefix seen h → IsConsistent opens h → IfSome owner (SessionAgrees h)
    → live (leaf_rows t.rows) key ≡ live (leaf_rows s.rows) key → MayBy how opens seen s tx key new owner → MayBy how opens h t tx key new owner
still_by (hows.Write old) opens seen h s t tx key new None begins consistent agrees same may = absurd may.0
still_by (hows.Write old) opens seen h s t tx key new (Some o) begins consistent agrees same may = ((may.0.0, still_writer opens seen h key o begins consistent agrees may.0.1), may.1 ∙ sym same, may.2)
still_by (hows.Apply old operator argument) opens seen h s t tx key new None begins consistent agrees same may = absurd may.0
still_by (hows.Apply old operator argument) opens seen h s t tx key new (Some o) begins consistent agrees same may = ((may.0.0, still_writer opens seen h key o begins consistent agrees may.0.1), may.1 ∙ sym same, may.2, may.3)
still_by (hows.Undo undo_next) opens seen h s t tx key new None begins consistent agrees same may = (
  may.0,
  may.1,
  record {
    loser = may.2.loser;
    was = λ opening stands. let w = may.2.was opening stands in (w.0, prefix_trans w.0 seen h w.1 begins, w.2);
  },
)
still_by (hows.Undo undo_next) opens seen h s t tx key new (Some o) begins consistent agrees same may = (may.0, may.1, still_own opens seen h (undo_of tx key new undo_next) o may.0 begins consistent agrees may.2)

-- the change may still be asked for, of the purged leaf, which has the same value
pub still_may : (opens : List Record → Type 0) (seen h : List Entry) (s t : PageState) (c : Change) (owner owner' : Option SessionClaim) → IsPrefix seen h → IsConsistent opens h → IfSome owner' (SessionAgrees h) → owner' ≡ owner
    → KeepsState s → IsLeafOf c.key s → t ≡ purged s → MayChange opens seen s c owner → MayChange opens h t c owner'
still_may opens seen h s t c owner owner' begins consistent agrees same keeps at made may =
    subst (λ (o : Option SessionClaim). MayChange opens h t c o) (sym same)
    (still_by c.how opens seen h s t c.tx c.key c.new owner begins consistent (subst (λ (o : Option SessionClaim). IfSome o (SessionAgrees h)) same agrees)
    (ap (λ (u : PageState). live (leaf_rows u.rows) c.key) made ∙ ((purge s).leaf keeps at.leaf).values c.key) may)

pub purged_whole : (key : List ℕ) (room : Bool) (s t : PageState) → KeepsState s → IsLeafOf key s → t ≡ purged s → (room || not (has_tombstone t)) ≡ true
purged_whole key room s t keeps at is = ap (λ (u : PageState). room || not (has_tombstone u)) is ∙ ap (λ (b : Bool). room || not b) ((purge s).leaf keeps at.leaf).none ∙ or_true room
  where
    or_true : (b : Bool) → (b || true) ≡ true
    or_true true = refl
    or_true false = refl

module _ (opens : List Record → Type 0) (ledger sessions : LedgerName) (c : Change) (leaf leaf1 leaf_now : Hand) (seen seen1 seen2 seen' : PassSeen Entry) (a a1 a2 a' : Account) (x x1 y y2 w w' v v' : Claims) (pos : ℕ)
    (some : needs_purge c leaf.state ≡ true) (made : IsSettled (purged leaf.state) seen1 leaf leaf1) (entered : EntersPurge opens ledger sessions leaf.page (Ok pos) (known a seen x) (known a1 seen1 x1))
    (looked : Enters opens ledger sessions (known a1 seen1 y) [] (known a2 seen2 y2)) (result : Result Entered Fault) where
  settled_on : (u : PageState) (t : PassSeen Entry) → IsSettled u t leaf1 leaf_now → IsSettled u t leaf leaf_now
  settled_on u t h = record { page = h.page ∙ made.page; state = h.state; pass = h.pass; dirty = h.dirty }

  same_one : leaf_now ≡ leaf1 → (pass : PassSeen Entry) × IsSettled (purged leaf.state) pass leaf leaf_now
  same_one h = (seen1, subst (λ (z : Hand). IsSettled (purged leaf.state) seen1 leaf z) (sym h) made)

  same_on : (result : Result Entered Fault) → UnlessEntered result (leaf_now ≡ leaf1) → UnlessEntered result ((pass : PassSeen Entry) × IsSettled (purged leaf.state) pass leaf leaf_now)
  same_on (Ok (At p)) h = tt
  same_on (Ok NoRoom) h = same_one h
  same_on (Ok (Late p)) h = same_one h
  same_on (Err f) h = same_one h

  settled_done : (result : Result Entered Fault) (child : ℕ) → OnEntered result (IsSettled (state_on child c leaf1.state) seen' leaf1 leaf_now) → OnEntered result (IsSettled (state_on child c (purged leaf.state)) seen' leaf leaf_now)
  settled_done (Ok (At p)) child h = settled_on (state_on child c (purged leaf.state)) seen' (subst (λ (t : PageState). IsSettled (state_on child c t) seen' leaf1 leaf_now) made.state h)
  settled_done (Ok NoRoom) child h = tt
  settled_done (Ok (Late p)) child h = tt
  settled_done (Err f) child h = tt

  behind : (owner : Option SessionClaim) → WritesAlone opens ledger sessions c owner seen' leaf1 leaf_now result (known a2 seen2 w) (known a' seen' w') → WritesKey opens ledger sessions c owner seen' leaf leaf_now result (known a seen v) (known a' seen' v')
  behind owner h =
      let first = reclaimed opens ledger sessions (Rec entered.lsn (purge_of leaf.page entered.prev) ∷ []) a a1 seen seen1 x x1 v v
      (gains_of opens ledger sessions (Rec entered.lsn (purge_of leaf.page entered.prev) ∷ []) (known a seen x) (known a1 seen1 x1) entered.enters) in
      let look = reclaimed opens ledger sessions [] a1 a2 seen1 seen2 y y2 v v (gains_of opens ledger sessions [] (known a1 seen1 y) (known a2 seen2 y2) looked) in
      let now = h.writes.now in
      let told = λ (p : ℕ) (t : PageState). answered now.lsn now.recs (group_on c owner p t).said result in
      let last = reclaimed opens ledger sessions (told leaf1.page leaf1.state) a2 a' seen2 seen' w w' v v' h.writes.gains in
      let all = gains_then opens ledger sessions (Rec entered.lsn (purge_of leaf.page entered.prev) ∷ []) (told leaf1.page leaf1.state) (known a seen v) (known a2 seen2 v) (known a' seen' v')
      (gains_then opens ledger sessions (Rec entered.lsn (purge_of leaf.page entered.prev) ∷ []) [] (known a seen v) (known a1 seen1 v) (known a2 seen2 v) first look) last in
      subst (λ (b : Bool). WritesBy b opens ledger sessions c owner seen' leaf leaf_now result (known a seen v) (known a' seen' v')) (sym some)
      (inr (record {
        lsn = entered.lsn;
        prev = entered.prev;
        writes = record {
          now = now;
          child = h.writes.child;
          gains = subst (λ (q : ℕ × PageState). Gains opens ledger sessions (Rec entered.lsn (purge_of leaf.page entered.prev) ∷ told q.0 q.1) (known a seen v) (known a' seen' v')) (λ i. (made.page i, made.state i)) all;
          filled = subst (λ (q : ℕ × PageState). OnEntered result (AreFilled h.writes.child (group_on c owner q.0 q.1).recs now.recs)) (λ i. (made.page i, made.state i)) h.writes.filled;
          settled = settled_done result h.writes.child h.writes.settled;
          last = subst (λ (q : ℕ × PageState). OnEntered result (EndsWith (group_entries now.lsn now.recs (group_on c owner q.0 q.1).said) seen'.log)) (λ i. (made.page i, made.state i)) h.writes.last;
          room = subst (λ (q : ℕ × PageState). OnEntered result (HadRoom opens (group_on c owner q.0 q.1) now seen'.log)) (λ i. (made.page i, made.state i)) h.writes.room;
        };
        same = same_on result h.same;
      }))

  pub key_behind : (owner owner' : Option SessionClaim) → owner' ≡ owner → WritesAlone opens ledger sessions c owner' seen' leaf1 leaf_now result (known a2 seen2 w) (known a' seen' w') → WritesKey opens ledger sessions c owner seen' leaf leaf_now result (known a seen v) (known a' seen' v')
  key_behind owner owner' same h = behind owner (subst (λ (o : Option SessionClaim). WritesAlone opens ledger sessions c o seen' leaf1 leaf_now result (known a2 seen2 w) (known a' seen' w')) same h)

-- what the answer says doesn't depend on the page's state, nor on who calls the right his own
pub answer_behind : (opens : List Record → Type 0) (h : List Entry) (c : Change) (owner owner' : Option SessionClaim) (page page' : ℕ) (result : Result Entered Fault) → owner' ≡ owner → page' ≡ page → IfOk result (IsAnswer opens h (change_group c owner' page')) → IfOk result (IsAnswer opens h (change_group c owner page))
answer_behind opens h c owner owner' page page' result same at = subst (λ (q : Option SessionClaim × ℕ). IfOk result (IsAnswer opens h (change_group c q.0 q.1))) (λ i. (same i, at i))

pub full_behind : (opens : List Record → Type 0) (h : List Entry) (c : Change) (owner owner' : Option SessionClaim) (page page' : ℕ) (result : Result Entered Fault) → owner' ≡ owner → page' ≡ page → IfErr result (IsFull opens h (change_group c owner' page')) → IfErr result (IsFull opens h (change_group c owner page))
full_behind opens h c owner owner' page page' result same at = subst (λ (q : Option SessionClaim × ℕ). IfErr result (IsFull opens h (change_group c q.0 q.1))) (λ i. (same i, at i))

-- the calls before met no end, so the cause is that of the write
pub ends_behind : (opens : List Record → Type 0) (log_faults made : LedgerName) (a a1 a2 a' : Account) (h1 h : List Entry) (pos : ℕ) (result : Result Entered Fault) → Ends opens log_faults made a a1 h1 (Ok pos) → Keeps a a1 → MeetsNoFault a1 a2 → Keeps a1 a2
    → Ends opens log_faults made a2 a' h result → Ends opens log_faults made a a' h result
ends_behind opens log_faults made a a1 a2 a' h1 h pos result e1 k1 calm k2 e =
    let first = done_meets_none opens log_faults made a a1 h1 pos e1 in
    ends_then opens log_faults made a a2 a' h (record { ended = calm.end.ended ∙ first.ended; amount = calm.end.amount ∙ first.amount }) (keeps_then a a1 a2 k1 k2) result e

-- ---- the reserved frame

module _ (c : Change) (s : PageState) (d d' : Desk) (result : Result Entered Fault) where
  pub desk_purged : (t : PageState) → needs_purge c s ≡ true → t ≡ purged s → d' ≡ desk_on (has_room c t) d result → d' ≡ desk_on (has_room c (found c s)) d result
  desk_purged t some is h = h ∙ ap (λ (u : PageState). desk_on (has_room c u) d result) is ∙ ap (λ (b : Bool). desk_on (has_room c (cond b (purged s) s)) d result) (sym some)

-- ---- the right to the session

-- behind a purge, at which it wasn't handed in
pub owner_behind : (result : Result Entered Fault) (owner owner' owner'' : Option SessionClaim) → owner' ≡ owner → KeepsOwner result owner' owner'' → KeepsOwner result owner owner''
owner_behind result owner owner' owner'' same keeps = subst (λ (o : Option SessionClaim). KeepsOwner result o owner'') same keeps

-- it agrees with the history that was seen as its group was handed in
pub agrees_of : (opens : List Record → Type 0) (ledger sessions : LedgerName) (g : Group) (result : Result Entered Fault) (old new : Known) → Asked opens ledger sessions g result old new → OnOk result (IfSome new.claims.s (SessionAgrees new.log))
agrees_of opens ledger sessions g (Ok e) old new asked = asked.enters.enters.now.rights.s
agrees_of opens ledger sessions g (Err f) old new asked = tt

pub agrees_split : (opens : List Record → Type 0) (ledger sessions : LedgerName) (g : Group) (key : List ℕ) (value : Option (List ℕ)) (seen : PassSeen Entry) (leaf leaf_now : Hand) (result : Result Entered Fault) (old new : Known)
    → SplitsLeaf opens ledger sessions g key value seen leaf leaf_now result old new → OnOk result (IfSome new.claims.s (SessionAgrees new.log))
agrees_split opens ledger sessions g key value seen leaf leaf_now (Ok e) old new splits = splits.enters.enters.now.rights.s
agrees_split opens ledger sessions g key value seen leaf leaf_now (Err f) old new splits = tt

-- ---- a request that is declined

declined_by : (opens : List Record → Type 0) (ledger sessions : LedgerName) (c : Change) (owner : Option SessionClaim) (g now : Group) (f : Fault) (old new : Known) → g.said ≡ said_by c.how c.key c.new owner → Enters opens ledger sessions old (answered now.lsn now.recs g.said (Err f)) new → IsDeclined c owner new.claims.s new.log f
declined_by opens ledger sessions c owner g now (faults.Full p q at) old new is e = ((e.moment, e.is ∙ ap (λ (s : Option Said). e.moment ++ declined_entries s (outcomes.Full p q)) is), e.now.rights.s)
declined_by opens ledger sessions c owner g now _ old new is e = tt

pub declined_of : (opens : List Record → Type 0) (ledger sessions : LedgerName) (c : Change) (owner : Option SessionClaim) (page : ℕ) (result : Result Entered Fault) (old new : Known) → Asked opens ledger sessions (change_group c owner page) result old new → IfErr result (IsDeclined c owner new.claims.s new.log)
declined_of opens ledger sessions c owner page (Ok e) old new asked = tt
declined_of opens ledger sessions c owner page (Err f) old new asked = declined_by opens ledger sessions c owner (change_group c owner page) asked.now f old new refl asked.enters.enters

pub declined_split : (opens : List Record → Type 0) (ledger sessions : LedgerName) (c : Change) (owner : Option SessionClaim) (page : ℕ) (s : PageState) (key : List ℕ) (value : Option (List ℕ)) (seen : PassSeen Entry) (leaf leaf_now : Hand) (result : Result Entered Fault) (old new : Known)
    → SplitsLeaf opens ledger sessions (split_change_group c owner page s) key value seen leaf leaf_now result old new → IfErr result (IsDeclined c owner new.claims.s new.log)
declined_split opens ledger sessions c owner page s key value seen leaf leaf_now (Ok e) old new splits = tt
declined_split opens ledger sessions c owner page s key value seen leaf leaf_now (Err f) old new splits = declined_by opens ledger sessions c owner (split_change_group c owner page s) splits.now f old new refl splits.enters.enters

-- behind a purge
pub declined_behind : (c : Change) (owner owner' owner'' : Option SessionClaim) (h : List Entry) (result : Result Entered Fault) → owner' ≡ owner → IfErr result (IsDeclined c owner' owner'' h) → IfErr result (IsDeclined c owner owner'' h)
declined_behind c owner owner' owner'' h result same declined = subst (λ (o : Option SessionClaim). IfErr result (IsDeclined c o owner'' h)) same declined
