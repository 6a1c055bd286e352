-- An operator that gives no value: for the key's value, at every moment while its lock is kept.
use Rattle.std.proofs.Common.{◌≡◌, ℕ, ◌+◌, true, false, List, ◌++◌, Option, Some, None, refl, sym, ap, subst, ◌∙◌, arith, append_assoc}
use Rattle.std.specs.Prelude.{is_some}
use Rattle.std.specs.List.{list_any}
use Rattle.std.specs.FinMap.{get}
use mathlib.Core.List.{IsPrefix}
use Rattle.books.specs.Rights.{SessionClaim}
use Rattle.store_model.proofs.Bools.{and_true}
use Rattle.store_model.specs.Operator.{meaning}
use Rattle.store_model.specs.Range.{has_key, point}
use Rattle.store_model.specs.declared.reply.Outcome.TheVariants as outcomes
use Rattle.store_model.specs.declared.request.Request.TheVariants as requests
use Rattle.wal_record.specs.Books.{session_entries}
use Rattle.wal_record.specs.Contents.{current}
use Rattle.wal_record.specs.History.{Live, is_owner, life_log, log_of, phase}
use Rattle.wal_record.specs.Images.{IsLeafOf}
use Rattle.wal_record.specs.Legal.{IsLegal, MayDecline}
use Rattle.wal_record.specs.Locks.{covers_key, covers_write, locks}
use Rattle.wal_record.specs.Sound.{AreLawful, IsLawful}
use Rattle.wal_record.specs.State.{leaf_rows, live}
use Rattle.wal_record.specs.declared.record.Record.{Record}
use Rattle.wal_record.specs.declared.entry.Entry.{Entry}
use Rattle.wal_record.proofs.Along.{AllAlong_less}
use Rattle.log_laws.proofs.Locked.{in_point}
use Rattle.tree_laws.proofs.DescentLaws.{descent}
use Rattle.tree_laws.proofs.Whole.{tree}
use Rattle.claim_laws.specs.Resting.{Rests}
use Rattle.claim_laws.proofs.Resting.{resting}
use Rattle.claim_laws.proofs.Sessions.{owner_more, session_law}
use Rattle.claim_laws.proofs.Stable.{stable}
use Rattle.claim_laws.proofs.Upkeep.{books_law}
use Rattle.page_ops.specs.Claims.{session_alone}
use Rattle.page_ops.specs.Hands.{Hand}
use Rattle.page_ops.specs.Seeing.{IsConsistent, IsMoment}
use Rattle.foster_tree.specs.Nows.{IsNow}
use Rattle.group_laws.proofs.Owners.{transaction}
use Rattle.engine.specs.Applies.{IsReadBy, IsReadLocked, MayRefuse}
use Rattle.engine.specs.Completes.{OwnsLock}
use Rattle.engine.specs.Writes.{write_lock}
use Rattle.engine.proofs.KeptLocks.{either_none}
use Rattle.engine.proofs.Owned.{locked_live}
use Rattle.engine.proofs.Told.{locked_then}

-- ---- what was read

pub read_by : (opens : List Record → Type 0) (h0 h1 h : List Entry) (key : List ℕ) (o o' : Option SessionClaim) (leaf : Hand) → OwnsLock opens h0 (write_lock key) o → o' ≡ o → IsPrefix h0 h1 → IsPrefix h1 h → IsConsistent opens h1 → IsNow opens h1 leaf
    → IsReadBy opens h (write_lock key) leaf o'
read_by opens h0 h1 h key o o' leaf owns same first then consistent now = subst (IsReadBy opens h (write_lock key) leaf) (sym same) (go o owns)
  where
    go : (o : Option SessionClaim) → OwnsLock opens h0 (write_lock key) o → IsReadBy opens h (write_lock key) leaf o
    go None w = absurd w
    go (Some s) w = record { before = h0; locked = w; then = h1; begins = first; now = now; consistent = consistent; seen = then }

-- ---- the key's value

module _ (opens : List Record → Type 0) (seen : List Entry) (key : List ℕ) (leaf : Hand) (s : SessionClaim) (read : IsReadLocked opens seen (write_lock key) leaf s) (at : IsLeafOf key leaf.state) (opening : List Record) (stands : opens opening) (h : List Entry) (moment : IsMoment opens seen (session_alone s) h) where
  abbrev h0 : List Entry
  h0 = read.before

  abbrev a : List Entry
  a = read.begins.0

  abbrev b : List Entry
  b = read.seen.0 ++ moment.begins.0

  then_is : h0 ++ a ≡ read.then
  then_is = read.begins.1

  now_is : h0 ++ (a ++ b) ≡ h
  now_is = sym (append_assoc h0 a b) ∙ ap (λ (l : List Entry). l ++ b) then_is ∙ sym (append_assoc read.then read.seen.0 moment.begins.0) ∙ ap (λ (l : List Entry). l ++ moment.begins.0) read.seen.1 ∙ moment.begins.1

  owns : is_owner h0 s.session s.tx ≡ true
  owns = (transaction h0 s.session s.tx read.locked.agrees.tx read.locked.active).0

  legal_now : IsLegal opening (h0 ++ (a ++ b))
  legal_now = subst (IsLegal opening) (sym now_is) (moment.consistent.legal opening stands)

  legal_then : IsLegal opening (h0 ++ a)
  legal_then = subst (IsLegal opening) (sym then_is) (read.consistent.legal opening stands)

  lawful : AreLawful opening
  lawful = AllAlong_less IsLawful opening (log_of h) (moment.consistent.sound opening stands).lawful

  quiet_now : session_entries (h0 ++ (a ++ b)) s.session ≡ session_entries h0 s.session
  quiet_now = ap (λ (l : List Entry). session_entries l s.session) now_is ∙ sym moment.rights.s.entries ∙ read.locked.agrees.entries

  quiet_then : session_entries (h0 ++ a) s.session ≡ session_entries h0 s.session
  quiet_then =
      let first = (books_law opening h0 a).session s.session in
      let then = (books_law opening (h0 ++ a) b).session s.session in
      let whole : session_entries ((h0 ++ a) ++ b) s.session ≡ session_entries h0 s.session = ap (λ (l : List Entry). session_entries l s.session) (append_assoc h0 a b) ∙ quiet_now in
      omega (arith, first, then, whole)

  rests_now : Rests s.tx (a ++ b)
  rests_now = (session_law opening h0 (a ++ b) s.session).rests legal_now quiet_now s.tx owns

  rests_then : Rests s.tx a
  rests_then = (session_law opening h0 a s.session).rests legal_then quiet_then s.tx owns

  key_locked : list_any (covers_key key) (locks opening h0 s.tx) ≡ true
  key_locked = locked_then opens h0 (write_lock key) s read.locked opening (covers_key key) (in_point key)

  value_now : get (current (life_log opening h)) key ≡ get (current (life_log opening h0)) key
  value_now = ap (λ (l : List Entry). get (current (life_log opening l)) key) (sym now_is) ∙ (stable opening h0 (a ++ b) s.tx).value lawful legal_now rests_now key key_locked

  value_then : get (current (life_log opening read.then)) key ≡ get (current (life_log opening h0)) key
  value_then = ap (λ (l : List Entry). get (current (life_log opening l)) key) (sym then_is) ∙ (stable opening h0 a s.tx).value lawful legal_then rests_then key key_locked

  value_read : live (leaf_rows leaf.state.rows) key ≡ get (current (life_log opening read.then)) key
  value_read =
      let log = life_log opening read.then in
      (descent _ _ _ (tree log (read.consistent.sound opening stands).lawful (read.consistent.some opening stands))).leaf leaf.page leaf.state (read.now.image opening stands) key at.own at.leaf

  value_is : live (leaf_rows leaf.state.rows) key ≡ get (current (life_log opening h)) key
  value_is = value_read ∙ value_then ∙ sym value_now

  -- so the request may be declined
  pub declines : (operator : ℕ) (argument : List ℕ) → meaning operator (live (leaf_rows leaf.state.rows) key) argument ≡ None → MayDecline opening h s.session s.tx (requests.Apply operator key argument) outcomes.OpRefused
  declines operator argument none = record {
    told = moment.consistent.told;
    owner = ap (λ (l : List Entry). is_owner l s.session s.tx) (sym now_is) ∙ owner_more h0 (a ++ b) s.session s.tx owns;
    live = subst (λ (l : List Entry). phase l s.tx ≡ Live) now_is ((resting opening h0 (a ++ b) s.tx).phase rests_now ∙ locked_live opens h0 (write_lock key) s read.locked opening stands);
    locked = ap (λ (l : List Entry). list_any (covers_write key) (locks opening l s.tx)) (sym now_is) ∙ ap (list_any (covers_write key)) ((resting opening h0 (a ++ b) s.tx).locks rests_now)
        ∙ locked_then opens h0 (write_lock key) s read.locked opening (covers_write key) (and_true (has_key (point key) key) true (in_point key) refl);
    cause = ap (λ (v : Option (List ℕ)). meaning operator v argument) (sym value_is) ∙ none;
  }

-- the operator gives none for the value on the leaf
pub may_refuse : (opens : List Record → Type 0) (seen : List Entry) (key key' : List ℕ) (o : Option SessionClaim) (leaf inside : Hand) (operator : ℕ) (argument : List ℕ) (old new : Option (List ℕ)) → IsReadBy opens seen (write_lock key) leaf o → IsLeafOf key leaf.state → key' ≡ key → inside ≡ leaf
    → old ≡ live (leaf_rows inside.state.rows) key → new ≡ meaning operator old argument → is_some new ≡ false → MayRefuse opens seen o (requests.Apply operator key' argument)
may_refuse opens seen key key' None leaf inside operator argument old new read at same view value made none = absurd read
may_refuse opens seen key key' (Some s) leaf inside operator argument old new read at same view value made none =
    subst (λ (k : List ℕ). MayRefuse opens seen (Some s) (requests.Apply operator k argument)) (sym same)
    (λ opening h stands moment. declines opens seen key leaf s read at opening stands h moment operator argument
    (ap (λ (v : Option (List ℕ)). meaning operator v argument) (sym (value ∙ ap (λ (x : Hand). live (leaf_rows x.state.rows) key) view)) ∙ sym made ∙ either_none new none))
