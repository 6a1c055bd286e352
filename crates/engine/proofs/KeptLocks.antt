-- A session's transaction that keeps its lock.
use Rattle.std.proofs.Common.{◌≡◌, ℕ, true, false, List, [], Option, Some, None, Result, Ok, Err, refl, sym, ap, subst, ◌∙◌}
use Rattle.std.specs.Prelude.{IfOk, IfSome, is_some, ◌||◌}
use mathlib.Core.List.{IsPrefix}
use Rattle.books.specs.Rights.{SessionClaim}
use Rattle.front.proofs.Keeping.{prefix_trans}
use Rattle.store_model.proofs.Bools.{and_true}
use Rattle.store_model.specs.Operator.{meaning}
use Rattle.store_model.specs.Range.{Interval, has_key, point}
use Rattle.store_model.specs.declared.fault.Memory.{Memory}
use Rattle.store_model.specs.declared.pair.Pair.{Pair}
use Rattle.store_model.specs.declared.reply.Reply.{Reply}
use Rattle.store_model.specs.declared.reply.Reply.TheVariants as replies
use Rattle.store_model.specs.declared.request.Request.TheVariants as requests
use Rattle.wal_record.specs.Images.{IsLeafOf}
use Rattle.wal_record.specs.Locks.{Held, covers_write}
use Rattle.wal_record.specs.Rules.{is_number}
use Rattle.wal_record.specs.State.{leaf_rows, live}
use Rattle.wal_record.specs.declared.record.Record.{Record}
use Rattle.wal_record.specs.declared.entry.Entry.{Entry}
use Rattle.log_laws.proofs.Locked.{in_point}
use Rattle.page_ops.specs.Asking.{EndsRange}
use Rattle.page_ops.specs.Claims.{SessionAgrees}
use Rattle.page_ops.specs.Hands.{Hand, IsInHand}
use Rattle.page_ops.specs.Seeing.{IsConsistent}
use Rattle.foster_tree.specs.Nows.{IsNow}
use Rattle.foster_tree.specs.Scans.{Collects}
use Rattle.leaf_writes.specs.MayChange.{IsWriter, MayChange}
use Rattle.leaf_writes.specs.declared.change.How.TheVariants as hows
use Rattle.engine.specs.Completes.{OwnsLock}
use Rattle.engine.specs.Requests.{lock_of}
use Rattle.engine.specs.Saying.{IsSpeaker, MaySay, MaySpeak}
use Rattle.engine.specs.Sittings.{claim_or_none}
use Rattle.engine.specs.Writes.{IsNumbered, KeepsLock, MayWrite, write_lock}
use Rattle.engine.proofs.Owned.{still_live}
use Rattle.engine.proofs.Told.{may_say_none, may_say_pairs, still_locked}

-- of the lock that was taken, and at the moment that is seen then
pub may_write : (opens : List Record → Type 0) (h0 h : List Entry) (key : List ℕ) (o o' : Option SessionClaim) → OwnsLock opens h0 (write_lock key) o → IsNumbered o → o' ≡ o → IsPrefix h0 h → IsConsistent opens h → IfSome o' (SessionAgrees h) → MayWrite opens h key o'
may_write opens h0 h key o o' owns number same longer consistent agrees = subst (MayWrite opens h key) (sym same) (go o owns number (subst (λ (q : Option SessionClaim). IfSome q (SessionAgrees h)) same agrees))
  where
    go : (o : Option SessionClaim) → OwnsLock opens h0 (write_lock key) o → IsNumbered o → IfSome o (SessionAgrees h) → MayWrite opens h key o
    go None w n g = absurd w
    go (Some s) w n g = (record { before = h0; begins = longer; locked = w; consistent = consistent; agrees = g }, n)

module _ (opens : List Record → Type 0) (h : List Entry) (key : List ℕ) where
  pub speaker : (s : SessionClaim) → KeepsLock opens h (write_lock key) s → IsSpeaker opens h s
  speaker s k = record { active = k.locked.active; agrees = k.agrees; live = λ opening stands. still_live opens k.before h (write_lock key) s k.locked k.begins k.consistent k.agrees opening stands }

  pub may_speak : (o : Option SessionClaim) → MayWrite opens h key o → MaySpeak opens h o
  may_speak None may = absurd may
  may_speak (Some s) may = speaker s may.0

  pub writer : (s : SessionClaim) → KeepsLock opens h (write_lock key) s → is_number s.tx ≡ true → IsWriter opens h key s
  writer s k number = record {
    agrees = k.agrees;
    number = number;
    live = (speaker s k).live;
    locked = λ opening stands. still_locked opens k.before h (write_lock key) s k.locked k.begins k.consistent k.agrees opening stands (covers_write key) (and_true (has_key (point key) key) true (in_point key) refl);
  }

  -- a put, or a del of a key that has a value
  pub may_change : (o : Option SessionClaim) (hand inside : Hand) (key' : List ℕ) (t : ℕ) (old new : Option (List ℕ)) → MayWrite opens h key o → t ≡ (claim_or_none o).tx → key' ≡ key → inside ≡ hand → old ≡ live (leaf_rows inside.state.rows) key → (is_some old || is_some new) ≡ true
      → MayChange opens h hand.state (record { tx = t; key = key'; new = new; how = hows.Write old }) o
  may_change None hand inside key' t old new may tx same view value some = absurd may
  may_change (Some s) hand inside key' t old new may tx same view value some =
      subst (λ (k : List ℕ). MayChange opens h hand.state (record { tx = t; key = k; new = new; how = hows.Write old }) (Some s)) (sym same)
      ((sym tx, writer s may.0 may.1), value ∙ ap (λ (x : Hand). live (leaf_rows x.state.rows) key) view, some)

  -- an operator that gives the value
  pub may_apply : (o : Option SessionClaim) (hand inside : Hand) (key' : List ℕ) (t operator : ℕ) (argument : List ℕ) (old new : Option (List ℕ)) → MayWrite opens h key o → t ≡ (claim_or_none o).tx → key' ≡ key → inside ≡ hand → old ≡ live (leaf_rows inside.state.rows) key → new ≡ meaning operator old argument
      → is_some new ≡ true → MayChange opens h hand.state (record { tx = t; key = key'; new = new; how = hows.Apply old operator argument }) o
  may_apply None hand inside key' t operator argument old new may tx same view value made some = absurd may
  may_apply (Some s) hand inside key' t operator argument old new may tx same view value made some =
      subst (λ (k : List ℕ). MayChange opens h hand.state (record { tx = t; key = k; new = new; how = hows.Apply old operator argument }) (Some s)) (sym same)
      ((sym tx, writer s may.0 may.1), value ∙ ap (λ (x : Hand). live (leaf_rows x.state.rows) key) view, made, some)

  -- a del of one that has none
  pub may_tell : (o : Option SessionClaim) (hand inside : Hand) (key' : List ℕ) (old : Option (List ℕ)) → MayWrite opens h key o → key' ≡ key → inside ≡ hand → IsInHand opens inside → IsPrefix hand.pass.log h → IsLeafOf key hand.state → old ≡ live (leaf_rows inside.state.rows) key → old ≡ None
      → MaySay opens h hand o (requests.Del key') (replies.Was None)
  may_tell None hand inside key' old may same view there begins leaf value none = absurd may
  may_tell (Some s) hand inside key' old may same view there begins leaf value none =
      let k = may.0 in
      subst (λ (q : List ℕ). MaySay opens h hand (Some s) (requests.Del q) (replies.Was None)) (sym same)
      (may_say_none opens k.before h hand s key k.locked k.begins k.consistent k.agrees (subst (IsInHand opens) view there) begins leaf (sym (value ∙ ap (λ (x : Hand). live (leaf_rows x.state.rows) key) view) ∙ none))

-- ---- whatever it locked

pub speaks_behind : (opens : List Record → Type 0) (h0 h : List Entry) (lock : Held) (o o' : Option SessionClaim) → OwnsLock opens h0 lock o → o' ≡ o → IsPrefix h0 h → IsConsistent opens h → IfSome o' (SessionAgrees h) → MaySpeak opens h o'
speaks_behind opens h0 h lock o o' owns same longer consistent agrees = subst (MaySpeak opens h) (sym same) (go o owns (subst (λ (q : Option SessionClaim). IfSome q (SessionAgrees h)) same agrees))
  where
    go : (o : Option SessionClaim) → OwnsLock opens h0 lock o → IfSome o (SessionAgrees h) → MaySpeak opens h o
    go None w g = absurd w
    go (Some s) w g = record { active = w.active; agrees = g; live = λ opening stands. still_live opens h0 h lock s w longer consistent g opening stands }

-- the pairs that were collected may be told
pub may_say_scan : (opens : List Record → Type 0) (h0 h1 seen : List Entry) (range : Interval) (pairs : List Pair) (o o' : Option SessionClaim) (hand inside : Hand) (told : Result Reply Memory) → OwnsLock opens h0 (lock_of (requests.Scan range)) o → o' ≡ o → IsPrefix h0 h1 → IsPrefix h1 seen → IsConsistent opens seen
    → IfSome o' (SessionAgrees seen) → inside ≡ hand → IsInHand opens inside → IsNow opens h1 hand → EndsRange range hand.state → Collects opens h0 h1 range range [] pairs → IfOk told (λ r. r ≡ replies.Pairs pairs) → IfOk told (MaySay opens seen hand o' (requests.Scan range))
may_say_scan opens h0 h1 seen range pairs o o' hand inside (Err memory) owns same first then consistent agrees view there now ends collected told = tt
may_say_scan opens h0 h1 seen range pairs o o' hand inside (Ok reply) owns same first then consistent agrees view there now ends collected told =
    subst (λ (q : Option SessionClaim × Reply). MaySay opens seen hand q.0 (requests.Scan range) q.1) (λ i. (sym same i, sym told i)) (go o owns (subst (λ (q : Option SessionClaim). IfSome q (SessionAgrees seen)) same agrees))
  where
    go : (o : Option SessionClaim) → OwnsLock opens h0 (lock_of (requests.Scan range)) o → IfSome o (SessionAgrees seen) → MaySay opens seen hand o (requests.Scan range) (replies.Pairs pairs)
    go None w g = absurd w
    go (Some s) w g = may_say_pairs opens h0 h1 seen hand s range pairs w first then consistent g (subst (IsInHand opens) view there) (prefix_trans hand.pass.log h1 seen now.begins then) ends collected

-- ---- of a del that finds nothing

pub either_none : (o : Option (List ℕ)) → is_some o ≡ false → o ≡ None
either_none None is = refl
either_none (Some v) is = absurd (cc is)

pub both_none : (old new : Option (List ℕ)) → (is_some old || is_some new) ≡ false → (old ≡ None) × (new ≡ None)
both_none None new is = (refl, either_none new is)
both_none (Some v) new is = absurd (cc is)
