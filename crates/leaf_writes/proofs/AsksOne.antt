-- A change on its leaf may be asked for, whichever it is.
use Rattle.std.proofs.Common.{◌≡◌, ℕ, ◌+◌, ◌<◌, ◌≤◌, ◌^◌, List, [], length, Option, Some, None, Bool, true, false, sym, ap, subst, ◌∙◌, refl, arith, append-nil, inl, inr}
use Rattle.std.specs.Prelude.{is_some, ◌||◌}
use Rattle.std.specs.List.{list_any}
use Rattle.std.proofs.lemmas.Bool.{cases_lt}
use Rattle.std.proofs.lemmas.Bool.Decides.{nat_tests}
use Rattle.std.specs.FinMap.{get}
use mathlib.Core.List.{IsPrefix}
use Rattle.books.specs.Rights.{PageClaim, SessionClaim}
use Rattle.store_model.specs.Operator.{meaning}
use Rattle.store_model.specs.declared.request.Request.TheVariants as requests
use Rattle.store_model.specs.declared.reply.Reply.TheVariants as replies
use Rattle.wal_record.specs.State.{is_key, is_text, leaf_rows, live, state_size, page_room}
use Rattle.wal_record.specs.Chains.{head, last}
use Rattle.wal_record.specs.Contents.{current}
use Rattle.wal_record.specs.History.{life_log}
use Rattle.wal_record.specs.Images.{with_value, IsLeafOf}
use Rattle.wal_record.specs.Legal.{IsLocked, IsToldAs, MayUndo, Writes, written_key}
use Rattle.wal_record.specs.Locks.{covers_write, locks}
use Rattle.wal_record.specs.OpenWrites.{key_of, old_of, open_writes}
use Rattle.wal_record.specs.Rules.{is_change, is_maybe_value, is_number, is_u8}
use Rattle.wal_record.specs.Sound.{TakesBack, UndoRule}
use Rattle.wal_record.specs.declared.record.Undo.{Undo}
use Rattle.wal_record.specs.declared.record.Record.{Record}
use Rattle.wal_record.specs.declared.record.Record.TheVariants as kinds
use Rattle.wal_record.specs.declared.entry.Entry.{Entry}
use Rattle.claim_laws.specs.Entering.{IsAtRest, WouldWrite}
use Rattle.claim_laws.specs.Suiting.{Suits}
use Rattle.foster_laws.specs.InHand.{MayWrite, apply_on, prev_of, write_on}
use Rattle.foster_laws.proofs.InHand.{hand_law}
use Rattle.page_ops.specs.Asking.{IsAskable, IsTimely}
use Rattle.page_ops.specs.Claims.{Claims}
use Rattle.page_ops.specs.Hands.{Hand, IsInHand}
use Rattle.page_ops.specs.Seeing.{IsMoment}
use Rattle.page_ops.specs.declared.group.Said.{Said}
use Rattle.asking_laws.specs.Asks.{group_of, told_group}
use Rattle.asking_laws.proofs.Asks.{asks_law}
use Rattle.asking_laws.proofs.Alike.{alike_law}
use Rattle.group_laws.proofs.Follows.{Ready, page_and_session, stay, lock_stays, value_is}
use Rattle.smo.specs.Settled.{claims_of}
use Rattle.smo.proofs.Moments.{is_image, is_seen}
use Rattle.leaf_writes.specs.Changes.{group_by, request_of}
use Rattle.leaf_writes.specs.MayChange.{IsWriter, undo_of}
use Rattle.leaf_writes.specs.declared.change.How.TheVariants as hows

pub above_none : (n : ℕ) → is_number n ≡ true → 0 < n
above_none n h = grind (arith, nat_tests, h)

-- ---- writes

pub told_as : (page tx : ℕ) (key : List ℕ) (old new : Option (List ℕ)) (prev page_prev : ℕ)
    → IsToldAs (kinds.Write (record { tx = tx; prev = prev; page = page; page_prev = page_prev; key = key; old = old; new = new })) (request_of key new) (replies.Was old)
told_as page tx key old None prev page_prev = (refl, refl, refl)
told_as page tx key old (Some v) prev page_prev = (refl, refl, refl)

locked_as : (new : Option (List ℕ)) (opening : List Record) (h : List Entry) (t : ℕ) (key : List ℕ) → list_any (covers_write key) (locks opening h t) ≡ true → IsLocked (locks opening h t) (written_key (request_of key new))
locked_as None opening h t key is = is
locked_as (Some v) opening h t key is = is

or_left : (a : Bool) → (a || false) ≡ true → a ≡ true
or_left true h = refl
or_left false h = h

would_as : (m : _) (key : List ℕ) (old new : Option (List ℕ)) → old ≡ get m key → is_change old new ≡ true → Writes m (request_of key new)
would_as m key old None is change = ap is_some (sym is) ∙ or_left (is_some old) change
would_as m key old (Some v) is change = tt

module _ (opens : List Record → Type 0) (seen : List Entry) (hand : Hand) (s : SessionClaim) (there : IsInHand opens hand) (begins : IsPrefix hand.pass.log seen) (key : List ℕ) (writer : IsWriter opens seen key s) (at : IsLeafOf key hand.state) where
  abbrev pub was : Option (List ℕ)
  was = live (leaf_rows hand.state.rows) key

  pub ready : Ready opens seen hand s
  ready = record { there = there; begins = begins; agrees = writer.agrees; active = above_none s.tx writer.number }

  module _ (opening : List Record) (stands : opens opening) (h : List Entry) (moment : IsMoment opens seen (claims_of hand (Some s)) h) where
    pub mine : IsMoment opens seen (page_and_session hand s) h
    mine = subst (λ (z : Claims). IsMoment opens seen z h) (λ i. record { a = there.right i; b = None; c = None; s = Some s; m = None }) moment

    pub locked : list_any (covers_write key) (locks opening h s.tx) ≡ true
    locked = lock_stays opens seen hand s ready opening stands h mine (covers_write key) (writer.locked opening stands)

    pub may_write : is_key key ≡ true → MayWrite opening h s.tx key
    may_write key_ok = record { live = (stay opens seen hand s ready opening stands h mine).0.phase ∙ writer.live opening stands; locked = locked; number = writer.number; spelled = key_ok }

    pub would_write : (new : Option (List ℕ)) → is_change was new ≡ true → WouldWrite opening h s.session s.tx (request_of key new)
    would_write new change =
        let steady = stay opens seen hand s ready opening stands h mine in
        record {
          owner = steady.1;
          live = steady.0.phase ∙ writer.live opening stands;
          locked = locked_as new opening h s.tx key locked;
          writes = would_as (current (life_log opening h)) key was new (value_is opens seen hand s ready opening stands h mine key at) change;
        }

    pub would_apply : (operator : ℕ) (argument : List ℕ) → is_some (meaning operator was argument) ≡ true → WouldWrite opening h s.session s.tx (requests.Apply operator key argument)
    would_apply operator argument some =
        let steady = stay opens seen hand s ready opening stands h mine in
        record {
          owner = steady.1;
          live = steady.0.phase ∙ writer.live opening stands;
          locked = locked;
          writes = ap (λ (v : Option (List ℕ)). is_some (meaning operator v argument)) (sym (value_is opens seen hand s ready opening stands h mine key at)) ∙ some;
        }

    -- where there are no LSNs left its request may be declined
    declined : (q : Record) (said : Said) → said.tx ≡ s.tx → WouldWrite opening h said.session said.tx said.request → 2 ^ 63 ≤ length (life_log opening h) + 3 → (a : Option PageClaim) → IsAskable opening h a (told_group q said)
    declined q said tx would many a =
        let seen_now = is_seen opens seen hand (Some s) there begins opening stands h moment in
        subst (λ (l : List Entry). IsAskable opening l a (told_group q said)) (append-nil h)
        ((asks_law opening h []).declined seen_now.lawful (subst (IsAtRest opening) (sym (append-nil h)) seen_now.rest) a q [] said refl would
        (λ room numbers. let n = subst (λ (l : List Entry). length (life_log opening l) + 3 < 2 ^ 63) (append-nil h) numbers in absurd (omega (arith, n, many))))

    pub write_asks : (new : Option (List ℕ)) → is_key key ≡ true → is_maybe_value new ≡ true → is_change was new ≡ true → state_size (with_value key new hand.state) ≤ page_room → (a : Option PageClaim)
        → IsAskable opening h a (group_by (hows.Write was) s.tx key new (Some s) hand.page)
    write_asks new key_ok new_ok change fits a = elim (cases_lt (length (life_log opening h) + 3) (2 ^ 63)) [
      | inl few ↦
          let seen_now = is_seen opens seen hand (Some s) there begins opening stands h moment in
          let steady = stay opens seen hand s ready opening stands h mine in
          let log = life_log opening h in
          let said : Said = record { session = s.session; tx = s.tx; request = request_of key new; reply = replies.Was was } in
          let r = write_on log (head log hand.page) s.tx hand.page hand.state key new in
          let suits = (hand_law opening h).write seen_now (omega (arith, few)) hand.page hand.state key (record { image = is_image opens seen hand (Some s) there begins opening stands h moment; at = at }) s.tx (may_write key_ok) new new_ok change fits in
          let asks = (asks_law opening h []).told seen_now.lawful (subst (IsAtRest opening) (sym (append-nil h)) seen_now.rest) a r said (told_as hand.page s.tx key was new (last log s.tx) (head log hand.page)) refl steady.1
          (refl, ap (λ (l : List Entry). head (life_log opening l) hand.page) (append-nil h)) suits in
          (alike_law opening h (told_group r said) (group_by (hows.Write was) s.tx key new (Some s) hand.page)).asks (record { records = (λ n. refl, tt); said = refl; room = refl }) a
          (subst (λ (l : List Entry). IsAskable opening l a (told_group r said)) (append-nil h) asks)
      | inr many ↦ declined (kinds.Write (record { tx = s.tx; prev = 0; page = hand.page; page_prev = 0; key = key; old = was; new = new })) (record { session = s.session; tx = s.tx; request = request_of key new; reply = replies.Was was }) refl (would_write new change) many a
    ]

    pub apply_asks : (operator : ℕ) (argument : List ℕ) → is_key key ≡ true → is_u8 operator ≡ true → is_text argument ≡ true → is_some (meaning operator was argument) ≡ true → state_size (with_value key (meaning operator was argument) hand.state) ≤ page_room
        → (new : Option (List ℕ)) (a : Option PageClaim) → IsAskable opening h a (group_by (hows.Apply was operator argument) s.tx key new (Some s) hand.page)
    apply_asks operator argument key_ok operator_ok argument_ok some fits new a = elim (cases_lt (length (life_log opening h) + 3) (2 ^ 63)) [
      | inl few ↦
          let seen_now = is_seen opens seen hand (Some s) there begins opening stands h moment in
          let steady = stay opens seen hand s ready opening stands h mine in
          let log = life_log opening h in
          let said : Said = record { session = s.session; tx = s.tx; request = requests.Apply operator key argument; reply = replies.Was was } in
          let r = apply_on log (head log hand.page) s.tx hand.page hand.state key operator argument in
          let suits = (hand_law opening h).apply seen_now (omega (arith, few)) hand.page hand.state key (record { image = is_image opens seen hand (Some s) there begins opening stands h moment; at = at }) s.tx (may_write key_ok) operator argument operator_ok argument_ok some fits in
          let asks = (asks_law opening h []).told seen_now.lawful (subst (IsAtRest opening) (sym (append-nil h)) seen_now.rest) a r said (refl, refl, refl, refl) refl steady.1
          (refl, ap (λ (l : List Entry). head (life_log opening l) hand.page) (append-nil h)) suits in
          (alike_law opening h (told_group r said) (group_by (hows.Apply was operator argument) s.tx key new (Some s) hand.page)).asks (record { records = (λ n. refl, tt); said = refl; room = refl }) a
          (subst (λ (l : List Entry). IsAskable opening l a (told_group r said)) (append-nil h) asks)
      | inr many ↦
          declined (kinds.Apply (record { tx = s.tx; prev = 0; page = hand.page; page_prev = 0; key = key; operator = operator; argument = argument; old = was })) (record { session = s.session; tx = s.tx; request = requests.Apply operator key argument; reply = replies.Was was }) refl (would_apply operator argument some) many a
    ]

-- ---- undos

-- what an undo says of the write that it takes back
pub record Says (u : Undo) (w : Record) : Type 0 where
  pub key : u.key ≡ key_of w
  pub restores : u.restores ≡ old_of w
  pub next : u.undo_next ≡ prev_of w

pub says : (u : Undo) (w : Record) → TakesBack u w → Says u w
says u (kinds.Write w) takes = record { key = takes.0; restores = takes.1; next = takes.2 }
says u (kinds.Apply a) takes = record { key = takes.0; restores = takes.1; next = takes.2 }
says u _ takes = absurd takes

module _ (opens : List Record → Type 0) (seen : List Entry) (hand : Hand) (owner : Option SessionClaim) (there : IsInHand opens hand) (begins : IsPrefix hand.pass.log seen) (tx : ℕ) (key : List ℕ) (new : Option (List ℕ)) (undo_next : ℕ) (at : IsLeafOf key hand.state)
    (opening : List Record) (stands : opens opening) (h : List Entry) (moment : IsMoment opens seen (claims_of hand owner) h) where
  -- where it takes the last open write back
  undo_last : state_size (with_value key new hand.state) ≤ page_room → MayUndo opening h tx → UndoRule (open_writes (life_log opening h) tx) (undo_of tx key new undo_next) → length (life_log opening h) + 3 < 2 ^ 63 → (a : Option PageClaim)
      → IsAskable opening h a (group_by (hows.Undo undo_next) tx key new owner hand.page)
  undo_last fits may rule few a =
      let seen_now = is_seen opens seen hand owner there begins opening stands h moment in
      let log = life_log opening h in
      let w = rule.back in
      let said = says (undo_of tx key new undo_next) w rule.takes in
      let r : Undo = record { tx = tx; prev = last log tx; page = hand.page; page_prev = head log hand.page; key = key; restores = new; undo_next = undo_next } in
      let here = subst (λ (k : List ℕ). IsLeafOf k hand.state) said.key at in
      let fit = subst (λ (q : List ℕ × Option (List ℕ)). state_size (with_value q.0 q.1 hand.state) ≤ page_room) (λ i. (said.key i, said.restores i)) fits in
      let raw = (hand_law opening h).undo seen_now (omega (arith, few)) tx rule.front w rule.split may hand.page hand.state (record { image = is_image opens seen hand owner there begins opening stands h moment; at = here }) fit in
      let suits = subst (λ (q : List ℕ × Option (List ℕ) × ℕ). Suits opening h (kinds.Undo (record { tx = tx; prev = last log tx; page = hand.page; page_prev = head log hand.page; key = q.0; restores = q.1; undo_next = q.2 })))
      (λ i. (sym said.key i, sym said.restores i, sym said.next i)) raw in
      let asks = (asks_law opening h []).plain seen_now.lawful (subst (IsAtRest opening) (sym (append-nil h)) seen_now.rest) a (kinds.Undo r) refl (refl, ap (λ (l : List Entry). head (life_log opening l) hand.page) (append-nil h)) suits in
      (alike_law opening h (group_of (kinds.Undo r)) (group_by (hows.Undo undo_next) tx key new owner hand.page)).asks (record { records = (λ n. refl, tt); said = refl; room = refl }) a
      (subst (λ (l : List Entry). IsAskable opening l a (group_of (kinds.Undo r))) (append-nil h) asks)

  -- of a group that asks for no room the rule is needed where it is timely alone
  pub undo_asks : state_size (with_value key new hand.state) ≤ page_room → MayUndo opening h tx
      → (IsTimely opening h (kinds.Undo (record { tx = tx; prev = 0; page = hand.page; page_prev = 0; key = key; restores = new; undo_next = undo_next })) → UndoRule (open_writes (life_log opening h) tx) (undo_of tx key new undo_next)) → (a : Option PageClaim)
      → IsAskable opening h a (group_by (hows.Undo undo_next) tx key new owner hand.page)
  undo_asks fits may rule a = record {
    leaf = tt;
    follows = λ timely room numbers. (undo_last fits may (rule timely.0) numbers a).follows timely room numbers;
    declines = λ lacks. absurd (cc lacks.0);
  }
