-- A change behind the split of its leaf may be asked for, whichever it is.
use Rattle.std.proofs.Common.{◌≡◌, ℕ, suc, ◌+◌, ◌<◌, ◌≤◌, ◌^◌, List, [], ◌∷◌, ◌++◌, length, Option, Some, None, Bool, true, false, cond, eqb, sym, ap, subst, ◌∙◌, refl, arith, append-nil, inl, inr}
use Rattle.std.specs.Prelude.{is_some, if◌then◌else◌, ◌==◌}
use Rattle.std.proofs.lemmas.Bool.{cases_lt, ne_eqb}
use Rattle.std.proofs.lemmas.Bool.Decides.{nat_tests}
use mathlib.Core.List.{IsPrefix}
use Rattle.books.specs.Rights.{PageClaim, SessionClaim}
use Rattle.store_model.specs.Operator.{meaning}
use Rattle.store_model.specs.declared.request.Request.TheVariants as requests
use Rattle.store_model.specs.declared.reply.Reply.TheVariants as replies
use Rattle.wal_record.specs.State.{KeepsRows, is_key, is_text, leaf_rows, live, own_part, page_room, state_size}
use Rattle.wal_record.specs.Chains.{head, last, pages}
use Rattle.wal_record.specs.Checkpoints.{limit_of}
use Rattle.wal_record.specs.History.{life_log}
use Rattle.wal_record.specs.Images.{IsLeafOf, image, with_value}
use Rattle.wal_record.specs.Legal.{MayUndo}
use Rattle.wal_record.specs.OpenWrites.{open_writes}
use Rattle.wal_record.specs.Rules.{is_change, is_maybe_value, is_page, is_u8}
use Rattle.wal_record.specs.Sound.{UndoRule, spare, used}
use Rattle.wal_record.specs.declared.page.PageState.{PageState}
use Rattle.wal_record.specs.declared.page.Rows.TheVariants.{Leaf}
use Rattle.wal_record.specs.declared.record.Split.{Split}
use Rattle.wal_record.specs.declared.record.Undo.{Undo}
use Rattle.wal_record.specs.declared.record.Record.{Record}
use Rattle.wal_record.specs.declared.record.Record.TheVariants as kinds
use Rattle.wal_record.specs.declared.entry.Entry.{Entry}
use Rattle.log_laws.proofs.Central.{eqb_self}
use Rattle.claim_laws.specs.Entering.{IsAtRest, WouldWrite, next}
use Rattle.claim_laws.specs.Filling.{HasPage}
use Rattle.claim_laws.specs.Suiting.{Suits}
use Rattle.claim_laws.proofs.Filling.{pages_law}
use Rattle.foster_laws.specs.Enters.{half_page}
use Rattle.foster_laws.specs.InHand.{IsSeen, IsSplitOf, SuitsBehind, apply_on, write_on}
use Rattle.foster_laws.specs.Purges.{has_tombstone}
use Rattle.foster_laws.specs.Splits.{LeafHalves}
use Rattle.foster_laws.proofs.Behind.{behind_law}
use Rattle.foster_laws.proofs.Entering.{split_inside}
use Rattle.foster_laws.proofs.InHand.{hand_law}
use Rattle.foster_laws.proofs.Room.{next_child}
use Rattle.page_halves.specs.Parts.{split_of}
use Rattle.page_ops.specs.Asking.{IsAskable, IsTimely}
use Rattle.page_ops.specs.Groups.{place_of}
use Rattle.page_ops.specs.Hands.{Hand, IsInHand}
use Rattle.page_ops.specs.Seeing.{IsMoment}
use Rattle.page_ops.specs.declared.group.Group.{Group}
use Rattle.page_ops.specs.declared.group.Said.{Said}
use Rattle.asking_laws.proofs.Asks.{asks_law}
use Rattle.asking_laws.proofs.Alike.{alike_law}
use Rattle.group_laws.proofs.Follows.{stay}
use Rattle.smo.specs.Settled.{claims_of}
use Rattle.smo.specs.Splits.{split_by}
use Rattle.smo.proofs.Moments.{is_image, is_seen}
use Rattle.leaf_writes.specs.Changes.{goes_low, half_of, request_of, split_group_by}
use Rattle.leaf_writes.specs.MayChange.{IsWriter, undo_of}
use Rattle.leaf_writes.specs.declared.change.How.TheVariants as hows
use Rattle.leaf_writes.proofs.AsksOne as one
use Rattle.leaf_writes.proofs.Halves.{halves, overflows}

-- the place of the record, whatever the number of the new page
pub place_by : (b : Bool) (page child new : ℕ) → eqb child page ≡ false → place_of (Some child) new (cond b page child) ≡ cond b page new
place_by true page child new apart = ap (λ (x : Bool). cond x new page) apart
place_by false page child new apart = ap (λ (x : Bool). cond x new child) (eqb_self child)

pub from_zero : (page : ℕ) → is_page page ≡ true → eqb 0 page ≡ false
from_zero page h = grind (arith, nat_tests, h)

level_none : (s : PageState) → KeepsRows s.level (own_part s) s.rows → s.rows ≡ Leaf (leaf_rows s.rows) → s.level ≡ 0
level_none s keeps is = (subst (λ r. KeepsRows s.level (own_part s) r) is keeps).0

-- ---- the split of the leaf, and the half that has the key

module _ (opens : List Record → Type 0) (seen : List Entry) (hand : Hand) (owner : Option SessionClaim) (there : IsInHand opens hand) (begins : IsPrefix hand.pass.log seen) (key : List ℕ) (new : Option (List ℕ)) (at : IsLeafOf key hand.state)
    (key_ok : is_key key ≡ true) (new_ok : is_maybe_value new ≡ true) (whole : has_tombstone hand.state ≡ false) (full : page_room < state_size (with_value key new hand.state))
    (opening : List Record) (stands : opens opening) (h : List Entry) (moment : IsMoment opens seen (claims_of hand owner) h) where
  abbrev log : List Record
  log = life_log opening h

  seen_now : IsSeen opening h
  seen_now = is_seen opens seen hand owner there begins opening stands h moment

  rest : IsAtRest opening (h ++ [])
  rest = subst (IsAtRest opening) (sym (append-nil h)) seen_now.rest

  abbrev x : Split
  x = split_of hand.page (head log hand.page) (suc (pages log)) hand.state

  same_head : head log hand.page ≡ head (life_log opening (h ++ [])) hand.page
  same_head = ap (λ (l : List Entry). head (life_log opening l) hand.page) (sym (append-nil h))

  module _ (few : length log + 3 < 2 ^ 63) (place : HasPage log) where
    parts : LeafHalves x hand.state
    parts = halves hand.state there.keeps key at whole new key_ok new_ok full hand.page (head log hand.page) (suc (pages log)) (next_child log seen_now.rest.sound.lawful seen_now.some place)

    image_is : image log hand.page ≡ Some hand.state
    image_is = is_image opens seen hand owner there begins opening stands h moment

    split : IsSplitOf log x hand.state key
    split = record { image = image_is; leaf = at.leaf; room = place; number = refl; halves = parts; own = at.own }

    suits : Suits opening h (kinds.Split x)
    suits = (hand_law opening h).split seen_now (omega (arith, few)) place x hand.state image_is refl refl parts.halves

    apart : eqb (suc (pages log)) hand.page ≡ false
    apart = ne_eqb (suc (pages log)) hand.page (λ e. let i = (split_inside log x hand.state seen_now.rest.sound.lawful seen_now.some image_is refl).1 in omega (arith, e, i))

    halved : (n : ℕ) → place_of (Some (suc (pages log))) n (half_page x key) ≡ place_of (Some 0) n (half_of hand.page 0 key hand.state)
    halved n = place_by (goes_low key hand.state) hand.page (suc (pages log)) n apart ∙ sym (place_by (goes_low key hand.state) hand.page 0 n (from_zero hand.page there.number))

    leaf_spare : spare (kinds.Split x) ≡ 1
    leaf_spare = ap (λ (n : ℕ). if n == 0 then 1 else 0) (level_none hand.state there.keeps.rows at.leaf)

-- ---- writes

module _ (opens : List Record → Type 0) (seen : List Entry) (hand : Hand) (s : SessionClaim) (there : IsInHand opens hand) (begins : IsPrefix hand.pass.log seen) (key : List ℕ) (writer : IsWriter opens seen key s) (at : IsLeafOf key hand.state)
    (key_ok : is_key key ≡ true) (whole : has_tombstone hand.state ≡ false) (opening : List Record) (stands : opens opening) (h : List Entry) (moment : IsMoment opens seen (claims_of hand (Some s)) h) where
  abbrev was : Option (List ℕ)
  was = live (leaf_rows hand.state.rows) key

  -- without room, or without LSNs, its request may be declined
  refused : (q : Record) (said : Said) → said.tx ≡ s.tx → WouldWrite opening h said.session said.tx said.request → (used (life_log opening h) + 2 ≤ limit_of (life_log opening h) → length (life_log opening h) + 3 < 2 ^ 63 → ⊥) → (a : Option PageClaim)
      → IsAskable opening h a (record { recs = split_by hand.page hand.state 0 0 ∷ q ∷ []; said = Some said; room = true; lsn = 0 })
  refused q said tx would lacks a =
      let seen_now = is_seen opens seen hand (Some s) there begins opening stands h moment in
      subst (λ (l : List Entry). IsAskable opening l a (record { recs = split_by hand.page hand.state 0 0 ∷ q ∷ []; said = Some said; room = true; lsn = 0 })) (append-nil h)
      ((asks_law opening h []).declined seen_now.lawful (subst (IsAtRest opening) (sym (append-nil h)) seen_now.rest) a (split_by hand.page hand.state 0 0) (q ∷ []) said refl would
      (λ room numbers. lacks (subst (λ (l : List Entry). used (life_log opening l) + 2 ≤ limit_of (life_log opening l)) (append-nil h) room) (subst (λ (l : List Entry). length (life_log opening l) + 3 < 2 ^ 63) (append-nil h) numbers)))

  -- where there is room it can be entered
  by_room : (g : Group) → ((used (life_log opening h) + 2 ≤ limit_of (life_log opening h) → length (life_log opening h) + 3 < 2 ^ 63 → ⊥) → IsAskable opening h hand.right g)
      → (length (life_log opening h) + 3 < 2 ^ 63 → HasPage (life_log opening h) → IsAskable opening h hand.right g) → IsAskable opening h hand.right g
  by_room g lacks enough =
      let log = life_log opening h in
      let lawful = (is_seen opens seen hand (Some s) there begins opening stands h moment).rest.sound.lawful in
      elim (cases_lt (length log + 3) (2 ^ 63)) [
        | inl few ↦ elim (cases_lt (limit_of log) (used log + 2)) [
          | inl none ↦ lacks (λ room numbers. omega (arith, room, none))
          | inr room ↦ enough few ((pages_law log).room lawful (omega (arith, room)))
        ]
        | inr many ↦ lacks (λ room numbers. omega (arith, numbers, many))
      ]

  module _ (new : Option (List ℕ)) (new_ok : is_maybe_value new ≡ true) (full : page_room < state_size (with_value key new hand.state)) where
    pub write_splits : is_change was new ≡ true → IsAskable opening h hand.right (split_group_by (hows.Write was) s.tx key new (Some s) hand.page hand.state)
    write_splits change =
        let said : Said = record { session = s.session; tx = s.tx; request = request_of key new; reply = replies.Was was } in
        let group = split_group_by (hows.Write was) s.tx key new (Some s) hand.page hand.state in
        by_room group
        (λ lacks. refused (kinds.Write (record { tx = s.tx; prev = 0; page = half_of hand.page 0 key hand.state; page_prev = 0; key = key; old = was; new = new })) said refl
        (one.would_write opens seen hand s there begins key writer at opening stands h moment new change) lacks hand.right)
        (λ few place.
        let log = life_log opening h in
        let now = seen_now opens seen hand (Some s) there begins key new at key_ok new_ok whole full opening stands h moment in
        let steady = stay opens seen hand s (one.ready opens seen hand s there begins key writer at) opening stands h (one.mine opens seen hand s there begins key writer at opening stands h moment) in
        let s_x = split_of hand.page (head log hand.page) (suc (pages log)) hand.state in
        let is_split = split opens seen hand (Some s) there begins key new at key_ok new_ok whole full opening stands h moment few place in
        let behind = (behind_law opening h s_x hand.state key).write now (omega (arith, few)) is_split s.tx (one.may_write opens seen hand s there begins key writer at opening stands h moment key_ok) new new_ok change in
        let r = write_on log (next opening h) s.tx (half_page s_x key) hand.state key new in
        let needs = (behind_law opening h s_x hand.state key).asked is_split r 0 0 (overflows hand.state there.keeps key at whole new key_ok new_ok full) in
        let asks = (asks_law opening h []).split_told now.lawful (rest opens seen hand (Some s) there begins key new at key_ok new_ok whole full opening stands h moment) hand.right s_x
        (sym (same_head opens seen hand (Some s) there begins key new at key_ok new_ok whole full opening stands h moment)) (suits opens seen hand (Some s) there begins key new at key_ok new_ok whole full opening stands h moment few place) r said
        (one.told_as (half_page s_x key) s.tx key was new (last log s.tx) (next opening h)) refl steady.1 behind.on refl needs behind.suits in
        let told : Group = record { recs = kinds.Split s_x ∷ r ∷ []; said = Some said; room = true; lsn = 0 } in
        (alike_law opening h told group).asks
        (record {
          records = (
            λ n. refl,
            (
              λ n. ap (λ (p : ℕ). kinds.Write (record { tx = s.tx; prev = n.prev; page = p; page_prev = n.page_prev; key = key; old = was; new = new })) (halved opens seen hand (Some s) there begins key new at key_ok new_ok whole full opening stands h moment few place n.child),
              tt,
            ),
          );
          said = refl;
          room = refl;
        }) hand.right (subst (λ (l : List Entry). IsAskable opening l hand.right told) (append-nil h) asks))

  pub apply_splits : (operator : ℕ) (argument : List ℕ) → is_u8 operator ≡ true → is_text argument ≡ true → is_some (meaning operator was argument) ≡ true → is_maybe_value (meaning operator was argument) ≡ true
      → page_room < state_size (with_value key (meaning operator was argument) hand.state) → (named : Option (List ℕ)) → IsAskable opening h hand.right (split_group_by (hows.Apply was operator argument) s.tx key named (Some s) hand.page hand.state)
  apply_splits operator argument operator_ok argument_ok some new_ok full named =
      let new = meaning operator was argument in
      let said : Said = record { session = s.session; tx = s.tx; request = requests.Apply operator key argument; reply = replies.Was was } in
      let group = split_group_by (hows.Apply was operator argument) s.tx key named (Some s) hand.page hand.state in
      by_room group
      (λ lacks. refused (kinds.Apply (record { tx = s.tx; prev = 0; page = half_of hand.page 0 key hand.state; page_prev = 0; key = key; operator = operator; argument = argument; old = was })) said refl
      (one.would_apply opens seen hand s there begins key writer at opening stands h moment operator argument some) lacks hand.right)
      (λ few place.
      let log = life_log opening h in
      let now = seen_now opens seen hand (Some s) there begins key new at key_ok new_ok whole full opening stands h moment in
      let steady = stay opens seen hand s (one.ready opens seen hand s there begins key writer at) opening stands h (one.mine opens seen hand s there begins key writer at opening stands h moment) in
      let s_x = split_of hand.page (head log hand.page) (suc (pages log)) hand.state in
      let is_split = split opens seen hand (Some s) there begins key new at key_ok new_ok whole full opening stands h moment few place in
      let behind = (behind_law opening h s_x hand.state key).apply now (omega (arith, few)) is_split s.tx (one.may_write opens seen hand s there begins key writer at opening stands h moment key_ok) operator argument operator_ok argument_ok some new_ok in
      let r = apply_on log (next opening h) s.tx (half_page s_x key) hand.state key operator argument in
      let needs = (behind_law opening h s_x hand.state key).asked is_split r 0 0 (overflows hand.state there.keeps key at whole new key_ok new_ok full) in
      let asks = (asks_law opening h []).split_told now.lawful (rest opens seen hand (Some s) there begins key new at key_ok new_ok whole full opening stands h moment) hand.right s_x
      (sym (same_head opens seen hand (Some s) there begins key new at key_ok new_ok whole full opening stands h moment)) (suits opens seen hand (Some s) there begins key new at key_ok new_ok whole full opening stands h moment few place) r said
      (refl, refl, refl, refl) refl steady.1 behind.on refl needs behind.suits in
      let told : Group = record { recs = kinds.Split s_x ∷ r ∷ []; said = Some said; room = true; lsn = 0 } in
      (alike_law opening h told group).asks
      (record {
        records = (
          λ n. refl,
          (
            λ n. ap (λ (p : ℕ). kinds.Apply (record { tx = s.tx; prev = n.prev; page = p; page_prev = n.page_prev; key = key; operator = operator; argument = argument; old = was }))
                (halved opens seen hand (Some s) there begins key new at key_ok new_ok whole full opening stands h moment few place n.child),
            tt,
          ),
        );
        said = refl;
        room = refl;
      }) hand.right (subst (λ (l : List Entry). IsAskable opening l hand.right told) (append-nil h) asks))

-- ---- undos

module _ (opens : List Record → Type 0) (seen : List Entry) (hand : Hand) (owner : Option SessionClaim) (there : IsInHand opens hand) (begins : IsPrefix hand.pass.log seen) (tx : ℕ) (key : List ℕ) (new : Option (List ℕ)) (undo_next : ℕ) (at : IsLeafOf key hand.state)
    (key_ok : is_key key ≡ true) (new_ok : is_maybe_value new ≡ true) (whole : has_tombstone hand.state ≡ false) (full : page_room < state_size (with_value key new hand.state))
    (opening : List Record) (stands : opens opening) (h : List Entry) (moment : IsMoment opens seen (claims_of hand owner) h) where
  abbrev group : Group
  group = split_group_by (hows.Undo undo_next) tx key new owner hand.page hand.state

  -- where it takes the last open write back
  undo_last : MayUndo opening h tx → UndoRule (open_writes (life_log opening h) tx) (undo_of tx key new undo_next) → length (life_log opening h) + 3 < 2 ^ 63 → IsAskable opening h hand.right group
  undo_last may rule few =
      let log = life_log opening h in
      let now = seen_now opens seen hand owner there begins key new at key_ok new_ok whole full opening stands h moment in
      let w = rule.back in
      let said = one.says (undo_of tx key new undo_next) w rule.takes in
      let place : HasPage log = (pages_law log).undo now.rest.sound (undo_of tx key new undo_next) rule in
      let s_x = split_of hand.page (head log hand.page) (suc (pages log)) hand.state in
      let is_split = split opens seen hand owner there begins key new at key_ok new_ok whole full opening stands h moment few place in
      let u : Undo = record { tx = tx; prev = last log tx; page = half_page s_x key; page_prev = next opening h; key = key; restores = new; undo_next = undo_next } in
      let raw = (behind_law opening h s_x hand.state key).undo now (omega (arith, few)) tx rule.front w rule.split (sym said.key) may is_split in
      let behind = subst (λ (q : List ℕ × Option (List ℕ) × ℕ). SuitsBehind opening h s_x (kinds.Undo (record { tx = tx; prev = last log tx; page = half_page s_x key; page_prev = next opening h; key = q.0; restores = q.1; undo_next = q.2 })))
      (λ i. (sym said.key i, sym said.restores i, sym said.next i)) raw in
      let needs = (behind_law opening h s_x hand.state key).asked is_split (kinds.Undo u) 0 0 (overflows hand.state there.keeps key at whole new key_ok new_ok full) in
      let asks = (asks_law opening h []).split_undo now.lawful (rest opens seen hand owner there begins key new at key_ok new_ok whole full opening stands h moment) hand.right s_x
      (sym (same_head opens seen hand owner there begins key new at key_ok new_ok whole full opening stands h moment)) (suits opens seen hand owner there begins key new at key_ok new_ok whole full opening stands h moment few place)
      (leaf_spare opens seen hand owner there begins key new at key_ok new_ok whole full opening stands h moment few place) u behind.on refl needs behind.suits in
      let told : Group = record { recs = kinds.Split s_x ∷ kinds.Undo u ∷ []; said = None; room = false; lsn = 0 } in
      (alike_law opening h told group).asks
      (record {
        records = (
          λ n. refl,
          (
            λ n. ap (λ (p : ℕ). kinds.Undo (record { tx = tx; prev = n.prev; page = p; page_prev = n.page_prev; key = key; restores = new; undo_next = undo_next })) (halved opens seen hand owner there begins key new at key_ok new_ok whole full opening stands h moment few place n.child),
            tt,
          ),
        );
        said = refl;
        room = refl;
      }) hand.right (subst (λ (l : List Entry). IsAskable opening l hand.right told) (append-nil h) asks)

  pub undo_splits : MayUndo opening h tx
      → (IsTimely opening h (kinds.Undo (record { tx = tx; prev = 0; page = half_of hand.page 0 key hand.state; page_prev = 0; key = key; restores = new; undo_next = undo_next })) → UndoRule (open_writes (life_log opening h) tx) (undo_of tx key new undo_next))
      → IsAskable opening h hand.right group
  undo_splits may rule = record {
    leaf = tt;
    follows = λ timely room numbers. (undo_last may (rule timely.1.0) numbers).follows timely room numbers;
    declines = λ lacks. absurd (cc lacks.0);
  }
