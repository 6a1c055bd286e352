-- A change may be handed to the journal, alone and behind the split of its leaf.
use Rattle.std.proofs.Common.{◌≡◌, ℕ, ◌<◌, ◌≤◌, List, [], ◌∷◌, Option, Some, None, Bool, true, false, cond, sym, ap, subst, ◌∙◌, refl, arith, inl, inr}
use Rattle.std.specs.Prelude.{is_some, ◌||◌, ◌&&◌}
use mathlib.Core.List.{IsPrefix}
use Rattle.books.specs.Rights.{PageClaim, SessionClaim}
use Rattle.front.proofs.Keeping.{prefix_self}
use Rattle.store_model.specs.Operator.{meaning}
use Rattle.wal_record.specs.State.{leaf_rows, live, page_room, state_size}
use Rattle.wal_record.specs.History.{Live, life_log, phase}
use Rattle.wal_record.specs.Images.{IsLeafOf, with_value}
use Rattle.wal_record.specs.OpenWrites.{open_writes}
use Rattle.wal_record.specs.Rules.{is_change, is_maybe_value, is_number, is_page}
use Rattle.wal_record.specs.Sound.{UndoRule}
use Rattle.wal_record.specs.declared.record.Record.{Record}
use Rattle.wal_record.specs.declared.entry.Entry.{Entry}
use Rattle.log_laws.proofs.Central.{eqb_self}
use Rattle.foster_laws.specs.Purges.{has_tombstone}
use Rattle.page_ops.specs.Asking.{IsAskable}
use Rattle.page_ops.specs.Claims.{Claims}
use Rattle.page_ops.specs.Groups.{IsSpelled, is_made_page, is_to, made_by, place_of}
use Rattle.page_ops.specs.Hands.{Hand, IsInHand}
use Rattle.page_ops.specs.Seeing.{IsMoment}
use Rattle.group_laws.specs.Stays.{StaysAs}
use Rattle.group_laws.proofs.Follows.{Ready, stay}
use Rattle.smo.specs.Asked.{MayAsk}
use Rattle.smo.specs.Settled.{claims_of}
use Rattle.leaf_writes.specs.Changes.{IsSpelledChange, goes_low, group_by, half_of, record_by, split_group_by}
use Rattle.leaf_writes.specs.MayChange.{IsOwnUndo, MayBy, undo_of}
use Rattle.leaf_writes.specs.declared.change.How.{How}
use Rattle.leaf_writes.specs.declared.change.How.TheVariants as hows
use Rattle.leaf_writes.proofs.AsksOne as one
use Rattle.leaf_writes.proofs.AsksSplit as two
use Rattle.leaf_writes.proofs.Halves.{upper_keeps_rules}
use Rattle.leaf_writes.proofs.EachKind.{grouped, has_page_right, no_checkpoint, no_maintenance, none_made, owner_by, rights_by, rule_on, speaker_by, spelled_by, timely_by, told_one}

module _ (opens : List Record → Type 0) (seen : List Entry) (hand : Hand) (there : IsInHand opens hand) (begins : IsPrefix hand.pass.log seen) (tx : ℕ) (key : List ℕ) (new : Option (List ℕ)) (at : IsLeafOf key hand.state) where
  abbrev was : Option (List ℕ)
  was = live (leaf_rows hand.state.rows) key

  -- ---- an undo of the session's own, at a later moment

  module _ (s : SessionClaim) (undo_next : ℕ) (number : is_number tx ≡ true) (own : IsOwnUndo opens seen (undo_of tx key new undo_next) s) (opening : List Record) (stands : opens opening) (h : List Entry) (moment : IsMoment opens seen (claims_of hand (Some s)) h) where
    steady : StaysAs opening seen h tx
    steady =
        let ready : Ready opens seen hand s = record { there = there; begins = begins; agrees = own.agrees; active = subst (λ (t : ℕ). 0 < t) (sym own.tx) (one.above_none tx number) } in
        let mine = subst (λ (z : Claims). IsMoment opens seen z h) (λ i. record { a = there.right i; b = None; c = None; s = Some s; m = None }) moment in
        subst (λ (t : ℕ). StaysAs opening seen h t) own.tx (stay opens seen hand s ready opening stands h mine).0

    still_live : phase h tx ≡ Live
    still_live = steady.phase ∙ own.live opening stands

    still_last : UndoRule (open_writes (life_log opening h) tx) (undo_of tx key new undo_next)
    still_last = subst (λ (ws : List Record). UndoRule ws (undo_of tx key new undo_next)) (sym steady.writes) (own.last opening stands)

  -- ---- at any moment

  asks_one : (how : How) (owner : Option SessionClaim) → MayBy how opens seen hand.state tx key new owner → IsSpelledChange how key new → state_size (with_value key new hand.state) ≤ page_room
      → (opening : List Record) (h : List Entry) → opens opening → IsMoment opens seen (claims_of hand owner) h → IsAskable opening h hand.right (group_by how tx key new owner hand.page)
  asks_one (hows.Write old) None may words fits opening h stands moment = absurd may.0
  asks_one (hows.Write old) (Some s) may words fits opening h stands moment =
      subst (λ (q : ℕ × Option (List ℕ)). IsAskable opening h hand.right (group_by (hows.Write q.1) q.0 key new (Some s) hand.page)) (λ i. (may.0.0 i, sym may.1 i))
      (one.write_asks opens seen hand s there begins key may.0.1 at opening stands h moment new words.key words.new (subst (λ (v : Option (List ℕ)). is_change v new ≡ true) may.1 may.2) fits hand.right)
  asks_one (hows.Apply old operator argument) None may words fits opening h stands moment = absurd may.0
  asks_one (hows.Apply old operator argument) (Some s) may words fits opening h stands moment =
      let is : new ≡ meaning operator was argument = may.2 ∙ ap (λ (v : Option (List ℕ)). meaning operator v argument) may.1 in
      subst (λ (q : ℕ × Option (List ℕ)). IsAskable opening h hand.right (group_by (hows.Apply q.1 operator argument) q.0 key new (Some s) hand.page)) (λ i. (may.0.0 i, sym may.1 i))
      (one.apply_asks opens seen hand s there begins key may.0.1 at opening stands h moment operator argument words.key words.rest.1 words.rest.2 (subst (λ (v : Option (List ℕ)). is_some v ≡ true) is may.3)
      (subst (λ (v : Option (List ℕ)). state_size (with_value key v hand.state) ≤ page_room) is fits) new hand.right)
  asks_one (hows.Undo undo_next) None may words fits opening h stands moment =
      let loser = may.2.loser opening stands in
      one.undo_asks opens seen hand None there begins tx key new undo_next at opening stands h moment fits (inr loser)
      (λ timely. rule_on (open_writes (life_log opening h) tx) (record { tx = tx; prev = 0; page = hand.page; page_prev = 0; key = key; restores = new; undo_next = undo_next }) (undo_of tx key new undo_next) refl refl refl (timely loser)) hand.right
  asks_one (hows.Undo undo_next) (Some s) may words fits opening h stands moment =
      one.undo_asks opens seen hand (Some s) there begins tx key new undo_next at opening stands h moment fits (inl (still_live s undo_next may.0 may.2 opening stands h moment)) (λ timely. still_last s undo_next may.0 may.2 opening stands h moment) hand.right

  asks_split : (how : How) (owner : Option SessionClaim) → MayBy how opens seen hand.state tx key new owner → IsSpelledChange how key new → has_tombstone hand.state ≡ false → page_room < state_size (with_value key new hand.state)
      → (opening : List Record) (h : List Entry) → opens opening → IsMoment opens seen (claims_of hand owner) h → IsAskable opening h hand.right (split_group_by how tx key new owner hand.page hand.state)
  asks_split (hows.Write old) None may words whole full opening h stands moment = absurd may.0
  asks_split (hows.Write old) (Some s) may words whole full opening h stands moment =
      subst (λ (q : ℕ × Option (List ℕ)). IsAskable opening h hand.right (split_group_by (hows.Write q.1) q.0 key new (Some s) hand.page hand.state)) (λ i. (may.0.0 i, sym may.1 i))
      (two.write_splits opens seen hand s there begins key may.0.1 at words.key whole opening stands h moment new words.new full (subst (λ (v : Option (List ℕ)). is_change v new ≡ true) may.1 may.2))
  asks_split (hows.Apply old operator argument) None may words whole full opening h stands moment = absurd may.0
  asks_split (hows.Apply old operator argument) (Some s) may words whole full opening h stands moment =
      let is : new ≡ meaning operator was argument = may.2 ∙ ap (λ (v : Option (List ℕ)). meaning operator v argument) may.1 in
      subst (λ (q : ℕ × Option (List ℕ)). IsAskable opening h hand.right (split_group_by (hows.Apply q.1 operator argument) q.0 key new (Some s) hand.page hand.state)) (λ i. (may.0.0 i, sym may.1 i))
      (two.apply_splits opens seen hand s there begins key may.0.1 at words.key whole opening stands h moment operator argument words.rest.1 words.rest.2 (subst (λ (v : Option (List ℕ)). is_some v ≡ true) is may.3)
      (subst (λ (v : Option (List ℕ)). is_maybe_value v ≡ true) is words.new) (subst (λ (v : Option (List ℕ)). page_room < state_size (with_value key v hand.state)) is full) new)
  asks_split (hows.Undo undo_next) None may words whole full opening h stands moment =
      let loser = may.2.loser opening stands in
      two.undo_splits opens seen hand None there begins tx key new undo_next at words.key words.new whole full opening stands h moment (inr loser)
      (λ timely. rule_on (open_writes (life_log opening h) tx) (record { tx = tx; prev = 0; page = half_of hand.page 0 key hand.state; page_prev = 0; key = key; restores = new; undo_next = undo_next }) (undo_of tx key new undo_next) refl refl refl (timely loser))
  asks_split (hows.Undo undo_next) (Some s) may words whole full opening h stands moment =
      two.undo_splits opens seen hand (Some s) there begins tx key new undo_next at words.key words.new whole full opening stands h moment (inl (still_live s undo_next may.0 may.2 opening stands h moment)) (λ timely. still_last s undo_next may.0 may.2 opening stands h moment)

  -- ---- what is the same at every moment

  module _ (how : How) (owner : Option SessionClaim) (may : MayBy how opens seen hand.state tx key new owner) (words : IsSpelledChange how key new) where
    abbrev x : Claims
    x = claims_of hand owner

    has_own : (made : Option ℕ) → has_page_right made x hand.page ≡ true
    has_own made =
        ap (λ (o : Option PageClaim). ((is_to hand.page o || false) || is_made_page made hand.page) && true) there.right
        ∙ ap (λ (b : Bool). ((b || false) || is_made_page made hand.page) && true) (eqb_self hand.page)

    has_half : (b : Bool) → has_page_right (Some 0) x (cond b hand.page 0) ≡ true
    has_half true = has_own (Some 0)
    has_half false = by (is_to 0 hand.right)
      where
        by : (c : Bool) → ((c || false) || true) && true ≡ true
        by true = refl
        by false = refl

    half_is_page : (b : Bool) → is_page (place_of (Some 0) 2 (cond b hand.page 0)) ≡ true
    half_is_page b = ap is_page (two.place_by b hand.page 0 2 (two.from_zero hand.page there.number)) ∙ by b
      where
        by : (b : Bool) → is_page (cond b hand.page 2) ≡ true
        by true = there.number
        by false = refl

    pub may_one : state_size (with_value key new hand.state) ≤ page_room → MayAsk opens seen x (group_by how tx key new owner hand.page)
    may_one fits =
        let r = record_by how tx hand.page key new in
        record {
          group = record {
            few = omega arith;
            kinds = ap (λ (b : Bool). b && true) (grouped how tx hand.page key new);
            spelled = (subst (λ (m : Option ℕ). IsSpelled m r) (sym (none_made how tx hand.page key new)) (spelled_by how opens seen hand.state tx key new owner None hand.page may words there.number), tt);
            told = told_one how opens seen hand.state tx hand.page key new owner may;
            alone = λ n. refl;
          };
          rights = record {
            pages = ap (λ (b : Bool). b && true) (rights_by how tx hand.page key new (made_by (r ∷ [])) x ∙ has_own (made_by (r ∷ [])));
            new = λ n. refl;
            owners = (owner_by how opens seen hand.state tx hand.page key new owner x may refl, tt);
            speaker = speaker_by how key new owner;
            maintenance = λ n. absurd (let clash : false ≡ true = sym (ap (λ (b : Bool). b || false) (no_maintenance how tx hand.page key new)) ∙ n in cc clash);
          };
          askable = λ opening h stands moment. asks_one how owner may words fits opening h stands moment;
          timely = λ opening stands. (timely_by how opens seen hand.state tx hand.page key new owner may opening stands, tt);
        }

    pub may_split : has_tombstone hand.state ≡ false → page_room < state_size (with_value key new hand.state) → MayAsk opens seen x (split_group_by how tx key new owner hand.page hand.state)
    may_split whole full =
        let half = half_of hand.page 0 key hand.state in
        record {
          group = record {
            few = omega arith;
            kinds = ap (λ (b : Bool). b && true) (grouped how tx half key new);
            spelled = (
              record { page = there.number; page_prev = refl; child = refl; child_state = upper_keeps_rules hand.state there.keeps key at whole new words.key words.new full },
              (spelled_by how opens seen hand.state tx key new owner (Some 0) half may words (half_is_page (goes_low key hand.state)), tt),
            );
            told = told_one how opens seen hand.state tx half key new owner may;
            alone = λ n. absurd (let clash : false ≡ true = sym (ap (λ (b : Bool). b || false) (no_checkpoint how tx half key new)) ∙ n in cc clash);
          };
          rights = record {
            pages = (λ i. has_own (Some 0) i && (rights_by how tx half key new (Some 0) x i && true)) ∙ ap (λ (b : Bool). b && true) (has_half (goes_low key hand.state));
            new = λ n. refl;
            owners = (tt, (owner_by how opens seen hand.state tx half key new owner x may refl, tt));
            speaker = speaker_by how key new owner;
            maintenance = λ n. absurd (let clash : false ≡ true = sym (ap (λ (b : Bool). b || false) (no_maintenance how tx half key new)) ∙ n in cc clash);
          };
          askable = λ opening h stands moment. asks_split how owner may words whole full opening h stands moment;
          timely = λ opening stands. ((seen, prefix_self seen, tt), (timely_by how opens seen hand.state tx half key new owner may opening stands, tt));
        }
