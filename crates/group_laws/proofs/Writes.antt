-- The group of a put may follow, and where there is no room it may be declined.
use Rattle.std.proofs.Common.{◌≡◌, ◌≢◌, ℕ, suc, cond, ◌+◌, ◌≤◌, List, [], ◌∷◌, ◌++◌, length, Option, Some, None, Bool, true, false, refl, sym, ap, ◌∙◌, subst, arith, append_assoc, length-append}
use Rattle.std.specs.Prelude.{◌||◌, ◌<◌, ◌^◌, ◌-◌, not, option_map, IsTrue}
use Rattle.std.specs.List.{list_any}
use Rattle.std.specs.FinMap.{get}
use Rattle.std.proofs.lemmas.Bool.{eqb-true}
use Rattle.std.proofs.lemmas.List.Folds.{list_any-append}
use Rattle.store_model.specs.declared.request.Request.TheVariants as requests
use Rattle.store_model.specs.declared.reply.Reply.TheVariants as replies
use Rattle.store_model.specs.declared.reply.Outcome.TheVariants as outcomes
use Rattle.books.specs.Rights.{SessionClaim}
use Rattle.wal_record.specs.State.{live, leaf_rows, state_size, page_room}
use Rattle.wal_record.specs.Rules.{HasSpelling, is_lsn_or_none, is_number}
use Rattle.wal_record.specs.Chains.{names, head, last, pages, greatest, finishes, tx_or_none, is_link_of, link_of}
use Rattle.wal_record.specs.OpenWrites.{open_writes, pending, has_items}
use Rattle.wal_record.specs.Contents.{current}
use Rattle.wal_record.specs.Checkpoints.{limit_of}
use Rattle.wal_record.specs.Images.{image, applied, with_value, IsLeafOf, IsApplicable, CanApply}
use Rattle.wal_record.specs.Sound.{AreLawful, IsLawful, RoomRule, used}
use Rattle.wal_record.specs.History.{life_log, log_of, is_owner, phase, Live}
use Rattle.wal_record.specs.Locks.{taken_locks, locks, covers_write}
use Rattle.wal_record.specs.Legal.{IsLegal, IsAllowed, MayDecline, split_leaf, ReplyRule, FollowsSplit}
use Rattle.wal_record.specs.declared.page.PageState.{PageState}
use Rattle.wal_record.specs.declared.record.Write.{Write}
use Rattle.wal_record.specs.declared.record.Record.{Record}
use Rattle.wal_record.specs.declared.record.Record.TheVariants as kinds
use Rattle.wal_record.specs.declared.entry.Entry.{Entry}
use Rattle.wal_record.specs.declared.entry.Entry.TheVariants.{Rec, Said}
use Rattle.wal_record.proofs.Along.{by_pushes, AllAlong_back, AllAlong_less}
use Rattle.store_model.specs.Along.{along}
use Rattle.std.proofs.lemmas.Bool.Decides.{nat_tests}
use Rattle.wal_record.proofs.Pushes.{greatest_push, last_push, open_push, pages_push, untold_push, split_leaf_push}
use Rattle.log_laws.proofs.Central.{eqb_self}
use Rattle.log_laws.proofs.Serial.{less_differ, max_less, owner_new}
use Rattle.log_laws.proofs.Pending.{pending_change}
use Rattle.log_laws.proofs.Phases.{live_law}
use Rattle.log_laws.proofs.EnteringLaws.{entering}
use Rattle.page_ops.specs.Hands.{Hand}
use Rattle.page_ops.specs.Seeing.{IsMoment}
use Rattle.page_ops.specs.Asking.{HasNumbers, IsAskable}
use Rattle.page_ops.specs.Groups.{filled, least_numbers}
use Rattle.page_ops.specs.declared.group.Group.{Group}
use Rattle.group_laws.specs.Stays.{StaysAs}
use Rattle.group_laws.proofs.Quiet.{owner_stays}
use Rattle.group_laws.proofs.Follows.{Ready, page_and_session, is_image, stay, lock_stays, value_is}

-- ---- small facts of logs

unfinished : (t : ℕ) (r : Record) → tx_or_none (link_of r) < t → finishes t r ≡ false
unfinished t (kinds.Commit c) h = less_differ c.tx t h
unfinished t (kinds.End e) h = less_differ e.tx t h
unfinished t _ h = refl

or_false : (a b : Bool) → a ≡ false → b ≡ false → (a || (b || false)) ≡ false
or_false true b x y = x
or_false false true x y = y
or_false false false x y = refl

none_finishes : (log : List Record) (t : ℕ) → greatest log < t → list_any (finishes t) log ≡ false
none_finishes log t = by_pushes (λ (log : List Record). greatest log < t → list_any (finishes t) log ≡ false) (λ _. refl) (λ log r before h.
    let parts = max_less (greatest log) (tx_or_none (link_of r)) t (subst (λ (n : ℕ). n < t) (greatest_push log r) h) in
    list_any-append (finishes t) log (r ∷ []) ∙ or_false _ _ (before parts.0) (unfinished t r parts.1)) log

has_some : (log : List Record) → log ≢ [] → has_items log ≡ true
has_some [] n = absurd (n refl)
has_some (r ∷ rs) n = refl

limit_kept : (log more : List Record) → has_items log ≡ true → limit_of (log ++ more) ≡ limit_of log
limit_kept [] more e = absurd (cc e)
limit_kept (kinds.Format f ∷ xs) more e = refl
limit_kept (x ∷ xs) more e = refl

number_fits : (n : ℕ) → is_number n ≡ true → is_lsn_or_none n ≡ true
number_fits n h = grind (arith, nat_tests, h)

lsn_is : (n : ℕ) → n < 2 ^ 63 → is_lsn_or_none n ≡ true
lsn_is n h = grind (arith, h)

last_step : (n m : ℕ) (b : Bool) → m ≤ n → cond b (n + 1) m ≤ n + 1
last_step n m true e = omega arith
last_step n m false e = omega (arith, e)

none_last : (t : ℕ) → last [] t ≡ 0
unfolding last along
none_last t = refl

-- a transaction's last record is in the log
last_in : (t : ℕ) (log : List Record) → last log t ≤ length log
last_in t = by_pushes (λ (log : List Record). last log t ≤ length log) (let e = none_last t in omega (arith, e)) (λ log r before.
    let step = last_step (length log) (last log t) (is_link_of t (link_of r)) before in
    let n : length (log ++ r ∷ []) ≡ length log + 1 = length-append log (r ∷ []) in
    let e = last_push log r t in
    omega (arith, step, n, e))

-- where there is no room, the put may be declined
pub put_declines : (opens : List Record → Type 0) (seen : List Entry) (hand : Hand) (s : SessionClaim) (ready : Ready opens seen hand s) (opening : List Record) (stands : opens opening)
    (h : List Entry) (moment : IsMoment opens seen (page_and_session hand s) h) → phase seen s.tx ≡ Live → (key value : List ℕ) → list_any (covers_write key) (taken_locks seen s.tx) ≡ true
    → limit_of (life_log opening h) < pages (life_log opening h) + pending (life_log opening h) + 2
    → MayDecline opening h s.session s.tx (requests.Put key value) (outcomes.Full (pages (life_log opening h)) (pending (life_log opening h)))
put_declines opens seen hand s ready opening stands h moment live_then key value locked full =
    let steady = stay opens seen hand s ready opening stands h moment in
    record {
      told = moment.consistent.told;
      owner = steady.1;
      live = steady.0.phase ∙ live_then;
      locked = lock_stays opens seen hand s ready opening stands h moment (covers_write key) locked;
      cause = (refl, refl, full, tt);
    }

module _ (opens : List Record → Type 0) (seen : List Entry) (hand : Hand) (s : SessionClaim) (ready : Ready opens seen hand s) (opening : List Record) (stands : opens opening)
    (h : List Entry) (moment : IsMoment opens seen (page_and_session hand s) h) (live_then : phase seen s.tx ≡ Live) (w : Write) (value : List ℕ)
    (own : w.tx ≡ s.tx) (there : w.page ≡ hand.page) (leaf : IsLeafOf w.key hand.state) (old : w.old ≡ live (leaf_rows hand.state.rows) w.key) (new : w.new ≡ Some value)
    (spelled : HasSpelling (filled None least_numbers (kinds.Write w))) (fits : state_size (with_value w.key w.new hand.state) ≤ page_room)
    (locked : list_any (covers_write w.key) (taken_locks seen s.tx) ≡ true) (given : ℕ) where
  abbrev log : List Record
  log = life_log opening h

  abbrev filled_write : Write
  filled_write = record w { prev = last log w.tx; page_prev = head log w.page }

  abbrev r : Record
  r = kinds.Write filled_write

  lawful : AreLawful opening
  lawful = AllAlong_less _ opening (log_of h) (moment.consistent.sound opening stands).lawful

  steady : StaysAs opening seen h s.tx × (is_owner h s.session s.tx ≡ true)
  steady = stay opens seen hand s ready opening stands h moment

  alive : phase h w.tx ≡ Live
  alive = ap (phase h) own ∙ steady.0.phase ∙ live_then

  covered : list_any (covers_write w.key) (locks opening h w.tx) ≡ true
  covered = ap (λ t. list_any (covers_write w.key) (locks opening h t)) own ∙ lock_stays opens seen hand s ready opening stands h moment (covers_write w.key) locked

  some_items : has_items log ≡ true
  some_items = has_some log (moment.consistent.some opening stands)

  going_on : list_any (finishes w.tx) log ≡ false
  going_on =
      let first = none_finishes opening w.tx (subst (λ t. greatest opening < t) (sym own) (owner_new opening h (moment.consistent.legal opening stands) s.session s.tx steady.1)) in
      let then = ((live_law opening h).live lawful (moment.consistent.legal opening stands) w.tx alive).1 in
      list_any-append (finishes w.tx) opening (log_of h) ∙ both_no (list_any (finishes w.tx) opening) _ first then
    where
      both_no : (a b : Bool) → a ≡ false → b ≡ false → (a || b) ≡ false
      both_no true b x y = x
      both_no false b x y = y

  value_now : w.old ≡ get (current log) w.key
  value_now = old ∙ value_is opens seen hand s ready opening stands h moment w.key leaf

  on_leaf : (p : ℕ) → IsTrue (names p r) → IsApplicable r p (image log p)
  unfolding CanApply applied
  on_leaf p named =
      let here : image log p ≡ Some hand.state = ap (image log) (eqb-true p w.page named ∙ there) ∙ is_image opens seen hand s ready opening stands h moment in
      record {
        can = (hand.state, here, record { at = leaf; value = sym old });
        fits = (with_value w.key w.new hand.state, ap (λ (x : Option PageState). option_map (with_value w.key w.new) x) here, fits);
      }

  room_rule : used log + 2 ≤ limit_of log → RoomRule log r
  room_rule room =
      let p = pages_push log r in
      let change = (pending_change log r).change in
      let opened : length (open_writes (log ++ r ∷ []) w.tx) ≡ length (open_writes log w.tx) + 1 =
      ap (λ (ws : List Record). length ws) (open_push log r w.tx ∙ ap (λ c. cond c (open_writes log w.tx ++ r ∷ []) (open_writes log w.tx)) (eqb_self w.tx)) ∙ length-append (open_writes log w.tx) (r ∷ []) in
      let l = limit_kept log (r ∷ []) some_items in
      let kept = (moment.consistent.sound opening stands).room (moment.consistent.some opening stands) in
      record { most = omega (arith, p, change, opened, l, room); next = λ over. absurd (omega (arith, over, kept)) }

  write_lawful : HasNumbers opening h → used log + 2 ≤ limit_of log → IsLawful log r
  write_lawful numbers room = record {
    first = ap not (sym some_items);
    fields = record { tx = spelled.tx; prev = lsn_is (last log w.tx) (let l = last_in w.tx log in omega (arith, numbers, l)); page = spelled.page; page_prev = subst (λ (n : ℕ). is_lsn_or_none n ≡ true) (moment.rights.a opening stands ∙ ap (head log) (sym there)) (number_fits hand.lsn ready.there.place); key = spelled.key; old = spelled.old; new = spelled.new; change = spelled.change };
    chain = (refl, going_on);
    heads = (refl, tt);
    applicable = on_leaf;
    place = tt;
    value = ((entering opening h).alone lawful (moment.consistent.legal opening stands) w.tx w.key covered, value_now, spelled.change);
    room = room_rule room;
    upkeep = tt;
  }

  abbrev lsn : ℕ
  lsn = suc (length log)

  write_allowed : HasNumbers opening h → used log + 2 ≤ limit_of log → IsAllowed opening h (Rec lsn r)
  write_allowed numbers room = record {
    split = subst (λ (x : Option PageState). FollowsSplit x (Rec lsn r)) (sym (moment.consistent.split opening stands)) tt;
    rule = record { told = moment.consistent.told; place = omega arith; lawful = write_lawful numbers room; rule = (alive, covered) };
  }

  abbrev said : Entry
  said = Said s.session s.tx (requests.Put w.key value) (replies.Was w.old)

  said_allowed : IsAllowed opening (h ++ Rec lsn r ∷ []) said
  said_allowed =
      let h1 = h ++ Rec lsn r ∷ [] in
      record {
        split = subst (λ (x : Option PageState). FollowsSplit x said) (sym (split_leaf_push opening h (Rec lsn r))) tt;
        rule = record {
          owner = owner_stays h (Rec lsn r) s.session s.tx steady.1;
          answer = subst (λ (d : Option Record). ReplyRule d (current (life_log opening h1)) (locks opening h1 s.tx) s.tx (requests.Put w.key value) (replies.Was w.old)) (sym (untold_push h (Rec lsn r))) (own, (refl, new, refl));
        };
      }

  abbrev group : Group
  group = record { recs = kinds.Write w ∷ []; said = Some (record { session = s.session; tx = s.tx; request = requests.Put w.key value; reply = replies.Was w.old }); room = true; lsn = given }

  pub put_follows : IsAskable opening h (Some (record { page = hand.page; lsn = hand.lsn })) group
  put_follows = record {
    leaf = tt;
    follows = λ timely room numbers. record {
      new = 0;
      recs = r ∷ [];
      filled = ((record { prev = last log w.tx; page_prev = head log w.page; other_prev = 0; child = 0; checkpoint = least_numbers.checkpoint; pages = 0 }, refl, refl), tt);
      legal = subst (IsLegal opening) (append_assoc h (Rec lsn r ∷ []) (said ∷ []))
          (AllAlong_back _ (h ++ Rec lsn r ∷ []) said (AllAlong_back _ h (Rec lsn r) (moment.consistent.legal opening stands) (write_allowed numbers (room refl))) said_allowed);
      whole = subst (λ (l : List Entry). split_leaf opening l ≡ None) (append_assoc h (Rec lsn r ∷ []) (said ∷ [])) (split_leaf_push opening (h ++ Rec lsn r ∷ []) said);
    };
    declines = λ lacks. put_declines opens seen hand s ready opening stands h moment live_then w.key value locked (omega (arith, lacks.1));
  }
