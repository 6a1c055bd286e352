-- What suits, and what rights pin, meets the conditions of entering.
use Rattle.std.proofs.Common.{◌≡◌, ℕ, Bool, true, false, cond, eqb, List, [], ◌∷◌, ◌++◌, Option, Some, None, refl, sym, ap, subst, ◌∙◌, arith}
use Rattle.std.specs.Prelude.{◌≢◌, ◌≤◌, ◌<◌, ◌+◌, ◌^◌, max, length, suc}
use Rattle.std.proofs.Math.Nat.{le-max_left}
use Rattle.std.proofs.lemmas.Bool.{eqb-true}
use Rattle.std.proofs.lemmas.List.Sums.{sum_by-cons}
use Rattle.store_model.specs.declared.request.Request.{Request}
use Rattle.store_model.specs.declared.reply.Reply.{Reply}
use Rattle.books.specs.Rights.{PageClaim}
use Rattle.wal_record.specs.declared.page.PageState.{PageState}
use Rattle.wal_record.specs.declared.record.Checkpoint.{Checkpoint}
use Rattle.wal_record.specs.declared.record.Split.{Split}
use Rattle.wal_record.specs.declared.record.Grow.{Grow}
use Rattle.wal_record.specs.declared.record.Undo.{Undo}
use Rattle.wal_record.specs.declared.record.End.{End}
use Rattle.wal_record.specs.declared.record.Lost.{Lost}
use Rattle.wal_record.specs.declared.record.Restored.{Restored}
use Rattle.wal_record.specs.declared.record.Record.{Record}
use Rattle.wal_record.specs.declared.record.Record.TheVariants as kinds
use Rattle.wal_record.specs.declared.entry.Entry.{Entry}
use Rattle.wal_record.specs.declared.entry.Entry.TheVariants as entries
use Rattle.wal_record.specs.declared.entry.Entry.TheVariants.{Rec}
use Rattle.wal_record.specs.Chains.{pages, last, tx_of, greatest}
use Rattle.wal_record.specs.Spelling.{spelling}
use Rattle.wal_record.specs.Upkeep.{last_backup, last_run}
use Rattle.wal_record.specs.OpenWrites.{open_writes, is_loser}
use Rattle.wal_record.specs.Checkpoints.{limit_of, checkpoint_of}
use Rattle.wal_record.specs.Sound.{UndoRule, is_format, used, spare, AreLawful}
use Rattle.wal_record.specs.History.{life_log, greatest_begun, is_owner}
use Rattle.wal_record.specs.Legal.{if_leaf, untold_step, split_step, FollowsSplit, IsToldAs, Writes, written_key, IsLocked}
use Rattle.claim_laws.specs.Resting.{Rests}
use Rattle.claim_laws.specs.Suiting.{Suits, SuitsSaid, SameHead, Pins}
use Rattle.claim_laws.specs.Entering.{IsAtRest, next, takes, HasRoomOf, WouldWrite}
use Rattle.claim_laws.specs.Filling.{HasNumbers, HasPage, split_to, grow_to, placed, behind, IsOnSplit, after_split}
use Rattle.store_model.specs.declared.request.Request.TheVariants as requests
use Rattle.store_model.specs.Contents.{Contents}
use Rattle.wal_record.specs.Contents.{current}
use Rattle.wal_record.specs.Locks.{Held}
use Rattle.wal_record.proofs.Pushes.{current_push, log_more}
use Rattle.log_laws.proofs.Central.{differ}
use Rattle.claim_laws.proofs.Resting.{resting}
use Rattle.claim_laws.proofs.Sessions.{owner_more}
use Rattle.claim_laws.proofs.Suiting.{suiting_law, image_kept}
use Rattle.claim_laws.proofs.Entering.{some_of, some_not_none, groups_law, declining_law}
use Rattle.claim_laws.proofs.Numbering.{checkpoint_suits}
use Rattle.claim_laws.proofs.Filling.{filling_law, pages_law}
use Rattle.page_ops.specs.declared.group.Said.{Said}
use Rattle.page_ops.specs.declared.group.Group.{Group}
use Rattle.page_ops.specs.Causes.{log_bytes, HasReachedLimit}
use Rattle.page_ops.specs.Groups.{Numbers, no_checkpoint, place_of, AreFilledFrom, AreFilled, group_entries}
use Rattle.wal_record.specs.Images.{OnPage}
use Rattle.page_ops.specs.Asking.{AnswersFrom, HasLeaf, MayFollow, MayBeDeclined, IsAskable}
use Rattle.asking_laws.specs.Asks.{told_group, group_of, is_plain, AsksLaw}

-- ---- limits of a life

long_bytes : (log : List Record) → length log ≤ log_bytes log
long_bytes [] = omega arith
long_bytes (r ∷ log) = let l = long_bytes log in let s : log_bytes (r ∷ log) ≡ (24 + length (spelling r)) + log_bytes log = sum_by-cons (λ (x : Record). 24 + length (spelling x)) r log in omega (arith, l, s)

below_limit : (n : ℕ) → (2 ^ 62 ≤ n → ⊥) → n < 2 ^ 62
below_limit n not = omega (arith, not)

numbers_left : (opening : List Record) (h : List Entry) → (HasReachedLimit opening h → ⊥) → HasNumbers (life_log opening h) 3
numbers_left opening h not =
    let log = life_log opening h in
    let rest = max (greatest log) (max (greatest_begun h) (max (last_backup log) (max (last_run log) (length h)))) in
    let less = below_limit (max (log_bytes log) rest) not in
    let l = le-max_left (log_bytes log) rest in
    let b = long_bytes log in
    omega (arith, less, l, b)

-- ---- filling in

abbrev numbers : ℕ → ℕ → ℕ → ℕ → ℕ → Numbers
numbers prev page_prev other child pages_now = record { prev = prev; page_prev = page_prev; other_prev = other; child = child; checkpoint = no_checkpoint; pages = pages_now }

-- records that stay as they are
told_filled : (r : Record) (request : Request) (reply : Reply) → IsToldAs r request reply → AreFilled 2 (r ∷ []) (r ∷ [])
told_filled (kinds.Write w) request reply told = ((numbers w.prev w.page_prev 0 2 0, refl, refl), tt)
told_filled (kinds.Apply a) request reply told = ((numbers a.prev a.page_prev 0 2 0, refl, refl), tt)
told_filled _ request reply told = absurd told

plain_filled : (r : Record) → is_plain r ≡ true → AreFilled 2 (r ∷ []) (r ∷ [])
plain_filled (kinds.Undo u) p = ((numbers u.prev u.page_prev 0 2 0, refl, refl), tt)
plain_filled (kinds.End e) p = ((numbers e.prev 0 0 2 0, refl, refl), tt)
plain_filled (kinds.Adopt a) p = ((numbers 0 a.parent_prev a.fosterer_prev 2 0, refl, refl), tt)
plain_filled (kinds.Purge g) p = ((numbers 0 g.page_prev 0 2 0, refl, refl), tt)
plain_filled (kinds.Written w) p = ((numbers 0 0 0 2 0, refl, refl), tt)
plain_filled (kinds.BackupDone b) p = ((numbers 0 0 0 2 0, refl, refl), tt)
plain_filled (kinds.RunDone d) p = ((numbers 0 0 0 2 0, refl, refl), tt)
plain_filled _ p = absurd cc

plain_quiet : (r : Record) → is_plain r ≡ true → (opening : List Record) (h : List Entry) → (takes r ≡ 0) × (untold_step (Rec (next opening h) r) ≡ None) × (split_step (life_log opening h) (Rec (next opening h) r) ≡ None)
plain_quiet (kinds.Undo u) p opening h = (refl, refl, refl)
plain_quiet (kinds.End e) p opening h = (refl, refl, refl)
plain_quiet (kinds.Adopt a) p opening h = (refl, refl, refl)
plain_quiet (kinds.Purge g) p opening h = (refl, refl, refl)
plain_quiet (kinds.Written w) p opening h = (refl, refl, refl)
plain_quiet (kinds.BackupDone b) p opening h = (refl, refl, refl)
plain_quiet (kinds.RunDone d) p opening h = (refl, refl, refl)
plain_quiet _ p opening h = absurd cc

-- ---- one group

to_follow : (opening : List Record) (h : List Entry) (g : Group) (new : ℕ) (recs : List Record) (es : List Entry) → AreFilled new g.recs recs → es ≡ group_entries (suc (length (life_log opening h))) recs g.said
    → IsAtRest opening (h ++ es) → MayFollow opening h g
to_follow opening h g new recs es fill is rest =
    let now = subst (λ (xs : List Entry). IsAtRest opening (h ++ xs)) is rest in
    record { new = new; recs = recs; filled = fill; legal = now.legal; whole = now.split }

pub next_is : (opening : List Record) (h : List Entry) → next opening h ≡ suc (length (life_log opening h))
next_is opening h = omega arith

after_is : (opening : List Record) (h : List Entry) → next opening h + 1 ≡ suc (suc (length (life_log opening h)))
after_is opening h = omega arith

-- a request that would write behind a split would write before it
before_split : (opening : List Record) (h : List Entry) (x : Split) (session tx : ℕ) (request : Request) → is_owner h session tx ≡ true → WouldWrite opening (after_split opening h x) session tx request → WouldWrite opening h session tx request
before_split opening h x session tx request owns w =
    let law = resting opening h (Rec (next opening h) (kinds.Split x) ∷ []) tx in
    let same : current (life_log opening (after_split opening h x)) ≡ current (life_log opening h) = ap current (log_more opening h (next opening h) (kinds.Split x)) ∙ current_push (life_log opening h) (kinds.Split x) in
    record {
      owner = owns;
      live = sym (law.phase refl) ∙ w.live;
      locked = subst (λ (ls : List Held). IsLocked ls (written_key request)) (law.locks refl) w.locked;
      writes = subst (λ (m : Contents). Writes m request) same w.writes;
    }

module _ (opening : List Record) (seen more : List Entry) (sound : AreLawful opening) (rest : IsAtRest opening (seen ++ more)) (a : Option PageClaim) where
  said_entry : Said → Entry
  said_entry s = entries.Said s.session s.tx s.request s.reply

  told : (r : Record) (s : Said) → IsToldAs r s.request s.reply → s.tx ≡ tx_of r → is_owner seen s.session s.tx ≡ true → Pins opening seen more r → Suits opening seen r → IsAskable opening (seen ++ more) a (told_group r s)
  told r s told_as of owns pins suits =
      let now = (suiting_law opening seen more).record_stays sound rest.legal r pins suits in
      let owns_now : is_owner (seen ++ more) s.session (tx_of r) ≡ true = owner_more seen more s.session (tx_of r) (subst (λ (t : ℕ). is_owner seen s.session t ≡ true) of owns) in
      record {
        leaf = tt;
        follows = λ timely room limit. to_follow opening (seen ++ more) (told_group r s) 2 (r ∷ []) (Rec (next opening (seen ++ more)) r ∷ entries.Said s.session (tx_of r) s.request s.reply ∷ [])
            (told_filled r s.request s.reply told_as) (λ i. Rec (next_is opening (seen ++ more) i) r ∷ entries.Said s.session (sym of i) s.request s.reply ∷ [])
            ((groups_law opening (seen ++ more)).told sound rest r now (let k = room refl in omega (arith, k)) s.session s.request s.reply owns_now told_as);
        declines = λ lacks. subst (λ (t : ℕ). MayBeDeclined opening (seen ++ more) (Some (record s { tx = t }))) (sym of)
            ((declining_law opening (seen ++ more)).full rest.told s.session (tx_of r) s.request ((declining_law opening (seen ++ more)).would r now s.session s.request s.reply owns_now told_as) lacks.1);
      }

  declined : (r : Record) (rs : List Record) (s : Said) → Rests s.tx more → WouldWrite opening seen s.session s.tx s.request → (HasRoomOf opening (seen ++ more) 2 → HasNumbers (life_log opening (seen ++ more)) 3 → ⊥)
      → IsAskable opening (seen ++ more) a (record { recs = r ∷ rs; said = Some s; room = true; lsn = 0 })
  declined r rs s rests would none = record {
    leaf = tt;
    follows = λ timely room few. absurd (none (room refl) few);
    declines = λ lacks. (declining_law opening (seen ++ more)).full rest.told s.session s.tx s.request ((declining_law opening seen).stays sound more rest.legal s.session s.tx s.request rests would) lacks.1;
  }

  said : (s : Said) → HasLeaf opening (seen ++ more) [] (Some s) a → Rests s.tx more → SuitsSaid opening seen s.session s.tx s.request s.reply → IsAskable opening (seen ++ more) a (record { recs = []; said = Some s; room = false; lsn = 0 })
  said s leaf rests suits =
      let now = (suiting_law opening seen more).reply_stays sound rest.legal s.session s.tx s.request s.reply rests suits in
      record {
        leaf = leaf;
        follows = λ timely room limit. to_follow opening (seen ++ more) _ 2 [] (entries.Said s.session s.tx s.request s.reply ∷ []) tt refl ((groups_law opening (seen ++ more)).said sound rest s.session s.tx s.request s.reply now);
        declines = λ lacks. absurd (cc lacks.0);
      }

  alone_entry : (r : Record) → Rec (next opening (seen ++ more)) r ∷ [] ≡ group_entries (suc (length (life_log opening (seen ++ more)))) (r ∷ []) None
  alone_entry r = λ i. Rec (next_is opening (seen ++ more) i) r ∷ []

  -- where a record takes no room, there is room for it
  no_room : (r : Record) → takes r ≡ 0 → is_format r ≡ false → Suits opening (seen ++ more) r → HasRoomOf opening (seen ++ more) (takes r)
  no_room r none kind suits =
      let some = some_of (life_log opening (seen ++ more)) (sym kind ∙ suits.lawful.first) in
      let within = rest.sound.room (some_not_none (life_log opening (seen ++ more)) some) in
      omega (arith, within, none)

  plain : (r : Record) → is_plain r ≡ true → Pins opening seen more r → Suits opening seen r → IsAskable opening (seen ++ more) a (group_of r)
  plain r kind pins suits =
      let now = (suiting_law opening seen more).record_stays sound rest.legal r pins suits in
      let quiet = plain_quiet r kind opening (seen ++ more) in
      record {
        leaf = no_leaf r;
        follows = λ timely room limit. to_follow opening (seen ++ more) (group_of r) 2 (r ∷ []) (Rec (next opening (seen ++ more)) r ∷ []) (plain_filled r kind) (alone_entry r)
            ((groups_law opening (seen ++ more)).alone sound rest r now (no_room r quiet.0 (plain_kind r kind) now) quiet.1 quiet.2);
        declines = λ lacks. tt;
      }
    where
      no_leaf : (r : Record) → HasLeaf opening (seen ++ more) (r ∷ []) None a
      no_leaf r = tt

      plain_kind : (r : Record) → is_plain r ≡ true → is_format r ≡ false
      plain_kind (kinds.Format f) p = absurd cc
      plain_kind _ p = refl

  restored : (x : Restored) → Suits opening seen (kinds.Restored x) → IsAskable opening (seen ++ more) a (group_of (kinds.Restored x))
  restored x suits = record {
    leaf = tt;
    follows = λ timely room limit.
        let now = (suiting_law opening seen more).record_stays sound rest.legal (kinds.Restored x) timely.0 suits in
        to_follow opening (seen ++ more) (group_of (kinds.Restored x)) 2 (kinds.Restored x ∷ []) (Rec (next opening (seen ++ more)) (kinds.Restored x) ∷ []) ((numbers 0 0 0 2 0, refl, refl), tt) (alone_entry (kinds.Restored x))
        ((groups_law opening (seen ++ more)).alone sound rest (kinds.Restored x) now (no_room (kinds.Restored x) refl refl now) refl refl);
    declines = λ lacks. tt;
  }

  lost : (l : Lost) → Suits opening seen (kinds.Lost l) → IsAskable opening (seen ++ more) a (group_of (kinds.Lost l))
  lost l suits =
      let most = (pages_law (life_log opening (seen ++ more))).most rest.sound in
      let count = pages (life_log opening (seen ++ more)) in
      let now = (filling_law opening seen more).lost l most suits in
      let r = kinds.Lost (record { pages = count }) in
      record {
        leaf = tt;
        follows = λ timely room limit. to_follow opening (seen ++ more) (group_of (kinds.Lost l)) 2 (r ∷ []) (Rec (next opening (seen ++ more)) r ∷ []) ((numbers 0 0 0 2 count, refl, refl), tt) (alone_entry r)
            ((groups_law opening (seen ++ more)).alone sound rest r now (no_room r refl refl now) refl refl);
        declines = λ lacks. tt;
      }

  checkpoint : (c : Checkpoint) → life_log opening (seen ++ more) ≢ [] → IsAskable opening (seen ++ more) a (group_of (kinds.Checkpoint c))
  checkpoint c some =
      let r = kinds.Checkpoint (checkpoint_of (life_log opening (seen ++ more))) in
      record {
        leaf = tt;
        follows = λ timely room limit.
            let few : HasNumbers (life_log opening (seen ++ more)) 0 = omega (arith, limit) in
            let now = checkpoint_suits opening (seen ++ more) rest.sound some few in
            to_follow opening (seen ++ more) (group_of (kinds.Checkpoint c)) 2 (r ∷ []) (Rec (next opening (seen ++ more)) r ∷ [])
            ((record { prev = 0; page_prev = 0; other_prev = 0; child = 2; checkpoint = checkpoint_of (life_log opening (seen ++ more)); pages = 0 }, refl, refl), tt) (alone_entry r)
            ((groups_law opening (seen ++ more)).alone sound rest r now (no_room r refl refl now) refl refl);
        declines = λ lacks. tt;
      }

  loser_undo : (u : Undo) → is_loser opening u.tx ≡ true → SameHead opening seen more u.page → Suits opening seen (kinds.Undo u) → IsAskable opening (seen ++ more) a (group_of (kinds.Undo u))
  loser_undo u loser same suits = record {
    leaf = tt;
    follows = λ timely room limit.
        let few : HasNumbers (life_log opening (seen ++ more)) 0 = omega (arith, limit) in
        let prev = last (life_log opening (seen ++ more)) u.tx in
        let r = kinds.Undo (record u { prev = prev }) in
        let now = (filling_law opening seen more).undo sound rest.legal u loser same few (timely.0 loser) suits in
        to_follow opening (seen ++ more) (group_of (kinds.Undo u)) 2 (r ∷ []) (Rec (next opening (seen ++ more)) r ∷ []) ((numbers prev u.page_prev 0 2 0, refl, refl), tt) (alone_entry r)
        ((groups_law opening (seen ++ more)).alone sound rest r now (no_room r refl refl now) refl refl);
    declines = λ lacks. tt;
  }

  loser_end : (e : End) → is_loser opening e.tx ≡ true → Suits opening seen (kinds.End e) → IsAskable opening (seen ++ more) a (group_of (kinds.End e))
  loser_end e loser suits = record {
    leaf = tt;
    follows = λ timely room limit.
        let few : HasNumbers (life_log opening (seen ++ more)) 0 = omega (arith, limit) in
        let prev = last (life_log opening (seen ++ more)) e.tx in
        let r = kinds.End (record e { prev = prev }) in
        let now = (filling_law opening seen more).end sound rest.legal e loser few (timely.0 loser) suits in
        to_follow opening (seen ++ more) (group_of (kinds.End e)) 2 (r ∷ []) (Rec (next opening (seen ++ more)) r ∷ []) ((numbers prev 0 0 2 0, refl, refl), tt) (alone_entry r)
        ((groups_law opening (seen ++ more)).alone sound rest r now (no_room r refl refl now) refl refl);
    declines = λ lacks. tt;
  }

  page_for : (n : ℕ) → used (life_log opening (seen ++ more)) + (1 + n) ≤ limit_of (life_log opening (seen ++ more)) → HasPage (life_log opening (seen ++ more))
  page_for n room = (pages_law (life_log opening (seen ++ more))).room rest.sound.lawful (omega (arith, room))

  branch_split : (x : Split) → SameHead opening seen more x.page → split_step (life_log opening seen) (Rec 0 (kinds.Split x)) ≡ None
      → Suits opening seen (kinds.Split x) → IsAskable opening (seen ++ more) a (record { recs = kinds.Split x ∷ []; said = None; room = true; lsn = 0 })
  branch_split x same branch suits =
      let child = suc (pages (life_log opening (seen ++ more))) in
      let r = kinds.Split (split_to child x) in
      record {
        leaf = tt;
        follows = λ timely room limit.
            let has = room refl in
            let now = (filling_law opening seen more).split sound rest.legal x same (page_for 2 (omega (arith, has))) suits in
            to_follow opening (seen ++ more) _ child (r ∷ []) (Rec (next opening (seen ++ more)) r ∷ []) ((numbers 0 x.page_prev 0 child 0, refl, refl), tt) (alone_entry r)
            ((groups_law opening (seen ++ more)).alone sound rest r now (omega (arith, has)) refl (ap if_leaf (image_kept opening seen more x.page same) ∙ branch));
        declines = λ lacks. tt;
      }

  grow : (g : Grow) → SameHead opening seen more 1 → Suits opening seen (kinds.Grow g) → IsAskable opening (seen ++ more) a (record { recs = kinds.Grow g ∷ []; said = None; room = true; lsn = 0 })
  grow g same suits =
      let child = suc (pages (life_log opening (seen ++ more))) in
      let r = kinds.Grow (grow_to child g) in
      record {
        leaf = tt;
        follows = λ timely room limit.
            let has = room refl in
            let now = (filling_law opening seen more).grow sound rest.legal g same (page_for 2 (omega (arith, has))) suits in
            to_follow opening (seen ++ more) _ child (r ∷ []) (Rec (next opening (seen ++ more)) r ∷ []) ((numbers 0 g.page_prev 0 child 0, refl, refl), tt) (alone_entry r)
            ((groups_law opening (seen ++ more)).alone sound rest r now (omega (arith, has)) refl refl);
        declines = λ lacks. tt;
      }

  -- ---- the split of a leaf, and what it is made for

  page_of_group : (x : Split) (child q : ℕ) → ((eqb q x.child ≡ false) → q ≡ x.page) → placed x child q ≡ place_of (Some x.child) child q
  page_of_group x child q where_to = by (eqb q x.child) (eqb x.child q) refl refl
    where
      by : (b c : Bool) → eqb q x.child ≡ b → eqb x.child q ≡ c → cond b child x.page ≡ cond c child q
      by true true e f = refl
      by true false e f = absurd (differ x.child q f (sym (eqb-true q x.child e)))
      by false true e f = absurd (differ q x.child e (sym (eqb-true x.child q f)))
      by false false e f = sym (where_to e)

  both_filled : (x : Split) (child lsn : ℕ) (r : Record) → IsOnSplit x r → AreFilledFrom (Some x.child) child (kinds.Split x ∷ r ∷ []) (kinds.Split (split_to child x) ∷ behind x child lsn r ∷ [])
  both_filled x child lsn (kinds.Write w) onto = ((numbers 0 x.page_prev 0 child 0, refl, refl), ((numbers w.prev lsn 0 child 0, refl, λ i. kinds.Write (record w { page = page_of_group x child w.page onto i; page_prev = lsn })), tt))
  both_filled x child lsn (kinds.Apply w) onto = ((numbers 0 x.page_prev 0 child 0, refl, refl), ((numbers w.prev lsn 0 child 0, refl, λ i. kinds.Apply (record w { page = page_of_group x child w.page onto i; page_prev = lsn })), tt))
  both_filled x child lsn (kinds.Undo w) onto = ((numbers 0 x.page_prev 0 child 0, refl, refl), ((numbers w.prev lsn 0 child 0, refl, λ i. kinds.Undo (record w { page = page_of_group x child w.page onto i; page_prev = lsn })), tt))
  both_filled x child lsn _ onto = absurd onto

  told_behind : (x : Split) (child lsn : ℕ) (r : Record) (request : Request) (reply : Reply) → IsToldAs r request reply → IsToldAs (behind x child lsn r) request reply × (tx_of (behind x child lsn r) ≡ tx_of r)
  told_behind x child lsn (kinds.Write w) (requests.Put key value) reply told = ((told.0, told.1, told.2), refl)
  told_behind x child lsn (kinds.Write w) (requests.Del key) reply told = ((told.0, told.1, told.2), refl)
  told_behind x child lsn (kinds.Apply w) (requests.Apply operator key argument) reply told = ((told.0, told.1, told.2, told.3), refl)
  told_behind x child lsn _ request reply told = absurd told

  split_told : (x : Split) → SameHead opening seen more x.page → Suits opening seen (kinds.Split x)
      → (r : Record) (s : Said) → IsToldAs r s.request s.reply → s.tx ≡ tx_of r → is_owner seen s.session s.tx ≡ true → IsOnSplit x r → Rests (tx_of r) more
      → FollowsSplit (split_step (life_log opening seen) (Rec 0 (kinds.Split x))) (Rec 0 r)
      → Suits opening (after_split opening seen x) r
      → IsAskable opening (seen ++ more) a (record { recs = kinds.Split x ∷ r ∷ []; said = Some s; room = true; lsn = 0 })
  split_told x same suits r s told_as of owns onto rests asked then =
      let h = seen ++ more in
      let child = suc (pages (life_log opening h)) in
      let moved = behind x child (next opening h) r in
      let behind_is = told_behind x child (next opening h) r s.request s.reply told_as in
      let owns_now : is_owner h s.session (tx_of r) ≡ true = owner_more seen more s.session (tx_of r) (subst (λ (t : ℕ). is_owner seen s.session t ≡ true) of owns) in
      let tx_is : tx_of moved ≡ s.tx = behind_is.1 ∙ sym of in
      let owns_then : is_owner (after_split opening seen x) s.session (tx_of r) ≡ true = owner_more seen (Rec (next opening seen) (kinds.Split x) ∷ []) s.session (tx_of r) (subst (λ (t : ℕ). is_owner seen s.session t ≡ true) of owns) in
      record {
        leaf = tt;
        follows = λ timely room limit.
            let has = room refl in
            let few = page_for 1 (omega (arith, has)) in
            let numbers_two : HasNumbers (life_log opening h) 1 = omega (arith, limit) in
            let split_now = (filling_law opening seen more).split sound rest.legal x same few suits in
            let write_now = (filling_law opening seen more).write_behind sound rest.legal x same few numbers_two suits r onto rests then in
            let asks = (filling_law opening seen more).split_asks x same r 0 (next opening h) 0 (next opening h + 1) child asked in
            to_follow opening h _ child (kinds.Split (split_to child x) ∷ moved ∷ [])
            (Rec (next opening h) (kinds.Split (split_to child x)) ∷ Rec (next opening h + 1) moved ∷ entries.Said s.session (tx_of moved) s.request s.reply ∷ [])
            (both_filled x child (next opening h) r onto)
            (λ i. Rec (next_is opening h i) (kinds.Split (split_to child x)) ∷ Rec (after_is opening h i) moved ∷ entries.Said s.session (tx_is i) s.request s.reply ∷ [])
            ((groups_law opening h).split_told sound rest (split_to child x) split_now has moved write_now asks s.session s.request s.reply (subst (λ (t : ℕ). is_owner h s.session t ≡ true) (sym behind_is.1) owns_now) behind_is.0);
        declines = λ lacks.
            let would = (declining_law opening (after_split opening seen x)).would r then s.session s.request s.reply owns_then told_as in
            subst (λ (t : ℕ). MayBeDeclined opening h (Some (record s { tx = t }))) (sym of)
            ((declining_law opening h).full rest.told s.session (tx_of r) s.request
            ((declining_law opening seen).stays sound more rest.legal s.session (tx_of r) s.request rests (before_split opening seen x s.session (tx_of r) s.request (subst (λ (t : ℕ). is_owner seen s.session t ≡ true) of owns) would)) lacks.1);
      }

  split_undo : (x : Split) → SameHead opening seen more x.page → Suits opening seen (kinds.Split x)
      → spare (kinds.Split x) ≡ 1 → (u : Undo) → IsOnSplit x (kinds.Undo u) → Rests u.tx more
      → FollowsSplit (split_step (life_log opening seen) (Rec 0 (kinds.Split x))) (Rec 0 (kinds.Undo u))
      → Suits opening (after_split opening seen x) (kinds.Undo u)
      → IsAskable opening (seen ++ more) a (record { recs = kinds.Split x ∷ kinds.Undo u ∷ []; said = None; room = false; lsn = 0 })
  split_undo x same suits spares u onto rests asked then =
      let h = seen ++ more in
      let child = suc (pages (life_log opening h)) in
      let lsn = next opening h in
      let r = kinds.Undo (record u { page = placed x child u.page; page_prev = lsn }) in
      let own_now : UndoRule (open_writes (life_log opening h) u.tx) u = undo_now x u rests then in
      record {
        leaf = tt;
        follows = λ timely room limit.
            let few = (pages_law (life_log opening h)).undo rest.sound u own_now in
            let numbers_two : HasNumbers (life_log opening h) 1 = omega (arith, limit) in
            let split_now = (filling_law opening seen more).split sound rest.legal x same few suits in
            let undo_behind = (filling_law opening seen more).write_behind sound rest.legal x same few numbers_two suits (kinds.Undo u) onto rests then in
            let asks = (filling_law opening seen more).split_asks x same (kinds.Undo u) 0 lsn 0 (lsn + 1) child asked in
            to_follow opening h _ child (kinds.Split (split_to child x) ∷ r ∷ []) (Rec lsn (kinds.Split (split_to child x)) ∷ Rec (lsn + 1) r ∷ [])
            (both_filled x child lsn (kinds.Undo u) onto)
            (λ i. Rec (next_is opening h i) (kinds.Split (split_to child x)) ∷ Rec (after_is opening h i) r ∷ [])
            ((groups_law opening h).split_undo sound rest (split_to child x) split_now spares (record u { page = placed x child u.page; page_prev = lsn }) undo_behind asks);
        declines = λ lacks. tt;
      }
    where
      undo_now : (x : Split) (u : Undo) → Rests u.tx more → Suits opening (after_split opening seen x) (kinds.Undo u) → UndoRule (open_writes (life_log opening (seen ++ more)) u.tx) u
      undo_now x u rests then = subst (λ (ws : List Record). UndoRule ws u)
          (sym ((resting opening seen more u.tx).open_writes rests ∙ sym ((resting opening seen (Rec (next opening seen) (kinds.Split x) ∷ []) u.tx).open_writes refl))) then.lawful.value

  split_loser_undo : (x : Split) → SameHead opening seen more x.page → Suits opening seen (kinds.Split x)
      → spare (kinds.Split x) ≡ 1 → (u : Undo) → IsOnSplit x (kinds.Undo u) → is_loser opening u.tx ≡ true
      → FollowsSplit (split_step (life_log opening seen) (Rec 0 (kinds.Split x))) (Rec 0 (kinds.Undo u))
      → Suits opening (after_split opening seen x) (kinds.Undo u)
      → IsAskable opening (seen ++ more) a (record { recs = kinds.Split x ∷ kinds.Undo u ∷ []; said = None; room = false; lsn = 0 })
  split_loser_undo x same suits spares u onto loser asked then =
      let h = seen ++ more in
      let child = suc (pages (life_log opening h)) in
      let lsn = next opening h in
      let prev = last (life_log opening h) u.tx in
      let r = kinds.Undo (record u { prev = prev; page = placed x child u.page; page_prev = lsn }) in
      record {
        leaf = tt;
        follows = λ timely room limit.
            let own_now = timely.1.0 loser in
            let few = (pages_law (life_log opening h)).undo rest.sound u own_now in
            let numbers_two : HasNumbers (life_log opening h) 1 = omega (arith, limit) in
            let split_now = (filling_law opening seen more).split sound rest.legal x same few suits in
            let undo_behind = (filling_law opening seen more).undo_behind sound rest.legal x same few numbers_two suits u onto loser own_now then in
            let asks = (filling_law opening seen more).split_asks x same (kinds.Undo u) 0 lsn 0 (lsn + 1) child asked in
            to_follow opening h _ child (kinds.Split (split_to child x) ∷ r ∷ []) (Rec lsn (kinds.Split (split_to child x)) ∷ Rec (lsn + 1) r ∷ [])
            (((numbers 0 x.page_prev 0 child 0, refl, refl), ((numbers prev lsn 0 child 0, refl, λ i. kinds.Undo (record u { prev = prev; page = page_of_group x child u.page onto i; page_prev = lsn })), tt)))
            (λ i. Rec (next_is opening h i) (kinds.Split (split_to child x)) ∷ Rec (after_is opening h i) r ∷ [])
            ((groups_law opening h).split_undo sound rest (split_to child x) split_now spares (record u { prev = prev; page = placed x child u.page; page_prev = lsn }) undo_behind
            (undo_asks u prev lsn child x (split_step (life_log opening h) (Rec lsn (kinds.Split (split_to child x)))) asks));
        declines = λ lacks. tt;
      }
    where
      undo_asks : (u : Undo) (prev lsn child : ℕ) (x : Split) (s : Option PageState) → FollowsSplit s (Rec (lsn + 1) (behind x child lsn (kinds.Undo u))) → FollowsSplit s (Rec (lsn + 1) (kinds.Undo (record u { prev = prev; page = placed x child u.page; page_prev = lsn })))
      undo_asks u prev lsn child x None f = tt
      undo_asks u prev lsn child x (Some s) f = record { own = f.own; full = f.full }

pub asks_law : (opening : List Record) (seen more : List Entry) → AsksLaw opening seen more
asks_law opening seen more = record {
  told = told opening seen more;
  declined = declined opening seen more;
  said = said opening seen more;
  leaf_stays = λ p s same leaf. subst (OnPage (λ (x : PageState). AnswersFrom x s.request)) (sym (image_kept opening seen more p.page same)) leaf;
  plain = plain opening seen more;
  restored = restored opening seen more;
  lost = lost opening seen more;
  checkpoint = checkpoint opening seen more;
  loser_undo = loser_undo opening seen more;
  loser_end = loser_end opening seen more;
  branch_split = branch_split opening seen more;
  grow = grow opening seen more;
  split_told = split_told opening seen more;
  split_undo = split_undo opening seen more;
  split_loser_undo = split_loser_undo opening seen more;
}
