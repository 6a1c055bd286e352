-- Groups that suit are legal where there is room.
use Rattle.std.proofs.Common.{◌≡◌, ◌≢◌, ℕ, Bool, true, false, cond, eqb, List, [], ◌∷◌, ◌++◌, Option, Some, None, refl, sym, ap, subst, ◌∙◌, arith, append_assoc, length-append}
use Rattle.std.specs.Prelude.{◌≤◌, ◌<◌, ◌+◌, ◌||◌, not, is_some, length, suc}
use Rattle.std.specs.List.{list_any}
use Rattle.std.specs.FinMap.{get}
use Rattle.store_model.specs.Operator.{meaning}
use Rattle.store_model.specs.declared.request.Request.{Request}
use Rattle.store_model.specs.declared.request.Request.TheVariants as requests
use Rattle.store_model.specs.declared.reply.Reply.{Reply}
use Rattle.store_model.specs.declared.reply.Outcome.{Outcome}
use Rattle.store_model.specs.declared.reply.Outcome.TheVariants as outcomes
use Rattle.wal_record.specs.declared.page.PageState.{PageState}
use Rattle.store_model.proofs.Bools.{not_both}
use Rattle.wal_record.specs.declared.record.Split.{Split}
use Rattle.wal_record.specs.declared.record.Undo.{Undo}
use Rattle.wal_record.specs.declared.record.Record.{Record}
use Rattle.wal_record.specs.declared.record.Record.TheVariants as kinds
use Rattle.wal_record.specs.declared.entry.Entry.{Entry}
use Rattle.wal_record.specs.declared.entry.Entry.TheVariants.{Rec, Said, Declined}
use Rattle.wal_record.specs.Chains.{tx_of, pages, pages_step}
use Rattle.wal_record.specs.OpenWrites.{without_last, open_step, open_writes, pending, has_items}
use Rattle.wal_record.specs.Contents.{current}
use Rattle.wal_record.specs.Checkpoints.{limit_of}
use Rattle.wal_record.specs.Sound.{UndoRule, is_format, used, spare, RoomRule, IsLawful, AreLawful, HasRoom}
use Rattle.wal_record.specs.History.{life_log, is_owner}
use Rattle.wal_record.specs.Locks.{Held, covers_write, locks}
use Rattle.wal_record.specs.Legal.{untold_step, untold, split_step, split_leaf, FollowsSplit, IsToldAs, ReplyRule, Writes, written_key, IsLocked, HasNoMeaning, MayDecline, IsAllowed, IsLegal}
use Rattle.wal_record.proofs.Along.{AllAlong_back}
use Rattle.wal_record.proofs.Pushes.{pages_push, open_push, untold_push, split_leaf_push, log_same, log_more}
use Rattle.log_laws.proofs.Locked.{write_covers}
use Rattle.log_laws.proofs.Central.{eqb_self, front_left}
use Rattle.log_laws.proofs.Serial.{sound_after}
use Rattle.log_laws.proofs.Pending.{pending_change}
use Rattle.claim_laws.specs.Resting.{Rests}
use Rattle.claim_laws.specs.Suiting.{SuitsLog, Suits, SuitsSaid}
use Rattle.claim_laws.specs.Entering.{IsAtRest, next, takes, HasRoomOf, RoomLaw, GroupsLaw, WouldWrite, DecliningLaw}
use Rattle.claim_laws.proofs.Resting.{resting}
use Rattle.claim_laws.proofs.Sessions.{owner_more}
use Rattle.claim_laws.proofs.Stable.{stable}

-- ---- room

fewer_by_one : (ws : List Record) → length (without_last ws) ≤ length ws
fewer_by_one [] = omega arith
fewer_by_one (x ∷ []) = omega arith
fewer_by_one (x ∷ y ∷ ys) = let f = fewer_by_one (y ∷ ys) in omega (arith, f)

item_more : (b : Bool) (ws : List Record) (r : Record) → length (cond b (ws ++ r ∷ []) ws) ≤ length ws + 1
item_more true ws r = let e = length-append ws (r ∷ []) in omega (arith, e)
item_more false ws r = omega arith

item_less : (b : Bool) (less ws : List Record) → length less ≤ length ws → length (cond b less ws) ≤ length ws
item_less true less ws h = h
item_less false less ws h = omega arith

-- what a record takes of pages, and of pending writes
abbrev takes_pages : Record → ℕ
takes_pages (kinds.Format f) = 1
takes_pages (kinds.Split x) = 1
takes_pages (kinds.Grow g) = 1
takes_pages _ = 0

abbrev takes_pending : Record → ℕ
takes_pending (kinds.Write w) = 1
takes_pending (kinds.Apply a) = 1
takes_pending _ = 0

takes_both : (r : Record) → takes_pages r + takes_pending r ≡ takes r
takes_both (kinds.Format f) = refl
takes_both (kinds.Write f) = refl
takes_both (kinds.Apply f) = refl
takes_both (kinds.Split f) = refl
takes_both (kinds.Grow f) = refl
takes_both _ = refl

pages_taken : (n : ℕ) (r : Record) → pages_step n r ≤ n + takes_pages r
pages_taken n (kinds.Format f) = omega arith
pages_taken n (kinds.Split x) = omega arith
pages_taken n (kinds.Grow g) = omega arith
pages_taken n _ = omega arith

open_taken : (t : ℕ) (ws : List Record) (r : Record) → length (open_step t r ws r) ≤ length ws + takes_pending r
open_taken t ws (kinds.Write w) = item_more (eqb w.tx t) ws (kinds.Write w)
open_taken t ws (kinds.Apply a) = item_more (eqb a.tx t) ws (kinds.Apply a)
open_taken t ws (kinds.Undo u) = let f = item_less (eqb u.tx t) (without_last ws) ws (fewer_by_one ws) in omega (arith, f)
open_taken t ws (kinds.Commit c) = let f = item_less (eqb c.tx t) [] ws (omega arith) in omega (arith, f)
open_taken t ws (kinds.End x) = let f = item_less (eqb x.tx t) [] ws (omega arith) in omega (arith, f)
open_taken t ws _ = omega arith

pub used_most : (log : List Record) (r : Record) → used (log ++ r ∷ []) ≤ used log + takes r
used_most log r =
    let change = (pending_change log r).change in
    let open_now = ap length (open_push log r (tx_of r)) in
    let o = open_taken (tx_of r) (open_writes log (tx_of r)) r in
    let count = pages_push log r in
    let p = pages_taken (pages log) r in
    let both = takes_both r in
    omega (arith, change, open_now, o, count, p, both)

pub room_law : (log : List Record) (r : Record) → RoomLaw log r
room_law log r = record { most = used_most log r }

pub limit_kept : (log : List Record) (more : List Record) → has_items log ≡ true → limit_of (log ++ more) ≡ limit_of log
limit_kept [] more e = absurd cc
limit_kept (kinds.Format f ∷ xs) more e = refl
limit_kept (x ∷ xs) more e = refl

pub some_of : (log : List Record) → false ≡ not (has_items log) → has_items log ≡ true
some_of [] e = absurd cc
some_of (x ∷ xs) e = refl

pub some_not_none : (log : List Record) → has_items log ≡ true → log ≢ []
some_not_none [] e n = absurd cc
some_not_none (x ∷ xs) e n = let k : suc (length xs) ≡ 0 = ap length n in absurd (omega (arith, k))

some_longer : (log more : List Record) → has_items log ≡ true → has_items (log ++ more) ≡ true
some_longer [] more e = absurd cc
some_longer (x ∷ xs) more e = refl

-- of any group that has room the log isn't empty
pub some_log : (log : List Record) (r : Record) → is_format r ≡ not (has_items log) → used log + takes r ≤ limit_of log → has_items log ≡ true
some_log [] (kinds.Format f) e room = absurd (omega (arith, room))
some_log [] (kinds.Write f) e room = absurd cc
some_log [] (kinds.Apply f) e room = absurd cc
some_log [] (kinds.Undo f) e room = absurd cc
some_log [] (kinds.Commit f) e room = absurd cc
some_log [] (kinds.End f) e room = absurd cc
some_log [] (kinds.Split f) e room = absurd cc
some_log [] (kinds.Adopt f) e room = absurd cc
some_log [] (kinds.Grow f) e room = absurd cc
some_log [] (kinds.Purge f) e room = absurd cc
some_log [] (kinds.Written f) e room = absurd cc
some_log [] (kinds.Checkpoint f) e room = absurd cc
some_log [] (kinds.BackupDone f) e room = absurd cc
some_log [] (kinds.RunDone f) e room = absurd cc
some_log [] (kinds.Lost f) e room = absurd cc
some_log [] (kinds.Restored f) e room = absurd cc
some_log (x ∷ xs) r e room = refl

takes_one : (r : Record) → takes r ≤ 1
takes_one (kinds.Format f) = omega arith
takes_one (kinds.Write f) = omega arith
takes_one (kinds.Apply f) = omega arith
takes_one (kinds.Split f) = omega arith
takes_one (kinds.Grow f) = omega arith
takes_one _ = omega arith

-- an undo gives back the room of one write
pub undo_less : (log : List Record) (u : Undo) → UndoRule (open_writes log u.tx) u → used (log ++ kinds.Undo u ∷ []) + 1 ≡ used log
undo_less log u rule =
    let change = (pending_change log (kinds.Undo u)).change in
    let count = pages_push log (kinds.Undo u) in
    let before : length (open_writes log u.tx) ≡ length rule.front + 1 = ap length rule.split ∙ length-append rule.front (rule.back ∷ []) in
    let after : length (open_writes (log ++ kinds.Undo u ∷ []) u.tx) ≡ length rule.front =
    ap length (open_push log (kinds.Undo u) u.tx ∙ front_left (open_writes log) u.tx rule.front rule.back rule.split u.tx ∙ ap (λ (b : Bool). cond b rule.front (open_writes log u.tx)) (eqb_self u.tx)) in
    omega (arith, change, count, before, after)

-- ---- one entry

pub lawful_by : (log : List Record) (r : Record) → SuitsLog log r → RoomRule log r → IsLawful log r
lawful_by log r s room = record { first = s.first; fields = s.fields; chain = s.chain; heads = s.heads; applicable = s.applicable; place = s.place; value = s.value; room = room; upkeep = s.upkeep }

module _ (opening : List Record) (h : List Entry) where
  pub enters : IsLegal opening h → untold h ≡ None → (r : Record) → Suits opening h r → RoomRule (life_log opening h) r → FollowsSplit (split_leaf opening h) (Rec (next opening h) r)
      → IsLegal opening (h ++ Rec (next opening h) r ∷ [])
  enters legal told r suits room follows = AllAlong_back (IsAllowed opening) h (Rec (next opening h) r) legal
      (record { split = follows; rule = record { told = told; place = refl; lawful = lawful_by (life_log opening h) r suits.lawful room; rule = suits.rule } })

  -- nothing is asked where no leaf was split
  pub nothing_asked : (e : Entry) → split_leaf opening h ≡ None → FollowsSplit (split_leaf opening h) e
  nothing_asked e none = subst (λ (s : Option PageState). FollowsSplit s e) (sym none) tt

  -- where a record takes no more than there is
  pub room_rule : (r : Record) (n : ℕ) → has_items (life_log opening h) ≡ true → takes r ≤ n → HasRoomOf opening h n → RoomRule (life_log opening h) r
  room_rule r n some few room =
      let most = used_most (life_log opening h) r in
      let limit = limit_kept (life_log opening h) (r ∷ []) some in
      record { most = omega (arith, most, limit, few, room); next = λ less. absurd (omega (arith, less, room)) }

  room_left : (r : Record) (n : ℕ) → has_items (life_log opening h) ≡ true → HasRoomOf opening h (takes r + n) → HasRoomOf opening (h ++ Rec (next opening h) r ∷ []) n
  room_left r n some room =
      let most = used_most (life_log opening h) r in
      let limit = limit_kept (life_log opening h) (r ∷ []) some in
      subst (λ (l : List Record). used l + n ≤ limit_of l) (sym (log_more opening h (next opening h) r)) (omega (arith, most, limit, room))

  some_after : (r : Record) → has_items (life_log opening h) ≡ true → has_items (life_log opening (h ++ Rec (next opening h) r ∷ [])) ≡ true
  some_after r some = ap has_items (log_more opening h (next opening h) r) ∙ some_longer (life_log opening h) (r ∷ []) some

  rest_after : AreLawful opening → (e : Entry) → IsLegal opening (h ++ e ∷ []) → HasRoom (life_log opening (h ++ e ∷ [])) → untold_step e ≡ None → split_step (life_log opening h) e ≡ None → IsAtRest opening (h ++ e ∷ [])
  rest_after sound e legal room told split = record {
    legal = legal;
    sound = record { lawful = sound_after opening sound (h ++ e ∷ []) legal; room = room };
    told = untold_push h e ∙ told;
    split = split_leaf_push opening h e ∙ split;
  }

  answered_with : (r : Record) (request : Request) (reply : Reply) → IsToldAs r request reply → (untold_step (Rec (next opening h) r) ≡ Some r) × (split_step (life_log opening h) (Rec (next opening h) r) ≡ None)
  answered_with (kinds.Write w) request reply told = (refl, refl)
  answered_with (kinds.Apply a) request reply told = (refl, refl)
  answered_with _ request reply told = absurd told

  -- a write that was entered, and its answer
  tells : AreLawful opening → (r : Record) → IsLegal opening (h ++ Rec (next opening h) r ∷ []) → HasRoomOf opening (h ++ Rec (next opening h) r ∷ []) 0
      → (session : ℕ) (request : Request) (reply : Reply) → is_owner h session (tx_of r) ≡ true → IsToldAs r request reply
      → IsAtRest opening ((h ++ Rec (next opening h) r ∷ []) ++ Said session (tx_of r) request reply ∷ [])
  tells sound r legal room session request reply owns told =
      let g = h ++ Rec (next opening h) r ∷ [] in
      let with = answered_with r request reply told in
      let said : IsAllowed opening g (Said session (tx_of r) request reply) = record {
        split = subst (λ (s : Option PageState). FollowsSplit s (Said session (tx_of r) request reply)) (sym (split_leaf_push opening h (Rec (next opening h) r) ∙ with.1)) tt;
        rule = record {
          owner = owner_more h (Rec (next opening h) r ∷ []) session (tx_of r) owns;
          answer = subst (λ (d : Option Record). ReplyRule d (current (life_log opening g)) (locks opening g (tx_of r)) (tx_of r) request reply) (sym (untold_push h (Rec (next opening h) r) ∙ with.0)) (refl, told);
        };
      } in
      let all = AllAlong_back (IsAllowed opening) g (Said session (tx_of r) request reply) legal said in
      let same = log_same opening g (Said session (tx_of r) request reply) refl in
      record {
        legal = all;
        sound = record { lawful = sound_after opening sound (g ++ Said session (tx_of r) request reply ∷ []) all; room = λ some. subst (λ (l : List Record). used l ≤ limit_of l) (sym same) (omega (arith, room)) };
        told = untold_push g (Said session (tx_of r) request reply);
        split = split_leaf_push opening g (Said session (tx_of r) request reply);
      }

-- ---- groups

joined : (opening : List Record) (h : List Entry) (e : Entry) (es : List Entry) → IsAtRest opening ((h ++ e ∷ []) ++ es) → IsAtRest opening (h ++ e ∷ es)
joined opening h e es rest = subst (IsAtRest opening) (append_assoc h (e ∷ []) es) rest

module _ (opening : List Record) (sound : AreLawful opening) (h : List Entry) (rest : IsAtRest opening h) where
  alone : (r : Record) → Suits opening h r → HasRoomOf opening h (takes r) → untold_step (Rec (next opening h) r) ≡ None → split_step (life_log opening h) (Rec (next opening h) r) ≡ None
      → IsAtRest opening (h ++ Rec (next opening h) r ∷ [])
  alone r suits room told split =
      let some = some_log (life_log opening h) r suits.lawful.first room in
      let few : takes r ≤ takes r = omega arith in
      let legal = enters opening h rest.legal rest.told r suits (room_rule opening h r (takes r) some few room) (nothing_asked opening h (Rec (next opening h) r) rest.split) in
      let exact : takes r + 0 ≡ takes r = omega arith in
      let left = room_left opening h r 0 some (subst (HasRoomOf opening h) (sym exact) room) in
      rest_after opening h sound (Rec (next opening h) r) legal (λ s. omega (arith, left)) told split

  told_write : (r : Record) → Suits opening h r → HasRoomOf opening h 1 → (session : ℕ) (request : Request) (reply : Reply) → is_owner h session (tx_of r) ≡ true → IsToldAs r request reply
      → IsAtRest opening (h ++ Rec (next opening h) r ∷ Said session (tx_of r) request reply ∷ [])
  told_write r suits room session request reply owns told =
      let one = takes_one r in
      let room_of : HasRoomOf opening h (takes r) = omega (arith, one, room) in
      let some = some_log (life_log opening h) r suits.lawful.first room_of in
      let few : takes r ≤ takes r = omega arith in
      let legal = enters opening h rest.legal rest.told r suits (room_rule opening h r (takes r) some few room_of) (nothing_asked opening h (Rec (next opening h) r) rest.split) in
      let exact : takes r + 0 ≡ takes r = omega arith in
      let left = room_left opening h r 0 some (subst (HasRoomOf opening h) (sym exact) room_of) in
      joined opening h (Rec (next opening h) r) (Said session (tx_of r) request reply ∷ []) (tells opening h sound r legal left session request reply owns told)

  said_alone : (session tx : ℕ) (request : Request) (reply : Reply) → SuitsSaid opening h session tx request reply → IsAtRest opening (h ++ Said session tx request reply ∷ [])
  said_alone session tx request reply suits =
      let e = Said session tx request reply in
      let legal = AllAlong_back (IsAllowed opening) h e rest.legal (record {
        split = nothing_asked opening h e rest.split;
        rule = record { owner = suits.owner; answer = subst (λ (d : Option Record). ReplyRule d (current (life_log opening h)) (locks opening h tx) tx request reply) (sym rest.told) suits.answer };
      }) in
      rest_after opening h sound e legal (subst HasRoom (sym (log_same opening h e refl)) rest.sound.room) refl refl

  declines : (session tx : ℕ) (request : Request) (why : Outcome) → MayDecline opening h session tx request why → IsAtRest opening (h ++ Declined session tx request why ∷ [])
  declines session tx request why may =
      let e = Declined session tx request why in
      let legal = AllAlong_back (IsAllowed opening) h e rest.legal (record { split = nothing_asked opening h e rest.split; rule = may }) in
      rest_after opening h sound e legal (subst HasRoom (sym (log_same opening h e refl)) rest.sound.room) refl refl

  split_legal : (x : Split) → Suits opening h (kinds.Split x) → RoomRule (life_log opening h) (kinds.Split x) → IsLegal opening (h ++ Rec (next opening h) (kinds.Split x) ∷ [])
  split_legal x suits room = enters opening h rest.legal rest.told (kinds.Split x) suits room (nothing_asked opening h (Rec (next opening h) (kinds.Split x)) rest.split)

  -- the next record's number
  next_after : (r : Record) → next opening (h ++ Rec (next opening h) r ∷ []) ≡ next opening h + 1
  next_after r = let e = ap length (log_more opening h (next opening h) r) ∙ length-append (life_log opening h) (r ∷ []) in omega (arith, e)

  asked_after : (x : Split) (e : Entry) → FollowsSplit (split_step (life_log opening h) (Rec (next opening h) (kinds.Split x))) e → FollowsSplit (split_leaf opening (h ++ Rec (next opening h) (kinds.Split x) ∷ [])) e
  asked_after x e asked = subst (λ (s : Option PageState). FollowsSplit s e) (sym (split_leaf_push opening h (Rec (next opening h) (kinds.Split x)))) asked

  split_told : (x : Split) → Suits opening h (kinds.Split x) → HasRoomOf opening h 2
      → (r : Record) → Suits opening (h ++ Rec (next opening h) (kinds.Split x) ∷ []) r
      → FollowsSplit (split_step (life_log opening h) (Rec (next opening h) (kinds.Split x))) (Rec (next opening h + 1) r)
      → (session : ℕ) (request : Request) (reply : Reply) → is_owner h session (tx_of r) ≡ true → IsToldAs r request reply
      → IsAtRest opening (h ++ Rec (next opening h) (kinds.Split x) ∷ Rec (next opening h + 1) r ∷ Said session (tx_of r) request reply ∷ [])
  split_told x suits room r then asked session request reply owns told =
      let some = some_log (life_log opening h) (kinds.Split x) suits.lawful.first (let e : used (life_log opening h) + 1 ≤ limit_of (life_log opening h) = omega (arith, room) in e) in
      let a = Rec (next opening h) (kinds.Split x) in
      let g = h ++ a ∷ [] in
      let few : 1 ≤ 2 = omega arith in
      let legal = split_legal x suits (room_rule opening h (kinds.Split x) 2 some few room) in
      let room_g : HasRoomOf opening g 1 = room_left opening h (kinds.Split x) 1 some room in
      let some_g = some_after opening h (kinds.Split x) some in
      let one = takes_one r in
      let room_of : HasRoomOf opening g (takes r) = omega (arith, one, room_g) in
      let same = next_after (kinds.Split x) in
      let few_r : takes r ≤ takes r = omega arith in
      let asked_g = subst (λ (n : ℕ). FollowsSplit (split_leaf opening g) (Rec n r)) (sym same) (asked_after x (Rec (next opening h + 1) r) asked) in
      let legal_r = enters opening g legal (untold_push h a) r then (room_rule opening g r (takes r) some_g few_r room_of) asked_g in
      let exact : takes r + 0 ≡ takes r = omega arith in
      let left = room_left opening g r 0 some_g (subst (HasRoomOf opening g) (sym exact) room_of) in
      let all = tells opening g sound r legal_r left session request reply (owner_more h (a ∷ []) session (tx_of r) owns) told in
      subst (λ (n : ℕ). IsAtRest opening (h ++ a ∷ Rec n r ∷ Said session (tx_of r) request reply ∷ [])) same
      (joined opening h a (Rec (next opening g) r ∷ Said session (tx_of r) request reply ∷ []) (joined opening g (Rec (next opening g) r) (Said session (tx_of r) request reply ∷ []) all))

  split_undo : (x : Split) → Suits opening h (kinds.Split x) → spare (kinds.Split x) ≡ 1
      → (u : Undo) → Suits opening (h ++ Rec (next opening h) (kinds.Split x) ∷ []) (kinds.Undo u)
      → FollowsSplit (split_step (life_log opening h) (Rec (next opening h) (kinds.Split x))) (Rec (next opening h + 1) (kinds.Undo u))
      → IsAtRest opening (h ++ Rec (next opening h) (kinds.Split x) ∷ Rec (next opening h + 1) (kinds.Undo u) ∷ [])
  split_undo x suits spares u then asked =
      let some = some_of (life_log opening h) suits.lawful.first in
      let within = rest.sound.room (some_not_none (life_log opening h) some) in
      let a = Rec (next opening h) (kinds.Split x) in
      let g = h ++ a ∷ [] in
      let most = used_most (life_log opening h) (kinds.Split x) in
      let limit = limit_kept (life_log opening h) (kinds.Split x ∷ []) some in
      let legal = split_legal x suits (record { most = omega (arith, most, limit, spares, within); next = λ less. absurd (omega (arith, less, within)) }) in
      let longer = log_more opening h (next opening h) (kinds.Split x) in
      let used_g : used (life_log opening g) ≤ limit_of (life_log opening g) + 1 = subst (λ (l : List Record). used l ≤ limit_of l + 1) (sym longer) (omega (arith, most, limit, within)) in
      let some_g = some_after opening h (kinds.Split x) some in
      let less = undo_less (life_log opening g) u then.lawful.value in
      let limit_g = limit_kept (life_log opening g) (kinds.Undo u ∷ []) some_g in
      let same = next_after (kinds.Split x) in
      let asked_g = subst (λ (n : ℕ). FollowsSplit (split_leaf opening g) (Rec n (kinds.Undo u))) (sym same) (asked_after x (Rec (next opening h + 1) (kinds.Undo u)) asked) in
      let legal_u = enters opening g legal (untold_push h a) (kinds.Undo u) then (record { most = omega (arith, less, limit_g, used_g); next = λ l. refl }) asked_g in
      let longer_u = log_more opening g (next opening g) (kinds.Undo u) in
      let end : IsAtRest opening (g ++ Rec (next opening g) (kinds.Undo u) ∷ []) = rest_after opening g sound (Rec (next opening g) (kinds.Undo u)) legal_u
      (λ s. subst (λ (l : List Record). used l ≤ limit_of l) (sym longer_u) (omega (arith, less, limit_g, used_g))) refl refl in
      subst (λ (n : ℕ). IsAtRest opening (h ++ a ∷ Rec n (kinds.Undo u) ∷ [])) same (joined opening h a (Rec (next opening g) (kinds.Undo u) ∷ []) end)

pub groups_law : (opening : List Record) (h : List Entry) → GroupsLaw opening h
groups_law opening h = record {
  alone = λ sound rest. alone opening sound h rest;
  told = λ sound rest. told_write opening sound h rest;
  said = λ sound rest. said_alone opening sound h rest;
  split_told = λ sound rest. split_told opening sound h rest;
  split_undo = λ sound rest. split_undo opening sound h rest;
}

-- ---- where there is no room

module _ (opening : List Record) (h : List Entry) where
  would : (r : Record) → Suits opening h r → (session : ℕ) (request : Request) (reply : Reply) → is_owner h session (tx_of r) ≡ true → IsToldAs r request reply → WouldWrite opening h session (tx_of r) request
  would (kinds.Write w) suits session (requests.Put key value) reply owns told = record {
    owner = owns;
    live = suits.rule.0;
    writes = tt;
    locked = subst (λ (k : List ℕ). list_any (covers_write k) (locks opening h w.tx) ≡ true) told.0 suits.rule.1;
  }
  would (kinds.Write w) suits session (requests.Del key) reply owns told = record {
    owner = owns;
    live = suits.rule.0;
    locked = subst (λ (k : List ℕ). list_any (covers_write k) (locks opening h w.tx) ≡ true) told.0 suits.rule.1;
    writes = had w.old w.new (get (current (life_log opening h)) key) told.1 (suits.lawful.value.1 ∙ ap (get (current (life_log opening h))) told.0) suits.lawful.value.2;
  }
    where
      had : (old new now : Option (List ℕ)) → new ≡ None → old ≡ now → (is_some old || is_some new) ≡ true → is_some now ≡ true
      had None new now n e h = absurd (not_both (is_some new) h (ap is_some n))
      had (Some v) new now n e h = ap is_some (sym e)
  would (kinds.Apply a) suits session (requests.Apply operator key argument) reply owns told = record {
    owner = owns;
    live = suits.rule.0;
    locked = subst (λ (k : List ℕ). list_any (covers_write k) (locks opening h a.tx) ≡ true) told.1 suits.rule.1;
    writes = ap is_some (meant told.0 told.2 (sym (suits.lawful.value.1 ∙ ap (get (current (life_log opening h))) told.1))) ∙ suits.lawful.value.2;
  }
    where
      meant : {o : ℕ} {g : List ℕ} {v : Option (List ℕ)} → a.operator ≡ o → a.argument ≡ g → v ≡ a.old → meaning o v g ≡ meaning a.operator a.old a.argument
      meant p q r = λ i. meaning (sym p i) (r i) (sym q i)
  would _ suits session request reply owns told = absurd told

  full : untold h ≡ None → (session tx : ℕ) (request : Request) → WouldWrite opening h session tx request → limit_of (life_log opening h) < used (life_log opening h) + 2
      → MayDecline opening h session tx request (outcomes.Full (pages (life_log opening h)) (pending (life_log opening h)))
  full told session tx request w less = record { told = told; owner = w.owner; live = w.live; locked = w.locked; cause = (refl, refl, less, w.writes) }

  module _ (sound : AreLawful opening) (more : List Entry) (legal : IsLegal opening (h ++ more)) (tx : ℕ) (rests : Rests tx more) where
    locked_later : (request : Request) → IsLocked (locks opening h tx) (written_key request) → IsLocked (locks opening (h ++ more) tx) (written_key request)
    locked_later request locked = subst (λ (ls : List Held). IsLocked ls (written_key request)) (sym ((resting opening h more tx).locks rests)) locked

    same_value : (key : List ℕ) → list_any (covers_write key) (locks opening h tx) ≡ true → get (current (life_log opening (h ++ more))) key ≡ get (current (life_log opening h)) key
    same_value key locked = (stable opening h more tx).value sound legal rests key (write_covers (locks opening h tx) key locked)

    writes_later : (request : Request) → IsLocked (locks opening h tx) (written_key request) → Writes (current (life_log opening h)) request → Writes (current (life_log opening (h ++ more))) request
    writes_later (requests.Put key value) locked writes = tt
    writes_later (requests.Del key) locked writes = ap is_some (same_value key locked) ∙ writes
    writes_later (requests.Apply operator key argument) locked writes = ap (λ (v : Option (List ℕ)). is_some (meaning operator v argument)) (same_value key locked) ∙ writes
    writes_later _ locked writes = absurd writes

    refused_later : (request : Request) → IsLocked (locks opening h tx) (written_key request) → HasNoMeaning (current (life_log opening h)) request → HasNoMeaning (current (life_log opening (h ++ more))) request
    refused_later (requests.Apply operator key argument) locked none = ap (λ (v : Option (List ℕ)). meaning operator v argument) (same_value key locked) ∙ none
    refused_later _ locked none = absurd none

    would_stay : (session : ℕ) (request : Request) → WouldWrite opening h session tx request → WouldWrite opening (h ++ more) session tx request
    would_stay session request w = record {
      owner = owner_more h more session tx w.owner;
      live = (resting opening h more tx).phase rests ∙ w.live;
      locked = locked_later request w.locked;
      writes = writes_later request w.locked w.writes;
    }

    refused_stay : (session : ℕ) (request : Request) → untold (h ++ more) ≡ None → MayDecline opening h session tx request outcomes.OpRefused → MayDecline opening (h ++ more) session tx request outcomes.OpRefused
    refused_stay session request told m = record {
      told = told;
      owner = owner_more h more session tx m.owner;
      live = (resting opening h more tx).phase rests ∙ m.live;
      locked = locked_later request m.locked;
      cause = refused_later request m.locked m.cause;
    }

pub declining_law : (opening : List Record) (h : List Entry) → DecliningLaw opening h
declining_law opening h = record {
  would = would opening h;
  stays = λ sound more legal session tx request rests w. would_stay opening h sound more legal tx rests session request w;
  refused_stays = λ sound more legal session tx request rests told m. refused_stay opening h sound more legal tx rests session request told m;
  full = full opening h;
  declined = λ sound rest. declines opening sound h rest;
}
