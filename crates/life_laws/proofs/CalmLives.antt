-- Whole calm lives.
use Rattle.std.proofs.Common.{◌≡◌, ℕ, false, List, [], ◌∷◌, ◌++◌, Option, Some, None, refl, sym, ap, subst, ◌∙◌, append_assoc}
use Rattle.std.specs.List.{list_any}
use Rattle.std.specs.FinMap.{get}
use Rattle.std.proofs.lemmas.List.{append-nil}
use Rattle.wal_record.specs.Rules.{HasSpelling}
use Rattle.wal_record.specs.State.{live}
use Rattle.wal_record.specs.OpenWrites.{writes}
use Rattle.wal_record.specs.Contents.{current}
use Rattle.wal_record.specs.Checkpoints.{limit_of}
use Rattle.wal_record.specs.History.{log_of, life_log}
use Rattle.wal_record.specs.declared.page.LeafRow.{LeafRow}
use Rattle.wal_record.specs.declared.record.Record.{Record}
use Rattle.wal_record.specs.declared.entry.Entry.{Entry}
use Rattle.wal_record.specs.Legal.{IsLegal}
use Rattle.wal_record.specs.Sound.{IsLawful, AreLawful, HasRoom}
use Rattle.std.proofs.lemmas.List.Folds.{list_any-append}
use Rattle.store_model.specs.Along.{AllAlong}
use Rattle.wal_record.proofs.Along.{AllAlong_more}
use Rattle.log_laws.proofs.Beginnings.{history_beginning}
use Rattle.log_laws.proofs.LeftLaws.{left_law}
use Rattle.log_laws.proofs.Serial.{serial_all, sound_after, central_of_lives}
use Rattle.life_laws.specs.Calm.{Opened, is_open, splits_page, Calm}
use Rattle.log_laws.specs.Right.{first_log}
use Rattle.life_laws.specs.Commands.{Command, Begin, Get, Put, Commit, CalmStanding, fresh, entries_in, standing_in, MayIn, entries_from, standing_from, ArePossible}
use Rattle.life_laws.specs.CalmLaw.{HasRows, CalmLaw}
use Rattle.log_laws.specs.Right.{IsRight}
use Rattle.life_laws.proofs.CalmLog.{live_is}
use Rattle.life_laws.proofs.CalmSteps.{calm_begin, calm_get, calm_put, calm_commit}
use Rattle.life_laws.proofs.Leaving.{either_false, has_room, log_of_append, left_with_room, left_behind}
use Rattle.life_laws.proofs.Start.{calm_start}

-- ---- what a calm life promises

-- what every legal life promises
pub right_of : (opening : List Record) → AreLawful opening → (h : List Entry) → IsLegal opening h → IsRight opening h
right_of opening begins h legal =
    record {
      legal = legal;
      serial = (serial_all opening h).result begins legal;
      left = left_with_room opening begins h legal;
      behind = left_behind opening begins h legal;
      first = λ own l. record { contents = (left_law opening h own).result begins legal l; acknowledged = (left_law opening h own).acknowledged begins legal l };
    }

module _ (opening : List Record) (h : List Entry) (rows : List LeafRow) (top : ℕ) (active : Option Opened) (next count lsn : ℕ) (c : Calm opening h rows top active next count lsn) where
  pub calm_sound : AreLawful (life_log opening h)
  calm_sound = sound_after opening c.begins h c.legal

  -- so each record of the log has a spelling
  pub calm_spelled : AllAlong (λ before r. HasSpelling r) (life_log opening h)
  calm_spelled = AllAlong_more IsLawful (λ before r. HasSpelling r) (λ before r lawful. lawful.fields) (life_log opening h) calm_sound

  pub calm_right : IsRight opening h
  calm_right = right_of opening c.begins h c.legal

  -- at each of its entries, where it also has room
  pub calm_right_before : (before rest : List Entry) → h ≡ before ++ rest → IsRight opening before × HasRoom (life_log opening before)
  calm_right_before before rest e =
      let logs : life_log opening h ≡ (opening ++ log_of before) ++ log_of rest = ap (λ (x : List Entry). opening ++ log_of x) e ∙ ap (λ (rs : List Record). opening ++ rs) (log_of_append before rest) ∙ sym (append_assoc opening (log_of before) (log_of rest)) in
      let legal = (history_beginning opening before rest).legal (subst (IsLegal opening) e c.legal) in
      let whole = (either_false (list_any splits_page (opening ++ log_of before)) (list_any splits_page (log_of rest)) (sym (ap (list_any splits_page) logs ∙ list_any-append splits_page (opening ++ log_of before) (log_of rest)) ∙ c.log.whole)).0 in
      (right_of opening c.begins before legal, has_room (opening ++ log_of before) (sound_after opening c.begins before legal) whole)

  pub calm_rows : HasRows (record { rows = rows; top = top; active = active; next = next; commits = count; lsn = lsn }) (life_log opening h)
  calm_rows = record { current = now; committed = λ none key. now key ∙ (central_of_lives opening h c.begins c.legal).closed key (λ t. ap (list_any (writes key)) (c.log.closed t (closed active none t))) }
    where
      now : (key : List ℕ) → live rows key ≡ get (current (life_log opening h)) key
      now key = live_is (life_log opening h) rows top active next count lsn c.log calm_sound key

      closed : (a : Option Opened) → a ≡ None → (t : ℕ) → is_open a t ≡ false
      closed None e t = refl
      closed (Some o) e t = absurd cc

-- ---- commands, one after the other

abbrev pub CalmAt : List Record → List Entry → CalmStanding → Type 0
CalmAt opening h s = Calm opening h s.rows s.top s.active s.next s.commits s.lsn

one_more : (opening : List Record) (h : List Entry) (rows : List LeafRow) (top : ℕ) (active : Option Opened) (next count lsn : ℕ) (e : Command) → Calm opening h rows top active next count lsn
    → MayIn (limit_of opening) active (record { rows = rows; top = top; active = active; next = next; commits = count; lsn = lsn }) e
    → CalmAt opening (h ++ entries_in active (record { rows = rows; top = top; active = active; next = next; commits = count; lsn = lsn }) e) (standing_in active (record { rows = rows; top = top; active = active; next = next; commits = count; lsn = lsn }) e)
one_more opening h rows top None next count lsn Begin c m = calm_begin opening h rows top next count lsn c
one_more opening h rows top (Some o) next count lsn (Get key) c m = calm_get opening h rows top o next count lsn c key
one_more opening h rows top (Some o) next count lsn (Put key value) c m = calm_put opening h rows top o next count lsn c key value m.key_fits m.value_fits m.leaf_fits m.room m.numbers.lsns m.numbers.transactions
one_more opening h rows top (Some o) next count lsn Commit c m = calm_commit opening h rows top o next count lsn c m.lsns m.transactions
one_more opening h rows top a next count lsn e c m = absurd m

pub all_of : (opening : List Record) (h : List Entry) (s : CalmStanding) (cs : List Command) → CalmAt opening h s → ArePossible (limit_of opening) s cs → CalmAt opening (h ++ entries_from s cs) (standing_from s cs)
all_of opening h s [] c m = subst (λ (x : List Entry). CalmAt opening x s) (sym (append-nil h)) c
all_of opening h s (e ∷ cs) c m =
    subst (λ (x : List Entry). CalmAt opening x (standing_from (standing_in s.active s e) cs)) (append_assoc h (entries_in s.active s e) (entries_from (standing_in s.active s e) cs))
    (all_of opening (h ++ entries_in s.active s e) (standing_in s.active s e) cs (one_more opening h s.rows s.top s.active s.next s.commits s.lsn e c m.0) m.1)

pub calm_lives : (limit : ℕ) (cs : List Command) → CalmLaw limit cs
calm_lives limit cs e m =
    let s = standing_from fresh cs in
    let h = entries_from fresh cs in
    let c : CalmAt (first_log limit) h s = all_of (first_log limit) [] fresh cs (calm_start limit e) m in
    (calm_right_before (first_log limit) h s.rows s.top s.active s.next s.commits s.lsn c, calm_rows (first_log limit) h s.rows s.top s.active s.next s.commits s.lsn c)
