-- A calm life opens what the one before it left.
use Rattle.std.proofs.Common.{◌≡◌, ℕ, ◌+◌, ◌<◌, suc, Bool, false, cond, List, [], ◌∷◌, ◌++◌, length, Option, Some, None, refl, sym, ap, subst, ◌∙◌, arith, append_assoc}
use Rattle.std.specs.Prelude.{◌||◌}
use Rattle.std.specs.List.{list_any}
use Rattle.std.proofs.Math.Nat.{max-zero}
use Rattle.std.proofs.lemmas.List.{append-nil}
use Rattle.std.proofs.lemmas.List.Folds.{list_any-append}
use Rattle.store_model.specs.Along.{along}
use Rattle.wal_record.specs.Chains.{Link, link_of, is_link_of, tx_or_none, last, finishes, greatest}
use Rattle.wal_record.specs.Checkpoints.{limit_of}
use Rattle.wal_record.specs.History.{log_of, life_log, phase, greatest_begun, last_begun}
use Rattle.wal_record.specs.Locks.{taken_locks}
use Rattle.wal_record.specs.Legal.{split_leaf}
use Rattle.wal_record.specs.Left.{acknowledges, IsLeft, AreLives}
use Rattle.wal_record.specs.declared.page.LeafRow.{LeafRow}
use Rattle.wal_record.specs.declared.record.Record.{Record}
use Rattle.wal_record.specs.declared.record.Record.TheVariants as kinds
use Rattle.wal_record.specs.declared.entry.Entry.{Entry}
use Rattle.wal_record.proofs.Along.{by_pushes}
use Rattle.wal_record.proofs.Pushes.{greatest_push, last_push}
use Rattle.log_laws.proofs.LeftLaws.{lives_law}
use Rattle.log_laws.proofs.Serial.{less_differ, max_less, sound_after}
use Rattle.life_laws.specs.Calm.{Opened, IsUnnamed, CalmLog, CalmHistory, Calm}
use Rattle.log_laws.specs.Right.{first_log}
use Rattle.life_laws.specs.Commands.{Command, Begin, Get, Put, Commit, CalmStanding, fresh, entries_in, standing_in, entries_from, standing_from, ArePossible}
use Rattle.life_laws.specs.Stops.{is_commit_command, Commands, reopened, lives_from, MayAllStop, CalmStopsLaw}
use Rattle.life_laws.proofs.CalmLog.{limit_kept}
use Rattle.life_laws.proofs.CalmLives.{CalmAt, all_of}
use Rattle.life_laws.proofs.Leaving.{either_false, left_whole, left_longer}
use Rattle.life_laws.proofs.Start.{nothing_told, nothing_legal, calm_start}

-- ---- numbers above those of a log

unlinked : (t : ℕ) (l : Option Link) → tx_or_none l < t → is_link_of t l ≡ false
unlinked t None h = refl
unlinked t (Some l) h = less_differ l.tx t h

unfinished : (t : ℕ) (r : Record) → tx_or_none (link_of r) < t → finishes t r ≡ false
unfinished t (kinds.Commit c) h = less_differ c.tx t h
unfinished t (kinds.End e) h = less_differ e.tx t h
unfinished t _ h = refl

nothing_last : (t : ℕ) → last [] t ≡ 0
unfolding last along
nothing_last t = refl

pub unnamed : (t : ℕ) (log : List Record) → greatest log < t → IsUnnamed log t
unnamed t = by_pushes (λ (log : List Record). greatest log < t → IsUnnamed log t) (λ _. record { chain = nothing_last t; unfinished = refl }) (λ log r before h.
    let parts = max_less (greatest log) (tx_or_none (link_of r)) t (subst (λ (n : ℕ). n < t) (greatest_push log r) h) in
    record {
      chain = last_push log r t ∙ ap (λ (b : Bool). cond b (length log + 1) (last log t)) (unlinked t (link_of r) parts.1) ∙ (before parts.0).chain;
      unfinished = list_any-append (finishes t) log (r ∷ []) ∙ ap (λ (b : Bool). b || (finishes t r || false)) (before parts.0).unfinished ∙ ap (λ (b : Bool). b || false) (unfinished t r parts.1);
    })

-- ---- the next life

log_reopened : (log : List Record) (rows : List LeafRow) (top next count lsn : ℕ) → CalmLog log rows top None next count lsn → CalmLog log rows top None (suc (greatest log)) count lsn
log_reopened log rows top next count lsn c =
    record {
      some = c.some;
      size = c.size;
      leaf = c.leaf;
      page_head = c.page_head;
      below = c.below;
      one_page = c.one_page;
      whole = c.whole;
      closed = c.closed;
      unfinished = c.unfinished;
      room = c.room;
      opened = tt;
      fresh = λ t l. unnamed t log (omega (arith, l));
      commits_are = c.commits_are;
    }

pub history_reopened : (log : List Record) → CalmHistory log [] None (suc (greatest log))
unfolding along greatest_begun last_begun phase taken_locks split_leaf
history_reopened log = record { number = ap suc (sym (max-zero (greatest log))); sessions = λ s l. refl; rest = λ t a. record { idle = refl; unlocked = refl }; opened = tt; no_split = refl }

-- a life over all records of the one before it, in which no transaction was open
pub calm_reopened : (opening : List Record) (h : List Entry) (rows : List LeafRow) (top next count lsn : ℕ) → Calm opening h rows top None next count lsn
    → Calm (life_log opening h) [] rows top None (suc (greatest (life_log opening h))) count lsn
calm_reopened opening h rows top next count lsn c =
    let log = life_log opening h in
    record {
      found = c.log.some;
      begins = sound_after opening c.begins h c.legal;
      settled = λ t. c.log.closed t refl;
      legal = nothing_legal log;
      told = nothing_told;
      log = subst (λ (l : List Record). CalmLog l rows top None (suc (greatest log)) count lsn) (sym (append-nil log)) (log_reopened log rows top next count lsn c.log);
      history = history_reopened log;
    }

-- ---- stops

unheard : (t : ℕ) (s : CalmStanding) (active : Option Opened) (c : Command) → is_commit_command c ≡ false → list_any (acknowledges t) (entries_in active s c) ≡ false
unheard t s None Begin e = refl
unheard t s (Some o) (Get key) e = refl
unheard t s (Some o) (Put key value) e = refl
unheard t s (Some o) Commit e = absurd cc
unheard t s a c e = refl

all_unheard : (t : ℕ) (s : CalmStanding) (cs : List Command) → list_any is_commit_command cs ≡ false → list_any (acknowledges t) (entries_from s cs) ≡ false
all_unheard t s [] e = refl
all_unheard t s (c ∷ cs) e =
    let parts = either_false (is_commit_command c) (list_any is_commit_command cs) e in
    list_any-append (acknowledges t) (entries_in s.active s c) (entries_from (standing_in s.active s c) cs)
    ∙ ap (λ (b : Bool). b || list_any (acknowledges t) (entries_from (standing_in s.active s c) cs)) (unheard t s s.active c parts.0) ∙ all_unheard t (standing_in s.active s c) cs parts.1

entries_append : (s : CalmStanding) (cs ds : List Command) → entries_from s (cs ++ ds) ≡ entries_from s cs ++ entries_from (standing_from s cs) ds
entries_append s [] ds = refl
entries_append s (c ∷ cs) ds =
    ap (λ (es : List Entry). entries_in s.active s c ++ es) (entries_append (standing_in s.active s c) cs ds)
    ∙ sym (append_assoc (entries_in s.active s c) (entries_from (standing_in s.active s c) cs) _)

possible_first : (limit : ℕ) (s : CalmStanding) (cs ds : List Command) → ArePossible limit s (cs ++ ds) → ArePossible limit s cs
possible_first limit s [] ds m = tt
possible_first limit s (c ∷ cs) ds m = (m.0, possible_first limit (standing_in s.active s c) cs ds m.1)

module _ (opening : List Record) (s : CalmStanding) (c : CalmAt opening [] s) (cs : Commands) (possible : ArePossible (limit_of opening) s (cs.kept ++ cs.lost)) where
  kept : CalmAt opening (entries_from s cs.kept) (standing_from s cs.kept)
  kept = all_of opening [] s cs.kept c (possible_first (limit_of opening) s cs.kept cs.lost possible)

  whole : CalmAt opening (entries_from s (cs.kept ++ cs.lost)) (standing_from s (cs.kept ++ cs.lost))
  whole = all_of opening [] s (cs.kept ++ cs.lost) c possible

  left : list_any is_commit_command cs.lost ≡ false → IsLeft opening (entries_from s (cs.kept ++ cs.lost)) (log_of (entries_from s cs.kept))
  left none =
      subst (λ (h : List Entry). IsLeft opening h (log_of (entries_from s cs.kept))) (sym (entries_append s cs.kept cs.lost))
      (left_longer opening (entries_from s cs.kept) (entries_from (standing_from s cs.kept) cs.lost) (log_of (entries_from s cs.kept))
      (left_whole opening kept.begins (entries_from s cs.kept) kept.legal kept.log.whole) (λ t. all_unheard t (standing_from s cs.kept) cs.lost none))

  next : (standing_from s cs.kept).active ≡ None → CalmAt (life_log opening (entries_from s cs.kept)) [] (reopened (life_log opening (entries_from s cs.kept)) (standing_from s cs.kept))
  next none =
      let t = standing_from s cs.kept in
      calm_reopened opening (entries_from s cs.kept) t.rows t.top t.next t.commits t.lsn (subst (λ (a : Option Opened). Calm opening (entries_from s cs.kept) t.rows t.top a t.next t.commits t.lsn) none kept)

are_lives : (limit : ℕ) (opening : List Record) (s : CalmStanding) (cs : List Commands) → limit_of opening ≡ limit → CalmAt opening [] s → MayAllStop limit opening s cs → AreLives opening (lives_from opening s cs)
are_lives limit opening s [] e c m = tt
are_lives limit opening s (x ∷ xs) e c m =
    let possible = subst (λ (n : ℕ). ArePossible n s (x.kept ++ x.lost)) (sym e) m.0.possible in (
      (whole opening s c x possible).legal,
      left opening s c x possible m.0.unfinished,
      are_lives limit (life_log opening (entries_from s x.kept)) (reopened (life_log opening (entries_from s x.kept)) (standing_from s x.kept)) xs (limit_kept opening (log_of (entries_from s x.kept)) c.found ∙ e) (next opening s c x possible m.0.closed) m.1,
    )

pub calm_stops : (limit : ℕ) (cs : List Commands) → CalmStopsLaw limit cs
calm_stops limit cs e m =
    let c = calm_start limit e in
    let lives = are_lives limit (first_log limit) fresh cs refl c m in
    record { lives = lives; serial = (lives_law (first_log limit) (lives_from (first_log limit) fresh cs)).serial c.begins lives }
