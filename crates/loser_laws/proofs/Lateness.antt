-- Who comes late with an Undo or an End of a loser.
use Rattle.std.proofs.Common.{◌≡◌, ℕ, suc, ◌+◌, ◌<◌, ◌≤◌, eqb, cond, List, [], ◌∷◌, ◌++◌, length, Bool, true, false, refl, sym, ap, subst, ◌∙◌, arith, append_assoc, append-nil}
use Rattle.std.specs.Prelude.{◌-◌, ◌||◌, slice_get}
use Rattle.std.specs.List.{list_any}
use Rattle.std.specs.Option.{option_map_or}
use Rattle.std.proofs.lemmas.List.Folds.{list_any-append}
use Rattle.store_model.proofs.Bools.{false_unless, not_both}
use Rattle.wal_record.specs.Chains.{finishes, last}
use Rattle.wal_record.specs.Checkpoints.{last_open}
use Rattle.wal_record.specs.History.{life_log, log_of}
use Rattle.wal_record.specs.Legal.{IsAllowed, IsLegal, RecordRule}
use Rattle.wal_record.specs.OpenWrites.{has_items, is_loser, key_of, open_list, open_step, open_writes, without_last}
use Rattle.wal_record.specs.Sound.{AreLawful, TakesBack, UndoRule}
use Rattle.wal_record.specs.declared.entry.Entry.{Entry}
use Rattle.wal_record.specs.declared.entry.Entry.TheVariants.{Rec}
use Rattle.wal_record.specs.declared.record.OpenWrite.{OpenWrite}
use Rattle.wal_record.specs.declared.record.Undo.{Undo}
use Rattle.wal_record.specs.declared.record.Record.{Record}
use Rattle.wal_record.specs.declared.record.Record.TheVariants as kinds
use Rattle.wal_record.proofs.Pushes.{log_more, log_same, open_list_push}
use Rattle.log_laws.proofs.Beginnings.{beginning}
use Rattle.log_laws.proofs.Places.{places}
use Rattle.listing_laws.proofs.Reading.{same_length}
use Rattle.chain_laws.specs.Ladders.{Ladder, prev_of}
use Rattle.chain_laws.proofs.Ladders.{prevs}
use Rattle.claim_laws.proofs.Going.{by_going, longer_log, none_more, one_more}
use Rattle.claim_laws.proofs.Losers.{finished_none, loser_law}
use Rattle.loser_laws.specs.Late.{EndedLaw, UndoneLaw}
use Rattle.loser_laws.proofs.Ways.{not_live}

-- ---- lists of open writes

last_more : (x y : OpenWrite) (ys : List OpenWrite) → last_open (x ∷ y ∷ ys) ≡ last_open (y ∷ ys)
last_more x y ys =
    let e : length (x ∷ y ∷ ys) - 1 ≡ suc (length (y ∷ ys) - 1) = omega arith in
    ap (λ (m : ℕ). option_map_or (λ (w : OpenWrite). w.lsn) (slice_get (x ∷ y ∷ ys) m) 0) e

takes_prev : (u : Undo) (r : Record) → TakesBack u r → u.undo_next ≡ prev_of r
takes_prev u (kinds.Write w) h = h.2
takes_prev u (kinds.Apply a) h = h.2
takes_prev u _ h = absurd h

-- the last record behind this LSN tells none below it
low_below : (log : List Record) (low : ℕ) (ws : List OpenWrite) (rs front : List Record) (back : Record) (top : ℕ) → Ladder log low ws rs top → rs ≡ front ++ back ∷ [] → low ≤ prev_of back
low_below log low [] [] [] back top h e = absurd (cc e)
low_below log low [] [] (f ∷ front) back top h e = absurd (cc e)
low_below log low [] (r ∷ rs) front back top h e = absurd h
low_below log low (w ∷ ws) [] front back top h e = absurd h
low_below log low (w ∷ ws) (r ∷ rs) [] back top h e = let same : r ≡ back = cc e in subst (λ (x : Record). low ≤ prev_of x) same h.1.below
low_below log low (w ∷ ws) (r ∷ rs) (f ∷ front) back top h e =
    let rest : rs ≡ front ++ back ∷ [] = cc e in
    let more = low_below log w.lsn ws rs front back top h.2 rest in
    let at = h.0 in
    let from = h.1.below in
    omega (arith, more, at, from)

-- the last one tells an LSN below its own
last_tells : (log : List Record) (low : ℕ) (ws : List OpenWrite) (rs front : List Record) (back : Record) (top : ℕ) → Ladder log low ws rs top → rs ≡ front ++ back ∷ [] → prev_of back < last_open ws
last_tells log low [] [] [] back top h e = absurd (cc e)
last_tells log low [] [] (f ∷ front) back top h e = absurd (cc e)
last_tells log low [] (r ∷ rs) front back top h e = absurd h
last_tells log low (w ∷ ws) [] front back top h e = absurd h
last_tells log low (w ∷ []) (r ∷ rs) [] back top h e = let same : r ≡ back = cc e in subst (λ (x : Record). prev_of x < w.lsn) same h.0
last_tells log low (w ∷ v ∷ ws) (r ∷ []) [] back top h e = absurd h.2
last_tells log low (w ∷ v ∷ ws) (r ∷ q ∷ rs) [] back top h e = absurd (cc e)
last_tells log low (w ∷ []) (r ∷ []) (f ∷ []) back top h e = absurd (cc e)
last_tells log low (w ∷ []) (r ∷ []) (f ∷ g ∷ front) back top h e = absurd (cc e)
last_tells log low (w ∷ []) (r ∷ q ∷ rs) (f ∷ front) back top h e = absurd h.2
last_tells log low (w ∷ v ∷ ws) (r ∷ rs) (f ∷ front) back top h e =
    let rest : rs ≡ front ++ back ∷ [] = cc e in
    subst (λ (n : ℕ). prev_of back < n) (sym (last_more w v ws)) (last_tells log w.lsn (v ∷ ws) rs front back top h.2 rest)

-- the open writes that are left stand at or below the LSN that a later one tells
left_below : (log : List Record) (low : ℕ) (ws gone : List OpenWrite) (rs lost front : List Record) (back : Record) (top : ℕ) → Ladder log low (ws ++ gone) (rs ++ lost) top → length ws ≡ length rs → lost ≡ front ++ back ∷ [] → last_open ws ≤ prev_of back
left_below log low [] gone rs lost front back top h n e = omega arith
left_below log low (w ∷ ws) gone [] lost front back top h n e = absurd (omega (arith, n))
left_below log low (w ∷ []) gone (r ∷ []) lost front back top h n e = low_below log w.lsn gone lost front back top h.2 e
left_below log low (w ∷ []) gone (r ∷ q ∷ rs) lost front back top h n e = absurd (omega (arith, n))
left_below log low (w ∷ v ∷ ws) gone (r ∷ rs) lost front back top h n e =
    subst (λ (m : ℕ). m ≤ prev_of back) (sym (last_more w v ws)) (left_below log w.lsn (v ∷ ws) gone rs lost front back top h.2 (omega (arith, n)) e)

-- of two ways to part a list, the last item of the one is that of the other's second part
last_part : (xs ys : List Record) (y : Record) (front : List Record) (back : Record) → xs ++ y ∷ ys ≡ front ++ back ∷ [] → (mid : List Record) × (y ∷ ys ≡ mid ++ back ∷ [])
last_part [] ys y front back e = (front, e)
last_part (x ∷ []) ys y [] back e = absurd (cc e)
last_part (x ∷ z ∷ xs) ys y [] back e = absurd (cc e)
last_part (x ∷ xs) ys y (f ∷ front) back e = last_part xs ys y front back (cc e)

-- ---- of a loser, writes are only taken back

abbrev Fewer : List OpenWrite → List OpenWrite → Type 0
Fewer less ws = (gone : List OpenWrite) × (ws ≡ less ++ gone)

all_left : (ws : List OpenWrite) → Fewer ws ws
all_left ws = ([], sym (append-nil ws))

last_gone : (ws : List OpenWrite) → Fewer (without_last ws) ws
last_gone [] = ([], refl)
last_gone (x ∷ []) = (x ∷ [], refl)
last_gone (x ∷ y ∷ ys) = let f = last_gone (y ∷ ys) in (f.0, ap (λ (zs : List OpenWrite). x ∷ zs) f.1)

fewer_still : (least less ws : List OpenWrite) → Fewer least less → Fewer less ws → Fewer least ws
fewer_still least less ws a b = (a.0 ++ b.0, b.1 ∙ ap (λ (xs : List OpenWrite). xs ++ b.0) a.1 ∙ append_assoc least a.0 b.0)

either_left : (b : Bool) (less ws : List OpenWrite) → Fewer less ws → Fewer (cond b less ws) ws
either_left true less ws f = f
either_left false less ws f = all_left ws

unless : (b : Bool) (more ws : List OpenWrite) → b ≡ false → Fewer (cond b more ws) ws
unless true more ws h = absurd (cc h)
unless false more ws h = all_left ws

module _ (opening : List Record) (sound : AreLawful opening) (t : ℕ) (loser : is_loser opening t ≡ true) where
  record_fewer : (h : List Entry) → IsLegal opening h → (w : OpenWrite) (ws : List OpenWrite) (r : Record) → RecordRule opening h r → Fewer (open_step t w ws r) ws
  record_fewer h legal w ws (kinds.Write x) rule = unless (eqb x.tx t) (ws ++ w ∷ []) ws (not_live opening sound t loser h legal x.tx rule.0)
  record_fewer h legal w ws (kinds.Apply x) rule = unless (eqb x.tx t) (ws ++ w ∷ []) ws (not_live opening sound t loser h legal x.tx rule.0)
  record_fewer h legal w ws (kinds.Undo u) rule = either_left (eqb u.tx t) (without_last ws) ws (last_gone ws)
  record_fewer h legal w ws (kinds.Commit c) rule = either_left (eqb c.tx t) [] ws (ws, refl)
  record_fewer h legal w ws (kinds.End x) rule = either_left (eqb x.tx t) [] ws (ws, refl)
  record_fewer h legal w ws _ rule = all_left ws

  entry_fewer : (h : List Entry) → IsLegal opening h → (e : Entry) → IsAllowed opening h e → Fewer (open_list (life_log opening (h ++ e ∷ [])) t) (open_list (life_log opening h) t)
  entry_fewer h legal (Rec lsn r) ok =
      let log = life_log opening h in
      subst (λ (ws : List OpenWrite). Fewer ws (open_list log t)) (sym (ap (λ (l : List Record). open_list l t) (log_more opening h lsn r) ∙ open_list_push log r t))
      (record_fewer h legal (record { lsn = length log + 1; key = key_of r }) (open_list log t) r ok.rule.rule)
  entry_fewer h legal e ok = subst (λ (ws : List OpenWrite). Fewer ws (open_list (life_log opening h) t)) (sym (ap (λ (l : List Record). open_list l t) (log_same opening h e refl))) (all_left (open_list (life_log opening h) t))

  list_fewer : (h more : List Entry) → IsLegal opening (h ++ more) → Fewer (open_list (life_log opening (h ++ more)) t) (open_list (life_log opening h) t)
  list_fewer h = by_going opening h (λ (more : List Entry). Fewer (open_list (life_log opening (h ++ more)) t) (open_list (life_log opening h) t))
      (subst (λ (g : List Entry). Fewer (open_list (life_log opening g) t) (open_list (life_log opening h) t)) (sym (none_more h)) (all_left (open_list (life_log opening h) t)))
      (λ more e legal ok before.
      subst (λ (g : List Entry). Fewer (open_list (life_log opening g) t) (open_list (life_log opening h) t)) (one_more h more e)
      (fewer_still _ _ _ (entry_fewer (h ++ more) legal e ok) before))

-- ---- the undo

-- who has an open write has no end
unfinished : (log : List Record) (t : ℕ) (front : List Record) (back : Record) → AreLawful log → open_writes log t ≡ front ++ back ∷ [] → list_any (finishes t) log ≡ false
unfinished log t front back lawful e = false_unless (list_any (finishes t) log) (λ over. none front (sym e ∙ finished_none t log lawful over))
  where
    none : (front : List Record) → front ++ back ∷ [] ≡ [] → ⊥
    none [] e = cc e
    none (f ∷ front) e = cc e

late : (log : List Record) (u : Undo) → AreLawful log → UndoRule (open_writes log u.tx) u → u.undo_next < last_open (open_list log u.tx)
late log u lawful rule =
    let tells = last_tells log 0 (open_list log u.tx) (open_writes log u.tx) rule.front rule.back (last log u.tx) ((prevs log u.tx lawful).ladder (unfinished log u.tx rule.front rule.back lawful rule.split)) rule.split in
    subst (λ (n : ℕ). n < last_open (open_list log u.tx)) (sym (takes_prev u rule.back rule.takes)) tells

module _ (opening : List Record) (h more : List Entry) (u : Undo) (lawful : AreLawful (life_log opening (h ++ more))) (legal : IsLegal opening (h ++ more)) (loser : is_loser opening u.tx ≡ true) where
  sound : AreLawful opening
  sound = (beginning opening (log_of (h ++ more))).lawful lawful

  lawful_then : AreLawful (life_log opening h)
  lawful_then = (beginning (life_log opening h) (log_of more)).lawful (subst AreLawful (longer_log opening h more) lawful)

  still_timely : UndoRule (open_writes (life_log opening h) u.tx) u → u.undo_next < last_open (open_list (life_log opening (h ++ more)) u.tx) → UndoRule (open_writes (life_log opening (h ++ more)) u.tx) u
  still_timely rule above =
      let gone = (loser_law opening h more u.tx).fewer sound legal loser in
      by gone.0 gone.1
    where
      by : (gone : List Record) → open_writes (life_log opening h) u.tx ≡ open_writes (life_log opening (h ++ more)) u.tx ++ gone → UndoRule (open_writes (life_log opening (h ++ more)) u.tx) u
      by [] e = record {
        front = rule.front;
        back = rule.back;
        split = sym (append-nil (open_writes (life_log opening (h ++ more)) u.tx)) ∙ sym e ∙ rule.split;
        takes = rule.takes;
      }
      by (y ∷ ys) e =
          let log = life_log opening h in
          let left = life_log opening (h ++ more) in
          let lost = list_fewer opening sound u.tx loser h more legal in
          let part = last_part (open_writes left u.tx) ys y rule.front rule.back (sym e ∙ rule.split) in
          let steps = (prevs log u.tx lawful_then).ladder (unfinished log u.tx rule.front rule.back lawful_then rule.split) in
          let below = left_below log 0 (open_list left u.tx) lost.0 (open_writes left u.tx) (y ∷ ys) part.0 rule.back (last log u.tx)
          (subst (λ (ws : List OpenWrite). Ladder log 0 ws (open_writes left u.tx ++ y ∷ ys) (last log u.tx)) lost.1 (subst (λ (rs : List Record). Ladder log 0 (open_list log u.tx) rs (last log u.tx)) e steps))
          (same_length left (open_list left u.tx) (open_writes left u.tx) (places left u.tx).placed) part.1 in
          let next = takes_prev u rule.back rule.takes in
          absurd (omega (arith, below, next, above))

still : (opening : List Record) (before more h : List Entry) (u : Undo) → before ++ more ≡ h → AreLawful (life_log opening h) → IsLegal opening h → is_loser opening u.tx ≡ true
    → (is_loser opening u.tx ≡ true → UndoRule (open_writes (life_log opening before) u.tx) u) → u.undo_next < last_open (open_list (life_log opening h) u.tx) → UndoRule (open_writes (life_log opening h) u.tx) u
still opening before more h u is lawful legal loser was above =
    subst (λ (g : List Entry). UndoRule (open_writes (life_log opening g) u.tx) u) is
    (still_timely opening before more u (subst (λ (g : List Entry). AreLawful (life_log opening g)) (sym is) lawful) (subst (IsLegal opening) (sym is) legal) loser (was loser)
    (subst (λ (g : List Entry). u.undo_next < last_open (open_list (life_log opening g) u.tx)) (sym is) above))

pub undone : (opening : List Record) (h : List Entry) (u : Undo) → UndoneLaw opening h u
undone opening h u = record {
  timely = λ lawful legal loser was above. still opening was.0 was.1.0 h u was.1.1 lawful legal loser was.2 above;
  late = λ lawful rule. late (life_log opening h) u lawful rule;
}

-- ---- the end

or_none : (a b : Bool) → a ≡ false → (a || b) ≡ b
or_none true b e = absurd (cc e)
or_none false b e = refl

pub ended : (opening : List Record) (h : List Entry) (t : ℕ) → EndedLaw opening h t
ended opening h t = record {
  ended = λ sound loser. list_any-append (finishes t) opening (log_of h) ∙ or_none (list_any (finishes t) opening) (list_any (finishes t) (log_of h))
      (false_unless (list_any (finishes t) opening) (λ over. not_both (is_loser opening t) loser (ap has_items (finished_none t opening sound over))));
}
