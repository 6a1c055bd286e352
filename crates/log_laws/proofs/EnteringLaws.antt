-- The next write and the next undo.
use Rattle.std.proofs.Common.{◌≡◌, ℕ, Bool, true, false, cond, eqb, List, [], ◌∷◌, ◌++◌, Option, Some, None, refl, sym, ap, subst, ◌∙◌}
use Rattle.std.specs.Prelude.{fold, is_some, ◌||◌, ◌&&◌}
use Rattle.std.specs.List.{list_any, list_all}
use Rattle.std.specs.Option.{option_or}
use Rattle.std.specs.FinMap.{get}
use Rattle.std.proofs.lemmas.List.Sums.{fold-append}
use Rattle.std.proofs.lemmas.List.Folds.{list_any-append, list_all-append}
use Rattle.store_model.specs.Operator.{meaning}
use Rattle.store_model.proofs.Bools.{both_true, and_true, or_left, or_right, not_both, false_unless}
use Rattle.wal_record.specs.declared.record.Record.{Record}
use Rattle.wal_record.specs.declared.record.Record.TheVariants as kinds
use Rattle.wal_record.specs.declared.entry.Entry.{Entry}
use Rattle.store_model.specs.Along.{along}
use Rattle.wal_record.specs.Contents.{current, committed_contents, given}
use Rattle.wal_record.specs.OpenWrites.{open_step, open_writes, without_last, key_of, old_of, writes}
use Rattle.wal_record.specs.Sound.{IsLawful, AreLawful}
use Rattle.wal_record.specs.History.{log_of}
use Rattle.wal_record.specs.Locks.{covers_key, locks}
use Rattle.wal_record.proofs.Along.{by_pushes}
use Rattle.wal_record.proofs.Pushes.{open_push, lawful_front}
use Rattle.log_laws.specs.Locks.{EnteringLaw, LocksLaw}
use Rattle.log_laws.proofs.Central.{value_after, Olds, olds_front, own_key, alone_of, kept_log}
use Rattle.log_laws.proofs.Locked.{write_covers}
use Rattle.log_laws.proofs.Serial.{after_legal, sound_after}

-- ---- what a last open write left

module _ (log : List Record) (sound : AreLawful log) (t : ℕ) (front : List Record) (w : Record) (split : open_writes log t ≡ front ++ w ∷ []) where
  last_value : get (current log) (key_of w) ≡ given (old_of w) w
  last_value =
      let kept = kept_log log sound in
      let parts = olds_front (get (committed_contents log)) front w (subst (Olds (get (committed_contents log))) split (kept.olds t)) in
      let mine : writes (key_of w) w ≡ true = parts.1 (key_of w) ∙ own_key (key_of w) (key_of w) refl in
      let opens : list_any (writes (key_of w)) (open_writes log t) ≡ true =
      ap (list_any (writes (key_of w))) split ∙ list_any-append (writes (key_of w)) front (w ∷ []) ∙ or_right (list_any (writes (key_of w)) front) (writes (key_of w) w || false) (or_left (writes (key_of w) w) false mine) in
      let before : Option (List ℕ) = fold (value_after (key_of w)) (get (committed_contents log) (key_of w)) front in
      kept.value (key_of w) t (alone_of _ _ _ kept (key_of w) t opens)
      ∙ ap (fold (value_after (key_of w)) (get (committed_contents log) (key_of w))) split ∙ fold-append (value_after (key_of w)) (get (committed_contents log) (key_of w)) front (w ∷ [])
      ∙ ap (λ (b : Bool). cond b (given (fold (value_after (key_of w)) (get (committed_contents log) (key_of w)) front) w) (fold (value_after (key_of w)) (get (committed_contents log) (key_of w)) front)) mine
      ∙ ap (λ (v : Option (List ℕ)). given v w) (sym parts.2)

-- ---- a write finds a value or gives one

abbrev undoable : Record → Bool
undoable r = is_some (old_of r) || is_some (given (old_of r) r)

all_but_last : (p : Record → Bool) (ws : List Record) → list_all p ws ≡ true → list_all p (without_last ws) ≡ true
all_but_last p [] h = refl
all_but_last p (x ∷ []) h = refl
all_but_last p (x ∷ y ∷ ys) h = let b = both_true (p x) (list_all p (y ∷ ys)) h in and_true (p x) (list_all p (without_last (y ∷ ys))) b.0 (all_but_last p (y ∷ ys) b.1)

one_more : (p : Record → Bool) (ws : List Record) (r : Record) (b : Bool) → list_all p ws ≡ true → p r ≡ true → list_all p (cond b (ws ++ r ∷ []) ws) ≡ true
one_more p ws r true h g = list_all-append p ws (r ∷ []) ∙ and_true (list_all p ws) (p r && true) h (and_true (p r) true g refl)
one_more p ws r false h g = h

one_less : (p : Record → Bool) (ws : List Record) (b : Bool) → list_all p ws ≡ true → list_all p (cond b (without_last ws) ws) ≡ true
one_less p ws true h = all_but_last p ws h
one_less p ws false h = h

no_more : (p : Record → Bool) (ws : List Record) (b : Bool) → list_all p ws ≡ true → list_all p (cond b [] ws) ≡ true
no_more p ws true h = refl
no_more p ws false h = h

has_meaning : (x v : Option (List ℕ)) → is_some x ≡ true → is_some (option_or x v) ≡ true
has_meaning None v h = absurd cc
has_meaning (Some y) v h = refl

undoable_step : (log : List Record) (r : Record) (t : ℕ) → IsLawful log r → list_all undoable (open_writes log t) ≡ true → list_all undoable (open_step t r (open_writes log t) r) ≡ true
undoable_step log (kinds.Write w) t h g = one_more undoable (open_writes log t) (kinds.Write w) (eqb w.tx t) g h.value.2
undoable_step log (kinds.Apply a) t h g = one_more undoable (open_writes log t) (kinds.Apply a) (eqb a.tx t) g (or_right (is_some a.old) _ (has_meaning (meaning a.operator a.old a.argument) a.old h.value.2))
undoable_step log (kinds.Undo u) t h g = one_less undoable (open_writes log t) (eqb u.tx t) g
undoable_step log (kinds.Commit c) t h g = no_more undoable (open_writes log t) (eqb c.tx t) g
undoable_step log (kinds.End e) t h g = no_more undoable (open_writes log t) (eqb e.tx t) g
undoable_step log _ t h g = g

nothing_open : (t : ℕ) → list_all undoable (open_writes [] t) ≡ true
unfolding open_writes along
nothing_open t = refl

all_undoable : (log : List Record) → AreLawful log → (t : ℕ) → list_all undoable (open_writes log t) ≡ true
all_undoable = by_pushes (λ (log : List Record). AreLawful log → (t : ℕ) → list_all undoable (open_writes log t) ≡ true) (λ _ t. nothing_open t)
    (λ log r before sound t. let parts = lawful_front log r sound in
    subst (λ (ws : List Record). list_all undoable ws ≡ true) (sym (open_push log r t)) (undoable_step log r t parts.1 (before parts.0 t)))

pub can_undo : (log : List Record) → AreLawful log → (t : ℕ) (front : List Record) (w : Record) → open_writes log t ≡ front ++ w ∷ [] → (is_some (old_of w) || is_some (get (current log) (key_of w))) ≡ true
can_undo log sound t front w split =
    let all : (list_all undoable front && (undoable w && true)) ≡ true = sym (list_all-append undoable front (w ∷ [])) ∙ sym (ap (list_all undoable) split) ∙ all_undoable log sound t in
    ap (λ (v : Option (List ℕ)). is_some (old_of w) || is_some v) (last_value log sound t front w split)
    ∙ (both_true (undoable w) true (both_true (list_all undoable front) (undoable w && true) all).1).0

pub entering : (opening : List Record) (h : List Entry) → EnteringLaw opening h
entering opening h = record {
  alone = λ sound legal tx key locked other n. let told = (after_legal opening sound h legal).0 in
      false_unless (list_any (writes key) (open_writes (opening ++ log_of h) other)) (λ g. not_both (list_any (covers_key key) (locks opening h tx)) (write_covers (locks opening h tx) key locked) (told.apart other tx key n (told.holds other key g)));
  last_value = λ sound legal. last_value (opening ++ log_of h) (sound_after opening sound h legal);
  can_undo = λ sound legal. can_undo (opening ++ log_of h) (sound_after opening sound h legal);
}

pub locking : (opening : List Record) (h : List Entry) → LocksLaw opening h
locking opening h = record {
  free = λ sound legal. (after_legal opening sound h legal).0.free;
  holds = λ sound legal. (after_legal opening sound h legal).0.holds;
}
