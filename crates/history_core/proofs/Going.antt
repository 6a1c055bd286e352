-- A judge that goes on by one entry.
use Rattle.std.proofs.Common.{◌≡◌, ℕ, List, [], ◌∷◌, ◌++◌, None, true, false, refl, sym, ap, subst, ◌∙◌}
use Rattle.store_model.specs.Range.{Interval}
use Rattle.store_model.specs.declared.range.Mode.{Mode}
use Rattle.store_model.proofs.Bools.{not_both}
use Rattle.wal_record.specs.History.{life_log, log_of}
use Rattle.wal_record.specs.Legal.{IsAllowed, IsLegal, split_step, untold_step}
use Rattle.wal_record.specs.declared.entry.Entry.{Entry}
use Rattle.wal_record.specs.declared.entry.Entry.TheVariants.{Acked, Began, Lock, Rec}
use Rattle.wal_record.specs.declared.record.Commit.{Commit}
use Rattle.wal_record.specs.declared.record.End.{End}
use Rattle.wal_record.specs.declared.record.Record.{Record}
use Rattle.wal_record.specs.declared.record.Record.TheVariants as kinds
use Rattle.wal_record.proofs.Along.{AllAlong_back}
use Rattle.wal_record.proofs.Pushes.{log_more, log_same, split_leaf_push, untold_push}
use Rattle.phase_judge.specs.Phases.{ArePhasesOf}
use Rattle.phase_judge.specs.declared.phases.Phases.{Phases}
use Rattle.phase_judge.proofs.Moving as moving
use Rattle.lock_judge.specs.Taken.{AreTaken, held_in}
use Rattle.lock_judge.specs.declared.taken.TakenLocks.{TakenLocks}
use Rattle.lock_judge.proofs.Taking as taking
use Rattle.record_judge.specs.Judging.{HasContents, IsRecordJudgeOf}
use Rattle.record_judge.specs.declared.judge.RecordJudge.{RecordJudge}
use Rattle.history_core.specs.Judging.{IsJudgeOf, is_lock, is_record, moves, txs_of}
use Rattle.history_core.specs.declared.judge.Judge.{Judge}

-- ---- entries that are no records

no_log : (e : Entry) → is_record e ≡ false → log_of (e ∷ []) ≡ []
no_log (Rec lsn r) other = absurd (cc other)
no_log e other = refl

nothing_untold : (e : Entry) → is_record e ≡ false → untold_step e ≡ None
nothing_untold (Rec lsn r) other = absurd (cc other)
nothing_untold e other = refl

nothing_split : (log : List Record) (e : Entry) → is_record e ≡ false → split_step log e ≡ None
nothing_split log (Rec lsn r) other = absurd (cc other)
nothing_split log e other = refl

pub lock_other : (e : Entry) → is_lock e ≡ true → (is_record e ≡ false) × (moves e ≡ false)
lock_other (Lock tx range mode) is = (refl, refl)
lock_other e is = absurd (cc is)

pub move_other : (e : Entry) → moves e ≡ true → (is_record e ≡ false) × (is_lock e ≡ false)
move_other (Began session tx) is = (refl, refl)
move_other (Acked session tx) is = (refl, refl)
move_other e is = absurd (cc is)

pub quiet_kind : (e : Entry) → is_record e ≡ false → ((tx : ℕ) (range : Interval) (mode : Mode) → e ≡ Lock tx range mode → ⊥)
    → ((session tx : ℕ) → e ≡ Acked session tx → ⊥) → ((session tx : ℕ) → e ≡ Began session tx → ⊥) → (is_record e ≡ false) × (is_lock e ≡ false) × (moves e ≡ false)
quiet_kind (Rec lsn r) other lock acked began = absurd (cc other)
quiet_kind (Lock tx range mode) other lock acked began = absurd (lock tx range mode refl)
quiet_kind (Acked session tx) other lock acked began = absurd (acked session tx refl)
quiet_kind (Began session tx) other lock acked began = absurd (began session tx refl)
quiet_kind e other lock acked began = (refl, refl, refl)

pub phases_still : (opening : List Record) (h : List Entry) (p : Phases) (e : Entry) → ArePhasesOf opening h p → is_record e ≡ false → moves e ≡ false → ArePhasesOf opening (h ++ e ∷ []) p
unfolding ArePhasesOf
phases_still opening h p e k other still = moving.still_entry opening h _ _ _ _ _ k e
    (λ lsn r is. not_both (is_record e) (ap is_record is) other) (λ session tx is. not_both (moves e) (ap moves is) still) (λ session tx is. not_both (moves e) (ap moves is) still)

pub locks_still : (h : List Entry) (x : TakenLocks) (e : Entry) → AreTaken h x → is_record e ≡ false → is_lock e ≡ false → AreTaken (h ++ e ∷ []) x
unfolding AreTaken
locks_still h x e k other still = taking.still_entry (held_in x.held) h k e (λ tx range mode is. not_both (is_lock e) (ap is_lock is) still) (λ lsn r is. not_both (is_record e) (ap is_record is) other)

pub record_phases : (opening : List Record) (h : List Entry) (p : Phases) (lsn : ℕ) (r : Record) → ArePhasesOf opening h p → ((x : Commit) → r ≡ kinds.Commit x → ⊥) → ((x : End) → r ≡ kinds.End x → ⊥) → ArePhasesOf opening (h ++ Rec lsn r ∷ []) p
unfolding ArePhasesOf
record_phases opening h p lsn r k commit end = moving.still_record opening h _ _ _ _ _ k lsn r commit end

-- the contents of the log of the life, with a record more
module _ (opening : List Record) (h : List Entry) (lsn : ℕ) (r : Record) (x : RecordJudge) where
  pub contents_on : HasContents (life_log opening h ++ r ∷ []) x → HasContents (life_log opening (h ++ Rec lsn r ∷ [])) x
  contents_on k = subst (λ (l : List Record). HasContents l x) (sym (log_more opening h lsn r)) k

  pub contents_back : HasContents (life_log opening (h ++ Rec lsn r ∷ [])) x → HasContents (life_log opening h ++ r ∷ []) x
  contents_back k = subst (λ (l : List Record). HasContents l x) (log_more opening h lsn r) k

module _ (opening : List Record) (h : List Entry) (j j' : Judge) (k : IsJudgeOf opening h j) where
  legal_on : (e : Entry) → IsAllowed opening h e → IsLegal opening (h ++ e ∷ [])
  legal_on e ok = AllAlong_back (IsAllowed opening) h e k.legal ok

  pub quiet_on : (e : Entry) → IsAllowed opening h e → is_record e ≡ false → ArePhasesOf opening (h ++ e ∷ []) j'.phases → AreTaken (h ++ e ∷ []) j'.locks
      → j'.log ≡ j.log → j'.losers ≡ j.losers → j'.untold ≡ None → j'.split ≡ None → IsJudgeOf opening (h ++ e ∷ []) j'
  quiet_on e ok other phases locks log losers told split =
      let same : life_log opening (h ++ e ∷ []) ≡ life_log opening h = log_same opening h e (no_log e other) in
      record {
        sound = k.sound;
        legal = legal_on e ok;
        phases = phases;
        locks = locks;
        log = subst (λ (x : RecordJudge). IsRecordJudgeOf (life_log opening (h ++ e ∷ [])) x) (sym log) (subst (λ (l : List Record). IsRecordJudgeOf l j.log) (sym same) k.log);
        losers = ap txs_of losers ∙ k.losers;
        told = told ∙ sym (untold_push h e ∙ nothing_untold e other);
        split = split ∙ sym (split_leaf_push opening h e ∙ nothing_split (life_log opening h) e other);
      }

  -- ---- records

  pub record_on : (lsn : ℕ) (r : Record) → IsAllowed opening h (Rec lsn r) → ArePhasesOf opening (h ++ Rec lsn r ∷ []) j'.phases → AreTaken (h ++ Rec lsn r ∷ []) j'.locks
      → IsRecordJudgeOf (life_log opening h ++ r ∷ []) j'.log → j'.losers ≡ j.losers → j'.untold ≡ untold_step (Rec lsn r) → j'.split ≡ split_step (life_log opening h) (Rec lsn r) → IsJudgeOf opening (h ++ Rec lsn r ∷ []) j'
  record_on lsn r ok phases locks log losers told split = record {
    sound = k.sound;
    legal = legal_on (Rec lsn r) ok;
    phases = phases;
    locks = locks;
    log = subst (λ (l : List Record). IsRecordJudgeOf l j'.log) (sym (log_more opening h lsn r)) log;
    losers = ap txs_of losers ∙ k.losers;
    told = told ∙ sym (untold_push h (Rec lsn r));
    split = split ∙ sym (split_leaf_push opening h (Rec lsn r));
  }

  -- ---- where memory runs out

  pub same_on : ArePhasesOf opening h j'.phases → AreTaken h j'.locks → IsRecordJudgeOf (life_log opening h) j'.log → j'.losers ≡ j.losers → j'.untold ≡ j.untold → j'.split ≡ j.split → IsJudgeOf opening h j'
  same_on phases locks log losers told split =
      record { sound = k.sound; legal = k.legal; phases = phases; locks = locks; log = log; losers = ap txs_of losers ∙ k.losers; told = told ∙ k.told; split = split ∙ k.split }
