-- Where transactions stand behind one record more.
use Rattle.std.proofs.Common.{◌≡◌, ℕ, eqb, cond, ◌+◌, List, [], ◌∷◌, ◌++◌, length, Bool, true, false, refl, sym, ap, subst, ◌∙◌}
use Rattle.std.specs.Prelude.{◌||◌}
use Rattle.std.specs.List.{list_any}
use Rattle.std.proofs.lemmas.List.Folds.{list_any-append}
use Rattle.store_model.specs.Along.{along}
use Rattle.wal_record.specs.Chains.{finishes, is_link_of, last, link_of}
use Rattle.wal_record.specs.OpenWrites.{open_step, open_writes, without_last}
use Rattle.wal_record.specs.declared.record.Write.{Write}
use Rattle.wal_record.specs.declared.record.Apply.{Apply}
use Rattle.wal_record.specs.declared.record.Undo.{Undo}
use Rattle.wal_record.specs.declared.record.Commit.{Commit}
use Rattle.wal_record.specs.declared.record.End.{End}
use Rattle.wal_record.specs.declared.record.Record.{Record}
use Rattle.wal_record.specs.declared.record.Record.TheVariants as kinds
use Rattle.wal_record.proofs.Pushes.{last_push, open_push}
use Rattle.chain_judge.specs.Chains.{AreChanges, AreKept, IsChange}
use Rattle.chain_judge.specs.declared.chain.OpenChange.{OpenChange}
use Rattle.chain_judge.proofs.Changes.{changes_less, changes_push}

pub kept_none : (lasts : ℕ → ℕ) (overs : ℕ → Bool) (writes : ℕ → List OpenChange) → ((t : ℕ) → lasts t ≡ 0) → ((t : ℕ) → overs t ≡ false) → ((t : ℕ) → writes t ≡ []) → AreKept [] lasts overs writes
unfolding last open_writes along
kept_none lasts overs writes last over opens = record {
  last = λ t none. last t;
  over = over;
  opened = λ t. subst (λ (xs : List OpenChange). AreChanges xs []) (sym (opens t)) tt;
}

pub kept_same : (log : List Record) (lasts lasts' : ℕ → ℕ) (overs overs' : ℕ → Bool) (writes writes' : ℕ → List OpenChange) → AreKept log lasts overs writes
    → ((t : ℕ) → lasts' t ≡ lasts t) → ((t : ℕ) → overs' t ≡ overs t) → ((t : ℕ) → writes' t ≡ writes t) → AreKept log lasts' overs' writes'
kept_same log lasts lasts' overs overs' writes writes' k last over opens = record {
  last = λ t none. last t ∙ k.last t none;
  over = λ t. over t ∙ k.over t;
  opened = λ t. subst (λ (xs : List OpenChange). AreChanges xs (open_writes log t)) (sym (opens t)) (k.opened t);
}

or_none : (b : Bool) → (b || false) ≡ b
or_none true = refl
or_none false = refl

module _ (log : List Record) (lasts : ℕ → ℕ) (overs : ℕ → Bool) (writes : ℕ → List OpenChange) (k : AreKept log lasts overs writes) (r : Record) where
  any_more : (t : ℕ) (b : Bool) → finishes t r ≡ b → list_any (finishes t) (log ++ r ∷ []) ≡ (list_any (finishes t) log || b)
  any_more t b is = list_any-append (finishes t) log (r ∷ []) ∙ ap (λ (c : Bool). list_any (finishes t) log || (c || false)) is ∙ ap (λ (c : Bool). list_any (finishes t) log || c) (or_none b)

  any_same : (t : ℕ) → finishes t r ≡ false → list_any (finishes t) (log ++ r ∷ []) ≡ list_any (finishes t) log
  any_same t none = any_more t false none ∙ or_none (list_any (finishes t) log)

  -- a record of a transaction that goes on
  pub kept_going : (tx lsn : ℕ) (f : List OpenChange → List OpenChange) (g : List Record → List Record)
      → ((t : ℕ) → is_link_of t (link_of r) ≡ eqb tx t) → ((t : ℕ) → finishes t r ≡ false) → ((t : ℕ) (ws : List Record) → open_step t r ws r ≡ cond (eqb tx t) (g ws) ws)
      → ((xs : List OpenChange) (ws : List Record) → AreChanges xs ws → AreChanges (f xs) (g ws)) → lsn ≡ length log + 1
      → (lasts' : ℕ → ℕ) (overs' : ℕ → Bool) (writes' : ℕ → List OpenChange) → ((t : ℕ) → lasts' t ≡ cond (eqb tx t) lsn (lasts t)) → ((t : ℕ) → overs' t ≡ overs t)
      → ((t : ℕ) → writes' t ≡ cond (eqb tx t) (f (writes t)) (writes t)) → AreKept (log ++ r ∷ []) lasts' overs' writes'
  kept_going tx lsn f g linked none step keeps is lasts' overs' writes' lasted over opens = record {
    last = λ t going. lasted t ∙ ap (λ (n : ℕ). cond (eqb tx t) n (lasts t)) is ∙ own (eqb tx t) t (sym (any_same t (none t)) ∙ going)
        ∙ sym (last_push log r t ∙ ap (λ (b : Bool). cond b (length log + 1) (last log t)) (linked t));
    over = λ t. over t ∙ k.over t ∙ sym (any_same t (none t));
    opened = λ t. subst (AreChanges (writes' t)) (sym (open_push log r t ∙ step t (open_writes log t))) (subst (λ (xs : List OpenChange). AreChanges xs (cond (eqb tx t) (g (open_writes log t)) (open_writes log t))) (sym (opens t)) (each (eqb tx t) t));
  }
    where
      own : (b : Bool) (t : ℕ) → list_any (finishes t) log ≡ false → cond b (length log + 1) (lasts t) ≡ cond b (length log + 1) (last log t)
      own true t going = refl
      own false t going = k.last t going

      each : (b : Bool) (t : ℕ) → AreChanges (cond b (f (writes t)) (writes t)) (cond b (g (open_writes log t)) (open_writes log t))
      each true t = keeps (writes t) (open_writes log t) (k.opened t)
      each false t = k.opened t

  -- its Commit or End
  pub kept_over : (tx : ℕ) → ((t : ℕ) → is_link_of t (link_of r) ≡ eqb tx t) → ((t : ℕ) → finishes t r ≡ eqb tx t) → ((t : ℕ) (ws : List Record) → open_step t r ws r ≡ cond (eqb tx t) [] ws)
      → (lasts' : ℕ → ℕ) (overs' : ℕ → Bool) (writes' : ℕ → List OpenChange) → ((t : ℕ) → lasts' t ≡ cond (eqb tx t) 0 (lasts t)) → ((t : ℕ) → overs' t ≡ cond (eqb tx t) true (overs t))
      → ((t : ℕ) → writes' t ≡ cond (eqb tx t) [] (writes t)) → AreKept (log ++ r ∷ []) lasts' overs' writes'
  kept_over tx linked ends step lasts' overs' writes' lasted over opens = record {
    last = λ t going. lasted t ∙ own (eqb tx t) t (sym (any_more t (eqb tx t) (ends t)) ∙ going) ∙ sym (last_push log r t ∙ ap (λ (b : Bool). cond b (length log + 1) (last log t)) (linked t));
    over = λ t. over t ∙ ap (cond (eqb tx t) true) (k.over t) ∙ either (eqb tx t) (list_any (finishes t) log) ∙ sym (any_more t (eqb tx t) (ends t));
    opened = λ t. subst (AreChanges (writes' t)) (sym (open_push log r t ∙ step t (open_writes log t))) (subst (λ (xs : List OpenChange). AreChanges xs (cond (eqb tx t) [] (open_writes log t))) (sym (opens t)) (each (eqb tx t) t));
  }
    where
      own : (b : Bool) (t : ℕ) → (list_any (finishes t) log || b) ≡ false → cond b 0 (lasts t) ≡ cond b (length log + 1) (last log t)
      own true t going = absurd (by (list_any (finishes t) log) going)
        where
          by : (c : Bool) → (c || true) ≡ false → ⊥
          by true e = cc
          by false e = cc
      own false t going = k.last t (sym (or_none (list_any (finishes t) log)) ∙ going)

      either : (b c : Bool) → cond b true c ≡ (c || b)
      either true true = refl
      either true false = refl
      either false true = refl
      either false false = refl

      each : (b : Bool) (t : ℕ) → AreChanges (cond b [] (writes t)) (cond b [] (open_writes log t))
      each true t = tt
      each false t = k.opened t

  -- a record that names no transaction
  kept_still : ((t : ℕ) → is_link_of t (link_of r) ≡ false) → ((t : ℕ) → finishes t r ≡ false) → ((t : ℕ) (ws : List Record) → open_step t r ws r ≡ ws) → AreKept (log ++ r ∷ []) lasts overs writes
  kept_still linked none step = record {
    last = λ t going. k.last t (sym (any_same t (none t)) ∙ going) ∙ sym (last_push log r t ∙ ap (λ (b : Bool). cond b (length log + 1) (last log t)) (linked t));
    over = λ t. k.over t ∙ sym (any_same t (none t));
    opened = λ t. subst (AreChanges (writes t)) (sym (open_push log r t ∙ step t (open_writes log t))) (k.opened t);
  }

module _ (log : List Record) (lasts : ℕ → ℕ) (overs : ℕ → Bool) (writes : ℕ → List OpenChange) (k : AreKept log lasts overs writes) where
  pub kept_other : (r : Record) → ((x : Write) → r ≡ kinds.Write x → ⊥) → ((x : Apply) → r ≡ kinds.Apply x → ⊥) → ((x : Undo) → r ≡ kinds.Undo x → ⊥) → ((x : Commit) → r ≡ kinds.Commit x → ⊥) → ((x : End) → r ≡ kinds.End x → ⊥)
      → AreKept (log ++ r ∷ []) lasts overs writes
  kept_other (kinds.Write x) write apply undo commit end = absurd (write x refl)
  kept_other (kinds.Apply x) write apply undo commit end = absurd (apply x refl)
  kept_other (kinds.Undo x) write apply undo commit end = absurd (undo x refl)
  kept_other (kinds.Commit x) write apply undo commit end = absurd (commit x refl)
  kept_other (kinds.End x) write apply undo commit end = absurd (end x refl)
  kept_other r write apply undo commit end = kept_still log lasts overs writes k r (λ t. refl) (λ t. refl) (λ t ws. refl)

  module _ (lasts' : ℕ → ℕ) (overs' : ℕ → Bool) (writes' : ℕ → List OpenChange) where
    pub kept_write : (lsn : ℕ) (w : Write) (x : OpenChange) → IsChange x (kinds.Write w) → lsn ≡ length log + 1 → ((t : ℕ) → lasts' t ≡ cond (eqb w.tx t) lsn (lasts t)) → ((t : ℕ) → overs' t ≡ overs t)
        → ((t : ℕ) → writes' t ≡ cond (eqb w.tx t) (writes t ++ x ∷ []) (writes t)) → AreKept (log ++ kinds.Write w ∷ []) lasts' overs' writes'
    kept_write lsn w x change is last over opens =
        kept_going log lasts overs writes k (kinds.Write w) w.tx lsn (λ (xs : List OpenChange). xs ++ x ∷ []) (λ (ws : List Record). ws ++ kinds.Write w ∷ []) (λ t. refl) (λ t. refl) (λ t ws. refl)
        (λ xs ws c. changes_push xs ws x (kinds.Write w) c change) is lasts' overs' writes' last over opens

    pub kept_apply : (lsn : ℕ) (a : Apply) (x : OpenChange) → IsChange x (kinds.Apply a) → lsn ≡ length log + 1 → ((t : ℕ) → lasts' t ≡ cond (eqb a.tx t) lsn (lasts t)) → ((t : ℕ) → overs' t ≡ overs t)
        → ((t : ℕ) → writes' t ≡ cond (eqb a.tx t) (writes t ++ x ∷ []) (writes t)) → AreKept (log ++ kinds.Apply a ∷ []) lasts' overs' writes'
    kept_apply lsn a x change is last over opens =
        kept_going log lasts overs writes k (kinds.Apply a) a.tx lsn (λ (xs : List OpenChange). xs ++ x ∷ []) (λ (ws : List Record). ws ++ kinds.Apply a ∷ []) (λ t. refl) (λ t. refl) (λ t ws. refl)
        (λ xs ws c. changes_push xs ws x (kinds.Apply a) c change) is lasts' overs' writes' last over opens

    pub kept_undo : (lsn : ℕ) (u : Undo) → lsn ≡ length log + 1 → ((t : ℕ) → lasts' t ≡ cond (eqb u.tx t) lsn (lasts t)) → ((t : ℕ) → overs' t ≡ overs t)
        → ((t : ℕ) → writes' t ≡ cond (eqb u.tx t) (without_last (writes t)) (writes t)) → AreKept (log ++ kinds.Undo u ∷ []) lasts' overs' writes'
    kept_undo lsn u is last over opens =
        kept_going log lasts overs writes k (kinds.Undo u) u.tx lsn (λ (xs : List OpenChange). without_last xs) (λ (ws : List Record). without_last ws) (λ t. refl) (λ t. refl) (λ t ws. refl) changes_less is lasts' overs' writes' last over opens

    pub kept_commit : (c : Commit) → ((t : ℕ) → lasts' t ≡ cond (eqb c.tx t) 0 (lasts t)) → ((t : ℕ) → overs' t ≡ cond (eqb c.tx t) true (overs t)) → ((t : ℕ) → writes' t ≡ cond (eqb c.tx t) [] (writes t))
        → AreKept (log ++ kinds.Commit c ∷ []) lasts' overs' writes'
    kept_commit c last over opens = kept_over log lasts overs writes k (kinds.Commit c) c.tx (λ t. refl) (λ t. refl) (λ t ws. refl) lasts' overs' writes' last over opens

    pub kept_end : (e : End) → ((t : ℕ) → lasts' t ≡ cond (eqb e.tx t) 0 (lasts t)) → ((t : ℕ) → overs' t ≡ cond (eqb e.tx t) true (overs t)) → ((t : ℕ) → writes' t ≡ cond (eqb e.tx t) [] (writes t))
        → AreKept (log ++ kinds.End e ∷ []) lasts' overs' writes'
    kept_end e last over opens = kept_over log lasts overs writes k (kinds.End e) e.tx (λ t. refl) (λ t. refl) (λ t ws. refl) lasts' overs' writes' last over opens
