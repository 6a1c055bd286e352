-- What the phases mean.
use Rattle.std.proofs.Common.{◌≡◌, ℕ, Bool, true, false, cond, eqb, List, [], ◌∷◌, ◌++◌, refl, sym, ap, subst, ◌∙◌, arith}
use Rattle.std.specs.Prelude.{◌||◌, ◌<◌}
use Rattle.std.specs.List.{list_any}
use Rattle.std.proofs.Math.Nat.{le-max_left, le-max_right}
use Rattle.std.proofs.lemmas.Bool.{eqb-true}
use Rattle.std.proofs.lemmas.List.Folds.{list_any-append}
use Rattle.store_model.proofs.Bools.{or_right, not_both}
use Rattle.wal_record.specs.declared.record.Record.{Record}
use Rattle.wal_record.specs.declared.record.Record.TheVariants as kinds
use Rattle.wal_record.specs.declared.entry.Entry.{Entry}
use Rattle.wal_record.specs.declared.entry.Entry.TheVariants.{Rec, Acked, Began}
use Rattle.store_model.specs.Along.{along}
use Rattle.wal_record.specs.Chains.{greatest, finishes}
use Rattle.wal_record.specs.Sound.{AreLawful}
use Rattle.wal_record.specs.History.{log_of, Phase, Idle, Live, Committed, Acknowledged, Ended, phase_step, phase, greatest_begun}
use Rattle.wal_record.specs.Legal.{IsAllowed, IsLegal}
use Rattle.wal_record.proofs.Along.{by_pushes}
use Rattle.wal_record.proofs.Pushes.{phase_push, legal_front, log_of_push}
use Rattle.log_laws.specs.Phases.{begins, LiveLaw}
use Rattle.log_laws.proofs.Serial.{after_legal}

-- begun, and over
abbrev Means : Phase → Bool → Bool → Type 0
Means Idle b o = (b ≡ false) × (o ≡ false)
Means Live b o = (b ≡ true) × (o ≡ false)
Means _ b o = o ≡ true

or_false : (b : Bool) → (b || false) ≡ b
or_false true = refl
or_false false = refl

same : (p : Phase) (b o : Bool) → Means p b o → Means p (b || false) (o || false)
same p b o h = subst (λ (x : Bool). Means p x (o || false)) (sym (or_false b)) (subst (λ (x : Bool). Means p b x) (sym (or_false o)) h)

began_means : (p : Phase) (b o c : Bool) → (c ≡ true → p ≡ Idle) → Means p b o → Means (cond c Live p) (b || (c || false)) (o || false)
began_means p b o true new h = let i : Means Idle b o = subst (λ (x : Phase). Means x b o) (new refl) h in (or_right b true refl, ap (λ (x : Bool). x || false) i.1)
began_means p b o false new h = same p b o h

acked_means : (p : Phase) (b o c : Bool) → (c ≡ true → p ≡ Committed) → Means p b o → Means (cond c Acknowledged p) (b || false) (o || false)
acked_means p b o true done h = let i : Means Committed b o = subst (λ (x : Phase). Means x b o) (done refl) h in or_false o ∙ i
acked_means p b o false done h = same p b o h

over_means : (p q : Phase) (b o c : Bool) → ((d : Bool) → Means q (b || false) (d || true) ≡ ((d || true) ≡ true)) → Means p b o → Means (cond c q p) (b || false) (o || (c || false))
over_means p q b o true is h = subst (λ (x : Type 0). x) (sym (is o)) (or_right o true refl)
over_means p q b o false is h = same p b o h

means_step : (opening : List Record) (h : List Entry) (e : Entry) → IsAllowed opening h e → ((t : ℕ) → greatest opening < t → greatest_begun h < t → phase h t ≡ Idle) → (t : ℕ) (b o : Bool)
    → Means (phase h t) b o → Means (phase_step t (phase h t) e) (b || (begins t e || false)) (o || list_any (finishes t) (log_of (e ∷ [])))
means_step opening h (Began session tx) ok fresh t b o m =
    let l = le-max_left (greatest opening) (greatest_begun h) in
    let r = le-max_right (greatest opening) (greatest_begun h) in
    let n = ok.rule.number in
    began_means (phase h t) b o (eqb tx t) (λ e. subst (λ (u : ℕ). phase h u ≡ Idle) (eqb-true tx t e) (fresh tx (omega (arith, l, n)) (omega (arith, r, n)))) m
means_step opening h (Acked session tx) ok fresh t b o m = acked_means (phase h t) b o (eqb tx t) (λ e. subst (λ (u : ℕ). phase h u ≡ Committed) (eqb-true tx t e) ok.rule.committed) m
means_step opening h (Rec lsn (kinds.Commit c)) ok fresh t b o m = over_means (phase h t) Committed b o (eqb c.tx t) (λ d. refl) m
means_step opening h (Rec lsn (kinds.End x)) ok fresh t b o m = over_means (phase h t) Ended b o (eqb x.tx t) (λ d. refl) m
means_step opening h _ ok fresh t b o m = same (phase h t) b o m

idle_first : (t : ℕ) → Means (phase [] t) false false
unfolding phase along
idle_first t = (refl, refl)

means : (opening : List Record) → AreLawful opening → (h : List Entry) → IsLegal opening h → (t : ℕ) → Means (phase h t) (list_any (begins t) h) (list_any (finishes t) (log_of h))
means opening sound = by_pushes (λ (h : List Entry). IsLegal opening h → (t : ℕ) → Means (phase h t) (list_any (begins t) h) (list_any (finishes t) (log_of h)))
    (λ _ t. idle_first t)
    (λ h e before legal t.
    let parts = legal_front opening h e legal in
    let told = (after_legal opening sound h parts.0).0 in
    let step = means_step opening h e parts.1 (λ u a b. (told.fresh u a b).0) t _ _ (before parts.0 t) in
    subst (λ (p : Phase). Means p (list_any (begins t) (h ++ e ∷ [])) (list_any (finishes t) (log_of (h ++ e ∷ [])))) (sym (phase_push h e t))
    (subst (λ (b : Bool). Means (phase_step t (phase h t) e) b (list_any (finishes t) (log_of (h ++ e ∷ [])))) (sym (list_any-append (begins t) h (e ∷ [])))
    (subst (λ (o : Bool). Means (phase_step t (phase h t) e) (list_any (begins t) h || (begins t e || false)) o) (sym (ap (list_any (finishes t)) (log_of_push h e) ∙ list_any-append (finishes t) (log_of h) (log_of (e ∷ [])))) step)))

only_live : (p : Phase) (b o : Bool) → Means p b o → b ≡ true → o ≡ false → p ≡ Live
only_live Idle b o m h g = absurd (not_both b h m.0)
only_live Live b o m h g = refl
only_live Committed b o m h g = absurd (not_both o m g)
only_live Acknowledged b o m h g = absurd (not_both o m g)
only_live Ended b o m h g = absurd (not_both o m g)

pub live_law : (opening : List Record) (h : List Entry) → LiveLaw opening h
live_law opening h = record {
  live = λ sound legal t p. subst (λ (x : Phase). Means x (list_any (begins t) h) (list_any (finishes t) (log_of h))) p (means opening sound h legal t);
  only = λ sound legal t b o. only_live (phase h t) _ _ (means opening sound h legal t) b o;
}
