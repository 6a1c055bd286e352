-- What a stop may leave of a life.
use Rattle.std.proofs.Common.{◌≡◌, ℕ, Bool, true, false, cond, eqb, List, [], ◌∷◌, ◌++◌, refl, sym, ap, subst, ◌∙◌, arith, append_assoc, inl, inr}
use Rattle.std.specs.Prelude.{◌||◌, ◌⊎◌}
use Rattle.std.specs.List.{list_any}
use Rattle.std.proofs.lemmas.Bool.{eqb-true}
use Rattle.std.proofs.lemmas.List.{append-nil}
use Rattle.std.proofs.lemmas.List.Folds.{list_any-append}
use Rattle.store_model.proofs.Bools.{or_left, or_right, not_both}
use Rattle.wal_record.specs.Sound.{IsLawful, AreLawful, HasRoom, spare}
use Rattle.wal_record.specs.History.{log_of, life_log, Phase, Idle, Live, Committed, Acknowledged, Ended, phase, phase_step}
use Rattle.wal_record.specs.Legal.{IsAllowed, IsLegal}
use Rattle.wal_record.specs.Left.{is_commit_of, acknowledges, IsLeft}
use Rattle.wal_record.specs.declared.record.Record.{Record}
use Rattle.wal_record.specs.declared.record.Record.TheVariants as kinds
use Rattle.wal_record.specs.declared.entry.Entry.{Entry}
use Rattle.wal_record.specs.declared.entry.Entry.TheVariants.{Rec, Acked, Began}
use Rattle.store_model.specs.Along.{along}
use Rattle.wal_record.proofs.Along.{AllAlong_less, by_pushes}
use Rattle.wal_record.proofs.Pushes.{log_of_push, phase_push, legal_front, lawful_front}
use Rattle.log_laws.specs.Beginnings.{is_commit}
use Rattle.log_laws.proofs.Central.{only}
use Rattle.log_laws.proofs.Serial.{sound_after}
use Rattle.life_laws.specs.Calm.{splits_page}
use Rattle.log_laws.specs.Right.{IsBeginning}

pub either_false : (a b : Bool) → (a || b) ≡ false → (a ≡ false) × (b ≡ false)
either_false true b e = absurd cc
either_false false b e = (refl, e)

-- ---- room

no_spare : (r : Record) → splits_page r ≡ false → spare r ≡ 0
no_spare (kinds.Split s) e = absurd cc
no_spare _ e = refl

-- a lawful log without splits has room
pub has_room : (log : List Record) → AreLawful log → list_any splits_page log ≡ false → HasRoom log
has_room = by_pushes (λ (log : List Record). AreLawful log → list_any splits_page log ≡ false → HasRoom log) (λ _ _ some. absurd (some refl)) (λ log r before lawful whole some.
    let parts = either_false (list_any splits_page log) (splits_page r || false) (sym (list_any-append splits_page log (r ∷ [])) ∙ whole) in
    let most = (lawful_front log r lawful).1.room.most in
    let none = no_spare r (either_false (splits_page r) false parts.1).0 in
    omega (arith, most, none))

-- ---- acknowledged commits are in the log

same_or : (b : Bool) (q p : Phase) → (q ≡ Committed → ⊥) → cond b q p ≡ Committed → p ≡ Committed
same_or true q p differs h = absurd (differs h)
same_or false q p differs h = h

entered_step : (t : ℕ) (p : Phase) (e : Entry) → phase_step t p e ≡ Committed → (list_any (is_commit_of t) (log_of (e ∷ [])) ≡ true) ⊎ (p ≡ Committed)
entered_step t p (Began session tx) h = inr (same_or (eqb tx t) Live p (λ (q : Live ≡ Committed). cc) h)
entered_step t p (Acked session tx) h = inr (same_or (eqb tx t) Acknowledged p (λ (q : Acknowledged ≡ Committed). cc) h)
entered_step t p (Rec lsn (kinds.End x)) h = inr (same_or (eqb x.tx t) Ended p (λ (q : Ended ≡ Committed). cc) h)
entered_step t p (Rec lsn (kinds.Commit c)) h = by (eqb c.tx t) h
  where
    by : (b : Bool) → cond b Committed p ≡ Committed → ((b || false) ≡ true) ⊎ (p ≡ Committed)
    by true g = inl refl
    by false g = inr g
entered_step t p _ h = inr h

any_push : (t : ℕ) (h : List Entry) (e : Entry) → list_any (is_commit_of t) (log_of (h ++ e ∷ [])) ≡ (list_any (is_commit_of t) (log_of h) || list_any (is_commit_of t) (log_of (e ∷ [])))
any_push t h e = ap (list_any (is_commit_of t)) (log_of_push h e) ∙ list_any-append (is_commit_of t) (log_of h) (log_of (e ∷ []))

idle_first : (t : ℕ) → phase [] t ≡ Idle
unfolding phase along
idle_first t = refl

entered : (t : ℕ) (h : List Entry) → phase h t ≡ Committed → list_any (is_commit_of t) (log_of h) ≡ true
entered t = by_pushes (λ (h : List Entry). phase h t ≡ Committed → list_any (is_commit_of t) (log_of h) ≡ true)
    (λ p. absurd (let e : Idle ≡ Committed = sym (idle_first t) ∙ p in cc))
    (λ h e before p. any_push t h e ∙ elim (entered_step t (phase h t) e (sym (phase_push h e t) ∙ p)) [
      | inl new ↦ or_right (list_any (is_commit_of t) (log_of h)) _ new
      | inr old ↦ or_left _ (list_any (is_commit_of t) (log_of (e ∷ []))) (before old)
    ])

acked_step : (opening : List Record) (h : List Entry) (t : ℕ) (e : Entry) → IsAllowed opening h e → acknowledges t e ≡ true → list_any (is_commit_of t) (log_of h) ≡ true
acked_step opening h t (Acked session tx) ok a = subst (λ (u : ℕ). list_any (is_commit_of u) (log_of h) ≡ true) (eqb-true tx t a) (entered tx h ok.rule.committed)
acked_step opening h t _ ok a = absurd cc

-- either of two tests
of_either : (a b c : Bool) → (a ≡ true → c ≡ true) → (b ≡ true → c ≡ true) → (a || b) ≡ true → c ≡ true
of_either true b c f g h = f refl
of_either false b c f g h = g h

pub acked_entered : (opening : List Record) (h : List Entry) → IsLegal opening h → (t : ℕ) → list_any (acknowledges t) h ≡ true → list_any (is_commit_of t) (log_of h) ≡ true
acked_entered opening = by_pushes (λ (h : List Entry). IsLegal opening h → (t : ℕ) → list_any (acknowledges t) h ≡ true → list_any (is_commit_of t) (log_of h) ≡ true)
    (λ _ t a. absurd cc)
    (λ h e before legal t a.
    let parts = legal_front opening h e legal in
    any_push t h e ∙ or_left _ (list_any (is_commit_of t) (log_of (e ∷ [])))
    (of_either (list_any (acknowledges t) h) (acknowledges t e || false) _ (before parts.0 t)
    (λ new. acked_step opening h t e parts.1 (only (acknowledges t e) new)) (sym (list_any-append (acknowledges t) h (e ∷ [])) ∙ a)))

commit_some : (t : ℕ) (r : Record) → is_commit_of t r ≡ true → is_commit r ≡ true
commit_some t (kinds.Commit c) e = refl
commit_some t _ e = absurd cc

commits_some : (t : ℕ) (rs : List Record) → list_any (is_commit_of t) rs ≡ true → list_any is_commit rs ≡ true
commits_some t [] e = absurd cc
commits_some t (r ∷ rs) e = of_either (is_commit_of t r) (list_any (is_commit_of t) rs) (is_commit r || list_any is_commit rs) (λ g. or_left _ (list_any is_commit rs) (commit_some t r g)) (λ g. or_right (is_commit r) _ (commits_some t rs g)) e

-- ---- what a stop may leave

module _ (opening : List Record) (begins : AreLawful opening) (h : List Entry) (legal : IsLegal opening h) where
  pub left_with_room : (own : List Record) → IsBeginning opening h own → HasRoom (opening ++ own) → IsLeft opening h own
  left_with_room own b room =
      let parts : life_log opening h ≡ (opening ++ own) ++ b.lost = ap (λ (rs : List Record). opening ++ rs) b.whole ∙ sym (append_assoc opening own b.lost) in
      let lawful = AllAlong_less IsLawful (opening ++ own) b.lost (subst AreLawful parts (sound_after opening begins h legal)) in
      record { lost = b.lost; whole = b.whole; sound = record { lawful = lawful; room = room }; acknowledged = b.acknowledged }

  -- behind the last commit no acknowledged one is lost
  begins_before : (own lost : List Record) → log_of h ≡ own ++ lost → list_any is_commit lost ≡ false → IsBeginning opening h own
  begins_before own lost e none = record {
    lost = lost;
    whole = e;
    acknowledged = λ t a. list_any-append (is_commit_of t) opening own ∙ or_right (list_any (is_commit_of t) opening) (list_any (is_commit_of t) own)
        (of_either (list_any (is_commit_of t) own) (list_any (is_commit_of t) lost) (list_any (is_commit_of t) own) (λ g. g) (λ g. absurd (not_both _ (commits_some t lost g) none))
        (sym (ap (list_any (is_commit_of t)) e ∙ list_any-append (is_commit_of t) own lost) ∙ acked_entered opening h legal t a));
  }

  pub left_behind : (own lost : List Record) → log_of h ≡ own ++ lost → list_any is_commit lost ≡ false → HasRoom (opening ++ own) → IsLeft opening h own
  left_behind own lost e none room = left_with_room own (begins_before own lost e none) room

module _ (opening : List Record) (begins : AreLawful opening) (h : List Entry) (legal : IsLegal opening h) (whole : list_any splits_page (life_log opening h) ≡ false) where
  -- without splits there is room at every place
  pub left_beginning : (own : List Record) → IsBeginning opening h own → IsLeft opening h own
  left_beginning own b =
      let parts : life_log opening h ≡ (opening ++ own) ++ b.lost = ap (λ (rs : List Record). opening ++ rs) b.whole ∙ sym (append_assoc opening own b.lost) in
      let lawful = AllAlong_less IsLawful (opening ++ own) b.lost (subst AreLawful parts (sound_after opening begins h legal)) in
      let unsplit = (either_false (list_any splits_page (opening ++ own)) (list_any splits_page b.lost) (sym (ap (list_any splits_page) parts ∙ list_any-append splits_page (opening ++ own) b.lost) ∙ whole)).0 in
      left_with_room opening begins h legal own b (has_room (opening ++ own) lawful unsplit)

  -- nothing may be lost
  pub left_whole : IsLeft opening h (log_of h)
  left_whole = left_beginning (log_of h) (begins_before opening begins h legal (log_of h) [] (sym (append-nil (log_of h))) refl)

  -- with a beginning a longer one
  pub left_more : (own more lost : List Record) → IsLeft opening h own → log_of h ≡ (own ++ more) ++ lost → IsLeft opening h (own ++ more)
  left_more own more lost l e = left_beginning (own ++ more) (record {
    lost = lost;
    whole = e;
    acknowledged = λ t a. ap (list_any (is_commit_of t)) (sym (append_assoc opening own more)) ∙ list_any-append (is_commit_of t) (opening ++ own) more ∙ or_left _ (list_any (is_commit_of t) more) (l.acknowledged t a);
  })

pub log_of_append : (h g : List Entry) → log_of (h ++ g) ≡ log_of h ++ log_of g
log_of_append [] g = refl
log_of_append (Rec lsn r ∷ h) g = ap (λ (rs : List Record). r ∷ rs) (log_of_append h g)
log_of_append (_ ∷ h) g = log_of_append h g

-- what a stop may leave of a history it may leave of a longer one that acknowledges nothing more
pub left_longer : (opening : List Record) (h more : List Entry) (own : List Record) → IsLeft opening h own → ((t : ℕ) → list_any (acknowledges t) more ≡ false) → IsLeft opening (h ++ more) own
left_longer opening h more own l none =
    record {
      lost = l.lost ++ log_of more;
      whole = log_of_append h more ∙ ap (λ (rs : List Record). rs ++ log_of more) l.whole ∙ append_assoc own l.lost (log_of more);
      sound = l.sound;
      acknowledged = λ t a. l.acknowledged t (of_either (list_any (acknowledges t) h) (list_any (acknowledges t) more) (list_any (acknowledges t) h) (λ g. g) (λ g. absurd (not_both _ g (none t))) (sym (list_any-append (acknowledges t) h more) ∙ a));
    }
