-- What an agreeing right to a session tells of its transaction.
use Rattle.std.proofs.Common.{◌≡◌, ℕ, eqb, cond, List, [], ◌∷◌, ◌++◌, Option, Some, None, Bool, true, false, refl, sym, ap, ◌∙◌, arith}
use Rattle.std.specs.Prelude.{◌<◌, ◌||◌, ◌&&◌}
use Rattle.std.specs.List.{list_any}
use Rattle.std.proofs.lemmas.List.Folds.{list_any-append}
use Rattle.store_model.proofs.Bools.{or_left, or_right}
use Rattle.wal_record.specs.History.{phase, is_over, is_owner, last_begun, Beginning, beginnings}
use Rattle.wal_record.specs.Books.{unless_over, session_transaction}
use Rattle.wal_record.specs.declared.entry.Entry.{Entry}
use Rattle.wal_record.specs.declared.entry.Entry.TheVariants.{Began}
use Rattle.wal_record.proofs.Along.{by_pushes}
use Rattle.wal_record.proofs.Pushes.{last_begun_push, beginnings_push}
use Rattle.log_laws.proofs.Central.{eqb_self}
use Rattle.store_model.specs.Along.{along}

nothing_begun : (s : ℕ) → last_begun [] s ≡ None
unfolding last_begun along
nothing_begun s = refl

abbrev is_of : ℕ → ℕ → Beginning → Bool
is_of session tx b = eqb b.session session && eqb b.tx tx

owner_or : (h : List Entry) (e : Entry) (s t : ℕ) → (is_owner h s t || list_any (is_of s t) (beginnings (e ∷ []))) ≡ true → is_owner (h ++ e ∷ []) s t ≡ true
owner_or h e s t is = ap (list_any (is_of s t)) (beginnings_push h e) ∙ list_any-append (is_of s t) (beginnings h) (beginnings (e ∷ [])) ∙ is

both : (a b : Bool) → a ≡ true → b ≡ true → (a && b) ≡ true
both true true x y = refl
both true false x y = y
both false b x y = x

begun_by : (h : List Entry) (x u s t : ℕ) (c : Bool) → eqb x s ≡ c → (last_begun h s ≡ Some t → is_owner h s t ≡ true) → cond c (Some u) (last_begun h s) ≡ Some t → is_owner (h ++ Began x u ∷ []) s t ≡ true
begun_by h x u s t true is before found =
    let same : u ≡ t = cc found in
    owner_or h (Began x u) s t (or_right (is_owner h s t) _ (or_left (eqb x s && eqb u t) false (both (eqb x s) (eqb u t) is (ap (λ y. eqb y t) same ∙ eqb_self t))))
begun_by h x u s t false is before found = owner_or h (Began x u) s t (or_left (is_owner h s t) _ (before found))

owner_step : (s t : ℕ) (h : List Entry) (e : Entry) → (last_begun h s ≡ Some t → is_owner h s t ≡ true) → last_begun (h ++ e ∷ []) s ≡ Some t → is_owner (h ++ e ∷ []) s t ≡ true
owner_step s t h (Began x u) before is = begun_by h x u s t (eqb x s) refl before (sym (last_begun_push h (Began x u) s) ∙ is)
owner_step s t h e before is = owner_or h e s t (or_left (is_owner h s t) _ (before (sym (last_begun_push h e s) ∙ is)))

pub owner_of : (h : List Entry) (s t : ℕ) → last_begun h s ≡ Some t → is_owner h s t ≡ true
owner_of h s t = by_pushes (λ (h : List Entry). last_begun h s ≡ Some t → is_owner h s t ≡ true) (λ is. absurd (cc (sym (nothing_begun s) ∙ is))) (owner_step s t) h

begun_unless : (h : List Entry) (b : Option ℕ) (t : ℕ) → t ≡ unless_over h b → 0 < t → (b ≡ Some t) × (is_over (phase h t) ≡ false)
begun_unless h None t is some = absurd (omega (arith, is, some))
begun_unless h (Some u) t is some = by (is_over (phase h u)) refl is
  where
    by : (c : Bool) → is_over (phase h u) ≡ c → t ≡ cond c 0 u → (◌≡◌ {A = Option ℕ} (Some u) (Some t)) × (is_over (phase h t) ≡ false)
    by true over is = absurd (omega (arith, is, some))
    by false over is = (ap Some (sym is), ap (λ (x : ℕ). is_over (phase h x)) is ∙ over)

-- a session's transaction is its own, and not over
pub transaction : (h : List Entry) (s t : ℕ) → t ≡ session_transaction h s → 0 < t → (is_owner h s t ≡ true) × (is_over (phase h t) ≡ false)
transaction h s t is some = let b = begun_unless h (last_begun h s) t is some in (owner_of h s t b.0, b.1)
