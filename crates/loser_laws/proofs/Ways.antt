-- With what a lock conflicts, where the opening log has losers.
use Rattle.std.proofs.Common.{◌≡◌, ℕ, zero, suc, eqb, cond, List, [], ◌∷◌, ◌++◌, Option, Some, None, Bool, true, false, refl, sym, ap, subst, ◌∙◌, arith, Ordering, Less, Equal, Greater}
use Rattle.std.specs.Prelude.{map, not, ◌&&◌, ◌||◌}
use Rattle.std.specs.Cmp.{nat_cmp_total, nat_cmp_is}
use Rattle.std.specs.Cmp.Lexicographic.{slice_cmp}
use Rattle.std.specs.List.{list_any}
use Rattle.std.specs.Ordering.{nat_cmp, is_lt, ordering_then, ordering_reverse}
use Rattle.std.proofs.lemmas.Bool.{eqb-true}
use Rattle.std.proofs.lemmas.List.Folds.{list_any-append}
use Rattle.store_model.specs.Along.{along}
use Rattle.store_model.specs.Range.{has_key, is_below, overlap, point}
use Rattle.store_model.proofs.Bools.{false_unless, not_both}
use Rattle.wal_record.specs.Locks.{Held, conflict, is_exclusive, locks, locks_step, loser_locks, point_lock, taken_locks}
use Rattle.wal_record.specs.History.{Live, life_log, phase}
use Rattle.wal_record.specs.Legal.{held, IsAllowed, IsLegal}
use Rattle.wal_record.specs.OpenWrites.{is_loser, key_of, open_list, open_writes}
use Rattle.wal_record.specs.Sound.{AreLawful}
use Rattle.wal_record.specs.declared.entry.Entry.{Entry}
use Rattle.wal_record.specs.declared.entry.Entry.TheVariants.{Rec, Lock}
use Rattle.wal_record.specs.declared.record.OpenWrite.{OpenWrite}
use Rattle.wal_record.specs.declared.record.Record.{Record}
use Rattle.wal_record.specs.declared.record.Record.TheVariants as kinds
use Rattle.wal_record.proofs.Along.{by_pushes}
use Rattle.wal_record.proofs.Pushes.{taken_push, legal_front}
use Rattle.log_laws.specs.Places.{AllPlaced}
use Rattle.log_laws.proofs.Places.{places}
use Rattle.log_laws.proofs.Serial.{after_legal, no_loser}
use Rattle.loser_laws.specs.Losers.{has_open_in}
use Rattle.loser_laws.specs.Ways.{WaysLaw}

-- ---- a range and a point

turn : (o o' p r : Ordering) → o' ≡ ordering_reverse o → is_lt p ≡ not (is_lt r) → is_lt (ordering_then o p) ≡ not (is_lt (ordering_then o' r))
turn Less o' p r back h = rw back refl
turn Equal o' p r back h = rw back h
turn Greater o' p r back h = rw back refl

-- a text is below a key with a zero byte behind it exactly where the key isn't below the text
below_next : (a k : List ℕ) → is_lt (slice_cmp nat_cmp a (k ++ 0 ∷ [])) ≡ not (is_lt (slice_cmp nat_cmp k a))
below_next [] [] = refl
below_next [] (y ∷ k) = refl
below_next (zero ∷ []) [] = refl
below_next (zero ∷ x ∷ a) [] = refl
below_next (suc x ∷ a) [] = rw (← nat_cmp_is (suc x) 0 Greater (omega arith)) refl
below_next (x ∷ a) (y ∷ k) = turn (nat_cmp x y) (nat_cmp y x) (slice_cmp nat_cmp a (k ++ 0 ∷ [])) (slice_cmp nat_cmp k a) (nat_cmp_total.antisymm y x) (below_next a k)

from_low : (low : Option (List ℕ)) (k : List ℕ) → is_below low (Some (k ++ 0 ∷ [])) ≡ not (is_below (Some k) low)
from_low None k = refl
from_low (Some a) k = below_next a k

or_true : (a : Bool) → (a || true) ≡ true
or_true true = refl
or_true false = refl

and_true : (a : Bool) → (a && true) ≡ a
and_true true = refl
and_true false = refl

point_conflicts : (lock : Held) (w : Record) → conflict lock (point_lock w) ≡ has_key lock.range (key_of w)
point_conflicts lock w =
    ap (λ (b : Bool). overlap lock.range (point (key_of w)) && b) (or_true (is_exclusive lock.mode)) ∙ and_true (overlap lock.range (point (key_of w)))
    ∙ ap (λ (b : Bool). b && is_below (Some (key_of w)) lock.range.high) (from_low lock.range.low (key_of w))

-- ---- the locks of losers

any_in : (lock : Held) (log : List Record) (ws : List OpenWrite) (rs : List Record) → AllPlaced log ws rs → list_any (conflict lock) (map point_lock rs) ≡ list_any (λ (w : OpenWrite). has_key lock.range w.key) ws
any_in lock log [] [] p = refl
any_in lock log (w ∷ ws) (r ∷ rs) p =
    λ i. (point_conflicts lock r ∙ ap (has_key lock.range) (sym p.1)) i || any_in lock log ws rs p.2 i
any_in lock log [] (r ∷ rs) p = absurd p
any_in lock log (w ∷ ws) [] p = absurd p

of_loser : (lock : Held) (b : Bool) (ws : List Record) → list_any (conflict lock) (loser_locks b ws) ≡ (b && list_any (conflict lock) (map point_lock ws))
of_loser lock true ws = refl
of_loser lock false ws = refl

conflicts : (opening : List Record) (h : List Entry) (lock : Held) (t : ℕ) → list_any (conflict lock) (locks opening h t) ≡ (list_any (conflict lock) (taken_locks h t) || (is_loser opening t && has_open_in lock.range (life_log opening h) t))
unfolding locks
conflicts opening h lock t =
    let log = life_log opening h in
    list_any-append (conflict lock) (taken_locks h t) (loser_locks (is_loser opening t) (open_writes log t))
    ∙ ap (λ (b : Bool). list_any (conflict lock) (taken_locks h t) || b) (of_loser lock (is_loser opening t) (open_writes log t) ∙ ap (λ (b : Bool). is_loser opening t && b) (any_in lock log (open_list log t) (open_writes log t) (places log t).placed))

-- ---- who is live

live_apart : (opening : List Record) (h : List Entry) → AreLawful opening → IsLegal opening h → (t : ℕ) → phase h t ≡ Live → is_loser opening t ≡ false
live_apart opening h sound legal t live = no_loser opening t ((after_legal opening sound h legal).0.new t live)

nothing_taken : (t : ℕ) → taken_locks [] t ≡ []
unfolding taken_locks along
nothing_taken t = refl

either_none : (b : Bool) (ls : List Held) → ls ≡ [] → cond b [] ls ≡ []
either_none true ls e = refl
either_none false ls e = e

module _ (opening : List Record) (sound : AreLawful opening) (t : ℕ) (loser : is_loser opening t ≡ true) where
  pub not_live : (h : List Entry) → IsLegal opening h → (tx : ℕ) → phase h tx ≡ Live → eqb tx t ≡ false
  not_live h legal tx live = false_unless (eqb tx t) (λ e. not_both (is_loser opening t) loser (live_apart opening h sound legal t (subst (λ (u : ℕ). phase h u ≡ Live) (eqb-true tx t e) live)))

  untaken_step : (h : List Entry) → IsLegal opening h → (ls : List Held) (e : Entry) → IsAllowed opening h e → ls ≡ [] → locks_step t ls e ≡ []
  untaken_step h legal ls (Lock tx range mode) ok none = ap (λ (b : Bool). cond b (held range mode ∷ ls) ls) (not_live h legal tx ok.rule.live) ∙ none
  untaken_step h legal ls (Rec lsn (kinds.Commit c)) ok none = either_none (eqb c.tx t) ls none
  untaken_step h legal ls (Rec lsn (kinds.End x)) ok none = either_none (eqb x.tx t) ls none
  untaken_step h legal ls _ ok none = none

  untaken : (h : List Entry) → IsLegal opening h → taken_locks h t ≡ []
  untaken = by_pushes (λ (h : List Entry). IsLegal opening h → taken_locks h t ≡ []) (λ _. nothing_taken t) (λ h e before legal.
      let parts = legal_front opening h e legal in
      taken_push h e t ∙ untaken_step h parts.0 (taken_locks h t) e parts.1 (before parts.0))

pub ways : (opening : List Record) (h : List Entry) → WaysLaw opening h
ways opening h = record {
  conflicts = conflicts opening h;
  live = live_apart opening h;
  untaken = λ sound legal t loser. untaken opening sound t loser h legal;
}
