-- What is enough of a log for an opening is enough of a longer one, and what the recycle point leaves is.
use Rattle.std.proofs.Common.{◌≡◌, ℕ, zero, suc, eqb, cond, ◌+◌, ◌<◌, ◌≤◌, List, [], ◌∷◌, ◌++◌, length, filter, Bool, true, false, refl, sym, ap, ◌∙◌, subst, arith, append_assoc, append-nil}
use Rattle.std.specs.Prelude.{min, fold}
use Rattle.std.specs.List.{All, range_with_len}
use Rattle.std.proofs.lemmas.Bool.{eqb-true}
use Rattle.std.proofs.lemmas.Bool.Decides.{nat_tests}
use Rattle.std.proofs.lemmas.List.Elements.{All-cons, All-nil}
use Rattle.store_model.proofs.Bools.{not_both}
use Rattle.log_manager.specs.Devices.{IsEnough}
use Rattle.log_manager.proofs.Joining.{checkpoint_after-append, checkpoint_below}
use Rattle.wal_record.specs.Chains.{greatest}
use Rattle.wal_record.specs.Checkpoints.{is_checkpoint, last_checkpoint, oldest, recycle_point}
use Rattle.wal_record.specs.OpenWrites.{has_items, is_loser, key_of, losers, open_list, open_step, without_last}
use Rattle.wal_record.specs.Sound.{AreLawful}
use Rattle.wal_record.specs.Upkeep.{archived, standing_runs}
use Rattle.wal_record.specs.declared.record.OpenWrite.{OpenWrite}
use Rattle.wal_record.specs.declared.record.Record.{Record}
use Rattle.wal_record.specs.declared.record.Record.TheVariants as kinds
use Rattle.store_model.specs.Along.{along}
use Rattle.wal_record.proofs.Along.{AllAlong_less, by_pushes}
use Rattle.wal_record.specs.Sound.{IsLawful}
use Rattle.wal_record.proofs.Pushes.{lawful_front, open_list_push}
use Rattle.listing_laws.proofs.Numbers.{lsn_of, open_in}
use Rattle.listing_laws.proofs.Rising.{Each, Rise}
use Rattle.listing_laws.proofs.Transactions.{none_listed, none_of_zero, some_open}
use Rattle.stop_laws.proofs.Archiving.{archived_rises}

-- ---- open writes from an LSN on

abbrev AreFrom : ℕ → List OpenWrite → Type 0
AreFrom first [] = Unit {0}
AreFrom first (w ∷ ws) = (first ≤ w.lsn) × AreFrom first ws

each_from : (first : ℕ) (ws : List OpenWrite) → All (λ (w : OpenWrite). first ≤ w.lsn) ws → AreFrom first ws
each_from first [] all = tt
each_from first (w ∷ ws) all = (all 0 w (omega arith), each_from first ws (λ k d lt. all (suc k) d (omega (arith, lt))))

all_from : (first : ℕ) (ws : List OpenWrite) → AreFrom first ws → All (λ (w : OpenWrite). first ≤ w.lsn) ws
all_from first [] from = All-nil (λ (w : OpenWrite). first ≤ w.lsn)
all_from first (w ∷ ws) from = All-cons (λ (w : OpenWrite). first ≤ w.lsn) w ws from.0 (all_from first ws from.1)

module _ (first : ℕ) where
  from_more : (ws : List OpenWrite) (w : OpenWrite) → AreFrom first ws → first ≤ w.lsn → AreFrom first (ws ++ w ∷ [])
  from_more [] w from le = (le, tt)
  from_more (x ∷ ws) w from le = (from.0, from_more ws w from.1 le)

  from_less : (ws : List OpenWrite) → AreFrom first ws → AreFrom first (without_last ws)
  from_less [] from = tt
  from_less (x ∷ []) from = tt
  from_less (x ∷ y ∷ ws) from = (from.0, from_less (y ∷ ws) from.1)

  module _ (ws : List OpenWrite) (w : OpenWrite) (from : AreFrom first ws) (le : first ≤ w.lsn) where
    if_more : (c : Bool) → AreFrom first (cond c (ws ++ w ∷ []) ws)
    if_more true = from_more ws w from le
    if_more false = from

    if_less : (c : Bool) → AreFrom first (cond c (without_last ws) ws)
    if_less true = from_less ws from
    if_less false = from

    if_gone : (c : Bool) → AreFrom first (cond c [] ws)
    if_gone true = tt
    if_gone false = from

    from_step : (t : ℕ) (r : Record) → AreFrom first (open_step t w ws r)
    from_step t (kinds.Write x) = if_more (eqb x.tx t)
    from_step t (kinds.Apply x) = if_more (eqb x.tx t)
    from_step t (kinds.Undo x) = if_less (eqb x.tx t)
    from_step t (kinds.Commit x) = if_gone (eqb x.tx t)
    from_step t (kinds.End x) = if_gone (eqb x.tx t)
    from_step t r = from

-- ---- more records

checkpoint_step : (log : List Record) (r : Record) → last_checkpoint (log ++ r ∷ []) ≡ cond (is_checkpoint r) (1 + length log) (last_checkpoint log)
checkpoint_step log r = checkpoint_after-append 0 1 log (r ∷ [])

checkpoint_low : (log : List Record) → last_checkpoint log ≤ length log
checkpoint_low log = let low = checkpoint_below 0 1 log (omega arith) in omega (arith, low)

checkpoint_rises : (log : List Record) (r : Record) → last_checkpoint log ≤ last_checkpoint (log ++ r ∷ [])
checkpoint_rises log r = by (is_checkpoint r) (checkpoint_step log r)
  where
    by : (b : Bool) → last_checkpoint (log ++ r ∷ []) ≡ cond b (1 + length log) (last_checkpoint log) → last_checkpoint log ≤ last_checkpoint (log ++ r ∷ [])
    by true e = omega (arith, e, checkpoint_low log)
    by false e = omega (arith, e)

enough_step : (log : List Record) (r : Record) (first : ℕ) → AreLawful log → IsLawful log r → IsEnough log first → IsEnough (log ++ r ∷ []) first
enough_step log r first lawful next is =
    let low = is.checkpoint in
    let top = checkpoint_low log in
    record {
      checkpoint = let rise = checkpoint_rises log r in omega (arith, low, rise);
      losers = λ t.
          let w : OpenWrite = record { lsn = length log + 1; key = key_of r } in
          let before = each_from first (open_list log t) (is.losers t) in
          let now = from_step first (open_list log t) w before (omega (arith, low, top)) t r in
          all_from first (open_list (log ++ r ∷ []) t) (subst (AreFrom first) (sym (open_list_push log r t)) now);
      runs = let one = is.runs in let rise = archived_rises log r lawful next in omega (arith, one, rise);
    }

pub enough_more : (log more : List Record) (first : ℕ) → AreLawful (log ++ more) → IsEnough log first → IsEnough (log ++ more) first
enough_more log [] first lawful is = subst (λ (l : List Record). IsEnough l first) (sym (append-nil log)) is
enough_more log (r ∷ more) first lawful is =
    let whole = subst AreLawful (sym (append_assoc log (r ∷ []) more)) lawful in
    let parts = lawful_front log r (AllAlong_less IsLawful (log ++ r ∷ []) more whole) in
    subst (λ (l : List Record). IsEnough l first) (append_assoc log (r ∷ []) more) (enough_more (log ++ r ∷ []) more first whole (enough_step log r first parts.0 parts.1 is))

-- ---- all of it

no_list : (t : ℕ) → open_list [] t ≡ []
unfolding open_list along
no_list t = refl

placed : (t : ℕ) (log : List Record) → AreFrom 1 (open_list log t)
placed t = by_pushes (λ (log : List Record). AreFrom 1 (open_list log t)) (subst (AreFrom 1) (sym (no_list t)) tt) (λ log r before.
    subst (AreFrom 1) (sym (open_list_push log r t)) (from_step 1 (open_list log t) (record { lsn = length log + 1; key = key_of r }) before (omega arith) t r))

from_lower : (a b : ℕ) (ws : List OpenWrite) → a ≤ b → AreFrom b ws → AreFrom a ws
from_lower a b [] le from = tt
from_lower a b (w ∷ ws) le from = (let one = from.0 in omega (arith, one, le), from_lower a b ws le from.1)

enough_from_one : (log : List Record) (first : ℕ) → first ≤ 1 → IsEnough log first
enough_from_one log first le = record {
  checkpoint = omega (arith, le);
  losers = λ t. all_from first (open_list log t) (from_lower first 1 (open_list log t) le (placed t log));
  runs = omega (arith, le);
}

-- ---- the recycle point

least_parts : (n a b : ℕ) → n ≤ min a b → (n ≤ a) × (n ≤ b)
least_parts n a b le = (grind (arith, nat_tests, le), grind (arith, nat_tests, le))

from_over : (first n : ℕ) (ws : List OpenWrite) → first ≤ n → Each (λ (w : OpenWrite). n < w.lsn) ws → AreFrom first ws
from_over first n [] le over = tt
from_over first n (w ∷ ws) le over = (let one = over.0 in omega (arith, le, one), from_over first n ws le over.1)

-- the first of the open writes is the oldest
oldest_parts : (first : ℕ) (ws : List OpenWrite) (n : ℕ) → Rise lsn_of ws → first ≤ oldest ws n → (first ≤ n) × AreFrom first ws
oldest_parts first [] n rise le = (le, tt)
oldest_parts first (w ∷ ws) n rise le =
    let both = least_parts first w.lsn n le in
    (both.1, (both.0, from_over first w.lsn ws both.0 rise.0))

needed_parts : (log : List Record) → AreLawful log → (first : ℕ) (ts : List ℕ) (n : ℕ) → first ≤ fold (λ m t. oldest (open_list log t) m) n ts → (first ≤ n) × Each (λ (t : ℕ). AreFrom first (open_list log t)) ts
needed_parts log lawful first [] n le = (le, tt)
needed_parts log lawful first (t ∷ ts) n le =
    let rest = needed_parts log lawful first ts (oldest (open_list log t) n) le in
    let one = oldest_parts first (open_list log t) n (open_in t log lawful).0 rest.0 in
    (one.0, (one.1, rest.1))

-- whoever passes the test in a range is among those that do
passed_in : (P : ℕ → Type 0) (p : ℕ → Bool) (a n : ℕ) → Each P (filter p (range_with_len a n)) → (t : ℕ) → a ≤ t → t < a + n → p t ≡ true → P t
passed_in P p a zero each t low high passes = absurd (omega (arith, low, high))
passed_in P p a (suc n) each t low high passes = by (p a) refl each (λ rest differs. passed_in P p (a + 1) n rest t (omega (arith, low, differs)) (omega (arith, high)) passes)
  where
    same : (b : Bool) → eqb a t ≡ b → P a → Each P (filter p (range_with_len (a + 1) n)) → (Each P (filter p (range_with_len (a + 1) n)) → (a ≡ t → ⊥) → P t) → P t
    same true e here rest later = subst P (eqb-true a t e) here
    same false e here rest later = later rest (λ is. grind (arith, nat_tests, e, is))

    by : (b : Bool) → p a ≡ b → Each P (cond b (a ∷ filter p (range_with_len (a + 1) n)) (filter p (range_with_len (a + 1) n))) → (Each P (filter p (range_with_len (a + 1) n)) → (a ≡ t → ⊥) → P t) → P t
    by true e each later = same (eqb a t) refl each.0 each.1 later
    by false e each later = later each (λ is. not_both (p t) passes (ap p (sym is) ∙ e))

-- whoever has open writes is a loser, with a number above 0
loser_from : (log : List Record) (first : ℕ) → Each (λ (t : ℕ). AreFrom first (open_list log t)) (losers log) → ((t : ℕ) → has_items (open_list log t) ≡ true → 1 ≤ t) → (t : ℕ) → AreFrom first (open_list log t)
loser_from log first each some t = by (has_items (open_list log t)) refl (open_list log t) refl
  where
    inside : has_items (open_list log t) ≡ true → (t ≤ greatest log) → AreFrom first (open_list log t)
    inside has high = passed_in (λ (t : ℕ). AreFrom first (open_list log t)) (is_loser log) 1 (greatest log) each t (some t has) (omega (arith, high)) (some_open log t ∙ has)

    outside : has_items (open_list log t) ≡ true → greatest log < t → ⊥
    outside has high = not_both (has_items (open_list log t)) has (ap has_items (none_listed log t high))

    by : (b : Bool) → has_items (open_list log t) ≡ b → (ws : List OpenWrite) → open_list log t ≡ ws → AreFrom first (open_list log t)
    by true has ws e = inside has (below (greatest log) t (outside has))
      where
        below : (n t : ℕ) → (n < t → ⊥) → t ≤ n
        below n t none = omega (arith, none)
    by false none [] e = subst (AreFrom first) (sym e) tt
    by false none (w ∷ ws) e = absurd (not_both (has_items (open_list log t)) (ap has_items e) none)

numbered : (log : List Record) → AreLawful log → (t : ℕ) → has_items (open_list log t) ≡ true → 1 ≤ t
numbered log lawful zero has = absurd (not_both (has_items (open_list log 0)) has (sym (some_open log 0) ∙ ap has_items (none_of_zero log lawful)))
numbered log lawful (suc t) has = omega arith

pub enough_point : (log : List Record) (first : ℕ) → AreLawful log → first ≤ recycle_point log → IsEnough log first
enough_point log first lawful le = by (eqb (last_checkpoint log) 0) refl le
  where
    needed : ℕ
    needed = fold (λ n t. oldest (open_list log t) n) (suc (archived (standing_runs log))) (losers log)

    by : (b : Bool) → eqb (last_checkpoint log) 0 ≡ b → first ≤ cond b 1 (min (last_checkpoint log) needed) → IsEnough log first
    by true e le = enough_from_one log first le
    by false e le =
        let both = least_parts first (last_checkpoint log) needed le in
        let parts = needed_parts log lawful first (losers log) (suc (archived (standing_runs log))) both.1 in
        record {
          checkpoint = let low = both.0 in omega (arith, low);
          losers = λ t. all_from first (open_list log t) (loser_from log first parts.1 (numbered log lawful) t);
          runs = parts.0;
        }
