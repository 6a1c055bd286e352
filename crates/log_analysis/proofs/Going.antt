-- Of which transactions an analysis knows the last record: of all that may go on behind the log.
use Rattle.std.proofs.Common.{◌≡◌, ℕ, zero, suc, ◌+◌, ◌<◌, ◌≤◌, cond, eqb, Bool, true, false, List, [], ◌∷◌, ◌++◌, length, nat_lt, refl, sym, ap, ◌∙◌, arith}
use Rattle.std.specs.Prelude.{◌||◌, fold}
use Rattle.std.specs.List.{list_any}
use Rattle.std.proofs.Math.Nat.{le-max_left, le-max_right}
use Rattle.std.proofs.lemmas.Bool.{ne_eqb}
use Rattle.std.proofs.lemmas.Bool.Decides.{nat_tests}
use Rattle.std.proofs.lemmas.List.Folds.{list_any-append}
use Rattle.store_model.specs.Along.{along}
use Rattle.wal_record.specs.Chains.{finishes, greatest, is_link_of, last, link_of, tx_of}
use Rattle.wal_record.specs.Checkpoints.{checkpoint_of, unfinished}
use Rattle.wal_record.specs.OpenWrites.{has_items, is_loser, open_step, open_writes, without_last}
use Rattle.wal_record.specs.Sound.{AreLawful}
use Rattle.wal_record.specs.declared.record.Checkpoint.{Checkpoint}
use Rattle.wal_record.specs.declared.record.Unfinished.{Unfinished}
use Rattle.wal_record.specs.declared.record.Record.{Record}
use Rattle.wal_record.specs.declared.record.Record.TheVariants as kinds
use Rattle.wal_record.proofs.Along.{by_pushes}
use Rattle.wal_record.proofs.Pushes.{greatest_push, last_push, lawful_front, open_push}
use Rattle.listing_laws.specs.Summary.{last_in}
use Rattle.listing_laws.proofs.Listing.{listing, listing_suc}
use Rattle.listing_laws.proofs.Reading.{reading}
use Rattle.log_index.specs.GoingOn.{KnowsLast, may_go_on}
use Rattle.log_index.specs.Listing.{noted}
use Rattle.log_index.specs.Table.{noted_step}
use Rattle.log_index.specs.declared.listing.Listing.{Listing}
use Rattle.log_index.proofs.NotedLaws.{noted_by_link}

either_true : (a b : Bool) (P : Type 0) → (a || b) ≡ true → (a ≡ true → P) → (b ≡ true → P) → P
either_true true b P e f g = f refl
either_true false b P e f g = g e

either : (a b c : Bool) → (a ≡ true → c ≡ true) → (a || b) ≡ true → (c || b) ≡ true
either true b true f e = refl
either true b false f e = absurd (let x = f refl in cc)
either false b true f e = refl
either false b false f e = e

is_below : (m n : ℕ) → m < n → nat_lt m n ≡ true
is_below m n l = grind (arith, nat_tests)

below_is : (m n : ℕ) → nat_lt m n ≡ true → m < n
below_is m n e = grind (arith, nat_tests)

neither : (a b : Bool) → (a || (b || false)) ≡ false → (a ≡ false) × (b ≡ false)
neither true b e = absurd (cc e)
neither false true e = absurd (cc e)
neither false false e = (refl, refl)

-- ---- the empty log

none_last : (t : ℕ) → last [] t ≡ 0
unfolding last along
none_last t = refl

pub knows_none : (goes : ℕ → Bool) (s : Listing) → ((q : ℕ) → noted s q ≡ 0) → KnowsLast goes [] s
knows_none goes s none t may runs = none t ∙ sym (none_last t)

-- ---- a record more

-- the open writes of others stay
others_stay : (t : ℕ) (r x : Record) (ws : List Record) → is_link_of t (link_of r) ≡ false → open_step t x ws r ≡ ws
others_stay t (kinds.Write w) x ws e = ap (λ (b : Bool). cond b (ws ++ x ∷ []) ws) e
others_stay t (kinds.Apply a) x ws e = ap (λ (b : Bool). cond b (ws ++ x ∷ []) ws) e
others_stay t (kinds.Undo u) x ws e = ap (λ (b : Bool). cond b (without_last ws) ws) e
others_stay t (kinds.Commit c) x ws e = ap (λ (b : Bool). cond b [] ws) e
others_stay t (kinds.End d) x ws e = ap (λ (b : Bool). cond b [] ws) e
others_stay t _ x ws e = refl

module _ (log : List Record) (r : Record) (t : ℕ) (other : is_link_of t (link_of r) ≡ false) where
  above_before : nat_lt (greatest (log ++ r ∷ [])) t ≡ true → nat_lt (greatest log) t ≡ true
  above_before e =
      let l = below_is (greatest (log ++ r ∷ [])) t e in
      let g = greatest_push log r in
      let m = le-max_left (greatest log) (tx_of r) in
      is_below (greatest log) t (omega (arith, l, g, m))

  loser_before : is_loser (log ++ r ∷ []) t ≡ is_loser log t
  loser_before = ap has_items (open_push log r t ∙ others_stay t r r (open_writes log t) other)

  -- another's record changes nothing of who may go on
  goes_before : may_go_on (log ++ r ∷ []) t ≡ true → may_go_on log t ≡ true
  goes_before may =
      either (nat_lt (greatest (log ++ r ∷ [])) t) (is_loser log t) (nat_lt (greatest log) t) above_before (ap (λ (b : Bool). nat_lt (greatest (log ++ r ∷ [])) t || b) (sym loser_before) ∙ may)

pub knows_more : (log : List Record) (r : Record) (lsn : ℕ) (s s' : Listing) → KnowsLast (may_go_on log) log s → ((q : ℕ) → noted s' q ≡ noted_step lsn q (noted s q) r) → lsn ≡ length log + 1 → KnowsLast (may_go_on (log ++ r ∷ [])) (log ++ r ∷ []) s'
knows_more log r lsn s s' before step place t may runs =
    let both = neither (list_any (finishes t) log) (finishes t r) (sym (list_any-append (finishes t) log (r ∷ [])) ∙ runs) in
    step t ∙ ap (λ (l : ℕ). noted_step l t (noted s t) r) place ∙ noted_by_link log t r both.1 (noted s t) ∙ by (is_link_of t (link_of r)) refl both.0 ∙ sym (last_push log r t)
  where
    by : (b : Bool) → is_link_of t (link_of r) ≡ b → list_any (finishes t) log ≡ false → cond b (length log + 1) (noted s t) ≡ cond b (length log + 1) (last log t)
    by true e runs = refl
    by false e runs = before t (goes_before log r t e may) runs

-- ---- a Checkpoint

-- no number from here on is listed
module _ (P : ℕ → Bool) (f : ℕ → Unfinished) (tx : (t : ℕ) → (f t).tx ≡ t) (t n : ℕ) where
  abbrev last_step : ℕ → Unfinished → ℕ
  last_step m u = cond (eqb u.tx t) u.last m

  none_above : (a k : ℕ) → a + k ≤ t → fold last_step n (listing P f a k) ≡ n
  none_above a zero le = refl
  none_above a (suc k) le = ap (fold last_step n) (listing_suc P f a k) ∙ by (P a) (none_above (a + 1) k (omega (arith, le)))
    where
      by : (b : Bool) → fold last_step n (listing P f (a + 1) k) ≡ n → fold last_step n (cond b (f a ∷ listing P f (a + 1) k) (listing P f (a + 1) k)) ≡ n
      by true rest = ap (λ (c : Bool). fold last_step (cond c (f a).last n) (listing P f (a + 1) k)) (ne_eqb (f a).tx t (λ e. let x = tx a in omega (arith, e, x, le))) ∙ rest
      by false rest = rest

listed_none : (log : List Record) (t : ℕ) → greatest log < t → last_in t (checkpoint_of log).transactions ≡ 0
unfolding checkpoint_of
listed_none log t above = none_above (is_loser log) (unfinished log) (λ q. refl) t 0 1 (greatest log) (omega (arith, above))

-- a number above all that are named has no record
named_last : (t : ℕ) (r : Record) (before : ℕ) → tx_of r < t → (n : ℕ) → cond (is_link_of t (link_of r)) n before ≡ before
named_last t (kinds.Write w) before l n = ap (λ (b : Bool). cond b n before) (ne_eqb w.tx t (λ e. omega (arith, e, l)))
named_last t (kinds.Apply a) before l n = ap (λ (b : Bool). cond b n before) (ne_eqb a.tx t (λ e. omega (arith, e, l)))
named_last t (kinds.Undo u) before l n = ap (λ (b : Bool). cond b n before) (ne_eqb u.tx t (λ e. omega (arith, e, l)))
named_last t (kinds.Commit c) before l n = ap (λ (b : Bool). cond b n before) (ne_eqb c.tx t (λ e. omega (arith, e, l)))
named_last t (kinds.End d) before l n = ap (λ (b : Bool). cond b n before) (ne_eqb d.tx t (λ e. omega (arith, e, l)))
named_last t _ before l n = refl

last_none : (t : ℕ) (log : List Record) → greatest log < t → last log t ≡ 0
last_none t = by_pushes (λ (log : List Record). greatest log < t → last log t ≡ 0) (λ _. none_last t) (λ log r before l.
    let e = greatest_push log r in
    let a = le-max_left (greatest log) (tx_of r) in
    let b = le-max_right (greatest log) (tx_of r) in
    last_push log r t ∙ named_last t r (last log t) (omega (arith, e, b, l)) (length log + 1) ∙ before (omega (arith, e, a, l)))

pub knows_checkpoint : (before : List Record) (c : Checkpoint) (s : Listing) → AreLawful (before ++ kinds.Checkpoint c ∷ []) → ((q : ℕ) → noted s q ≡ last_in q c.transactions)
    → KnowsLast (may_go_on (before ++ kinds.Checkpoint c ∷ [])) (before ++ kinds.Checkpoint c ∷ []) s
knows_checkpoint before c s lawful told t may runs =
    let parts = lawful_front before (kinds.Checkpoint c) lawful in
    told t ∙ ap (λ (x : Checkpoint). last_in t x.transactions) parts.1.upkeep
    ∙ either_true (nat_lt (greatest before) t) (is_loser before t) (last_in t (checkpoint_of before).transactions ≡ last before t) (goes_before before (kinds.Checkpoint c) t refl may)
    (λ above. let l = below_is (greatest before) t above in listed_none before t l ∙ sym (last_none t before l))
    (λ loser. (reading before).last parts.0 t loser)
    ∙ sym (last_push before (kinds.Checkpoint c) t)
