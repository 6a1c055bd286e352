-- Pages whose head stays.
use Rattle.std.proofs.Common.{◌≡◌, ◌≢◌, ℕ, zero, suc, Bool, true, false, cond, eqb, List, [], ◌∷◌, ◌++◌, Option, Some, None, refl, sym, ap, subst, ◌∙◌, arith, append_assoc, append-nil, length-append, inl, inr}
use Rattle.std.specs.Prelude.{◌≤◌, ◌<◌, ◌+◌, ◌||◌, ◌⊎◌, length, slice_get}
use Rattle.std.specs.List.{list_any}
use Rattle.std.specs.Option.{option_map_or}
use Rattle.std.proofs.lemmas.Bool.{eqb-true}
use Rattle.store_model.specs.Along.{along}
use Rattle.store_model.proofs.Bools.{not_both, false_unless}
use Rattle.wal_record.specs.declared.page.PageState.{PageState}
use Rattle.wal_record.specs.declared.record.Record.{Record}
use Rattle.wal_record.specs.declared.record.Record.TheVariants as kinds
use Rattle.wal_record.specs.Chains.{names, head, pages_step, pages, record_with, names_at}
use Rattle.wal_record.specs.Images.{applied, image, OnPage, CanApply}
use Rattle.wal_record.specs.Upkeep.{written_step, written_lsn}
use Rattle.wal_record.specs.Sound.{IsLawful, AreLawful, UpkeepRule}
use Rattle.wal_record.proofs.Along.{by_pushes}
use Rattle.wal_record.proofs.Pushes.{head_push, pages_push, image_push, written_push, lawful_front}
use Rattle.claim_laws.specs.Pages.{is_lost, PageLaw, HeadLaw}
use Rattle.claim_laws.proofs.Going.{none_of, none_with}

longer : (log more : List Record) (r : Record) → (log ++ more) ++ r ∷ [] ≡ log ++ (more ++ r ∷ [])
longer log more r = append_assoc log more (r ∷ [])

-- ---- heads

no_head : (p : ℕ) → head [] p ≡ 0
unfolding head along
no_head p = refl

head_step : (n h : ℕ) (b : Bool) → h ≤ n → cond b (n + 1) h ≤ n + 1
head_step n h true e = omega arith
head_step n h false e = omega (arith, e)

pub head_in : (p : ℕ) (log : List Record) → head log p ≤ length log
head_in p = by_pushes (λ (log : List Record). head log p ≤ length log) (let e = no_head p in omega (arith, e)) (λ log r before.
    let step = head_step (length log) (head log p) (names p r) before in
    let n : length (log ++ r ∷ []) ≡ length log + 1 = length-append log (r ∷ []) in
    let e = head_push log r p in
    omega (arith, step, n, e))

-- where the head is no greater than it was, the record doesn't name the page
not_raised : (b : Bool) (n h most : ℕ) → most ≤ n → cond b (n + 1) h ≡ most → (b ≡ false) × (h ≡ most)
not_raised true n h most within same = absurd (omega (arith, within, same))
not_raised false n h most within same = (refl, same)

last_unnamed : (log : List Record) (p : ℕ) (more : List Record) (r : Record) → head (log ++ (more ++ r ∷ [])) p ≡ head log p → (names p r ≡ false) × (head (log ++ more) p ≡ head log p)
last_unnamed log p more r same =
    let within : head log p ≤ length (log ++ more) = let e = head_in p log in let n = length-append log more in omega (arith, e, n) in
    not_raised (names p r) (length (log ++ more)) (head (log ++ more) p) (head log p) within (sym (head_push (log ++ more) r p) ∙ ap (λ (l : List Record). head l p) (longer log more r) ∙ same)

pub unnamed : (log : List Record) (p : ℕ) (more : List Record) → head (log ++ more) p ≡ head log p → list_any (names p) more ≡ false
unnamed log p = by_pushes (λ (more : List Record). head (log ++ more) p ≡ head log p → list_any (names p) more ≡ false) (λ _. refl) (λ more r before same.
    let parts = last_unnamed log p more r same in
    none_with (names p) more r (before parts.1) parts.0)

pub same_image : (log : List Record) (p : ℕ) (more : List Record) → head (log ++ more) p ≡ head log p → image (log ++ more) p ≡ image log p
same_image log p = by_pushes (λ (more : List Record). head (log ++ more) p ≡ head log p → image (log ++ more) p ≡ image log p)
    (λ _. ap (λ (l : List Record). image l p) (append-nil log))
    (λ more r before same.
    let parts = last_unnamed log p more r same in
    ap (λ (l : List Record). image l p) (sym (longer log more r)) ∙ image_push (log ++ more) r p
    ∙ ap (λ (b : Bool). cond b (applied r p (image (log ++ more) p)) (image (log ++ more) p)) parts.0 ∙ before parts.1)

-- ---- counts

pages_rise : (n : ℕ) (r : Record) → n ≤ pages_step n r
pages_rise n (kinds.Format f) = omega arith
pages_rise n (kinds.Split x) = omega arith
pages_rise n (kinds.Grow g) = omega arith
pages_rise n _ = omega arith

pub more_pages : (log more : List Record) → pages log ≤ pages (log ++ more)
more_pages log = by_pushes (λ (more : List Record). pages log ≤ pages (log ++ more))
    (let e = ap pages (append-nil log) in omega (arith, e))
    (λ more r before.
    let e = ap pages (sym (longer log more r)) ∙ pages_push (log ++ more) r in
    let s = pages_rise (pages (log ++ more)) r in
    omega (arith, before, e, s))

-- ---- places

item_kept : (log more : List Record) (n : ℕ) (x : Record) → slice_get log n ≡ Some x → slice_get (log ++ more) n ≡ Some x
item_kept [] more n x e = absurd cc
item_kept (y ∷ log) more zero x e = e
item_kept (y ∷ log) more (suc n) x e = item_kept log more n x e

pub place_kept : (log more : List Record) (n : ℕ) (x : Record) → record_with log n ≡ Some x → record_with (log ++ more) n ≡ Some x
place_kept log more zero x e = absurd cc
place_kept log more (suc n) x e = item_kept log more n x e

-- a test that an item at a place passes
test_kept : (p : Record → Bool) (a b : Option Record) → ((x : Record) → a ≡ Some x → b ≡ Some x) → option_map_or p a false ≡ true → option_map_or p b false ≡ true
test_kept p None b same h = absurd cc
test_kept p (Some x) b same h = ap (λ (o : Option Record). option_map_or p o false) (same x refl) ∙ h

pub named_kept : (log more : List Record) (p lsn : ℕ) → names_at log lsn p ≡ true → names_at (log ++ more) lsn p ≡ true
named_kept log more p lsn h = test_kept (names p) (record_with log lsn) (record_with (log ++ more) lsn) (place_kept log more lsn) h

item_last : (log : List Record) (r : Record) → slice_get (log ++ r ∷ []) (length log) ≡ Some r
item_last [] r = refl
item_last (y ∷ log) r = item_last log r

last_placed : (log : List Record) (r : Record) → record_with (log ++ r ∷ []) (length log + 1) ≡ Some r
last_placed log r = let e : length log + 1 ≡ suc (length log) = omega arith in ap (record_with (log ++ r ∷ [])) e ∙ item_last log r

head_named : (p : ℕ) (log : List Record) → head log p ≢ 0 → names_at log (head log p) p ≡ true
head_named p = by_pushes (λ (log : List Record). head log p ≢ 0 → names_at log (head log p) p ≡ true)
    (λ n. absurd (n (no_head p)))
    (λ log r before n.
    let e = head_push log r p in
    subst (λ (h : ℕ). names_at (log ++ r ∷ []) h p ≡ true) (sym e) (by log r before (subst (λ (h : ℕ). h ≢ 0) e n) (names p r) refl))
  where
    by : (log : List Record) (r : Record) → (head log p ≢ 0 → names_at log (head log p) p ≡ true) → (cond (names p r) (length log + 1) (head log p) ≢ 0) → (b : Bool) → names p r ≡ b
        → names_at (log ++ r ∷ []) (cond b (length log + 1) (head log p)) p ≡ true
    by log r before n true e = ap (λ (o : Option Record). option_map_or (names p) o false) (last_placed log r) ∙ e
    by log r before n false e = named_kept log (r ∷ []) p (head log p) (before (subst (λ (c : Bool). cond c (length log + 1) (head log p) ≢ 0) e n))

-- ---- images written

-- a record that names the page stands no higher than its head
pub named_below : (p : ℕ) (log : List Record) (lsn : ℕ) → names_at log lsn p ≡ true → (0 < lsn) × (lsn ≤ head log p)
named_below p log zero h = absurd cc
named_below p log (suc n) h = (omega arith, below log n h)
  where
    nothing_at : (n : ℕ) → option_map_or (names p) (slice_get [] n) false ≡ true → ⊥
    nothing_at n h = cc

    items : (log : List Record) (n : ℕ) → option_map_or (names p) (slice_get log n) false ≡ true → n < length log
    items [] n h = absurd (nothing_at n h)
    items (x ∷ xs) zero h = omega arith
    items (x ∷ xs) (suc n) h = let l = items xs n h in omega (arith, l)

    front : (log : List Record) (r : Record) (n : ℕ) → n < length log → slice_get (log ++ r ∷ []) n ≡ slice_get log n
    front [] r n l = absurd (omega (arith, l))
    front (x ∷ xs) r zero l = refl
    front (x ∷ xs) r (suc n) l = front xs r n (omega (arith, l))

    below : (log : List Record) (n : ℕ) → option_map_or (names p) (slice_get log n) false ≡ true → suc n ≤ head log p
    below = by_pushes (λ (log : List Record). (n : ℕ) → option_map_or (names p) (slice_get log n) false ≡ true → suc n ≤ head log p)
        (λ n h. absurd (nothing_at n h))
        (λ log r before n h.
        let e = head_push log r p in
        let count : length (log ++ r ∷ []) ≡ length log + 1 = length-append log (r ∷ []) in
        let l = items (log ++ r ∷ []) n h in
        at log r n before h e (omega (arith, count, l)) (names p r) refl)
      where
        at : (log : List Record) (r : Record) (n : ℕ) → ((n : ℕ) → option_map_or (names p) (slice_get log n) false ≡ true → suc n ≤ head log p)
            → option_map_or (names p) (slice_get (log ++ r ∷ []) n) false ≡ true → head (log ++ r ∷ []) p ≡ cond (names p r) (length log + 1) (head log p) → n < length log + 1
            → (b : Bool) → names p r ≡ b → suc n ≤ head (log ++ r ∷ []) p
        at log r n before h e l true is = let d = e ∙ ap (λ (c : Bool). cond c (length log + 1) (head log p)) is in omega (arith, d, l)
        at log r n before h e l false is = elim (last_or n (length log) l) [
          | inl k ↦
              let d = e ∙ ap (λ (c : Bool). cond c (length log + 1) (head log p)) is in
              let old = before n (ap (λ (o : Option Record). option_map_or (names p) o false) (sym (front log r n k)) ∙ h) in
              omega (arith, d, old)
          | inr k ↦
              let named : names p r ≡ true = ap (λ (o : Option Record). option_map_or (names p) o false) (sym (item_last log r)) ∙ ap (λ (m : ℕ). option_map_or (names p) (slice_get (log ++ r ∷ []) m) false) (sym k) ∙ h in
              absurd (not_both (names p r) named is)
        ]
          where
            last_or : (n m : ℕ) → n < m + 1 → (n < m) ⊎ (n ≡ m)
            last_or n m l = grind arith

no_written : (p : ℕ) → written_lsn [] p ≡ 0
unfolding written_lsn along
no_written p = refl

heads_rise : (n h : ℕ) (b : Bool) → h ≤ n → h ≤ cond b (n + 1) h
heads_rise n h true e = omega (arith, e)
heads_rise n h false e = omega arith

pub written_within : (p : ℕ) (log : List Record) → AreLawful log → written_lsn log p ≤ head log p
written_within p = by_pushes (λ (log : List Record). AreLawful log → written_lsn log p ≤ head log p)
    (λ _. let w = no_written p in omega (arith, w))
    (λ log r before sound.
    let parts = lawful_front log r sound in
    let rise = heads_rise (length log) (head log p) (names p r) (head_in p log) in
    let step = at log r (before parts.0) parts.1.upkeep in
    let e = head_push log r p in
    let w = written_push log r p in
    omega (arith, rise, step, e, w))
  where
    at : (log : List Record) (r : Record) → written_lsn log p ≤ head log p → UpkeepRule log r → written_step p (written_lsn log p) r ≤ head log p
    at log (kinds.Written w) before rule = by (eqb w.page p) refl
      where
        by : (b : Bool) → eqb w.page p ≡ b → cond b w.lsn (written_lsn log p) ≤ head log p
        by true e = (named_below p log w.lsn (subst (λ (q : ℕ). names_at log w.lsn q ≡ true) (eqb-true w.page p e) rule)).1
        by false e = before
    at log (kinds.Lost l) before rule = omega arith
    at log _ before rule = before

written_stays : (log : List Record) (p : ℕ) → 0 < written_lsn log p → (more : List Record) → AreLawful (log ++ more) → list_any is_lost more ≡ false → 0 < written_lsn (log ++ more) p
written_stays log p some = by_pushes (λ (more : List Record). AreLawful (log ++ more) → list_any is_lost more ≡ false → 0 < written_lsn (log ++ more) p)
    (λ _ _. let e = ap (λ (l : List Record). written_lsn l p) (append-nil log) in omega (arith, e, some))
    (λ more r before sound kept.
    let parts = lawful_front (log ++ more) r (subst AreLawful (sym (longer log more r)) sound) in
    let none = none_of is_lost more r kept in
    let e = ap (λ (l : List Record). written_lsn l p) (sym (longer log more r)) ∙ written_push (log ++ more) r p in
    let step = at (log ++ more) r (before parts.0 none.0) parts.1.upkeep none.1 in
    omega (arith, e, step))
  where
    at : (log : List Record) (r : Record) → 0 < written_lsn log p → UpkeepRule log r → is_lost r ≡ false → 0 < written_step p (written_lsn log p) r
    at log (kinds.Written w) before rule n = by (eqb w.page p)
      where
        by : (b : Bool) → 0 < cond b w.lsn (written_lsn log p)
        by true = (named_below w.page log w.lsn rule).0
        by false = before
    at log (kinds.Lost l) before rule n = absurd cc
    at log _ before rule n = before

-- ---- pages that weren't made

nothing_there : (p : ℕ) → image [] p ≡ None
unfolding image along
nothing_there p = refl

none_on : (P : PageState → Type 0) (o : Option PageState) → o ≡ None → OnPage P o → ⊥
none_on P o e h = let c : Some h.0 ≡ None = sym h.1 ∙ e in cc

not_first : (n p : ℕ) → suc n < p → eqb p 1 ≡ true → ⊥
not_first n p l e = let s = eqb-true p 1 e in omega (arith, l, s)

-- a record that names a page beyond the count has nothing to be applied to
beyond_step : (log : List Record) (r : Record) (p : ℕ) → IsLawful log r → image log p ≡ None → pages_step (pages log) r < p → names p r ≡ true → ⊥
unfolding CanApply
beyond_step log (kinds.Format f) p lawful none l n = not_first (pages log) p l n
beyond_step log (kinds.Write w) p lawful none l n = none_on _ _ none (lawful.applicable p n).can
beyond_step log (kinds.Apply a) p lawful none l n = none_on _ _ none (lawful.applicable p n).can.0
beyond_step log (kinds.Undo u) p lawful none l n = none_on _ _ none (lawful.applicable p n).can
beyond_step log (kinds.Purge x) p lawful none l n = none_on _ _ none (lawful.applicable p n).can
beyond_step log (kinds.Split x) p lawful none l n = by (eqb p x.page) refl n
  where
    by : (b : Bool) → eqb p x.page ≡ b → (b || eqb p x.child) ≡ true → ⊥
    by true e h = none_on _ _ none ((lawful.applicable p n).can.0 (eqb-true p x.page e))
    by false e h = let c = eqb-true p x.child h in let k = lawful.place in omega (arith, c, k, l)
beyond_step log (kinds.Grow g) p lawful none l n = by (eqb p 1) refl n
  where
    by : (b : Bool) → eqb p 1 ≡ b → (b || eqb p g.child) ≡ true → ⊥
    by true e h = not_first (pages log) p l e
    by false e h = let c = eqb-true p g.child h in let k = lawful.place in omega (arith, c, k, l)
beyond_step log (kinds.Adopt a) p lawful none l n = by (eqb p a.parent) refl n
  where
    by : (b : Bool) → eqb p a.parent ≡ b → (b || eqb p a.fosterer) ≡ true → ⊥
    by true e h = none_on _ _ none ((lawful.applicable p n).can.0 (eqb-true p a.parent e))
    by false e h = none_on _ _ none ((lawful.applicable p n).can.1 (eqb-true p a.fosterer h))
beyond_step log _ p lawful none l n = absurd cc

pub beyond : (p : ℕ) (log : List Record) → AreLawful log → pages log < p → image log p ≡ None
beyond p = by_pushes (λ (log : List Record). AreLawful log → pages log < p → image log p ≡ None)
    (λ _ _. nothing_there p)
    (λ log r before sound l.
    let parts = lawful_front log r sound in
    let count = pages_push log r in
    let rise = pages_rise (pages log) r in
    let none = before parts.0 (omega (arith, count, rise, l)) in
    image_push log r p
    ∙ ap (λ (b : Bool). cond b (applied r p (image log p)) (image log p)) (false_unless (names p r) (beyond_step log r p parts.1 none (omega (arith, count, l)))) ∙ none)

pub page_law : (log more : List Record) (p : ℕ) → PageLaw log more p
page_law log more p = record {
  unnamed = unnamed log p more;
  image = same_image log p more;
  count = more_pages log more;
  named = λ lsn h. named_kept log more p lsn h;
  written = λ sound kept some. written_stays log p some more sound kept;
}

pub head_law : (log : List Record) (p : ℕ) → HeadLaw log p
head_law log p = record { stands = head_named p log; within = head_in p log; written = written_within p log; beyond = beyond p log }
