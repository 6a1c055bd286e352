-- Pages that a lawful log names are those that it has made, and no other one was written or backed up.
use Rattle.std.proofs.Common.{◌≡◌, ℕ, ◌≤◌, zero, suc, Bool, true, false, cond, eqb, List, [], ◌∷◌, ◌++◌, Option, Some, None, refl, sym, ap, subst, ◌∙◌, arith, inl, inr}
use Rattle.std.specs.Prelude.{slice_get, find, ◌||◌, ◌==◌, ◌⊎◌, not}
use Rattle.std.specs.List.{list_any}
use Rattle.std.specs.Option.{option_map_or}
use Rattle.std.proofs.lemmas.Bool.{eqb-true, cases_eq}
use Rattle.std.proofs.lemmas.List.Folds.{list_any-append}
use Rattle.store_model.specs.Along.{along}
use Rattle.store_model.proofs.Bools.{both_true, or_left, or_right, not_both}
use Rattle.wal_record.specs.Chains.{names, pages, pages_step, names_at}
use Rattle.wal_record.specs.OpenWrites.{has_items}
use Rattle.wal_record.specs.Images.{image, applied, OnPage, CanApply}
use Rattle.wal_record.specs.Upkeep.{written_lsn, written_step, no_backup, backup_step, page_backup}
use Rattle.wal_record.specs.Sound.{IsLawful, AreLawful, is_format, are_images}
use Rattle.wal_record.specs.declared.page.PageState.{PageState}
use Rattle.wal_record.specs.declared.record.PageLsn.{PageLsn}
use Rattle.wal_record.specs.declared.record.Record.{Record}
use Rattle.wal_record.specs.declared.record.Record.TheVariants as kinds
use Rattle.wal_record.proofs.Along.{by_pushes}
use Rattle.wal_record.proofs.Pushes.{lawful_front, pages_push, image_push, written_push, page_backup_push}
use Rattle.log_laws.proofs.Central.{eqb_self}

-- some record of the log names the page
abbrev pub named : List Record → ℕ → Bool
named log p = list_any (names p) log

pub named_push : (log : List Record) (r : Record) (p : ℕ) → named (log ++ r ∷ []) p ≡ (named log p || names p r)
named_push log r p = list_any-append (names p) log (r ∷ []) ∙ ap (λ (b : Bool). named log p || b) (last (names p r))
  where
    last : (b : Bool) → (b || false) ≡ b
    last true = refl
    last false = refl

pub or_parts : (a b : Bool) → (a || b) ≡ false → (a ≡ false) × (b ≡ false)
or_parts true b h = absurd cc
or_parts false b h = (refl, h)

no_image : (p : ℕ) → image [] p ≡ None
unfolding image along
no_image p = refl

-- a page with an image is named
pub image_named : (p : ℕ) (log : List Record) (s : PageState) → image log p ≡ Some s → named log p ≡ true
image_named p log s h = by_pushes (λ (log : List Record). (s : PageState) → image log p ≡ Some s → named log p ≡ true)
    (λ s h. absurd (none s (sym (no_image p) ∙ h)))
    (λ log r before s h. named_push log r p ∙ by log r before (names p r) s (sym (image_push log r p) ∙ h)) log s h
  where
    none : (s : PageState) → ◌≡◌ {A = Option PageState} None (Some s) → ⊥
    none s e = absurd cc

    by : (log : List Record) (r : Record) → ((s : PageState) → image log p ≡ Some s → named log p ≡ true) → (b : Bool) (s : PageState) → cond b (applied r p (image log p)) (image log p) ≡ Some s → (named log p || b) ≡ true
    by log r before true s h = or_right (named log p) true refl
    by log r before false s h = or_left (named log p) false (before s h)

-- ---- a lawful log names the pages that it has made

abbrev pub InRange : ℕ → ℕ → Type 0
InRange n p = (1 ≤ p) × (p ≤ n)

steps_rise : (n : ℕ) (r : Record) → n ≤ pages_step n r
steps_rise n (kinds.Format f) = omega arith
steps_rise n (kinds.Split s) = omega arith
steps_rise n (kinds.Grow g) = omega arith
steps_rise n _ = omega arith

or_cases : (a b : Bool) → (a || b) ≡ true → (a ≡ true) ⊎ (b ≡ true)
or_cases true b h = inl refl
or_cases false b h = inr h

no_pages : pages [] ≡ 0
unfolding pages along
no_pages = refl

pub empty_log : (log : List Record) → has_items log ≡ false → log ≡ []
empty_log [] h = refl
empty_log (r ∷ rs) h = absurd cc

pub first_page : (log : List Record) (r : Record) → IsLawful log r → is_format r ≡ true → pages log ≡ 0
first_page log r lawful e = ap pages (empty_log log (flip (has_items log) (sym lawful.first ∙ e))) ∙ no_pages
  where
    flip : (b : Bool) → not b ≡ true → b ≡ false
    flip true h = absurd cc
    flip false h = refl

module _ (log : List Record) (before : (p : ℕ) → named log p ≡ true → InRange (pages log) p) where
  had : (P : PageState → Type 0) (p : ℕ) → OnPage P (image log p) → InRange (pages log) p
  had P p h = before p (image_named p log h.0 h.1)

  here : (p q : ℕ) → eqb p q ≡ true → InRange (pages log) q → InRange (pages log) p
  here p q e h = subst (InRange (pages log)) (sym (eqb-true p q e)) h

  more : (p : ℕ) → InRange (pages log) p → InRange (suc (pages log)) p
  more p h = (h.0, let u = h.1 in omega (arith, u))

  newest : (p q : ℕ) → eqb p q ≡ true → q ≡ suc (pages log) → InRange (suc (pages log)) p
  newest p q e h = subst (InRange (suc (pages log))) (sym (eqb-true p q e ∙ h)) (omega arith, omega arith)

  record_names : (p : ℕ) (r : Record) → IsLawful log r → names p r ≡ true → InRange (pages_step (pages log) r) p
  unfolding CanApply
  record_names p (kinds.Format f) l e = let z = first_page log (kinds.Format f) l refl in let one = eqb-true p 1 e in (omega (arith, one), omega (arith, z, one))
  record_names p (kinds.Write w) l e = had _ p (l.applicable p e).can
  record_names p (kinds.Apply a) l e = had _ p (l.applicable p e).can.0
  record_names p (kinds.Undo u) l e = had _ p (l.applicable p e).can
  record_names p (kinds.Split s) l e = elim (or_cases (eqb p s.page) (eqb p s.child) e) [
    | inl h ↦ more p (had _ p ((l.applicable p e).can.0 (eqb-true p s.page h)))
    | inr h ↦ newest p s.child h l.place
  ]
  record_names p (kinds.Adopt a) l e = elim (or_cases (eqb p a.parent) (eqb p a.fosterer) e) [
    | inl h ↦ had _ p ((l.applicable p e).can.0 (eqb-true p a.parent h))
    | inr h ↦ had _ p ((l.applicable p e).can.1 (eqb-true p a.fosterer h))
  ]
  record_names p (kinds.Grow g) l e = elim (or_cases (eqb p 1) (eqb p g.child) e) [
    | inl h ↦ more p (had _ p ((l.applicable p e).can.0 (eqb-true p 1 h)))
    | inr h ↦ newest p g.child h l.place
  ]
  record_names p (kinds.Purge x) l e = had _ p (l.applicable p e).can
  record_names p _ l e = absurd cc

none_named : (p : ℕ) → named [] p ≡ true → InRange (pages []) p
none_named p h = absurd cc

pub named_in : (log : List Record) → AreLawful log → (p : ℕ) → named log p ≡ true → InRange (pages log) p
named_in = by_pushes (λ (log : List Record). AreLawful log → (p : ℕ) → named log p ≡ true → InRange (pages log) p) (λ _. none_named)
    (λ log r before lawful p h.
    let parts = lawful_front log r lawful in
    let wider : pages_step (pages log) r ≡ pages (log ++ r ∷ []) = sym (pages_push log r) in
    subst (λ (n : ℕ). InRange n p) wider (elim (or_cases (named log p) (names p r) (sym (named_push log r p) ∙ h)) [
      | inl e ↦ let x = before parts.0 p e in (x.0, let u = x.1 in let s = steps_rise (pages log) r in omega (arith, u, s))
      | inr e ↦ record_names log (before parts.0) p r parts.1 e
    ]))

-- what a lawful record names, the log has made with it
pub record_in : (log : List Record) → AreLawful log → (r : Record) → IsLawful log r → (p : ℕ) → names p r ≡ true → InRange (pages_step (pages log) r) p
record_in log lawful r l p e = record_names log (named_in log lawful) p r l e

-- ---- and has named all of them

pub all_named : (log : List Record) → AreLawful log → (p : ℕ) → 1 ≤ p → p ≤ pages log → named log p ≡ true
all_named = by_pushes (λ (log : List Record). AreLawful log → (p : ℕ) → 1 ≤ p → p ≤ pages log → named log p ≡ true)
    (λ _ p l u. let z = no_pages in absurd (omega (arith, l, u, z)))
    (λ log r before lawful p l u.
    let parts = lawful_front log r lawful in
    named_push log r p ∙ by log r parts.1 p l (before parts.0 p l) (let e = pages_push log r in omega (arith, u, e)))
  where
    grows : (log : List Record) (p : ℕ) (b : Bool) → (p ≤ pages log → named log p ≡ true) → p ≤ suc (pages log) → (p ≡ suc (pages log) → b ≡ true) → (named log p || b) ≡ true
    grows log p b was u new = elim (cases_le p (pages log) u) [
      | inl h ↦ or_left (named log p) b (was h)
      | inr h ↦ or_right (named log p) b (new h)
    ]
      where
        cases_le : (p n : ℕ) → p ≤ suc n → (p ≤ n) ⊎ (p ≡ suc n)
        cases_le p n h = elim (cases_eq p (suc n)) [ inl e ↦ inr e | inr d ↦ inl (omega (arith, h, d)) ]

    same : (p q : ℕ) → p ≡ q → eqb p q ≡ true
    same p q e = subst (λ (x : ℕ). eqb p x ≡ true) e (eqb_self p)

    by : (log : List Record) (r : Record) → IsLawful log r → (p : ℕ) → 1 ≤ p → (p ≤ pages log → named log p ≡ true) → p ≤ pages_step (pages log) r → (named log p || names p r) ≡ true
    by log (kinds.Format f) l p one was u = grows log p (eqb p 1) was u (λ e. let z = first_page log (kinds.Format f) l refl in same p 1 (omega (arith, z, e)))
    by log (kinds.Split s) l p one was u = grows log p (eqb p s.page || eqb p s.child) was u (λ e. or_right (eqb p s.page) (eqb p s.child) (same p s.child (e ∙ sym l.place)))
    by log (kinds.Grow g) l p one was u = grows log p (eqb p 1 || eqb p g.child) was u (λ e. or_right (eqb p 1) (eqb p g.child) (same p g.child (e ∙ sym l.place)))
    by log r l p one was u = or_left (named log p) (names p r) (was u)

-- ---- places

item_named : (p : ℕ) (log : List Record) (n : ℕ) → option_map_or (names p) (slice_get log n) false ≡ true → named log p ≡ true
item_named p [] n h = absurd cc
item_named p (r ∷ log) zero h = or_left (names p r) (named log p) h
item_named p (r ∷ log) (suc n) h = or_right (names p r) (named log p) (item_named p log n h)

pub named_at : (p : ℕ) (log : List Record) (lsn : ℕ) → names_at log lsn p ≡ true → named log p ≡ true
named_at p log zero h = absurd cc
named_at p log (suc n) h = item_named p log n h

-- ---- a page that isn't named was neither written nor backed up

none_written : (p : ℕ) → written_lsn [] p ≡ 0
unfolding written_lsn along
none_written p = refl

pub never_written : (p : ℕ) (log : List Record) → AreLawful log → named log p ≡ false → written_lsn log p ≡ 0
never_written p = by_pushes (λ (log : List Record). AreLawful log → named log p ≡ false → written_lsn log p ≡ 0) (λ _ _. none_written p)
    (λ log r before lawful h.
    let parts = lawful_front log r lawful in
    let none = (or_parts (named log p) (names p r) (sym (named_push log r p) ∙ h)).0 in
    written_push log r p ∙ by log r parts.1 none (before parts.0 none))
  where
    at : (log : List Record) (page lsn : ℕ) (b : Bool) → eqb page p ≡ b → names_at log lsn page ≡ true → named log p ≡ false → written_lsn log p ≡ 0 → cond b lsn (written_lsn log p) ≡ 0
    at log page lsn true e is none z = absurd (not_both (named log p) (named_at p log lsn (subst (λ (q : ℕ). names_at log lsn q ≡ true) (eqb-true page p e) is)) none)
    at log page lsn false e is none z = z

    by : (log : List Record) (r : Record) → IsLawful log r → named log p ≡ false → written_lsn log p ≡ 0 → written_step p (written_lsn log p) r ≡ 0
    by log (kinds.Written w) l none z = at log w.page w.lsn (eqb w.page p) refl l.upkeep none z
    by log (kinds.Lost x) l none z = refl
    by log r l none z = z

none_backed_up : (p : ℕ) → page_backup [] p ≡ no_backup
unfolding page_backup along
none_backed_up p = refl

not_found : (p : ℕ) (log : List Record) → named log p ≡ false → (xs : List PageLsn) → are_images log xs ≡ true → find (λ (x : PageLsn). x.page == p) xs ≡ None
not_found p log none [] h = refl
not_found p log none (x ∷ xs) h = at (not_found p log none xs parts.1) (eqb x.page p) refl
  where
    parts : (names_at log x.lsn x.page ≡ true) × (are_images log xs ≡ true)
    parts = both_true (names_at log x.lsn x.page) (are_images log xs) h

    at : find (λ (y : PageLsn). y.page == p) xs ≡ None → (b : Bool) → eqb x.page p ≡ b → cond b (Some x) (find (λ (y : PageLsn). y.page == p) xs) ≡ None
    at rest true e = absurd (not_both (named log p) (named_at p log x.lsn (subst (λ (q : ℕ). names_at log x.lsn q ≡ true) (eqb-true x.page p e) parts.0)) none)
    at rest false e = rest

pub never_backed_up : (p : ℕ) (log : List Record) → AreLawful log → named log p ≡ false → page_backup log p ≡ no_backup
never_backed_up p = by_pushes (λ (log : List Record). AreLawful log → named log p ≡ false → page_backup log p ≡ no_backup) (λ _ _. none_backed_up p)
    (λ log r before lawful h.
    let parts = lawful_front log r lawful in
    let none = (or_parts (named log p) (names p r) (sym (named_push log r p) ∙ h)).0 in
    page_backup_push log r p ∙ by log r parts.1 none (before parts.0 none))
  where
    by : (log : List Record) (r : Record) → IsLawful log r → named log p ≡ false → page_backup log p ≡ no_backup → backup_step p (page_backup log p) r ≡ no_backup
    by log (kinds.BackupDone b) l none z =
        ap (λ (o : Option PageLsn). option_map_or (λ (x : PageLsn). record { backup = b.backup; lsn = x.lsn }) o (page_backup log p)) (not_found p log none b.pages l.upkeep.images) ∙ z
    by log r l none z = z
