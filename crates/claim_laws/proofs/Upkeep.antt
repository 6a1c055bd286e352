-- The book of maintenance, and unrestored segments.
use Rattle.std.proofs.Common.{◌≡◌, ℕ, zero, suc, Bool, true, false, cond, eqb, List, [], ◌∷◌, ◌++◌, refl, sym, ap, subst, ◌∙◌, arith, append_assoc, append-nil, length-append}
use Rattle.std.specs.Prelude.{◌≤◌, ◌<◌, ◌+◌, ◌/◌, ◌||◌, not, length, filter, max}
use Rattle.std.specs.List.{list_any, range_with_len}
use Rattle.std.proofs.lemmas.Bool.{eqb-true}
use Rattle.std.proofs.lemmas.List.Folds.{list_any-append}
use Rattle.store_model.specs.Along.{along}
use Rattle.store_model.proofs.Bools.{or_right, not_both}
use Rattle.wal_record.specs.declared.analysis.Run.{Run}
use Rattle.wal_record.specs.declared.record.Record.{Record}
use Rattle.wal_record.specs.declared.record.Record.TheVariants as kinds
use Rattle.wal_record.specs.declared.entry.Entry.{Entry}
use Rattle.wal_record.specs.declared.entry.Entry.TheVariants.{Rec}
use Rattle.wal_record.specs.Chains.{pages_step, pages, head}
use Rattle.wal_record.specs.Upkeep.{last_backup, backup_number, backs_up, PageBackup, backup_step, page_backup, unrestored_step, unrestored, last_run, run_number, runs_step, standing_runs}
use Rattle.wal_record.specs.Sound.{AreLawful, UpkeepRule}
use Rattle.wal_record.specs.History.{log_of, life_log}
use Rattle.wal_record.specs.Legal.{IsAllowed, IsLegal}
use Rattle.wal_record.specs.Books.{maintenance_step, maintenance_book}
use Rattle.wal_record.proofs.Along.{by_pushes}
use Rattle.wal_record.proofs.Pushes.{pages_push, last_backup_push, page_backup_push, unrestored_push, last_run_push, runs_push, lawful_front, legal_front, log_of_push, log_same, log_more, maintenance_push}
use Rattle.log_laws.proofs.Central.{differ}
use Rattle.claim_laws.specs.Upkeep.{is_maintenance, SameMaintenance, MaintenanceLaw, is_unrestored, restores, SegmentLaw, BooksLaw}
use Rattle.log_laws.proofs.Beginnings.{beginning}
use Rattle.claim_laws.proofs.Sessions.{entries_rise}
use Rattle.claim_laws.proofs.Going.{longer_log, none_more, one_more, legal_before, by_going, none_of}

-- ---- the book of maintenance

entry_step : (opening : List Record) (h : List Entry) (e : Entry) → IsAllowed opening h e → maintenance_book h ≤ length (life_log opening h)
    → maintenance_step (maintenance_book h) e ≤ length (life_log opening (h ++ e ∷ []))
entry_step opening h (Rec lsn (kinds.BackupDone b)) ok before = let p = ok.rule.place in let n = ap length (log_more opening h lsn (kinds.BackupDone b)) ∙ length-append (life_log opening h) (kinds.BackupDone b ∷ []) in omega (arith, p, n)
entry_step opening h (Rec lsn (kinds.RunDone d)) ok before = let p = ok.rule.place in let n = ap length (log_more opening h lsn (kinds.RunDone d)) ∙ length-append (life_log opening h) (kinds.RunDone d ∷ []) in omega (arith, p, n)
entry_step opening h (Rec lsn r) ok before = let n = ap length (log_more opening h lsn r) ∙ length-append (life_log opening h) (r ∷ []) in omega (arith, before, n)
entry_step opening h e ok before = let n = ap length (log_same opening h e refl) in omega (arith, before, n)

no_book : maintenance_book [] ≡ 0
unfolding maintenance_book along
no_book = refl

book_within : (opening : List Record) (h : List Entry) → IsLegal opening h → maintenance_book h ≤ length (life_log opening h)
book_within opening = by_pushes (λ (h : List Entry). IsLegal opening h → maintenance_book h ≤ length (life_log opening h)) (λ _. let e = no_book in omega (arith, e)) (λ h e before legal.
    let parts = legal_front opening h e legal in
    let step = entry_step opening h e parts.1 (before parts.0) in
    let push = maintenance_push h e in
    omega (arith, step, push))

longer_by : (opening : List Record) (h : List Entry) (e : Entry) → length (life_log opening h) ≤ length (life_log opening (h ++ e ∷ []))
longer_by opening h (Rec lsn r) = let n = ap length (log_more opening h lsn r) ∙ length-append (life_log opening h) (r ∷ []) in omega (arith, n)
longer_by opening h e = let n = ap length (log_same opening h e refl) in omega (arith, n)

longer_than : (opening : List Record) (h more : List Entry) → length (life_log opening h) ≤ length (life_log opening (h ++ more))
longer_than opening h = by_pushes (λ (more : List Entry). length (life_log opening h) ≤ length (life_log opening (h ++ more)))
    (let e = ap (λ (g : List Entry). length (life_log opening g)) (none_more h) in omega (arith, e))
    (λ more e before.
    let s = longer_by opening (h ++ more) e in
    let n = ap (λ (g : List Entry). length (life_log opening g)) (one_more h more e) in
    omega (arith, before, s, n))

-- of one entry more: it says of no backup and no run
last_step : (opening : List Record) (h : List Entry) (e : Entry) (n : ℕ) → IsAllowed opening h e → n ≤ length (life_log opening h) → maintenance_step (maintenance_book h) e ≡ n
    → (list_any is_maintenance (log_of (e ∷ [])) ≡ false) × (maintenance_book h ≡ n)
last_step opening h (Rec lsn (kinds.BackupDone b)) n ok l same = let p = ok.rule.place in absurd (omega (arith, p, l, same))
last_step opening h (Rec lsn (kinds.RunDone d)) n ok l same = let p = ok.rule.place in absurd (omega (arith, p, l, same))
last_step opening h (Rec lsn r) n ok l same = (refl, same)
last_step opening h e n ok l same = (refl, same)

none_done : (opening : List Record) (h more : List Entry) → IsLegal opening (h ++ more) → SameMaintenance h more → list_any is_maintenance (log_of more) ≡ false
none_done opening h = by_going opening h (λ (more : List Entry). SameMaintenance h more → list_any is_maintenance (log_of more) ≡ false) (λ _. refl) (λ more e legal ok before same.
    let within = book_within opening h (by_front more legal) in
    let l = longer_than opening h more in
    let now = sym (maintenance_push (h ++ more) e) ∙ ap maintenance_book (one_more h more e) ∙ same in
    let parts = last_step opening (h ++ more) e (maintenance_book h) ok (omega (arith, within, l)) now in
    ap (list_any is_maintenance) (log_of_push more e) ∙ list_any-append is_maintenance (log_of more) (log_of (e ∷ []))
    ∙ ap (λ (b : Bool). b || list_any is_maintenance (log_of (e ∷ []))) (before parts.1) ∙ parts.0)
  where
    by_front : (more : List Entry) → IsLegal opening (h ++ more) → IsLegal opening h
    by_front more legal = legal_before opening h more legal

-- what a log says stays if records that are no maintenance leave it
log_stays : {A : Type 0} → (f : List Record → A) → ((log : List Record) (r : Record) → is_maintenance r ≡ false → f (log ++ r ∷ []) ≡ f log)
    → (log more : List Record) → list_any is_maintenance more ≡ false → f (log ++ more) ≡ f log
log_stays f step log = by_pushes (λ (more : List Record). list_any is_maintenance more ≡ false → f (log ++ more) ≡ f log)
    (λ _. ap f (append-nil log))
    (λ more r before none.
    let parts = none_of is_maintenance more r none in
    ap f (sym (append_assoc log more (r ∷ []))) ∙ step (log ++ more) r parts.1 ∙ before parts.0)

runs_same : (runs : List Run) (r : Record) → is_maintenance r ≡ false → runs_step runs r ≡ runs
runs_same runs (kinds.RunDone d) n = absurd cc
runs_same runs _ n = refl

no_greater : (n : ℕ) → max n 0 ≡ n
no_greater n = omega arith

run_same : (n : ℕ) (r : Record) → is_maintenance r ≡ false → max n (run_number r) ≡ n
run_same n (kinds.RunDone d) h = absurd cc
run_same n _ h = no_greater n

backup_same : (n : ℕ) (r : Record) → is_maintenance r ≡ false → max n (backup_number r) ≡ n
backup_same n (kinds.BackupDone b) h = absurd cc
backup_same n _ h = no_greater n

page_same : (p : ℕ) (x : PageBackup) (r : Record) → is_maintenance r ≡ false → backup_step p x r ≡ x
page_same p x (kinds.BackupDone b) h = absurd cc
page_same p x _ h = refl

backs_same : (backup segment : ℕ) (r : Record) → is_maintenance r ≡ false → backs_up backup segment r ≡ false
backs_same backup segment (kinds.BackupDone b) h = absurd cc
backs_same backup segment _ h = refl

or_none : (a b : Bool) → b ≡ false → (a || (b || false)) ≡ a
or_none true b h = refl
or_none false true h = absurd cc
or_none false false h = refl

module _ (opening : List Record) (h more : List Entry) where
  stays : {A : Type 0} → (f : List Record → A) → ((log : List Record) (r : Record) → is_maintenance r ≡ false → f (log ++ r ∷ []) ≡ f log)
      → IsLegal opening (h ++ more) → SameMaintenance h more → f (life_log opening (h ++ more)) ≡ f (life_log opening h)
  stays f step legal same = ap f (longer_log opening h more) ∙ log_stays f step (life_log opening h) (log_of more) (none_done opening h more legal same)

  pub maintenance_law : MaintenanceLaw opening h more
  maintenance_law = record {
    none = none_done opening h more;
    runs = stays standing_runs (λ log r n. runs_push log r ∙ runs_same (standing_runs log) r n);
    run = stays last_run (λ log r n. last_run_push log r ∙ run_same (last_run log) r n);
    backup = stays last_backup (λ log r n. last_backup_push log r ∙ backup_same (last_backup log) r n);
    pages = λ legal same p. stays (λ (log : List Record). page_backup log p) (λ log r n. page_backup_push log r p ∙ page_same p (page_backup log p) r n) legal same;
    backed = λ legal same backup segment. stays (list_any (backs_up backup segment))
        (λ log r n. list_any-append (backs_up backup segment) log (r ∷ []) ∙ or_none (list_any (backs_up backup segment) log) (backs_up backup segment r) (backs_same backup segment r n)) legal same;
  }

-- ---- unrestored segments

-- the segment is in the list
abbrev has : ℕ → List ℕ → Bool
has segment ss = list_any (λ s. eqb s segment) ss

in_range : (from n s : ℕ) → has s (range_with_len from n) ≡ true → (from ≤ s) × (s < from + n)
in_range from zero s h = absurd cc
in_range from (suc n) s h = by (in_range ((from + 1)) n s) (eqb from s) refl h
  where
    by : (has s (range_with_len ((from + 1)) n) ≡ true → (from + 1 ≤ s) × (s < from + 1 + n)) → (b : Bool) → eqb from s ≡ b → (b || has s (range_with_len ((from + 1)) n)) ≡ true → (from ≤ s) × (s < from + suc n)
    by more true e h = let d = eqb-true from s e in (omega (arith, d), omega (arith, d))
    by more false e h = let m = more h in let a = m.0 in let b = m.1 in (omega (arith, a), omega (arith, b))

range_has : (from n s : ℕ) → from ≤ s → s < from + n → has s (range_with_len from n) ≡ true
range_has from zero s l m = absurd (omega (arith, l, m))
range_has from (suc n) s l m = by (range_has ((from + 1)) n s) (eqb from s) refl
  where
    by : (from + 1 ≤ s → s < from + 1 + n → has s (range_with_len ((from + 1)) n) ≡ true) → (b : Bool) → eqb from s ≡ b → (b || has s (range_with_len ((from + 1)) n)) ≡ true
    by more true e = refl
    by more false e = let d = differ from s e in more (omega (arith, d, l)) (omega (arith, m))

filter_has : (p : ℕ → Bool) (ss : List ℕ) (s : ℕ) → has s (filter p ss) ≡ true → has s ss ≡ true
filter_has p [] s h = h
filter_has p (x ∷ ss) s h = by (filter_has p ss s) (p x) h
  where
    by : (has s (filter p ss) ≡ true → has s ss ≡ true) → (b : Bool) → has s (cond b (x ∷ filter p ss) (filter p ss)) ≡ true → (eqb x s || has s ss) ≡ true
    by more false h = or_right (eqb x s) (has s ss) (more h)
    by more true h = at (eqb x s) more h
      where
        at : (c : Bool) → (has s (filter p ss) ≡ true → has s ss ≡ true) → (c || has s (filter p ss)) ≡ true → (c || has s ss) ≡ true
        at true more h = refl
        at false more h = more h

has_others : (k : ℕ) (ss : List ℕ) (s : ℕ) → eqb k s ≡ false → has s ss ≡ true → has s (filter (λ x. not (eqb x k)) ss) ≡ true
has_others k [] s n h = h
has_others k (x ∷ ss) s n h = by (has_others k ss s n) (eqb x k) refl h
  where
    by : (has s ss ≡ true → has s (filter (λ x. not (eqb x k)) ss) ≡ true) → (b : Bool) → eqb x k ≡ b → (eqb x s || has s ss) ≡ true → has s (cond (not b) (x ∷ filter (λ x. not (eqb x k)) ss) (filter (λ x. not (eqb x k)) ss)) ≡ true
    by more true e h = more (subst (λ (c : Bool). (c || has s ss) ≡ true) (ap (λ (y : ℕ). eqb y s) (eqb-true x k e) ∙ n) h)
    by more false e h = at (eqb x s) more h
      where
        at : (c : Bool) → (has s ss ≡ true → has s (filter (λ x. not (eqb x k)) ss) ≡ true) → (c || has s ss) ≡ true → (c || has s (filter (λ x. not (eqb x k)) ss)) ≡ true
        at true more h = refl
        at false more h = more h

pages_rise : (n : ℕ) (r : Record) → n ≤ pages_step n r
pages_rise n (kinds.Format f) = omega arith
pages_rise n (kinds.Split x) = omega arith
pages_rise n (kinds.Grow g) = omega arith
pages_rise n _ = omega arith

wider_range : (s n m : ℕ) → n ≤ m → s < (n + 15) / 16 → s < (m + 15) / 16
wider_range s n m l h = omega (arith, l, h)

no_segments : unrestored [] ≡ []
unfolding unrestored along
no_segments = refl

-- an unrestored segment has a page
unrestored_made : (segment : ℕ) (log : List Record) → AreLawful log → is_unrestored log segment ≡ true → segment < (pages log + 15) / 16
unrestored_made segment = by_pushes (λ (log : List Record). AreLawful log → is_unrestored log segment ≡ true → segment < (pages log + 15) / 16)
    (λ _ h. let e : false ≡ true = ap (has segment) (sym no_segments) ∙ h in absurd cc)
    (λ log r before sound h.
    let parts = lawful_front log r sound in
    let now = at log r (before parts.0) parts.1.upkeep (ap (has segment) (sym (unrestored_push log r)) ∙ h) in
    let count = pages_push log r in
    let rise = pages_rise (pages log) r in
    wider_range segment (pages log) (pages (log ++ r ∷ [])) (omega (arith, count, rise)) now)
  where
    at : (log : List Record) (r : Record) → (is_unrestored log segment ≡ true → segment < (pages log + 15) / 16) → UpkeepRule log r → has segment (unrestored_step (unrestored log) r) ≡ true → segment < (pages log + 15) / 16
    at log (kinds.Lost l) before rule h = let k = (in_range 0 ((l.pages + 15) / 16) segment h).1 in omega (arith, k, rule)
    at log (kinds.Restored x) before rule h = before (filter_has (λ s. not (eqb s x.segment)) (unrestored log) segment h)
    at log _ before rule h = before h

segment_stays : (log : List Record) (segment : ℕ) → is_unrestored log segment ≡ true → (more : List Record) → AreLawful (log ++ more) → list_any (restores segment) more ≡ false → is_unrestored (log ++ more) segment ≡ true
segment_stays log segment lies = by_pushes (λ (more : List Record). AreLawful (log ++ more) → list_any (restores segment) more ≡ false → is_unrestored (log ++ more) segment ≡ true)
    (λ _ _. ap (λ (l : List Record). is_unrestored l segment) (append-nil log) ∙ lies)
    (λ more r before sound none.
    let parts = lawful_front (log ++ more) r (subst AreLawful (sym (append_assoc log more (r ∷ []))) sound) in
    let n = none_of (restores segment) more r none in
    let was = before parts.0 n.0 in
    ap (λ (l : List Record). is_unrestored l segment) (sym (append_assoc log more (r ∷ []))) ∙ ap (has segment) (unrestored_push (log ++ more) r)
    ∙ at (log ++ more) r parts.1.upkeep n.1 was (unrestored_made segment (log ++ more) parts.0 was))
  where
    at : (log : List Record) (r : Record) → UpkeepRule log r → restores segment r ≡ false → is_unrestored log segment ≡ true → segment < (pages log + 15) / 16 → has segment (unrestored_step (unrestored log) r) ≡ true
    at log (kinds.Lost l) rule n was made = range_has 0 ((l.pages + 15) / 16) segment (omega arith) (omega (arith, made, rule))
    at log (kinds.Restored x) rule n was made = has_others x.segment (unrestored log) segment n was
    at log _ rule n was made = was

true_unless : (b : Bool) → (b ≡ false → ⊥) → b ≡ true
true_unless true h = refl
true_unless false h = absurd (h refl)

pub segment_law : (log more : List Record) (segment : ℕ) → SegmentLaw log more segment
segment_law log more segment = record {
  stays = λ sound lies none. segment_stays log segment lies more sound none;
  restored = λ sound lies closed. true_unless (list_any (restores segment) more) (λ none. not_both (is_unrestored (log ++ more) segment) (segment_stays log segment lies more sound none) closed);
}

-- ---- books never fall

step_up : (opening : List Record) (h : List Entry) (e : Entry) → IsAllowed opening h e → maintenance_book h ≤ length (life_log opening h) → maintenance_book h ≤ maintenance_step (maintenance_book h) e
step_up opening h (Rec lsn (kinds.BackupDone b)) ok within = let p = ok.rule.place in omega (arith, p, within)
step_up opening h (Rec lsn (kinds.RunDone d)) ok within = let p = ok.rule.place in omega (arith, p, within)
step_up opening h (Rec lsn r) ok within = omega arith
step_up opening h e ok within = omega arith

book_rises : (opening : List Record) (h more : List Entry) → IsLegal opening (h ++ more) → maintenance_book h ≤ maintenance_book (h ++ more)
book_rises opening h = by_going opening h (λ (more : List Entry). maintenance_book h ≤ maintenance_book (h ++ more))
    (let e = ap maintenance_book (none_more h) in omega (arith, e))
    (λ more e legal ok before.
    let s = ap maintenance_book (sym (one_more h more e)) ∙ maintenance_push (h ++ more) e in
    let up = step_up opening (h ++ more) e ok (book_within opening (h ++ more) legal) in
    omega (arith, before, s, up))

pub books_law : (opening : List Record) (h more : List Entry) → BooksLaw opening h more
books_law opening h more = record {
  page = λ p. let r = (beginning (life_log opening h) (log_of more)).heads p in let e = ap (λ (l : List Record). head l p) (longer_log opening h more) in omega (arith, r, e);
  session = λ session. entries_rise session h more;
  maintenance = book_rises opening h more;
}
