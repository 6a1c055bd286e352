-- Where written images and backups stand.
use Rattle.std.proofs.Common.{◌≡◌, ◌≢◌, ℕ, Bool, true, false, cond, eqb, List, [], ◌∷◌, ◌++◌, Option, Some, None, refl, sym, ap, subst, ◌∙◌}
use Rattle.std.specs.Prelude.{find, ◌==◌}
use Rattle.std.specs.Option.{option_map_or}
use Rattle.std.proofs.lemmas.Bool.{eqb-true}
use Rattle.store_model.specs.Along.{along}
use Rattle.store_model.proofs.Bools.{both_true}
use Rattle.wal_record.specs.Chains.{names_at}
use Rattle.wal_record.specs.Upkeep.{PageBackup, no_backup, backup_step, page_backup, written_lsn, written_step}
use Rattle.wal_record.specs.Sound.{IsLawful, AreLawful, are_images}
use Rattle.wal_record.specs.declared.record.PageLsn.{PageLsn}
use Rattle.wal_record.specs.declared.record.Record.{Record}
use Rattle.wal_record.specs.declared.record.Record.TheVariants as kinds
use Rattle.wal_record.proofs.Along.{by_pushes}
use Rattle.wal_record.proofs.Pushes.{page_backup_push, written_push, lawful_front}
use Rattle.chain_laws.specs.Bases.{BaseLaw}
use Rattle.chain_laws.proofs.Named.{named_kept}

no_backup_yet : (p : ℕ) → page_backup [] p ≡ no_backup
unfolding page_backup along
no_backup_yet p = refl

none_written : (p : ℕ) → written_lsn [] p ≡ 0
unfolding written_lsn along
none_written p = refl

-- a backup that the log tells of
abbrev Stands : List Record → ℕ → PageBackup → Type 0
Stands log p x = x.backup ≢ 0 → names_at log x.lsn p ≡ true

-- what is found among images of the log is one
found_image : (log : List Record) (p : ℕ) (xs : List PageLsn) (x : PageLsn) → are_images log xs ≡ true → find (λ (y : PageLsn). y.page == p) xs ≡ Some x → names_at log x.lsn p ≡ true
found_image log p [] x all e = absurd cc
found_image log p (y ∷ ys) x all e = by (found_image log p ys x (both_true (names_at log y.lsn y.page) (are_images log ys) all).1) (eqb y.page p) refl e
  where
    parts : (names_at log y.lsn y.page ≡ true) × (are_images log ys ≡ true)
    parts = both_true (names_at log y.lsn y.page) (are_images log ys) all

    same : (a b : PageLsn) → ◌≡◌ {A = Option PageLsn} (Some a) (Some b) → a ≡ b
    same a b e = cc

    by : (find (λ (z : PageLsn). z.page == p) ys ≡ Some x → names_at log x.lsn p ≡ true) → (b : Bool) → eqb y.page p ≡ b → cond b (Some y) (find (λ (z : PageLsn). z.page == p) ys) ≡ Some x → names_at log x.lsn p ≡ true
    by rest true is e = ap (λ (z : PageLsn). names_at log z.lsn p) (sym (same y x e)) ∙ ap (names_at log y.lsn) (sym (eqb-true y.page p is)) ∙ parts.0
    by rest false is e = rest e

backup_stands : (log : List Record) (p : ℕ) (r : Record) → IsLawful log r → Stands log p (page_backup log p) → Stands log p (backup_step p (page_backup log p) r)
backup_stands log p (kinds.BackupDone b) law before = by (find (λ (x : PageLsn). x.page == p) b.pages) refl
  where
    by : (o : Option PageLsn) → find (λ (x : PageLsn). x.page == p) b.pages ≡ o → Stands log p (option_map_or (λ (x : PageLsn). record { backup = b.backup; lsn = x.lsn }) o (page_backup log p))
    by None e = before
    by (Some x) e = λ _. found_image log p b.pages x law.upkeep.images e
backup_stands log p r law before = before

backups : (p : ℕ) (log : List Record) → AreLawful log → Stands log p (page_backup log p)
backups p = by_pushes (λ (log : List Record). AreLawful log → Stands log p (page_backup log p)) (λ _. subst (Stands [] p) (sym (no_backup_yet p)) (λ some. absurd (some refl))) (λ log r before lawful.
    let parts = lawful_front log r lawful in
    subst (Stands (log ++ r ∷ []) p) (sym (page_backup_push log r p)) (λ some. named_kept log (r ∷ []) p _ (backup_stands log p r parts.1 (before parts.0) some)))

abbrev WasWritten : List Record → ℕ → ℕ → Type 0
WasWritten log p n = n ≢ 0 → names_at log n p ≡ true

written_stands : (log : List Record) (p : ℕ) (r : Record) → IsLawful log r → WasWritten log p (written_lsn log p) → WasWritten log p (written_step p (written_lsn log p) r)
written_stands log p (kinds.Written w) law before = by (eqb w.page p) refl
  where
    by : (b : Bool) → eqb w.page p ≡ b → WasWritten log p (cond b w.lsn (written_lsn log p))
    by true e = λ _. ap (names_at log w.lsn) (sym (eqb-true w.page p e)) ∙ law.upkeep
    by false e = before
written_stands log p (kinds.Lost l) law before = λ some. absurd (some refl)
written_stands log p r law before = before

writes : (p : ℕ) (log : List Record) → AreLawful log → WasWritten log p (written_lsn log p)
writes p = by_pushes (λ (log : List Record). AreLawful log → WasWritten log p (written_lsn log p)) (λ _. subst (WasWritten [] p) (sym (none_written p)) (λ some. absurd (some refl))) (λ log r before lawful.
    let parts = lawful_front log r lawful in
    subst (WasWritten (log ++ r ∷ []) p) (sym (written_push log r p)) (λ some. named_kept log (r ∷ []) p _ (written_stands log p r parts.1 (before parts.0) some)))

pub bases : (log : List Record) (p : ℕ) → AreLawful log → BaseLaw log p
bases log p lawful = record { backed_up = backups p log lawful; written = writes p log lawful }
