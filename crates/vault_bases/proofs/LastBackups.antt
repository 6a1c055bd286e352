-- The last backup of a page, as the journal lists it.
use Rattle.std.proofs.Common.{◌≡◌, ◌≢◌, ℕ, ◌<◌, ◌≤◌, List, true, sym, ap, subst, ◌∙◌, arith, inl, inr}
use mathlib.Core.List.{IsPrefix}
use Rattle.wal_record.specs.Chains.{names_at}
use Rattle.wal_record.specs.History.{life_log, log_of}
use Rattle.wal_record.specs.Upkeep.{PageBackup, page_backup}
use Rattle.wal_record.specs.declared.analysis.PageHead.{PageHead}
use Rattle.wal_record.specs.declared.record.Record.{Record}
use Rattle.wal_record.specs.declared.entry.Entry.{Entry}
use Rattle.page_image.specs.declared.sealed.Sealed.{Sealed}
use Rattle.page_ops.specs.Causes.{IsUntold}
use Rattle.page_ops.specs.Outcomes.{IsListed}
use Rattle.page_ops.specs.Seeing.{IsConsistent}
use Rattle.page_ops.specs.declared.outcome.Listed.{Listed}
use Rattle.page_repair.specs.Chains.{IsImageAt}
use Rattle.page_repair.specs.Supplies.{IsBase}
use Rattle.backup_laws.specs.Named.{NamesBackup}
use Rattle.backup_laws.proofs.NamedBackups.{backups, image_more}
use Rattle.vault_bases.specs.Last.{HasNone, WasLast}
use Rattle.vault_bases.specs.Named.{HasCopy, IsCopyIn, IsHeld}
use Rattle.vault_bases.proofs.Keeping.{longer}

abbrev backup_in : PageHead → PageBackup
backup_in ends = record { backup = ends.backup; lsn = ends.backup_lsn }

has_copy : (log : List Record) (p : ℕ) (y : PageBackup) (n : NamesBackup log p y) → HasCopy log p y.backup n.copy
has_copy log p y n = record { bytes = n.bytes; names = n.names; copies = n.copies; are = n.are; among = n.among; page = n.page }

module _ (opens : List Record → Type 0) (h : List Entry) (p : ℕ) (x : Listed) (listed : IsListed opens h p x) where
  last_is : (opening : List Record) → opens opening → backup_in x.ends ≡ page_backup (life_log opening h) p
  last_is opening stands = ap backup_in (listed.ends opening stands)

  number_is : (opening : List Record) → opens opening → x.ends.backup ≡ (page_backup (life_log opening h) p).backup
  number_is opening stands = ap (λ (y : PageBackup). y.backup) (last_is opening stands)

  lsn_is : (opening : List Record) → opens opening → x.ends.backup_lsn ≡ (page_backup (life_log opening h) p).lsn
  lsn_is opening stands = ap (λ (y : PageBackup). y.lsn) (last_is opening stands)

  pub none_listed : (head : ℕ) → x.ends.backup ≡ 0 → (opening : List Record) → opens opening → HasNone (life_log opening h) p head
  none_listed head zero opening stands = inl (sym (number_is opening stands) ∙ zero)

  pub younger_listed : (head : ℕ) → head < x.ends.backup_lsn → (opening : List Record) → opens opening → HasNone (life_log opening h) p head
  younger_listed head less opening stands = inr (subst (λ (n : ℕ). head < n) (lsn_is opening stands) less)

  module _ (consistent : IsConsistent opens h) (some : x.ends.backup ≢ 0) where
    named : (opening : List Record) → opens opening → NamesBackup (life_log opening h) p (backup_in x.ends)
    named opening stands =
        let log = life_log opening h in
        subst (NamesBackup log p) (sym (last_is opening stands)) (backups log p ((consistent.sound opening stands).lawful) (λ zero. some (number_is opening stands ∙ zero)))

    pub held_listed : IsHeld opens h p x.ends.backup
    held_listed opening stands = let n = named opening stands in (n.copy, has_copy (life_log opening h) p (backup_in x.ends) n)

    module _ (s : Sealed) (found : IsCopyIn opens h p x.ends.backup s) where
      same : (opening : List Record) (stands : opens opening) → s ≡ (named opening stands).copy.sealed
      same opening stands = let n = named opening stands in found.is opening n.copy stands (has_copy (life_log opening h) p (backup_in x.ends) n)

      told_lsn : (opening : List Record) → opens opening → s.lsn ≡ x.ends.backup_lsn
      told_lsn opening stands = ap (λ (y : Sealed). y.lsn) (same opening stands) ∙ (named opening stands).at

      is_image : (opening : List Record) → opens opening → IsImageAt (life_log opening h) p s
      is_image opening stands = subst (λ (y : Sealed). IsImageAt (life_log opening h) p y) (sym (same opening stands)) (named opening stands).image

      is_named : (opening : List Record) → opens opening → names_at (life_log opening h) s.lsn p ≡ true
      is_named opening stands = subst (λ (y : Sealed). names_at (life_log opening h) y.lsn p ≡ true) (sym (same opening stands)) (named opening stands).named

      -- an image of another LSN is in an object of a life of which nothing is known
      pub untold_lsn : s.lsn ≢ x.ends.backup_lsn → IsUntold opens
      untold_lsn other opening stands = other (told_lsn opening stands)

      pub is_base : (now : List Entry) (head : ℕ) → IsPrefix h now → s.lsn ≡ x.ends.backup_lsn → x.ends.backup_lsn ≤ head → IsBase opens now p head s
      is_base now head begins at within = record {
        keeps = found.keeps;
        before = omega (arith, at, within);
        image = λ opening stands.
            subst (λ (l : List Record). IsImageAt l p s) (sym (longer opening h now begins)) (image_more (life_log opening h) (log_of begins.0) p s (is_named opening stands) (is_image opening stands));
      }

      pub was_last : (first now : List Entry) → IsPrefix first h → IsPrefix h now → WasLast opens first now p s
      was_last first now begins goes = record {
        moment = h;
        begins = begins;
        goes_on = goes;
        is = λ opening stands. record { lsn = told_lsn opening stands ∙ lsn_is opening stands; image = is_image opening stands };
      }
