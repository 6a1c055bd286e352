-- The page recovery index goes on with each record.
use Rattle.std.proofs.Common.{◌≡◌, ℕ, ◌+◌, suc, Bool, true, false, cond, eqb, List, [], ◌∷◌, ◌++◌, map, length, Option, Some, None, refl, sym, ap, subst, ◌∙◌, arith}
use Rattle.std.specs.Prelude.{find, ◌||◌, ◌==◌}
use Rattle.std.specs.List.{range_with_len}
use Rattle.std.specs.Option.{option_map_or}
use Rattle.store_model.proofs.Bools.{false_unless}
use Rattle.wal_record.specs.Chains.{names, pages, pages_step}
use Rattle.wal_record.specs.Upkeep.{written_step, PageBackup, backup_step}
use Rattle.wal_record.specs.Checkpoints.{page_head, page_heads}
use Rattle.wal_record.specs.Sound.{IsLawful, AreLawful}
use Rattle.wal_record.specs.declared.analysis.PageHead.{PageHead}
use Rattle.wal_record.specs.declared.record.PageLsn.{PageLsn}
use Rattle.wal_record.specs.declared.record.Record.{Record}
use Rattle.wal_record.specs.declared.record.Record.TheVariants as kinds
use Rattle.wal_record.proofs.Pushes.{head_push, pages_push, written_push, page_backup_push}
use Rattle.log_laws.proofs.Central.{eqb_self, eqb_differ}
use Rattle.listing_laws.specs.Summary.{at_page, with_head, with_written, with_backup, first_head, backed_up, heads_step}
use Rattle.listing_laws.proofs.Named.{named, named_in, never_written, never_backed_up, first_page}
use Rattle.listing_laws.proofs.Ranges.{eqb_sym, map_same, map_map, at_page_range, one_more}

abbrev backup_in : PageHead → PageBackup
backup_in h = record { backup = h.backup; lsn = h.backup_lsn }

-- the entry of the page q after a record
abbrev head_after : ℕ → ℕ → PageHead → Record → PageHead
head_after lsn q h r = record { head = cond (names q r) lsn h.head; written = written_step q h.written r; backup = (backup_step q (backup_in h) r).backup; backup_lsn = (backup_step q (backup_in h) r).lsn }

page_head_push : (log : List Record) (r : Record) (q : ℕ) → page_head (log ++ r ∷ []) q ≡ head_after (length log + 1) q (page_head log q) r
page_head_push log r q = λ i. record { head = head_push log r q i; written = written_push log r q i; backup = (page_backup_push log r q i).backup; backup_lsn = (page_backup_push log r q i).lsn }

-- ---- one entry

by_head : (lsn : ℕ) (h : PageHead) (b : Bool) → record h { head = cond b lsn h.head } ≡ cond b (with_head lsn h) h
by_head lsn h true = refl
by_head lsn h false = refl

by_heads : (lsn : ℕ) (h : PageHead) (a b : Bool) → record h { head = cond (a || b) lsn h.head } ≡ cond b (with_head lsn (cond a (with_head lsn h) h)) (cond a (with_head lsn h) h)
by_heads lsn h true true = refl
by_heads lsn h true false = refl
by_heads lsn h false true = refl
by_heads lsn h false false = refl

by_written : (lsn : ℕ) (h : PageHead) (b : Bool) → record h { written = cond b lsn h.written } ≡ cond b (with_written lsn h) h
by_written lsn h true = refl
by_written lsn h false = refl

abbrev with_found : ℕ → PageHead → Option PageLsn → PageHead
with_found backup h found = option_map_or (λ (x : PageLsn). with_backup backup x.lsn h) found h

by_found : (backup : ℕ) (h : PageHead) (found : Option PageLsn)
    → record h { backup = (option_map_or (λ (x : PageLsn). record { backup = backup; lsn = x.lsn }) found (backup_in h)).backup; backup_lsn = (option_map_or (λ (x : PageLsn). record { backup = backup; lsn = x.lsn }) found (backup_in h)).lsn } ≡ with_found backup h found
by_found backup h None = refl
by_found backup h (Some x) = refl

found_first : (backup : ℕ) (h : PageHead) (x : PageLsn) (found : Option PageLsn) (b : Bool) → cond b (with_backup backup x.lsn (with_found backup h found)) (with_found backup h found) ≡ with_found backup h (cond b (Some x) found)
found_first backup h x None true = refl
found_first backup h x (Some y) true = refl
found_first backup h x found false = refl

-- ---- all entries

module _ (F : ℕ → PageHead) (n : ℕ) where
  abbrev here : List PageHead
  here = map F (range_with_len 1 n)

  abbrev after : ℕ → Record → List PageHead
  after lsn r = map (λ q. head_after lsn q (F q) r) (range_with_len 1 n)

  on_page : (lsn p : ℕ) → map (λ q. record (F q) { head = cond (eqb q p) lsn (F q).head }) (range_with_len 1 n) ≡ at_page (with_head lsn) p here
  on_page lsn p = map_same _ _ 1 n (λ q l u. by_head lsn (F q) (eqb q p)) ∙ sym (at_page_range (with_head lsn) F n p)

  on_pages : (lsn p s : ℕ) → map (λ q. record (F q) { head = cond (eqb q p || eqb q s) lsn (F q).head }) (range_with_len 1 n) ≡ at_page (with_head lsn) s (at_page (with_head lsn) p here)
  on_pages lsn p s =
      map_same _ _ 1 n (λ q l u. by_heads lsn (F q) (eqb q p) (eqb q s))
      ∙ sym (at_page_range (with_head lsn) (λ q. cond (eqb q p) (with_head lsn (F q)) (F q)) n s)
      ∙ ap (at_page (with_head lsn) s) (sym (at_page_range (with_head lsn) F n p))

  -- beside a page that isn't there yet
  on_old : (lsn p s : ℕ) → s ≡ suc n → map (λ q. record (F q) { head = cond (eqb q p || eqb q s) lsn (F q).head }) (range_with_len 1 n) ≡ at_page (with_head lsn) p here
  on_old lsn p s new =
      map_same _ _ 1 n (λ q l u. ap (λ (b : Bool). record (F q) { head = cond b lsn (F q).head }) (ap (λ (b : Bool). eqb q p || b) (eqb_differ q s (λ e. omega (arith, e, new, u))) ∙ or_none (eqb q p)))
      ∙ on_page lsn p
    where
      or_none : (b : Bool) → (b || false) ≡ b
      or_none true = refl
      or_none false = refl

  on_written : (lsn p : ℕ) → map (λ q. record (F q) { written = cond (eqb p q) lsn (F q).written }) (range_with_len 1 n) ≡ at_page (with_written lsn) p here
  on_written lsn p = map_same _ _ 1 n (λ q l u. by_written lsn (F q) (eqb p q) ∙ ap (λ (b : Bool). cond b (with_written lsn (F q)) (F q)) (eqb_sym p q)) ∙ sym (at_page_range (with_written lsn) F n p)

  on_backup : (backup : ℕ) (xs : List PageLsn) → backed_up backup xs here ≡ map (λ q. with_found backup (F q) (find (λ (x : PageLsn). x.page == q) xs)) (range_with_len 1 n)
  on_backup backup [] = refl
  on_backup backup (x ∷ xs) =
      ap (at_page (with_backup backup x.lsn) x.page) (on_backup backup xs)
      ∙ at_page_range (with_backup backup x.lsn) (λ q. with_found backup (F q) (find (λ (y : PageLsn). y.page == q) xs)) n x.page
      ∙ map_same _ _ 1 n (λ q l u.
      ap (λ (b : Bool). cond b (with_backup backup x.lsn (with_found backup (F q) (find (λ (y : PageLsn). y.page == q) xs))) (with_found backup (F q) (find (λ (y : PageLsn). y.page == q) xs))) (eqb_sym q x.page)
      ∙ found_first backup (F q) x (find (λ (y : PageLsn). y.page == q) xs) (eqb x.page q))

-- ---- a record more

module _ (log : List Record) (lawful : AreLawful log) where
  abbrev lsn : ℕ
  lsn = length log + 1

  abbrev F : ℕ → PageHead
  F = page_head log

  unnamed : named log (suc (pages log)) ≡ false
  unnamed = false_unless (named log (suc (pages log))) (λ h. let u = (named_in log lawful (suc (pages log)) h).1 in omega (arith, u))

  -- the entry of the page that the record makes
  newest : record (F (suc (pages log))) { head = lsn } ≡ first_head lsn
  newest = λ i. record {
    head = lsn;
    written = never_written (suc (pages log)) log lawful unnamed i;
    backup = (never_backed_up (suc (pages log)) log lawful unnamed i).backup;
    backup_lsn = (never_backed_up (suc (pages log)) log lawful unnamed i).lsn;
  }

  last_named : (b : Bool) → b ≡ true → record (F (suc (pages log))) { head = cond b lsn (F (suc (pages log))).head } ≡ first_head lsn
  last_named b e = ap (λ (c : Bool). record (F (suc (pages log))) { head = cond c lsn (F (suc (pages log))).head }) e ∙ newest

  grown : (p s : ℕ) → s ≡ suc (pages log)
      → map (λ q. record (F q) { head = cond (eqb q p || eqb q s) lsn (F q).head }) (range_with_len 1 (suc (pages log))) ≡ at_page (with_head lsn) p (page_heads log) ++ first_head lsn ∷ []
  grown p s new =
      one_more _ (pages log)
      ∙ (λ i. on_old F (pages log) lsn p s new i ++ last_named (eqb (suc (pages log)) p || eqb (suc (pages log)) s) (names_it (eqb (suc (pages log)) p) ∙ refl) i ∷ [])
    where
      here : eqb (suc (pages log)) s ≡ true
      here = subst (λ (x : ℕ). eqb (suc (pages log)) x ≡ true) (sym new) (eqb_self (suc (pages log)))

      names_it : (b : Bool) → (b || eqb (suc (pages log)) s) ≡ true
      names_it true = refl
      names_it false = here

  step : (r : Record) → IsLawful log r → map (λ q. head_after lsn q (F q) r) (range_with_len 1 (pages_step (pages log) r)) ≡ heads_step lsn (page_heads log) r
  step (kinds.Format f) l =
      one_more _ (pages log)
      ∙ (λ i. map_same (λ q. head_after lsn q (F q) (kinds.Format f)) F 1 (pages log) (λ q o u. absurd (omega (arith, o, u, none))) i ++ last_named (eqb (suc (pages log)) 1) first i ∷ [])
    where
      none : pages log ≡ 0
      none = first_page log (kinds.Format f) l refl

      first : eqb (suc (pages log)) 1 ≡ true
      first = subst (λ (n : ℕ). eqb (suc n) 1 ≡ true) (sym none) refl
  step (kinds.Write w) l = on_page F (pages log) lsn w.page
  step (kinds.Apply a) l = on_page F (pages log) lsn a.page
  step (kinds.Undo u) l = on_page F (pages log) lsn u.page
  step (kinds.Split s) l = grown s.page s.child l.place
  step (kinds.Adopt a) l = on_pages F (pages log) lsn a.parent a.fosterer
  step (kinds.Grow g) l = grown 1 g.child l.place
  step (kinds.Purge x) l = on_page F (pages log) lsn x.page
  step (kinds.Written w) l = on_written F (pages log) w.lsn w.page
  step (kinds.BackupDone b) l = map_same _ _ 1 (pages log) (λ q o u. by_found b.backup (F q) (find (λ (x : PageLsn). x.page == q) b.pages)) ∙ sym (on_backup F (pages log) b.backup b.pages)
  step (kinds.Lost x) l = sym (map_map (with_written 0) F (range_with_len 1 (pages log)))
  step (kinds.Commit c) l = refl
  step (kinds.End e) l = refl
  step (kinds.Checkpoint c) l = refl
  step (kinds.RunDone d) l = refl
  step (kinds.Restored x) l = refl

  pub heads_more : (r : Record) → IsLawful log r → page_heads (log ++ r ∷ []) ≡ heads_step lsn (page_heads log) r
  heads_more r l =
      ap (λ (n : ℕ). map (page_head (log ++ r ∷ [])) (range_with_len 1 n)) (pages_push log r)
      ∙ map_same _ _ 1 (pages_step (pages log) r) (λ q o u. page_head_push log r q)
      ∙ step r l
