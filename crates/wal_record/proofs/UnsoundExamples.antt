-- Records that aren't lawful, one or more for each rule of a sound log.
use Rattle.std.proofs.Common.{◌≡◌, ℕ, suc, List, [], ◌∷◌, ◌++◌, length, length-append, Option, Some, None, refl, ap, ◌∙◌, sym, subst, arith}
use Rattle.std.specs.Prelude.{option_and_then}
use Rattle.std.specs.FinMap.{get-empty}
use Rattle.store_model.specs.Along.{along}
use Rattle.wal_record.specs.declared.page.PageState.{PageState}
use Rattle.wal_record.specs.declared.record.Checkpoint.{Checkpoint}
use Rattle.wal_record.specs.declared.record.Record.{Record}
use Rattle.wal_record.specs.declared.record.Record.TheVariants as kinds
use Rattle.wal_record.specs.State.{branch_rows, child_at}
use Rattle.wal_record.specs.Chains.{head, pages, last, greatest}
use Rattle.wal_record.specs.OpenWrites.{open_writes, pending}
use Rattle.wal_record.specs.Contents.{current}
use Rattle.wal_record.specs.Images.{applied, image, OnPage, CanApply, IsApplicable}
use Rattle.wal_record.specs.Upkeep.{last_backup, unrestored, standing_runs, last_run}
use Rattle.wal_record.specs.Checkpoints.{checkpoint_of}
use Rattle.wal_record.specs.Sound.{LeadsTo, TakesBack, IsLawful}
use Rattle.wal_record.proofs.ExampleLogs.{apple, x, one, two, format, put_apple, apple_log, put_x, c, leaf, split_at_b, grown_log, adopt_three}

-- ---- Format comes first, and only there; its limit is 8 to 16,384

second_format : IsLawful (format ∷ []) format → ⊥
second_format h = let e = h.first in absurd cc

no_format : IsLawful [] put_apple → ⊥
no_format h = let e = h.first in absurd cc

small_limit : IsLawful [] (kinds.Format (record { limit = 7 })) → ⊥
small_limit h = let e = h.fields.limit in absurd cc

-- ---- chains

other_prev : IsLawful (format ∷ put_apple ∷ []) (kinds.Commit (record { tx = 1; prev = 1 })) → ⊥
unfolding last along
other_prev h = let e : ◌≡◌ {A = ℕ} 1 2 = h.chain.0 in absurd cc

after_commit : IsLawful apple_log (kinds.End (record { tx = 1; prev = 3 })) → ⊥
after_commit h = let e = h.chain.1 in absurd cc

other_page_prev : IsLawful (format ∷ []) (kinds.Write (record { tx = 1; prev = 0; page = 1; page_prev = 0; key = apple; old = None; new = Some one })) → ⊥
unfolding head along
other_page_prev h = let e : ◌≡◌ {A = ℕ} 0 1 = h.heads.0 in absurd cc

-- ---- pages

no_page : IsLawful (format ∷ []) (kinds.Purge (record { page = 2; page_prev = 0 })) → ⊥
unfolding image along CanApply
no_page h = let e = (h.applicable 2 refl).can.1 in absurd cc

other_child : IsLawful (format ∷ []) (kinds.Grow (record { page_prev = 1; child = 3; child_state = leaf [] None [] })) → ⊥
unfolding pages along
other_child h = let e : ◌≡◌ {A = ℕ} 3 2 = h.place in absurd cc

-- adopting from further down the chain of foster children: applicable to both pages, but not lawful
gives : IsApplicable adopt_three 2 (image grown_log 2)
unfolding image along applied CanApply
gives = record { can = ((λ e. absurd (omega (arith, e))), λ e. (_, refl, record { foster = refl })); fits = (_, refl, omega arith) }

takes : IsApplicable adopt_three 1 (image grown_log 1)
unfolding image along applied CanApply
takes = record { can = ((λ e. (_, refl, record { branch = refl; level = omega arith; own = refl; fresh = refl; before = refl })), λ e. absurd (omega (arith, e))); fits = (_, refl, omega arith) }

led : (key : List ℕ) (page : ℕ) (img : Option PageState) → OnPage (LeadsTo key page) img → option_and_then (λ (s : PageState). child_at key (branch_rows s.rows)) img ≡ Some page
led key page img h = ap (option_and_then (λ (s : PageState). child_at key (branch_rows s.rows))) h.1 ∙ h.2

from_further_down : IsLawful grown_log adopt_three → ⊥
unfolding image along applied
from_further_down h = let e : ◌≡◌ {A = Option ℕ} (Some 4) (Some 2) = led c 2 (image grown_log 1) h.place in absurd cc

-- ---- values

other_old : IsLawful (format ∷ []) (kinds.Write (record { tx = 1; prev = 0; page = 1; page_prev = 1; key = apple; old = Some two; new = Some one })) → ⊥
unfolding current along
other_old h = let e : Some two ≡ None = h.value.1 ∙ get-empty _ apple in absurd cc

open_elsewhere : IsLawful (format ∷ put_x ∷ []) (kinds.Write (record { tx = 2; prev = 0; page = 1; page_prev = 2; key = x; old = Some one; new = Some two })) → ⊥
unfolding open_writes along
open_elsewhere h = let e = h.value.0 1 (λ e. absurd (omega (arith, e))) in absurd cc

only_one : (w : Record) (front : List Record) (back : Record) → w ∷ [] ≡ front ++ back ∷ [] → w ≡ back
only_one w [] back e = cc
only_one w (r ∷ rs) back e = let n : 1 ≡ suc (length (rs ++ back ∷ [])) = ap length e in absurd (omega (arith, length-append rs (back ∷ []), n))

-- an undo that restores the new value
other_restores : IsLawful (format ∷ put_x ∷ []) (kinds.Undo (record { tx = 1; prev = 2; page = 1; page_prev = 2; key = x; restores = Some one; undo_next = 0 })) → ⊥
unfolding open_writes along
other_restores h =
    let e = only_one put_x h.value.front h.value.back h.value.split in
    let taken : TakesBack (record { tx = 1; prev = 2; page = 1; page_prev = 2; key = x; restores = Some one; undo_next = 0 }) put_x = subst (λ (r : Record). TakesBack (record { tx = 1; prev = 2; page = 1; page_prev = 2; key = x; restores = Some one; undo_next = 0 }) r) (sym e) h.value.takes in
    let f : Some one ≡ None = taken.1 in absurd cc

-- an undo where nothing is open
nothing_open : IsLawful apple_log (kinds.Undo (record { tx = 1; prev = 3; page = 1; page_prev = 2; key = apple; restores = None; undo_next = 0 })) → ⊥
nothing_open h = let e = h.chain.1 in absurd cc

-- an end while a write is open
open_at_end : IsLawful (format ∷ put_x ∷ []) (kinds.End (record { tx = 1; prev = 2 })) → ⊥
unfolding open_writes along
open_at_end h = let e = h.value in absurd cc

-- ---- room

-- pages and pending writes are at the limit: one page, and seven open writes
abbrev small_format : Record
small_format = kinds.Format (record { limit = 8 })

abbrev seven_open : List Record
seven_open = small_format ∷ put_x ∷ put_x ∷ put_x ∷ put_x ∷ put_x ∷ put_x ∷ put_x ∷ []

no_room : IsLawful seven_open put_x → ⊥
unfolding pages pending greatest open_writes along
no_room h = absurd (omega (arith, h.room.most))

-- and above it, after the split of a leaf: only an undo is lawful
only_undo : IsLawful (seven_open ++ split_at_b ∷ []) (kinds.Commit (record { tx = 1; prev = 8 })) → ⊥
unfolding pages pending greatest open_writes along
only_undo h = let e = h.room.next (omega arith) in absurd cc

-- ---- upkeep

-- the record with LSN 3 is a commit: it names no page
no_image : IsLawful apple_log (kinds.Written (record { page = 1; lsn = 3 })) → ⊥
no_image h = let e = h.upkeep in absurd cc

-- there is no record 4
no_record : IsLawful apple_log (kinds.Written (record { page = 1; lsn = 4 })) → ⊥
no_record h = let e = h.upkeep in absurd cc

abbrev backup : ℕ → ℕ → ℕ → ℕ → Record
backup number segment page lsn = kinds.BackupDone (record { backup = number; segment = segment; pages = record { page = page; lsn = lsn } ∷ [] })

backup_of_no_image : IsLawful apple_log (backup 1 0 1 3) → ⊥
backup_of_no_image h = let e = h.upkeep.images in absurd cc

other_segment : IsLawful apple_log (backup 1 1 1 2) → ⊥
other_segment h = let e = h.upkeep.inside in absurd cc

backed_up : IsLawful (apple_log ++ backup 1 0 1 2 ∷ []) (backup 1 0 1 2) → ⊥
backed_up h = let e = h.upkeep.fresh in absurd cc

other_number : IsLawful apple_log (backup 2 0 1 2) → ⊥
unfolding last_backup along
other_number h = let e = h.upkeep.number in absurd cc

other_pages : IsLawful apple_log (kinds.Lost (record { pages = 2 })) → ⊥
unfolding pages along
other_pages h = let e : ◌≡◌ {A = ℕ} 2 1 = h.upkeep in absurd cc

-- nothing was lost; and after a loss of one page there is only segment 0
nothing_lost : IsLawful apple_log (kinds.Restored (record { segment = 0 })) → ⊥
unfolding unrestored along
nothing_lost h = let e = h.upkeep in absurd cc

no_segment : IsLawful (apple_log ++ kinds.Lost (record { pages = 1 }) ∷ []) (kinds.Restored (record { segment = 1 })) → ⊥
unfolding unrestored along
no_segment h = let e = h.upkeep in absurd cc

abbrev run : ℕ → ℕ → ℕ → Record
run number first last = kinds.RunDone (record { run = number; first = first; last = last })

-- the first run begins at 1, ends below its own LSN, covers a record, and has the number 1
late_run : IsLawful apple_log (run 1 2 3) → ⊥
unfolding standing_runs along
late_run h = let e = h.upkeep.range in absurd cc

long_run : IsLawful apple_log (run 1 1 4) → ⊥
long_run h = absurd (omega (arith, h.upkeep.ends))

empty_run : IsLawful apple_log (run 1 1 0) → ⊥
empty_run h = absurd (omega (arith, h.upkeep.covers))

second_run : IsLawful apple_log (run 2 1 3) → ⊥
unfolding last_run along
second_run h = let e : ◌≡◌ {A = ℕ} 2 1 = h.upkeep.number in absurd cc

-- one run alone isn't merged
lone_merge : IsLawful (apple_log ++ run 1 1 3 ∷ []) (run 2 1 3) → ⊥
unfolding standing_runs along
lone_merge h = let e = h.upkeep.range in absurd cc

-- a merge that begins inside a run
inside_merge : IsLawful (apple_log ++ run 1 1 2 ∷ run 2 3 3 ∷ run 3 4 4 ∷ []) (run 4 2 4) → ⊥
unfolding standing_runs along
inside_merge h = let e = h.upkeep.range in absurd cc

-- a checkpoint that counts no commit
abbrev blank : Checkpoint
blank = record { next_tx = 2; commits = 0; limit = 16384; pages = record { head = 2; written = 0; backup = 0; backup_lsn = 0 } ∷ []; transactions = []; lost = 0; unrestored = []; runs = []; next_backup = 1; next_run = 1 }

other_commits : IsLawful apple_log (kinds.Checkpoint blank) → ⊥
unfolding checkpoint_of
other_commits h = let e : ◌≡◌ {A = ℕ} 0 1 = ap (λ (r : Checkpoint). r.commits) h.upkeep in absurd cc
