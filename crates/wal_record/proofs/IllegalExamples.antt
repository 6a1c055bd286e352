-- Entries that aren't allowed, one or more for each rule of a legal history.
use Rattle.std.proofs.Common.{◌≡◌, ℕ, false, true, Option, get_or, List, [], ◌∷◌, ◌++◌, Some, None, refl, sym, ap, ◌∙◌, arith, zero, suc, ◌<◌, subst, inl, inr}
use Rattle.std.specs.Prelude.{option_and_then, unwrap_or, is_some}
use Rattle.std.specs.List.{list_any}
use Rattle.std.specs.Option.{option_map_or}
use Rattle.std.specs.FinMap.{get-empty}
use Rattle.store_model.specs.Along.{along}
use Rattle.store_model.specs.Range.{Interval, point}
use Rattle.store_model.specs.Operator.{meaning}
use Rattle.store_model.specs.declared.request.Request.TheVariants as requests
use Rattle.store_model.specs.declared.reply.Reply.TheVariants as replies
use Rattle.store_model.specs.declared.reply.Outcome.TheVariants as outcomes
use Rattle.store_model.specs.declared.range.Mode.TheVariants.{Shared, Exclusive}
use Rattle.wal_record.specs.declared.page.PageState.{PageState}
use Rattle.wal_record.specs.declared.page.LeafRow.{LeafRow}
use Rattle.wal_record.specs.declared.page.Rows.{Rows}
use Rattle.wal_record.specs.declared.page.Rows.TheVariants.{Leaf, Branch}
use Rattle.wal_record.specs.declared.record.Split.{Split}
use Rattle.wal_record.specs.declared.record.Record.{Record}
use Rattle.wal_record.specs.declared.record.Record.TheVariants as kinds
use Rattle.wal_record.specs.declared.entry.Entry.{Entry}
use Rattle.wal_record.specs.declared.entry.Entry.TheVariants.{Rec, Lock, Refused, Said, Declined, Acked, Repaired, Began}
use Rattle.wal_record.specs.Chains.{pages, greatest}
use Rattle.wal_record.specs.OpenWrites.{open_writes, pending}
use Rattle.wal_record.specs.Contents.{current}
use Rattle.wal_record.specs.State.{text_of, leaf_rows}
use Rattle.wal_record.specs.Images.{image, applied, OnPage}
use Rattle.wal_record.specs.Upkeep.{written_lsn}
use Rattle.wal_record.specs.History.{phase, greatest_begun, last_begun}
use Rattle.wal_record.specs.Locks.{taken_locks, locks}
use Rattle.wal_record.specs.Legal.{untold, split_leaf, split_key, IsCrowded, MaySplit, IsAllowed}
use Rattle.wal_record.proofs.ExampleLogs.{grown_log, commit_apple, apple, x, one, a, b, c, format, put_apple, split_at_b, split_page_at_c, put_key}
use Rattle.wal_record.proofs.LegalExamples.{opening, began, lock_apple, wrote, said_put, commit_entered}

-- ---- beginning

-- the opening log names no transaction: the first number is 1; the next is 2
other_number : IsAllowed opening [] (Began 7 2) → ⊥
unfolding greatest greatest_begun along
other_number h = let e : ◌≡◌ {A = ℕ} 2 1 = h.rule.number in absurd cc

same_number : IsAllowed opening (began ∷ []) (Began 8 1) → ⊥
unfolding greatest greatest_begun along
same_number h = let e : ◌≡◌ {A = ℕ} 1 2 = h.rule.number in absurd cc

-- the session's transaction is live
busy_session : IsAllowed opening (began ∷ []) (Began 7 2) → ⊥
unfolding last_begun phase along
busy_session h = let e = h.rule.free in absurd cc

-- ---- locks

held_by_another : IsAllowed opening (began ∷ lock_apple ∷ Began 8 2 ∷ []) (Lock 2 (point apple) Shared) → ⊥
unfolding taken_locks locks open_writes along
held_by_another h = let e = h.rule.free 1 (λ e. absurd (omega (arith, e))) in absurd cc

lock_of_idle : IsAllowed opening [] (Lock 1 (point apple) Shared) → ⊥
unfolding phase along
lock_of_idle h = let e = h.rule.live in absurd cc

-- a refusal names who holds the lock, and the least of them
free_range : IsAllowed opening (began ∷ Began 8 2 ∷ []) (Refused 2 (point apple) Shared 1) → ⊥
unfolding phase taken_locks locks open_writes along
free_range h = let e = h.rule.holds in absurd cc

greater_holder : IsAllowed opening (began ∷ Began 8 2 ∷ Began 9 3 ∷ Lock 1 (point apple) Shared ∷ Lock 2 (point apple) Shared ∷ []) (Refused 3 (point apple) Exclusive 2) → ⊥
unfolding phase taken_locks locks open_writes along
greater_holder h = let e = h.rule.least 1 (λ e. absurd (omega (arith, e))) (omega arith) in absurd cc

-- nobody is in its own way
own_lock : IsAllowed opening (began ∷ lock_apple ∷ []) (Refused 1 (point apple) Exclusive 1) → ⊥
own_lock h = absurd (h.rule.other refl)

-- ---- records

other_lsn : IsAllowed opening (began ∷ lock_apple ∷ []) (Rec 3 put_apple) → ⊥
other_lsn h = let e : ◌≡◌ {A = ℕ} 3 2 = h.rule.place in absurd cc

-- a write without its lock, also where the lock is shared
unlocked : IsAllowed opening (began ∷ []) wrote → ⊥
unfolding taken_locks locks open_writes along
unlocked h = let e = h.rule.rule.1 in absurd cc

shared_lock : IsAllowed opening (began ∷ Lock 1 (point apple) Shared ∷ []) wrote → ⊥
unfolding taken_locks locks open_writes along
shared_lock h = let e = h.rule.rule.1 in absurd cc

commit_of_idle : IsAllowed (opening ++ put_apple ∷ []) [] commit_entered → ⊥
unfolding phase along
commit_of_idle h = let e = h.rule.rule in absurd cc

-- Write, Commit, Said
commit_before_said : IsAllowed opening (began ∷ lock_apple ∷ wrote ∷ []) commit_entered → ⊥
unfolding untold along
commit_before_said h = let e = h.rule.told in absurd cc

-- ---- replies

-- a Put without its Write
said_alone : IsAllowed opening (began ∷ lock_apple ∷ []) said_put → ⊥
unfolding untold along
said_alone h = absurd h.rule.answer

-- another value than the write's
said_other : IsAllowed opening (began ∷ lock_apple ∷ wrote ∷ []) (Said 7 1 (requests.Put apple []) (replies.Was None)) → ⊥
unfolding untold along
said_other h = let e : Some one ≡ Some [] = h.rule.answer.1.1 in absurd cc

-- another session
said_elsewhere : IsAllowed opening (began ∷ lock_apple ∷ wrote ∷ []) (Said 8 1 (requests.Put apple one) (replies.Was None)) → ⊥
said_elsewhere h = let e = h.rule.owner in absurd cc

-- directly after a write not even a Del of an absent key is told
del_after_write : IsAllowed opening (began ∷ lock_apple ∷ wrote ∷ []) (Said 7 1 (requests.Del x) (replies.Was None)) → ⊥
unfolding untold along
del_after_write h = let e : Some one ≡ None = h.rule.answer.1.1 in absurd cc

-- a value that isn't there
invented : IsAllowed opening (began ∷ lock_apple ∷ []) (Said 7 1 (requests.Get apple) (replies.Found (Some one))) → ⊥
unfolding untold current along
invented h = let e : replies.Found (Some one) ≡ replies.Found None = h.rule.answer.1 ∙ ap replies.Found (get-empty _ apple) in absurd cc

-- a scan whose range lies in no one lock, though two locks together cover it
abbrev to : List ℕ → List ℕ → Interval
to low high = record { low = Some low; high = Some high }

scan_of_two_locks : IsAllowed opening (began ∷ Lock 1 (to a b) Shared ∷ Lock 1 (to b c) Shared ∷ []) (Said 7 1 (requests.Scan (to a c)) (replies.Pairs [])) → ⊥
unfolding untold taken_locks locks open_writes along
scan_of_two_locks h = let e = h.rule.answer.0 in absurd cc

-- ---- refusals

-- there is room
not_full : IsAllowed opening (began ∷ lock_apple ∷ []) (Declined 7 1 (requests.Put apple one) (outcomes.Full 1 0)) → ⊥
unfolding pages pending greatest open_writes along
not_full h = absurd (omega (arith, h.rule.cause.2))

-- the operator has a value
has_meaning : IsAllowed opening (began ∷ lock_apple ∷ []) (Declined 7 1 (requests.Apply 3 apple one) outcomes.OpRefused) → ⊥
unfolding current along
has_meaning h = let e : Some one ≡ None = ap (λ v. meaning 3 v one) (sym (get-empty _ apple)) ∙ h.rule.cause in absurd cc

no_reason : IsAllowed opening (began ∷ lock_apple ∷ []) (Declined 7 1 (requests.Put apple one) outcomes.OpRefused) → ⊥
no_reason h = absurd h.rule.cause

-- by another session than its own, of a transaction that isn't live, and without the lock
declined_elsewhere : IsAllowed opening (began ∷ lock_apple ∷ []) (Declined 8 1 (requests.Apply 1 apple x) outcomes.OpRefused) → ⊥
declined_elsewhere h = let e = h.rule.owner in absurd cc

declined_after_commit : IsAllowed opening (began ∷ lock_apple ∷ wrote ∷ said_put ∷ commit_entered ∷ []) (Declined 7 1 (requests.Apply 1 apple x) outcomes.OpRefused) → ⊥
unfolding phase along
declined_after_commit h = let e = h.rule.live in absurd cc

declined_unlocked : IsAllowed opening (began ∷ []) (Declined 7 1 (requests.Apply 1 apple x) outcomes.OpRefused) → ⊥
unfolding taken_locks locks open_writes along
declined_unlocked h = let e = h.rule.locked in absurd cc

-- a Del of an absent key writes nothing, so it needs no room
full_without_write : IsAllowed opening (began ∷ lock_apple ∷ []) (Declined 7 1 (requests.Del apple) (outcomes.Full 1 0)) → ⊥
unfolding current along
full_without_write h = let e : false ≡ true = ap is_some (sym (get-empty _ apple)) ∙ h.rule.cause.3 in absurd cc

-- ---- the end

not_committed : IsAllowed opening (began ∷ []) (Acked 7 1) → ⊥
unfolding phase along
not_committed h = let e = h.rule.committed in absurd cc

acknowledged_twice : IsAllowed opening (began ∷ lock_apple ∷ wrote ∷ said_put ∷ commit_entered ∷ Acked 7 1 ∷ []) (Acked 7 1) → ⊥
unfolding phase along
acknowledged_twice h = let e = h.rule.committed in absurd cc

never_written : IsAllowed opening [] (Repaired 1) → ⊥
unfolding written_lsn along
never_written h = absurd (omega (arith, h.rule.image))

-- ---- splits

abbrev three_rows : List Record
three_rows = format ∷ put_key a 0 1 ∷ put_key b 2 2 ∷ put_key c 3 3 ∷ []

splits_at : (x : Split) (img : Option PageState) → OnPage (MaySplit x) img → x.child_state.low ≡ option_and_then (λ (s : PageState). split_key s.rows) img
splits_at x img h = h.2.at ∙ ap (option_and_then (λ (s : PageState). split_key s.rows)) (sym h.1)

abbrev first_byte : Option (List ℕ) → ℕ
first_byte t = get_or (text_of t) 0 0

-- of three equal rows two stay: the split point is c, not b
split_at : IsAllowed three_rows [] (Rec 5 split_at_b) → ⊥
unfolding image applied along
split_at h = let e : 98 ≡ 99 = ap first_byte (splits_at _ (image three_rows 1) h.rule.rule) in absurd (omega (arith, e))

-- a tombstone is purged first
abbrev with_tombstone : List Record
with_tombstone = three_rows ++ kinds.Write (record { tx = 1; prev = 4; page = 1; page_prev = 4; key = a; old = Some one; new = None }) ∷ []

no_tombstone : (x : Split) (img : Option PageState) → OnPage (MaySplit x) img → option_map_or (λ (s : PageState). list_any (λ (row : LeafRow). row.tombstone) (leaf_rows s.rows)) img false ≡ false
no_tombstone x img h = ap (λ (i : Option PageState). option_map_or (λ (s : PageState). list_any (λ (row : LeafRow). row.tombstone) (leaf_rows s.rows)) i false) h.1 ∙ none h.0.rows h.0 h.2.crowded
  where
    none : (rows : Rows) (s : PageState) → IsCrowded rows s → list_any (λ (row : LeafRow). row.tombstone) (leaf_rows rows) ≡ false
    none (Leaf rows) s h = h
    none (Branch rows) s h = refl

not_purged : IsAllowed with_tombstone [] (Rec 6 split_page_at_c) → ⊥
unfolding image applied along
not_purged h = let e = no_tombstone _ (image with_tombstone 1) h.rule.rule in absurd cc

-- after the split of a leaf nothing else comes before its write, and none that would have fitted
began_after_split : IsAllowed three_rows (Rec 5 split_page_at_c ∷ []) (Began 7 2) → ⊥
unfolding split_leaf image applied along
began_after_split h = absurd h.split

would_fit : IsAllowed three_rows (Rec 5 split_page_at_c ∷ []) (Rec 6 (put_key apple 4 5)) → ⊥
unfolding split_leaf image applied along
would_fit h = let e = h.split.full in absurd cc

-- a branch with room for every row isn't split
abbrev root : PageState
root = record { level = 1; low = Some []; high = None; foster = None; rows = Branch (record { low = Some []; child = 4 } ∷ []) }

root_is : image grown_log 1 ≡ Some root
unfolding image applied along
root_is = refl

abbrev split_root : Record
split_root = kinds.Split (record { page = 1; page_prev = 7; child = 5; child_state = root })

crowded_root : (x : Split) → OnPage (MaySplit x) (Some root) → IsCrowded root.rows root
crowded_root x h = let e : h.0 ≡ root = ap (λ (o : Option PageState). unwrap_or o root) (sym h.1) in subst (λ (s : PageState). IsCrowded s.rows s) e h.2.crowded

not_crowded : IsAllowed grown_log [] (Rec 8 split_root) → ⊥
not_crowded h = let e = crowded_root _ (subst (OnPage (MaySplit _)) root_is h.rule.rule) in absurd (omega (arith, e))

-- ---- numbers of transactions

-- a transaction that is neither live nor a loser undoes nothing
stranger : IsAllowed (opening ++ put_apple ∷ commit_apple ∷ []) [] (Rec 4 (kinds.Undo (record { tx = 1; prev = 3; page = 1; page_prev = 2; key = apple; restores = None; undo_next = 0 }))) → ⊥
unfolding phase open_writes along
stranger h = elim h.rule.rule [ inl live ↦ absurd cc | inr loser ↦ absurd cc ]

-- at most 64 transactions are live
abbrev begun : ℕ → List Entry
begun zero = []
begun (suc n) = begun n ++ Began n (suc n) ∷ []

one_too_many : IsAllowed opening (begun 64) (Began 64 65) → ⊥
unfolding phase along
one_too_many h = let e : 64 < 64 = h.rule.room in absurd (omega (arith, e))
