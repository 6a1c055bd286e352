-- Refusals that are legal: of a range that another transaction has locked, of a write for want of room, and of an
-- operator that gives no value.
use Rattle.std.proofs.Common.{◌≡◌, ◌≢◌, ℕ, ◌<◌, zero, suc, false, List, [], ◌∷◌, refl, ap, arith}
use Rattle.std.specs.FinMap.{get-empty}
use Rattle.std.specs.Fmt.{digits}
use Rattle.store_model.specs.Along.{along}
use Rattle.store_model.specs.Range.{point}
use Rattle.store_model.specs.Operator.{meaning}
use Rattle.store_model.specs.declared.request.Request.TheVariants as requests
use Rattle.store_model.specs.declared.reply.Outcome.TheVariants as outcomes
use Rattle.store_model.specs.declared.range.Mode.TheVariants.{Shared, Exclusive}
use Rattle.wal_record.specs.declared.record.Record.{Record}
use Rattle.wal_record.specs.declared.record.Record.TheVariants as kinds
use Rattle.wal_record.specs.declared.entry.Entry.{Entry}
use Rattle.wal_record.specs.declared.entry.Entry.TheVariants.{Lock, Refused, Declined, Began}
use Rattle.wal_record.specs.Chains.{pages, greatest}
use Rattle.wal_record.specs.OpenWrites.{open_writes, pending}
use Rattle.wal_record.specs.Contents.{current}
use Rattle.wal_record.specs.History.{phase}
use Rattle.wal_record.specs.Locks.{taken_locks, locks, blocks}
use Rattle.wal_record.specs.Legal.{untold, split_leaf, held, IsAllowed}
use Rattle.wal_record.proofs.ExampleLogs.{apple, x, y, one, put_x}
use Rattle.wal_record.proofs.LegalExamples.{opening, began, lock_apple}

-- transaction 1 reads x, and 2 may not write it
abbrev shared_x : List Entry
shared_x = Began 7 1 ∷ Lock 1 (point x) Shared ∷ Began 8 2 ∷ []

none_before : (other : ℕ) → other ≢ 2 → other < 1 → blocks opening shared_x (held (point x) Exclusive) other ≡ false
unfolding phase taken_locks locks open_writes along
none_before zero n l = refl
none_before (suc k) n l = absurd (omega (arith, l))

refused_legal : IsAllowed opening shared_x (Refused 2 (point x) Exclusive 1)
unfolding untold split_leaf phase taken_locks locks open_writes along
refused_legal = record { split = tt; rule = record { told = refl; live = refl; other = λ e. absurd (omega (arith, e)); holds = refl; least = none_before } }

-- one page and six pending writes: the limit of 8 has no room for a page and a write more
abbrev narrow : List Record
narrow = kinds.Format (record { limit = 8 }) ∷ put_x ∷ put_x ∷ put_x ∷ put_x ∷ put_x ∷ put_x ∷ []

full_legal : IsAllowed narrow (Began 7 2 ∷ Lock 2 (point y) Exclusive ∷ []) (Declined 7 2 (requests.Put y one) (outcomes.Full 1 6))
unfolding untold split_leaf phase taken_locks locks open_writes current pages pending greatest along
full_legal = record { split = tt; rule = record { told = refl; owner = refl; live = refl; locked = refl; cause = (refl, refl, omega arith, tt) } }

-- the text x is no number, so it can't be added
no_number_legal : IsAllowed opening (began ∷ lock_apple ∷ []) (Declined 7 1 (requests.Apply 1 apple x) outcomes.OpRefused)
unfolding untold split_leaf phase taken_locks locks open_writes current along digits
no_number_legal = record { split = tt; rule = record { told = refl; owner = refl; live = refl; locked = refl; cause = ap (λ old. meaning 1 old x) (get-empty _ apple) } }
