-- Records of blocks, and LSNs.
use Rattle.std.proofs.Common.{◌≡◌, ℕ, ◌+◌, List, [], ◌∷◌, ◌++◌, refl, ap, ◌∙◌, arith, length, length-append, map}
use Rattle.std.specs.Prelude.{slice_index_or}
use Rattle.media.specs.Kept.{Kept}
use Rattle.log_blocks.specs.declared.header.Place.{Place}
use Rattle.log_blocks.specs.Log.{Block, IsRun, next_lsn}
use Rattle.log_blocks.specs.LogState.{AreNumbered, LogState, lsn_behind, durable_lsn}
use Rattle.log_manager.specs.Managed.{first_kept}
use Rattle.log_manager.specs.Records.{AreIn, IsLogOf}
use Rattle.wal_record.specs.declared.record.Record.{Record}
use Rattle.life_commands.specs.LogDisk.{lsn_from}

-- ---- places

-- the pending blocks go on behind the durable ones
pub first_kept_is : {D : Type 0} (log : LogState D) → AreNumbered log → first_kept log ≡ lsn_from log.places
first_kept_is log n = by log.places log.pending n.run n.next
  where
    by : (ps : List Place) (bs : List Block) → IsRun (lsn_behind ps) bs → log.next ≡ next_lsn (lsn_behind ps) bs → slice_index_or (map (λ p. p.first) ps ++ map (λ b. b.first) bs) 0 log.next ≡ lsn_from ps
    by [] [] run next = next
    by [] (b ∷ bs) run next = run.0
    by (p ∷ ps) bs run next = refl

-- ---- how many records

next_of : (n k : ℕ) (bs : List Block) (rs : List Record) → AreIn k bs rs → next_lsn n bs ≡ n + length rs
next_of n k [] rs none = omega (arith, ap length none)
next_of n k (b ∷ bs) rs (own, more, whole, holds, rest) = next_of (n + b.count) b.checkpoint bs more rest ∙ omega (arith, holds.records.count_is, ap length whole, length-append own more)

-- behind the durable records come those that wait
pub next_is : {D : Type 0} (told : D → Kept) (may_leave : D → Kept → Type 0) (log : LogState D) (stable waiting : List Record) → IsLogOf told may_leave log 0 stable waiting → log.next ≡ durable_lsn log.places + length waiting + 1
next_is told may_leave log stable waiting h = h.numbered.next ∙ next_of (lsn_behind log.places) _ log.pending waiting h.more ∙ omega arith
