-- What the bytes of a log disk are where its log is opened, and where it isn't, whatever they stood for.
use Rattle.std.specs.Prelude.{◌≡◌, ◌⊎◌, ℕ, List, []}
use Rattle.log_analysis.specs.Analysed.{IsNotAnalysed}
use Rattle.log_blocks.specs.Log.{Block, StandsFor}
use Rattle.log_blocks.specs.LogState.{LogState, IsDurable}
use Rattle.log_blocks.specs.Opening.{IsBadAt}
use Rattle.media.specs.Crash.{NoMore, Only}
use Rattle.media.specs.Kept.{Kept}
use Rattle.store_model.specs.declared.fault.Fault.TheVariants.{LogBad}
use Rattle.opening.specs.declared.reading.WhyNot.{WhyNot}
use Rattle.opening.specs.declared.reading.WhyNot.TheVariants as causes

-- the disk stood for these blocks, and the open log has them
abbrev pub IsRead : {D : Type 0} → (D → Kept) → (D → Kept → Type 0) → D → LogState D → Type 0
IsRead told may_leave disk log = (bs : List Block) × StandsFor bs (told disk) × IsDurable told may_leave log bs

-- At this block and byte the kept bytes are bad: an open gate stands before bytes that are no block, or, where they stand
-- for blocks, these are the blocks of no log.
abbrev pub IsBadLog : ℕ → ℕ → Kept → Type 0
IsBadLog block byte k = IsBadAt block byte k ⊎ ((bs : List Block) × StandsFor bs k × IsNotAnalysed bs (LogBad block byte))

-- Where no log is opened since it has no record, the bytes are those of the empty log; where a block is named, it is bad.
abbrev pub ShowsWhy : Kept → WhyNot → Type 0
ShowsWhy k causes.NotFormatted = StandsFor [] k
ShowsWhy k (causes.Fault (LogBad block byte)) = IsBadLog block byte k
ShowsWhy k (causes.Fault fault) = Unit {0}

-- No byte changed, and a crash leaves nothing else; or the disk stood for these blocks, and keeps them whatever crash
-- comes now.
abbrev pub StaysSame : {D : Type 0} → (D → Kept) → (D → Kept → Type 0) → D → D → Type 0
StaysSame told may_leave old new = ((told new ≡ told old) × NoMore may_leave old new)
    ⊎ ((bs : List Block) × StandsFor bs (told old) × StandsFor bs (told new) × Only (told new) (may_leave new))
