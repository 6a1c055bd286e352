-- A log and its listing, and of which records they are.
use Rattle.std.specs.Prelude.{◌≡◌, ℕ, suc, List, [], ◌∷◌, ◌++◌, length, None, Bool, false}
use Rattle.media.specs.Kept.{Kept}
use Rattle.log_blocks.specs.LogState.{LogState}
use Rattle.log_index.specs.GoingOn.{KnowsLast}
use Rattle.log_index.specs.Listing.{IsListingOf, IsReady}
use Rattle.log_index.specs.Ready.{is_upkeep, makes_page}
use Rattle.log_index.specs.declared.listing.Listing.{Listing}
use Rattle.log_manager.specs.Managed.{Managed}
use Rattle.log_manager.specs.Records.{IsLogOf}
use Rattle.wal_record.specs.Chains.{link_of}
use Rattle.wal_record.specs.Checkpoints.{last_checkpoint}
use Rattle.wal_record.specs.Sound.{AreLawful}
use Rattle.wal_record.specs.declared.record.Record.{Record}

-- The blocks hold the last of these records: those that are stable, and those that wait for a flush. The first ones were
-- forgotten, and of these too the headers name the last Checkpoint.
pub record HoldsEnd {D : Type 0} (told : D → Kept) (may_leave : D → Kept → Type 0) (log : LogState D) (rs : List Record) : Type 0 where
  pub forgotten : List Record
  pub stable : List Record
  pub waiting : List Record
  pub is : rs ≡ forgotten ++ (stable ++ waiting)
  pub blocks : IsLogOf told may_leave log (last_checkpoint forgotten) stable waiting

-- The log has these records, until a device call fails, and the listing is theirs. It knows the last record of each of
-- these transactions that goes on.
pub record IsLogWith {D : Type 0} (tells : Type 0) (told : D → Kept) (may_leave : D → Kept → Type 0) (goes : ℕ → Bool) (rs : List Record) (m : Managed D) (s : Listing) : Type 0 where
  pub lawful : AreLawful rs
  pub listing : IsListingOf rs s
  pub noted : KnowsLast goes rs s
  pub next : m.log.next ≡ suc (length rs)
  pub records : tells → m.log.ended ≡ None → HoldsEnd told may_leave m.log rs

-- two records may stand together: the first names no transaction, only it may make a page, and neither changes segments or
-- runs as a whole. So what was made ready for the second stays so as the first is noted.
abbrev pub Joins : List Record → Type 0
Joins [] = Unit {0}
Joins (r ∷ []) = Unit {0}
Joins (r ∷ q ∷ []) = (link_of r ≡ None) × (is_upkeep r ≡ false) × (makes_page q ≡ false) × (is_upkeep q ≡ false)
Joins _ = ⊥

-- what they need stands ready
abbrev pub AreReady : List Record → Listing → Type 0
AreReady (r ∷ []) s = IsReady r s
AreReady (r ∷ q ∷ []) s = IsReady r s × IsReady q s
AreReady _ s = Unit {0}
