-- What a judge of records keeps of a lawful log.
use Rattle.std.specs.Prelude.{◌≡◌, ◌++◌, ◌∷◌, [], List, Option, Some, None, Bool, true, false}
use Rattle.wal_record.specs.Contents.{current}
use Rattle.wal_record.specs.Sound.{AreLawful, IsLawful, PlaceRule}
use Rattle.wal_record.specs.declared.record.Record.{Record}
use Rattle.log_index.specs.Listing.{IsListingOf}
use Rattle.log_index.specs.Listing as listings
use Rattle.reply_judge.specs.Contents.{IsContentsOf}
use Rattle.chain_judge.specs.Chains.{AreChainsOf}
use Rattle.chain_judge.specs.Chains as chains
use Rattle.page_judge.specs.Images.{AreApplicable, AreImagesOf, HasPlace, IsMadeBy}
use Rattle.page_judge.specs.Names.{AreNamesOf}
use Rattle.page_judge.specs.declared.changed.Changed.{Changed}
use Rattle.upkeep_judge.specs.Backups.{AreBackupsOf}
use Rattle.record_judge.specs.declared.judge.RecordJudge.{RecordJudge}

-- the judge has come to the end of this log, which is lawful
pub record IsRecordJudgeOf (log : List Record) (j : RecordJudge) : Type 0 where
  pub lawful : AreLawful log
  pub listing : IsListingOf log j.listing
  pub contents : IsContentsOf (current log) j.contents
  pub chains : AreChainsOf log j.chains
  pub images : AreImagesOf log j.images
  pub names : AreNamesOf log j.names
  pub backups : AreBackupsOf log j.backups

-- the current contents and the last backup are those of this log
pub record HasContents (log : List Record) (j : RecordJudge) : Type 0 where
  pub contents : IsContentsOf (current log) j.contents
  pub backups : AreBackupsOf log j.backups

-- the record is lawful, and this is what it makes of the pages that it names; or it isn't
abbrev pub IsVerdict : List Record → Record → Option Changed → Type 0
IsVerdict log r None = IsLawful log r → ⊥
IsVerdict log r (Some x) = IsLawful log r × IsMadeBy log r x

-- true where the record is lawful, and the judge has come behind it; false where it isn't, and nothing has changed
abbrev pub IsStep : List Record → Record → RecordJudge → RecordJudge → Bool → Type 0
IsStep log r old new true = IsLawful log r × IsRecordJudgeOf (log ++ r ∷ []) new
IsStep log r old new false = (IsLawful log r → ⊥) × (new ≡ old)

-- the judge of this log, which is lawful; or the log isn't
abbrev pub IsRead : List Record → Option RecordJudge → Type 0
IsRead log None = AreLawful log → ⊥
IsRead log (Some j) = IsRecordJudgeOf log j

-- ---- on the way

-- there is room for what the record adds
pub record IsReady (r : Record) (x : Changed) (j : RecordJudge) : Type 0 where
  pub listing : listings.IsReady r j.listing
  pub chains : chains.IsReady r j.chains
  pub first : HasPlace j.images.places x.first
  pub second : HasPlace j.images.places x.second

-- the contents, the backups and the names have the record already, and the others don't
pub record IsChanging (log : List Record) (r : Record) (j : RecordJudge) : Type 0 where
  pub lawful : AreLawful log
  pub listing : IsListingOf log j.listing
  pub chains : AreChainsOf log j.chains
  pub images : AreImagesOf log j.images
  pub names : AreNamesOf (log ++ r ∷ []) j.names
  pub contents : HasContents (log ++ r ∷ []) j

-- the record is applicable to its pages and in its place, and this is what it makes of them; or it isn't
abbrev pub IsPlaced : List Record → Record → Option Changed → Type 0
IsPlaced log r None = AreApplicable log r → PlaceRule log r → ⊥
IsPlaced log r (Some x) = AreApplicable log r × PlaceRule log r × IsMadeBy log r x
