-- The judge behind one record more.
use Rattle.std.proofs.Common.{◌≡◌, ◌<◌, ◌^◌, List, [], ◌∷◌, ◌++◌, length, length-append, sym, subst, arith, Result, Ok, Err}
use Rattle.std.specs.Result.{OnErr}
use Rattle.wal_record.specs.Contents.{after, current}
use Rattle.wal_record.specs.Sound.{IsLawful}
use Rattle.wal_record.specs.declared.record.Record.{Record}
use Rattle.wal_record.proofs.Pushes.{current_push, lawful_back}
use Rattle.log_index.specs.Listing.{IsListingOf}
use Rattle.reply_judge.specs.Contents.{IsContentsOf}
use Rattle.reply_judge.specs.declared.contents.CurrentContents.{CurrentContents}
use Rattle.chain_judge.specs.Chains.{AreChainsOf}
use Rattle.page_judge.specs.Images.{AreImagesOf}
use Rattle.page_judge.specs.Names.{AreNamesOf}
use Rattle.page_judge.specs.declared.changed.Changed.{Changed}
use Rattle.upkeep_judge.specs.Backups.{AreBackupsOf}
use Rattle.upkeep_judge.specs.declared.backups.Backups.{Backups}
use Rattle.upkeep_judge.proofs.Keeping.{kept_other}
use Rattle.wal_record.specs.declared.record.BackupDone.{BackupDone}
use Rattle.wal_record.specs.declared.record.Commit.{Commit}
use Rattle.wal_record.specs.declared.record.End.{End}
use Rattle.wal_record.specs.declared.record.Record.TheVariants as kinds
use Rattle.record_judge.specs.Judging.{HasContents, IsChanging, IsReady, IsRecordJudgeOf}
use Rattle.record_judge.specs.declared.judge.RecordJudge.{RecordJudge}

-- all parts have come behind the record
pub behind : (log : List Record) (r : Record) (old new : RecordJudge) → IsChanging log r old → IsLawful log r → IsListingOf (log ++ r ∷ []) new.listing → AreChainsOf (log ++ r ∷ []) new.chains → AreImagesOf (log ++ r ∷ []) new.images
    → new.contents ≡ old.contents → new.names ≡ old.names → new.backups ≡ old.backups → IsRecordJudgeOf (log ++ r ∷ []) new
behind log r old new k lawful listing chains images contents names backups = record {
  lawful = lawful_back log r k.lawful lawful;
  listing = listing;
  contents = subst (λ x. IsContentsOf (current (log ++ r ∷ [])) x) (sym contents) k.contents.contents;
  chains = chains;
  images = images;
  names = subst (λ x. AreNamesOf (log ++ r ∷ []) x) (sym names) k.names;
  backups = subst (λ x. AreBackupsOf (log ++ r ∷ []) x) (sym backups) k.contents.backups;
}

-- ---- on the way

module _ (old new : RecordJudge) (e : new ≡ record old { contents = new.contents; backups = new.backups }) where
  pub ready_still : (r : Record) (x : Changed) → IsReady r x old → IsReady r x new
  ready_still r x k = subst (IsReady r x) (sym e) (record { listing = k.listing; chains = k.chains; first = k.first; second = k.second })

  pub changing : (log : List Record) (r : Record) → IsRecordJudgeOf log old → AreNamesOf (log ++ r ∷ []) old.names → HasContents (log ++ r ∷ []) new → IsChanging log r new
  changing log r k names contents = record {
    lawful = k.lawful;
    listing = subst (λ (j : RecordJudge). IsListingOf log j.listing) (sym e) k.listing;
    chains = subst (λ (j : RecordJudge). AreChainsOf log j.chains) (sym e) k.chains;
    images = subst (λ (j : RecordJudge). AreImagesOf log j.images) (sym e) k.images;
    names = subst (λ (j : RecordJudge). AreNamesOf (log ++ r ∷ []) j.names) (sym e) names;
    contents = contents;
  }

  -- where memory ran out
  pub unchanged : (log : List Record) → IsRecordJudgeOf log old → HasContents log new → IsRecordJudgeOf log new
  unchanged log k now = record {
    lawful = k.lawful;
    listing = subst (λ (j : RecordJudge). IsListingOf log j.listing) (sym e) k.listing;
    contents = now.contents;
    chains = subst (λ (j : RecordJudge). AreChainsOf log j.chains) (sym e) k.chains;
    images = subst (λ (j : RecordJudge). AreImagesOf log j.images) (sym e) k.images;
    names = subst (λ (j : RecordJudge). AreNamesOf log j.names) (sym e) k.names;
    backups = now.backups;
  }

pub grown : (log : List Record) (r : Record) → length (log ++ r ∷ []) < 2 ^ 63 → length log < 2 ^ 63
grown log r small = let l = length-append log (r ∷ []) in omega (arith, l, small)

-- ---- contents and backups

pub contents_of : (log : List Record) (j : RecordJudge) → IsRecordJudgeOf log j → HasContents log j
contents_of log j k = record { contents = k.contents; backups = k.backups }

-- what the record makes of the contents
pub contents_more : (log : List Record) (r : Record) (x : CurrentContents) → IsContentsOf (after (current log) r) x → IsContentsOf (current (log ++ r ∷ [])) x
contents_more log r x k = subst (λ m. IsContentsOf m x) (sym (current_push log r)) k

pub on_err : {T E P : Type 0} (r : Result T E) → P → OnErr r P
on_err (Ok x) p = tt
on_err (Err e) p = p

pub backups_still : (log : List Record) (r : Record) (x : Backups) → AreBackupsOf log x → ((b : BackupDone) → r ≡ kinds.BackupDone b → ⊥) → AreBackupsOf (log ++ r ∷ []) x
unfolding AreBackupsOf
backups_still log r x k other = kept_other log x.number x.segments k r other

-- a Commit and an End change neither
module _ (log : List Record) where
  pub over_commit : (x : Commit) (j : RecordJudge) → HasContents log j → HasContents (log ++ kinds.Commit x ∷ []) j
  over_commit x j k = record { contents = contents_more log (kinds.Commit x) j.contents k.contents; backups = backups_still log (kinds.Commit x) j.backups k.backups (λ b is. absurd (cc is)) }

  pub over_end : (x : End) (j : RecordJudge) → HasContents log j → HasContents (log ++ kinds.End x ∷ []) j
  over_end x j k = record { contents = contents_more log (kinds.End x) j.contents k.contents; backups = backups_still log (kinds.End x) j.backups k.backups (λ b is. absurd (cc is)) }
