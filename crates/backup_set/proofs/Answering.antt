-- An image that stands at a place is one of those that the head counts.
use Rattle.std.proofs.Common.{◌≡◌, inl, inr, ℕ, ◌+◌, ◌*◌, ◌^◌, ◌<◌, List, [], take, drop, sym, ap, ◌∙◌, arith, Option, Some, None, Result, Ok, Err}
use Rattle.std.specs.Prelude.{IfErr, IfOk, IfSome, IsTrue}
use Rattle.std.proofs.lemmas.List.{take-take}
use Rattle.wal_record.specs.Rules.{is_number}
use Rattle.wal_record.specs.State.{KeepsState}
use Rattle.page_image.specs.Image.{image_bytes}
use Rattle.page_image.specs.declared.sealed.Sealed.{Sealed}
use Rattle.store_model.specs.declared.fault.Fault.{Fault}
use Rattle.store_model.specs.declared.fault.Fault.TheVariants as faults
use Rattle.vault_objects.specs.Causes.{FailsAtVault}
use Rattle.backup_set.specs.Answers.{FailsToFind, GivesCopy, HasAt, HasImage, IsBad, IsToldBad}
use Rattle.backup_set.specs.Backup.{IsAmong, IsBackup}
use Rattle.backup_set.specs.Reading.{head_at}
use Rattle.backup_set.specs.declared.copy.PageCopy.{PageCopy}
use Rattle.backup_set.proofs.Walking.{found_is, no_fault, not_lacking}

pub has_image : (backup segment page count place : ℕ) (bytes : List ℕ) (r : Result (Option Sealed) Fault) → head_at backup segment (take 20 bytes) ≡ Ok (count, []) → place < count → IfOk r (λ found. IfSome found (HasAt page bytes place))
    → IfOk r (λ found. IfSome found (HasImage backup segment page bytes))
has_image backup segment page count place bytes (Err e) head lt at = tt
has_image backup segment page count place bytes (Ok None) head lt at = tt
has_image backup segment page count place bytes (Ok (Some x)) head lt at = record { count = count; head = head; place = place; counted = lt; here = at }

-- an image that stands at its place in the bytes that were read
pub in_place : (backup segment page count place : ℕ) (bytes head image front : List ℕ) (x : Sealed) → head ≡ take 20 bytes → image ≡ take 4096 (drop (20 + 4096 * place) bytes) → front ≡ take 4096 image → head_at backup segment (take 20 head) ≡ Ok (count, []) → place < count
    → KeepsState x.state × IsTrue (is_number x.lsn) × (front ≡ image_bytes page x.lsn x.state) → HasImage backup segment page bytes x
in_place backup segment page count place bytes head image front x begins there first counts counted found = record {
  count = count;
  head = ap (head_at backup segment) (sym (take-take 20 20 bytes (omega arith)) ∙ ap (take 20) (sym begins)) ∙ counts;
  place = place;
  counted = counted;
  here = record { image = sym (take-take 4096 4096 (drop (20 + 4096 * place) bytes) (omega arith)) ∙ ap (take 4096) (sym there) ∙ sym first ∙ found.2; state = found.0; lsn = found.1 };
}

-- what is answered of an object in its form that has the page
pub gives_copy : (tells : Type 0) (backup segment page before now : ℕ) (bytes : List ℕ) (r : Result Sealed Fault) → tells → backup < 2 ^ 64 → segment < 2 ^ 32 → page < 2 ^ 32 → IfOk r (HasImage backup segment page bytes) → IfErr r (FailsAtVault (IsToldBad tells backup segment page bytes) before now)
    → (copies : List PageCopy) → IsBackup backup segment copies bytes → (c : PageCopy) → IsAmong c copies → c.page ≡ page → GivesCopy c r
gives_copy tells backup segment page before now bytes (Ok x) t b s p held refused copies is c among named = found_is backup segment b s copies bytes is page x c p held among named
gives_copy tells backup segment page before now bytes (Err faults.Memory) t b s p held refused copies is c among named = tt
gives_copy tells backup segment page before now bytes (Err faults.VaultFault) t b s p held refused copies is c among named = tt
gives_copy tells backup segment page before now bytes (Err (faults.VaultBad object byte)) t b s p held refused copies is c among named =
    absurd (elim (refused.cause t).cause [
      | inl fault ↦ no_fault backup segment b s copies bytes is byte fault
      | inr lacks ↦ not_lacking backup segment page byte b s copies bytes is c among named lacks
    ])
gives_copy tells backup segment page before now bytes (Err faults.LogFault) t b s p held refused copies is c among named = absurd refused
gives_copy tells backup segment page before now bytes (Err (faults.Ended at)) t b s p held refused copies is c among named = absurd refused
gives_copy tells backup segment page before now bytes (Err (faults.Conflict holder range at)) t b s p held refused copies is c among named = absurd refused
gives_copy tells backup segment page before now bytes (Err faults.TooManyActive) t b s p held refused copies is c among named = absurd refused
gives_copy tells backup segment page before now bytes (Err (faults.Full pages pending at)) t b s p held refused copies is c among named = absurd refused
gives_copy tells backup segment page before now bytes (Err faults.NotActive) t b s p held refused copies is c among named = absurd refused
gives_copy tells backup segment page before now bytes (Err (faults.LogBad block byte)) t b s p held refused copies is c among named = absurd refused
gives_copy tells backup segment page before now bytes (Err faults.NotFormatted) t b s p held refused copies is c among named = absurd refused
gives_copy tells backup segment page before now bytes (Err (faults.OpRefused at)) t b s p held refused copies is c among named = absurd refused
gives_copy tells backup segment page before now bytes (Err faults.SourceFault) t b s p held refused copies is c among named = absurd refused
gives_copy tells backup segment page before now bytes (Err faults.SinkFault) t b s p held refused copies is c among named = absurd refused
gives_copy tells backup segment page before now bytes (Err faults.AlreadyFormatted) t b s p held refused copies is c among named = absurd refused

-- the same of an object whose bytes are at hand
pub bad_told : {T : Type 0} (backup segment page : ℕ) (bytes : List ℕ) (r : Result T Fault) → IfErr r (FailsToFind (IsBad backup segment page bytes)) → IfErr r (FailsAtVault (IsToldBad (Unit {0}) backup segment page bytes) 0 0)
bad_told backup segment page bytes (Ok x) refused = tt
bad_told backup segment page bytes (Err faults.Memory) refused = tt
bad_told backup segment page bytes (Err (faults.VaultBad object byte)) refused = record { named = refused.named; cause = λ t. refused }
bad_told backup segment page bytes (Err _) refused = absurd refused
