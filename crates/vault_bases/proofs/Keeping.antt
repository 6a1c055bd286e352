-- What a life's backups have, as its log goes on.
use Rattle.std.proofs.Common.{◌≡◌, ℕ, List, ◌++◌, sym, ap, subst, ◌∙◌}
use mathlib.Core.List.{IsPrefix}
use Rattle.store_model.specs.declared.object.ObjectName.{ObjectName}
use Rattle.wal_record.specs.History.{life_log, log_of}
use Rattle.wal_record.specs.Upkeep.{segment_of}
use Rattle.wal_record.specs.declared.record.Record.{Record}
use Rattle.wal_record.specs.declared.entry.Entry.{Entry}
use Rattle.page_image.specs.declared.sealed.Sealed.{Sealed}
use Rattle.page_ops.proofs.Staying.{longer_log}
use Rattle.backup_set.specs.Backup.{backup_name}
use Rattle.backup_set.specs.declared.copy.PageCopy.{PageCopy}
use Rattle.named_objects.specs.Named.{Names}
use Rattle.backup_laws.proofs.NamedBackups.{names_more}
use Rattle.vault_bases.specs.Named.{HasCopy, IsCopyIn, IsHeld}

pub longer : (opening : List Record) (h now : List Entry) (begins : IsPrefix h now) → life_log opening now ≡ life_log opening h ++ log_of begins.0
longer opening h now begins = ap (life_log opening) (sym begins.1) ∙ longer_log opening h begins.0

-- what is named stays so, with its bytes
pub names_later : (opening : List Record) (h now : List Entry) (name : ObjectName) (bytes : List ℕ) → IsPrefix h now → Names (life_log opening h) name bytes → Names (life_log opening now) name bytes
names_later opening h now name bytes begins n =
    subst (λ (l : List Record). Names l name bytes) (sym (longer opening h now begins)) (names_more (life_log opening h) (log_of begins.0) name bytes n)

pub has_later : (opening : List Record) (h now : List Entry) (p backup : ℕ) (c : PageCopy) → IsPrefix h now → HasCopy (life_log opening h) p backup c → HasCopy (life_log opening now) p backup c
has_later opening h now p backup c begins n = record {
  bytes = n.bytes;
  names = names_later opening h now (backup_name backup (segment_of p)) n.bytes begins n.names;
  copies = n.copies;
  are = n.are;
  among = n.among;
  page = n.page;
}

module _ (opens : List Record → Type 0) (h now : List Entry) (p backup : ℕ) (begins : IsPrefix h now) where
  pub held_later : IsHeld opens h p backup → IsHeld opens now p backup
  held_later held opening stands = let c = held opening stands in (c.0, has_later opening h now p backup c.0 begins c.1)

  -- the copy that is found later is the one that was there
  pub copy_before : (x : Sealed) → IsCopyIn opens now p backup x → IsCopyIn opens h p backup x
  copy_before x found = record { keeps = found.keeps; is = λ opening c stands n. found.is opening c stands (has_later opening h now p backup c begins n) }
