-- The copy in all bytes of an object.
use Rattle.std.proofs.Common.{◌≡◌, ℕ, ◌^◌, ◌<◌, ◌≤◌, List, length, take, drop, Result, Ok, Err, sym, ap, subst, ◌∙◌, arith}
use Rattle.std.specs.Prelude.{IfErr, IfOk}
use Rattle.std.proofs.lemmas.List.{length-drop, take_all}
use mathlib.Core.List.{IsPrefix}
use Rattle.store_model.specs.declared.fault.Fault.{Fault}
use Rattle.store_model.specs.declared.fault.Fault.TheVariants as faults
use Rattle.store_model.specs.declared.object.ObjectName.{ObjectName}
use Rattle.wal_record.specs.History.{life_log}
use Rattle.wal_record.specs.Upkeep.{segment_of}
use Rattle.wal_record.specs.declared.record.Record.{Record}
use Rattle.wal_record.specs.declared.entry.Entry.{Entry}
use Rattle.page_image.specs.declared.sealed.Sealed.{Sealed}
use Rattle.backup_set.specs.Answers.{FailsToFind, GivesCopy, HasImage, IsBad}
use Rattle.backup_set.specs.Backup.{IsAmong, IsBackup, backup_name}
use Rattle.backup_set.specs.declared.copy.PageCopy.{PageCopy}
use Rattle.backup_set.proofs.Heads.{count_most}
use Rattle.backup_set.proofs.Walking.{copies_bytes, length-copies, the_images}
use Rattle.named_objects.specs.Named.{Names}
use Rattle.vault_bases.specs.Faults.{FailsToGive}
use Rattle.vault_bases.specs.Named.{HasCopy, IsCopyIn, IsHeld, OfNamed}
use Rattle.vault_bases.proofs.Keeping.{names_later}
use Rattle.vault_bases.proofs.Pieces.{segment_below}

-- an object has at most its head and 16 images
short : (backup segment : ℕ) → backup < 2 ^ 64 → segment < 2 ^ 32 → (copies : List PageCopy) (bytes : List ℕ) → IsBackup backup segment copies bytes → length bytes ≤ 65556
short backup segment b s copies bytes is =
    let behind : length (drop 20 bytes) ≡ length (copies_bytes copies) = ap length (the_images backup segment b s copies bytes is) in
    let size = length-copies segment 0 copies is.are.fit in
    let few = count_most (length copies) is.are.count in
    let rest = length-drop 20 bytes in
    omega (arith, behind, size, few, rest)

module _ (opens : List Record → Type 0) (h now : List Entry) (begins : IsPrefix h now) (p backup : ℕ) (low : p < 2 ^ 32) (small : backup < 2 ^ 64) (name : ObjectName) (named : name ≡ backup_name backup (segment_of p)) (all : List ℕ) (read : OfNamed opens now name (λ bytes. all ≡ take 65556 bytes)) where
  whole : (opening : List Record) (c : PageCopy) → opens opening → (n : HasCopy (life_log opening h) p backup c) → all ≡ n.bytes
  whole opening c stands n =
      let there : Names (life_log opening h) name n.bytes = subst (λ (o : ObjectName). Names (life_log opening h) o n.bytes) (sym named) n.names in
      let most = short backup (segment_of p) small (segment_below p low) n.copies n.bytes n.are in
      read opening n.bytes stands (names_later opening h now name n.bytes begins there) ∙ take_all 65556 n.bytes (omega (arith, most))

  -- what is answered of a page that the object has
  abbrev pub Finds : Result Sealed Fault → Type 0
  Finds r = (copies : List PageCopy) → IsBackup backup (segment_of p) copies all → (c : PageCopy) → IsAmong c copies → c.page ≡ p → GivesCopy c r

  gives : (r : Result Sealed Fault) → Finds r → (opening : List Record) (c : PageCopy) → opens opening → HasCopy (life_log opening h) p backup c → GivesCopy c r
  gives r found opening c stands n = found n.copies (subst (IsBackup backup (segment_of p) n.copies) (sym (whole opening c stands n)) n.are) c n.among n.page

  pub copy_in_whole : (r : Result Sealed Fault) → Finds r → IfOk r (HasImage backup (segment_of p) p all) → IfOk r (IsCopyIn opens h p backup)
  copy_in_whole (Ok x) found held = record { keeps = held.here.state; is = gives (Ok x) found }
  copy_in_whole (Err f) found held = tt

  pub fails_in_whole : (r : Result Sealed Fault) (before after vault vault_now : ℕ) → Finds r → IfErr r (FailsToFind (IsBad backup (segment_of p) p all)) → IsHeld opens h p backup → IfErr r (FailsToGive opens before after vault vault_now)
  fails_in_whole (Ok x) before after vault vault_now found bad held = tt
  fails_in_whole (Err f) before after vault vault_now found bad held = by f found bad
    where
      by : (f : Fault) → Finds (Err f) → FailsToFind (IsBad backup (segment_of p) p all) f → FailsToGive opens before after vault vault_now f
      by faults.Memory found bad = tt
      by (faults.VaultBad object byte) found bad = λ opening stands. let n = held opening stands in gives (Err (faults.VaultBad object byte)) found opening n.0 stands n.1
      by _ found bad = absurd bad
