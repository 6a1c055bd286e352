-- A lawful log names the object of each page's last backup, with the page's image in it.
use Rattle.std.proofs.Common.{◌≡◌, ◌≢◌, ℕ, true, List, [], ◌∷◌, ◌++◌, Option, Some, None, refl, sym, ap, subst, ◌∙◌, append_assoc, arith}
use Rattle.std.specs.Prelude.{find, ◌==◌, map, IsTrue}
use Rattle.std.specs.Option.{option_map_or}
use Rattle.std.proofs.lemmas.List.{take-append-le}
use Rattle.store_model.specs.declared.object.ObjectName.{ObjectName}
use Rattle.wal_record.specs.Chains.{names_at}
use Rattle.wal_record.specs.Images.{image}
use Rattle.wal_record.specs.Sound.{AreLawful, IsLawful}
use Rattle.wal_record.specs.Upkeep.{PageBackup, backup_step, no_backup, page_backup, segment_of}
use Rattle.wal_record.specs.declared.record.BackupDone.{BackupDone}
use Rattle.wal_record.specs.declared.record.PageLsn.{PageLsn}
use Rattle.wal_record.specs.declared.record.Record.{Record}
use Rattle.wal_record.specs.declared.record.Record.TheVariants as kinds
use Rattle.store_model.specs.Along.{AllAlong, AllFrom, along}
use Rattle.wal_record.specs.Rules.{is_page_count, page_lsn_fits}
use Rattle.wal_record.proofs.Along.{by_pushes}
use Rattle.chain_laws.proofs.Named.{head_in, named_below, named_kept}
use Rattle.backup_set.proofs.Walking.{fit_among}
use Rattle.page_image.specs.declared.sealed.Sealed.{Sealed}
use Rattle.wal_record.proofs.Pushes.{lawful_front, page_backup_push}
use Rattle.page_repair.specs.Chains.{IsImageAt}
use Rattle.backup_set.specs.Backup.{IsBackup, backup_name, copy_bytes, object_bytes}
use Rattle.named_objects.specs.Named.{Names, record_of}
use Rattle.named_objects.specs.declared.naming.Naming.TheVariants as namings
use Rattle.backup_laws.specs.Named.{BackupLaw, NamesBackup}
use Rattle.backup_laws.proofs.Copies.{copied, copy_of}

all_from : {A : Type 0} (P : List A → A → Type 0) (xs : List A) → AllAlong P xs → AllFrom P [] xs
unfolding AllAlong
all_from P xs h = h

no_backup_yet : (p : ℕ) → page_backup [] p ≡ no_backup
unfolding page_backup along
no_backup_yet p = refl

pub image_more : (log more : List Record) (p : ℕ) (x : Sealed) → names_at log x.lsn p ≡ true → IsImageAt log p x → IsImageAt (log ++ more) p x
image_more log more p x named there = ap (λ (l : List Record). image l p) (take-append-le x.lsn log more (let low = named_below p x.lsn log named in let most = head_in p log in omega (arith, low, most))) ∙ there

pub names_more : (log more : List Record) (name : ObjectName) (bytes : List ℕ) → Names log name bytes → Names (log ++ more) name bytes
names_more log more name bytes n = record {
  before = n.before;
  naming = n.naming;
  behind = n.behind ++ more;
  is = ap (λ (l : List Record). l ++ more) n.is ∙ append_assoc n.before (record_of n.naming ∷ n.behind) more;
  named = n.named;
  tells = n.tells;
}

backup_more : (log more : List Record) (p : ℕ) (y : PageBackup) → NamesBackup log p y → NamesBackup (log ++ more) p y
backup_more log more p y n = record {
  bytes = n.bytes;
  names = names_more log more (backup_name y.backup (segment_of p)) n.bytes n.names;
  copies = n.copies;
  are = n.are;
  copy = n.copy;
  among = n.among;
  page = n.page;
  at = n.at;
  image = image_more log more p n.copy.sealed n.named n.image;
  named = named_kept log more p n.copy.sealed.lsn n.named;
}

made : (log : List Record) (b : BackupDone) (p : ℕ) (x : PageLsn) → AreLawful log → IsLawful log (kinds.BackupDone b) → find (λ (y : PageLsn). y.page == p) b.pages ≡ Some x
    → NamesBackup (log ++ kinds.BackupDone b ∷ []) p (record { backup = b.backup; lsn = x.lsn })
made log b p x lawful law e =
    let all = copied log b.segment lawful b.pages [] (all_from (λ before q. IsTrue (page_lsn_fits before q)) b.pages law.fields.pages) law.upkeep.images law.upkeep.inside in
    let one = copy_of log p b.pages all.copies x all.are law.upkeep.images e in
    let images = map copy_bytes all.copies in
    let are : IsBackup b.backup b.segment all.copies (object_bytes b.backup b.segment images) =
    record { images = images; are = record { count = subst (λ (n : ℕ). IsTrue (is_page_count n)) (sym all.count) law.fields.pages_count; fit = all.fit; spelled = refl }; spelled = refl } in
    let own : b.segment ≡ segment_of p = sym ((fit_among b.segment 0 all.copies one.copy all.fit one.among).1.in_segment) ∙ ap segment_of one.page in
    let names : Names (log ++ kinds.BackupDone b ∷ []) (backup_name b.backup b.segment) (object_bytes b.backup b.segment images) =
    record { before = log; naming = namings.Backup b; behind = []; is = refl; named = refl; tells = (all.copies, all.are, are) } in
    record {
      bytes = object_bytes b.backup b.segment images;
      names = subst (λ (s : ℕ). Names (log ++ kinds.BackupDone b ∷ []) (backup_name b.backup s) (object_bytes b.backup b.segment images)) own names;
      copies = all.copies;
      are = subst (λ (s : ℕ). IsBackup b.backup s all.copies (object_bytes b.backup b.segment images)) own are;
      copy = one.copy;
      among = one.among;
      page = one.page;
      at = one.at;
      image = image_more log (kinds.BackupDone b ∷ []) p one.copy.sealed one.named one.image;
      named = named_kept log (kinds.BackupDone b ∷ []) p one.copy.sealed.lsn one.named;
    }

-- a backup that the log tells of
abbrev Stands : List Record → ℕ → PageBackup → Type 0
Stands log p y = y.backup ≢ 0 → NamesBackup log p y

one_more : (log : List Record) (p : ℕ) (r : Record) → AreLawful log → IsLawful log r → Stands log p (page_backup log p) → Stands (log ++ r ∷ []) p (backup_step p (page_backup log p) r)
one_more log p (kinds.BackupDone b) lawful law before = by (find (λ (x : PageLsn). x.page == p) b.pages) refl
  where
    by : (o : Option PageLsn) → find (λ (x : PageLsn). x.page == p) b.pages ≡ o → Stands (log ++ kinds.BackupDone b ∷ []) p (option_map_or (λ (x : PageLsn). record { backup = b.backup; lsn = x.lsn }) o (page_backup log p))
    by None e = λ some. backup_more log (kinds.BackupDone b ∷ []) p (page_backup log p) (before some)
    by (Some x) e = λ some. made log b p x lawful law e
one_more log p r lawful law before = λ some. backup_more log (r ∷ []) p (page_backup log p) (before some)

names_backup : (p : ℕ) (log : List Record) → AreLawful log → (page_backup log p).backup ≢ 0 → NamesBackup log p (page_backup log p)
names_backup p = by_pushes (λ (log : List Record). AreLawful log → Stands log p (page_backup log p)) (λ _. subst (Stands [] p) (sym (no_backup_yet p)) (λ some. absurd (some refl))) (λ log r before lawful.
    let parts = lawful_front log r lawful in
    subst (Stands (log ++ r ∷ []) p) (sym (page_backup_push log r p)) (one_more log p r parts.0 parts.1 (before parts.0)))

pub backups : (log : List Record) (p : ℕ) → BackupLaw log p
backups log p = names_backup p log
