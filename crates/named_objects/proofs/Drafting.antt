-- What a log determines of an object, and when it may be named.
use Rattle.std.proofs.Common.{◌≡◌, ℕ, append_assoc, append-nil, List, [], ◌∷◌, ◌++◌, length, take, drop, true, refl, sym, ap, ◌∙◌, subst, arith, inl, inr}
use Rattle.std.specs.Prelude.{◌⊎◌, ◌-◌, ◌+◌, ◌≤◌, Some, map}
use Rattle.std.proofs.lemmas.Bool.Decides.{nat_tests}
use Rattle.std.proofs.lemmas.List.{take-append-le, drop-append-le, length-drop}
use mathlib.Core.List.{IsPrefix}
use Rattle.front.proofs.Keeping.{prefix_trans}
use Rattle.store_model.proofs.Bools.{both_true}
use Rattle.store_model.specs.declared.object.ObjectKind.{ObjectKind}
use Rattle.store_model.specs.declared.object.ObjectKind.TheVariants as object_kinds
use Rattle.store_model.specs.declared.object.ObjectName.{ObjectName}
use Rattle.wal_record.specs.Chains.{names_at}
use Rattle.wal_record.specs.Images.{image}
use Rattle.wal_record.specs.Rules.{is_number}
use Rattle.wal_record.specs.Sound.{are_images}
use Rattle.wal_record.specs.Upkeep.{backs_up, last_run, run_number}
use Rattle.wal_record.specs.History.{life_log, log_of}
use Rattle.wal_record.specs.declared.record.BackupDone.{BackupDone}
use Rattle.wal_record.specs.declared.record.PageLsn.{PageLsn}
use Rattle.wal_record.specs.declared.record.Record.{Record}
use Rattle.wal_record.specs.declared.record.Record.TheVariants as kinds
use Rattle.wal_record.specs.declared.entry.Entry.{Entry}
use Rattle.wal_record.specs.declared.entry.Entry.TheVariants.{Rec}
use Rattle.wal_record.proofs.Along.{by_pushes}
use Rattle.wal_record.proofs.Pushes.{last_run_push}
use Rattle.claim_laws.specs.Suiting.{Suits, SuitsLog}
use Rattle.claim_laws.proofs.Pages.{head_in, named_below}
use Rattle.page_ops.proofs.Staying.{longer_log}
use Rattle.backup_set.specs.Backup.{IsBackup, copy_bytes, object_bytes}
use Rattle.backup_set.specs.declared.copy.PageCopy.{PageCopy}
use Rattle.log_archive.specs.Items.{chunks_of, numbered, part}
use Rattle.log_archive.specs.Run.{run_bytes}
use Rattle.named_objects.specs.Named.{AreCopiesOf, IsCopyOf, Names, Tells, name_of, record_of}
use Rattle.named_objects.specs.Drafts.{Means}
use Rattle.named_objects.specs.declared.naming.Naming.{Naming}
use Rattle.named_objects.specs.declared.naming.Naming.TheVariants as namings
use Rattle.named_objects.proofs.SameNames.{none_there}

-- ---- a log determines an object's bytes

one_copy : (log : List Record) (t : PageLsn) (c d : PageCopy) → IsCopyOf log t c → IsCopyOf log t d → c ≡ d
one_copy log t c d x y =
    let page : c.page ≡ d.page = x.page ∙ sym y.page in
    let lsn : c.sealed.lsn ≡ d.sealed.lsn = x.lsn ∙ sym y.lsn in
    let both : Some c.sealed.state ≡ Some d.sealed.state = sym x.image ∙ ap (λ (n : ℕ). image (take n log) t.page) lsn ∙ y.image in
    let state : c.sealed.state ≡ d.sealed.state = cc both in
    λ i. record { page = page i; sealed = record { state = state i; lsn = lsn i } }

copies_one : (log : List Record) (ts : List PageLsn) (cs ds : List PageCopy) → AreCopiesOf log ts cs → AreCopiesOf log ts ds → cs ≡ ds
copies_one log [] [] [] a b = refl
copies_one log [] [] (d ∷ ds) a b = absurd b
copies_one log [] (c ∷ cs) ds a b = absurd a
copies_one log (t ∷ ts) [] ds a b = absurd a
copies_one log (t ∷ ts) (c ∷ cs) [] a b = absurd b
copies_one log (t ∷ ts) (c ∷ cs) (d ∷ ds) a b =
    let first = one_copy log t c d a.0 b.0 in
    let rest = copies_one log ts cs ds a.1 b.1 in
    λ i. first i ∷ rest i

backup_one : (backup segment : ℕ) (cs ds : List PageCopy) (xs ys : List ℕ) → cs ≡ ds → IsBackup backup segment cs xs → IsBackup backup segment ds ys → xs ≡ ys
backup_one backup segment cs ds xs ys same x y = x.spelled ∙ ap (object_bytes backup segment) (x.are.spelled ∙ ap (map copy_bytes) same ∙ sym y.are.spelled) ∙ sym y.spelled

pub tells_one : (log : List Record) (n : Naming) (xs ys : List ℕ) → Tells log n xs → Tells log n ys → xs ≡ ys
tells_one log (namings.Backup b) xs ys t u = backup_one b.backup b.segment t.0 u.0 xs ys (copies_one log b.pages t.0 u.0 t.1 u.1) t.2 u.2
tells_one log (namings.Run d) xs ys t u = t ∙ sym u

-- ---- and so does each longer log

copy_later : (log more : List Record) (t : PageLsn) (c : PageCopy) → names_at log t.lsn t.page ≡ true → IsCopyOf log t c → IsCopyOf (log ++ more) t c
copy_later log more t c named x =
    let below = (named_below t.page log t.lsn named).1 in
    let within = head_in t.page log in
    let lsn = x.lsn in
    record { page = x.page; lsn = x.lsn; image = ap (λ (l : List Record). image l t.page) (take-append-le c.sealed.lsn log more (omega (arith, below, within, lsn))) ∙ x.image }

copies_later : (log more : List Record) (ts : List PageLsn) (cs : List PageCopy) → are_images log ts ≡ true → AreCopiesOf log ts cs → AreCopiesOf (log ++ more) ts cs
copies_later log more [] [] h a = tt
copies_later log more [] (c ∷ cs) h a = absurd a
copies_later log more (t ∷ ts) [] h a = absurd a
copies_later log more (t ∷ ts) (c ∷ cs) h a = let both = both_true (names_at log t.lsn t.page) (are_images log ts) h in (copy_later log more t c both.0 a.0, copies_later log more ts cs both.1 a.1)

some_number : (n : ℕ) → is_number n ≡ true → 1 ≤ n
some_number n number = grind (arith, nat_tests)

pub part_later : (log more : List Record) (first last : ℕ) → 1 ≤ first → first ≤ last → last ≤ length log → part first (last + 1) (log ++ more) ≡ part first (last + 1) log
part_later log more first last some order within =
    let long = length-drop (first - 1) log in
    ap (take (last + 1 - first)) (drop-append-le (first - 1) log more (omega (arith, some, order, within))) ∙ take-append-le (last + 1 - first) (drop (first - 1) log) more (omega (arith, long, some, order, within))

pub tells_later : (log more : List Record) (n : Naming) (bytes : List ℕ) → SuitsLog log (record_of n) → Tells log n bytes → Tells (log ++ more) n bytes
tells_later log more (namings.Backup b) bytes s t = (t.0, copies_later log more b.pages t.0 s.upkeep.images t.1, t.2)
tells_later log more (namings.Run d) bytes s t =
    let same = part_later log more d.first d.last (some_number d.first s.fields.first) s.upkeep.covers s.upkeep.ends in
    t ∙ ap (λ (rs : List Record). run_bytes d.run d.first d.last (chunks_of (numbered d.first rs))) (sym same)

pub means_of : (opens : List Record → Type 0) (seen now : List Entry) (n : Naming) (bytes : List ℕ) → IsPrefix seen now → ((opening : List Record) → opens opening → Suits opening seen (record_of n))
    → ((opening : List Record) → opens opening → Tells (life_log opening seen) n bytes) → Means opens now n bytes
means_of opens seen now n bytes begins suits tells opening later stands goes =
    let b = prefix_trans seen now later begins goes in
    let longer : life_log opening later ≡ life_log opening seen ++ log_of b.0 = ap (life_log opening) (sym b.1) ∙ longer_log opening seen b.0 in
    subst (λ (l : List Record). Tells l n bytes) (sym longer) (tells_later (life_log opening seen) (log_of b.0) n bytes (suits opening stands).lawful (tells opening stands))

-- ---- a record that suits names no object that is named already

run_below : (before : List Record) (r : Record) (behind : List Record) → run_number r ≤ last_run (before ++ r ∷ behind)
run_below before r behind = subst (λ (l : List Record). run_number r ≤ last_run l) (append_assoc before (r ∷ []) behind) (by_pushes (λ (more : List Record). run_number r ≤ last_run ((before ++ r ∷ []) ++ more))
    (let e = ap last_run (append-nil (before ++ r ∷ [])) in let p = last_run_push before r in omega (arith, e, p))
    (λ more x there.
    let e = ap last_run (sym (append_assoc (before ++ r ∷ []) more (x ∷ []))) in
    let p = last_run_push ((before ++ r ∷ []) ++ more) x in
    omega (arith, there, e, p))
    behind)

backed_up : (b c : BackupDone) → c.backup ≡ b.backup → c.segment ≡ b.segment → backs_up b.backup b.segment (kinds.BackupDone c) ≡ true
backed_up b c number part = grind (arith, nat_tests)

abbrev IsBackupKind : ObjectKind → Type 0
IsBackupKind object_kinds.Backup = Unit {0}
IsBackupKind object_kinds.Run = ⊥

named_once : (log : List Record) (n m : Naming) (before behind : List Record) → SuitsLog log (record_of n) → log ≡ before ++ record_of m ∷ behind → name_of m ≡ name_of n → ⊥
named_once log (namings.Backup b) (namings.Backup c) before behind s is same =
    none_there (backs_up b.backup b.segment) before (kinds.BackupDone c) behind log (sym is) (backed_up b c (ap (λ (x : ObjectName). x.id) same) (ap (λ (x : ObjectName). x.part) same)) s.upkeep.fresh
named_once log (namings.Backup b) (namings.Run d) before behind s is same = subst (λ (x : ObjectName). IsBackupKind x.kind) (sym same) tt
named_once log (namings.Run d) (namings.Backup b) before behind s is same = subst (λ (x : ObjectName). IsBackupKind x.kind) same tt
named_once log (namings.Run d) (namings.Run e) before behind s is same =
    let number = s.upkeep.number in
    let below = run_below before (kinds.RunDone e) behind in
    let here = ap last_run is in
    let id : e.run ≡ d.run = ap (λ (x : ObjectName). x.id) same in
    omega (arith, number, below, here, id)

pub unnamed : (log : List Record) (n : Naming) (bytes : List ℕ) → SuitsLog log (record_of n) → Names log (name_of n) bytes → ⊥
unnamed log n bytes s x = named_once log n x.naming x.before x.behind s x.is (sym x.named)

-- ---- a record more

split_last : (log : List Record) (r : Record) (before : List Record) (x : Record) (behind : List Record) → log ++ r ∷ [] ≡ before ++ x ∷ behind → ((before ≡ log) × (x ≡ r)) ⊎ ((rest : List Record) × (log ≡ before ++ x ∷ rest))
split_last [] r [] x behind is = let first : r ≡ x = cc is in inl (refl, sym first)
split_last [] r (b ∷ []) x behind is = absurd (cc is)
split_last [] r (b ∷ c ∷ bs) x behind is = absurd (cc is)
split_last (y ∷ ys) r [] x behind is = let first : y ≡ x = cc is in inr (ys, λ i. first i ∷ ys)
split_last (y ∷ ys) r (b ∷ bs) x behind is =
    let first : y ≡ b = cc is in
    let then : ys ++ r ∷ [] ≡ bs ++ x ∷ behind = cc is in
    elim (split_last ys r bs x behind then) [
      | inl e ↦ inl (λ i. sym first i ∷ e.0 i, e.1)
      | inr e ↦ inr (e.0, λ i. first i ∷ e.1 i)
    ]

naming_is : (a b : Naming) → record_of a ≡ record_of b → a ≡ b
naming_is (namings.Backup b) (namings.Backup c) h = let same : b ≡ c = cc h in ap namings.Backup same
naming_is (namings.Backup b) (namings.Run d) h = absurd (cc h)
naming_is (namings.Run d) (namings.Backup b) h = absurd (cc h)
naming_is (namings.Run d) (namings.Run e) h = let same : d ≡ e = cc h in ap namings.Run same

pub named_more : (log : List Record) (n : Naming) (name : ObjectName) (bytes : List ℕ) → Names (log ++ record_of n ∷ []) name bytes → Names log name bytes ⊎ ((name ≡ name_of n) × Tells log n bytes)
named_more log n name bytes x = elim (split_last log (record_of n) x.before (record_of x.naming) x.behind x.is) [
  | inl e ↦
      let same = naming_is x.naming n e.1 in
      inr (x.named ∙ ap name_of same, subst (λ (p : List Record × Naming). Tells p.0 p.1 bytes) (λ i. (e.0 i, same i)) x.tells)
  | inr e ↦ inl (record { before = x.before; naming = x.naming; behind = e.0; is = e.1; named = x.named; tells = x.tells })
]

-- what a record names that was entered later
pub named_now : (opens : List Record → Type 0) (seen moment now : List Entry) (lsn : ℕ) (n : Naming) → IsPrefix seen moment → now ≡ moment ++ Rec lsn (record_of n) ∷ [] → ((opening : List Record) → opens opening → Suits opening seen (record_of n))
    → (opening : List Record) (bytes : List ℕ) → opens opening → Tells (life_log opening seen) n bytes → Names (life_log opening now) (name_of n) bytes
named_now opens seen moment now lsn n begins goes suits opening bytes stands tells =
    let longer : life_log opening moment ≡ life_log opening seen ++ log_of begins.0 = ap (life_log opening) (sym begins.1) ∙ longer_log opening seen begins.0 in
    record {
      before = life_log opening moment;
      naming = n;
      behind = [];
      is = ap (life_log opening) goes ∙ longer_log opening moment (Rec lsn (record_of n) ∷ []);
      named = refl;
      tells = subst (λ (l : List Record). Tells l n bytes) (sym longer) (tells_later (life_log opening seen) (log_of begins.0) n bytes (suits opening stands).lawful tells);
    }
