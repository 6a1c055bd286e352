-- A record that names the copies of a segment suits, and its object has them.
use Rattle.std.proofs.Common.{◌≡◌, ◌≢◌, ℕ, ◌-◌, ◌*◌, ◌<◌, ◌≤◌, true, List, [], ◌∷◌, ◌++◌, length, map, take, Option, Some, refl, sym, ap, subst, ◌∙◌, arith}
use Rattle.std.specs.Prelude.{IsTrue, ◌&&◌, ◌==◌, ◌^◌, nat_lt, not, slice_get}
use Rattle.std.specs.List.{list_all}
use Rattle.std.specs.Option.{option_map_or}
use Rattle.std.proofs.lemmas.Bool.Decides.{nat_tests}
use Rattle.std.proofs.lemmas.List.{length-append, length-map, take-append-le}
use mathlib.Core.List.{IsPrefix}
use Rattle.front.proofs.Keeping.{prefix_trans}
use Rattle.store_model.specs.Along.{AllAlong, AllFrom}
use Rattle.store_model.specs.Lists.{last_of}
use Rattle.store_model.proofs.Bools.{and_true}
use Rattle.wal_record.specs.Chains.{head, names_at}
use Rattle.wal_record.specs.History.{life_log, log_of}
use Rattle.wal_record.specs.Images.{image}
use Rattle.wal_record.specs.OpenWrites.{has_items}
use Rattle.wal_record.specs.Rules.{HasSpelling, is_number, is_page, is_page_count, page_lsn_fits, rises_above}
use Rattle.wal_record.specs.Sound.{are_images}
use Rattle.wal_record.specs.Upkeep.{segment_of}
use Rattle.wal_record.specs.declared.record.PageLsn.{PageLsn}
use Rattle.wal_record.specs.declared.record.Record.{Record}
use Rattle.wal_record.specs.declared.record.Record.TheVariants as kinds
use Rattle.wal_record.specs.declared.entry.Entry.{Entry}
use Rattle.chain_laws.proofs.Named.{head_in, head_named, image_stays, named_kept}
use Rattle.claim_laws.specs.Suiting.{Suits}
use Rattle.page_ops.specs.Groups.{Each}
use Rattle.page_ops.proofs.Staying.{longer_log}
use Rattle.backup_set.specs.Backup.{AreCopies, object_bytes}
use Rattle.backup_set.specs.declared.copy.PageCopy.{PageCopy}
use Rattle.named_objects.specs.Named.{AreCopiesOf, IsCopyOf, Tells, record_of}
use Rattle.named_objects.specs.declared.naming.Naming.{Naming}
use Rattle.named_objects.specs.declared.naming.Naming.TheVariants as namings
use Rattle.backups.specs.Copies.{AreDrawn, Drawn, WasCurrent, pages_in, told_of}
use Rattle.backups.specs.Going.{GoesOn}

-- ---- one copy

-- the log has the copy's image at its LSN, where a record names the page
pub record IsThere (log : List Record) (c : PageCopy) : Type 0 where
  pub named : names_at log c.sealed.lsn c.page ≡ true
  pub copy : IsCopyOf log (told_of c) c

some_number : (n : ℕ) → is_number n ≡ true → 1 ≤ n
some_number n number = grind (arith, nat_tests)

there : (log more : List Record) (c : PageCopy) → is_number c.sealed.lsn ≡ true → c.sealed.lsn ≡ head log c.page → image log c.page ≡ Some c.sealed.state → IsThere (log ++ more) c
there log more c number at is =
    let p = c.page in
    let lsn = c.sealed.lsn in
    let one = some_number lsn number in
    let within = head_in p log in
    let named : names_at log lsn p ≡ true = ap (λ (n : ℕ). names_at log n p) at ∙ head_named p log (λ none. omega (arith, one, at, none)) in
    let front : take lsn (log ++ more) ≡ take lsn log = take-append-le lsn log more (omega (arith, at, within)) in
    let still : image (take lsn log) p ≡ image log p = image_stays p lsn log (omega (arith, at)) in
    record {
      named = named_kept log more p lsn named;
      copy = record { page = refl; lsn = refl; image = ap (λ (l : List Record). image l p) front ∙ still ∙ is };
    }

pub is_there : (opens : List Record → Type 0) (first second h : List Entry) (opening : List Record) (c : PageCopy) → opens opening → IsPrefix second h → is_number c.sealed.lsn ≡ true → WasCurrent opens first second c → IsThere (life_log opening h) c
is_there opens first second h opening c stands begins number w =
    let goes = prefix_trans w.moment second h w.goes_on begins in
    let longer : life_log opening h ≡ life_log opening w.moment ++ log_of goes.0 = ap (life_log opening) (sym goes.1) ∙ longer_log opening w.moment goes.0 in
    subst (λ (l : List Record). IsThere l c) (sym longer) (there (life_log opening w.moment) (log_of goes.0) c number (w.current.lsn opening stands) (w.current.image opening stands))

-- ---- copies

abbrev told : List PageCopy → List PageLsn
told cs = map told_of cs

are_there : (opens : List Record → Type 0) (first second h : List Entry) (opening : List Record) → opens opening → IsPrefix second h → (segment above : ℕ) (cs : List PageCopy) → AreCopies segment above cs → Each (WasCurrent opens first second) cs → Each (IsThere (life_log opening h)) cs
are_there opens first second h opening stands begins segment above [] fits all = tt
are_there opens first second h opening stands begins segment above (c ∷ cs) fits all = (is_there opens first second h opening c stands begins fits.0.lsn all.0, are_there opens first second h opening stands begins segment c.page cs fits.1 all.1)

all_images : (log : List Record) (cs : List PageCopy) → Each (IsThere log) cs → are_images log (told cs) ≡ true
all_images log [] all = refl
all_images log (c ∷ cs) all = and_true (names_at log c.sealed.lsn c.page) (are_images log (told cs)) all.0.named (all_images log cs all.1)

all_copies : (log : List Record) (cs : List PageCopy) → Each (IsThere log) cs → AreCopiesOf log (told cs) cs
all_copies log [] all = tt
all_copies log (c ∷ cs) all = (all.0.copy, all_copies log cs all.1)

is_segment : (p segment : ℕ) → segment_of p ≡ segment → (segment_of p == segment) ≡ true
is_segment p segment is = grind (arith, nat_tests)

all_inside : (segment above : ℕ) (cs : List PageCopy) → AreCopies segment above cs → list_all (λ (x : PageLsn). segment_of x.page == segment) (told cs) ≡ true
all_inside segment above [] fits = refl
all_inside segment above (c ∷ cs) fits = and_true (segment_of c.page == segment) (list_all (λ (x : PageLsn). segment_of x.page == segment) (told cs)) (is_segment c.page segment fits.0.in_segment) (all_inside segment c.page cs fits.1)

get_end : (xs : List PageLsn) (x : PageLsn) → slice_get (xs ++ x ∷ []) (length xs) ≡ Some x
get_end [] x = refl
get_end (y ∷ ys) x = get_end ys x

last_push : (xs : List PageLsn) (x : PageLsn) → last_of (xs ++ x ∷ []) ≡ Some x
last_push xs x =
    let e : length (xs ++ x ∷ []) - 1 ≡ length xs = let l = length-append xs (x ∷ []) in omega (arith, l) in
    ap (slice_get (xs ++ x ∷ [])) e ∙ get_end xs x

abbrev Rises : List PageLsn → ℕ → Type 0
Rises before above = (n : ℕ) → above < n → rises_above (λ (x : PageLsn). x.page) before n ≡ true

less : (a b : ℕ) → a < b → nat_lt a b ≡ true
less a b lt = grind (arith, nat_tests)

rises_push : (before : List PageLsn) (x : PageLsn) → Rises (before ++ x ∷ []) x.page
rises_push before x n above = ap (λ (o : Option PageLsn). option_map_or (λ (y : PageLsn). nat_lt y.page n) o true) (last_push before x) ∙ less x.page n above

spelled_from : (segment above : ℕ) (cs : List PageCopy) (before : List PageLsn) → Rises before above → AreCopies segment above cs → AllFrom (λ before p. IsTrue (page_lsn_fits before p)) before (told cs)
spelled_from segment above [] before rises fits = tt
spelled_from segment above (c ∷ cs) before rises fits = (
  and_true (is_page c.page && rises_above (λ (x : PageLsn). x.page) before c.page) (is_number c.sealed.lsn) (and_true (is_page c.page) (rises_above (λ (x : PageLsn). x.page) before c.page) fits.0.page (rises c.page fits.0.rises)) fits.0.lsn,
  spelled_from segment c.page cs (before ++ told_of c ∷ []) (rises_push before (told_of c)) fits.1,
)

all_spelled : (segment : ℕ) (cs : List PageCopy) → AreCopies segment 0 cs → AllAlong (λ before p. IsTrue (page_lsn_fits before p)) (told cs)
unfolding AllAlong
all_spelled segment cs fits = spelled_from segment 0 cs [] (λ n above. refl) fits

counted : (segment most n : ℕ) → 16 * segment < most → n ≡ pages_in segment most → is_page_count n ≡ true
counted segment most n some is = grind (arith, nat_tests)

some_items : (log : List Record) → log ≢ [] → has_items log ≡ true
some_items [] some = absurd (some refl)
some_items (r ∷ rs) some = refl

-- ---- the record

abbrev pub naming_of : ℕ → ℕ → Drawn → Naming
naming_of backup segment x = namings.Backup (record { backup = backup; segment = segment; pages = x.told })

module _ (opens : List Record → Type 0) (first second : List Entry) (backup segment most : ℕ) (x : Drawn) (number : is_number backup ≡ true) (fits : segment < 2 ^ 32) (some : 16 * segment < most) (d : AreDrawn opens first second segment (pages_in segment most) x) where
  is_told : x.told ≡ told d.copies
  is_told = ap (λ (z : Drawn). z.told) d.drawn

  count : is_page_count (length d.copies) ≡ true
  count = counted segment most (length d.copies) some d.long

  is_part : segment < 2 ^ 32 → nat_lt segment (2 ^ 32) ≡ true
  is_part lt = grind (arith, nat_tests)

  pub spelled : HasSpelling (record_of (naming_of backup segment x))
  spelled = subst (λ (ps : List PageLsn). HasSpelling (kinds.BackupDone (record { backup = backup; segment = segment; pages = ps }))) (sym is_told) (record {
    backup = number;
    segment = is_part fits;
    pages_count = ap is_page_count (length-map d.copies told_of) ∙ count;
    pages = all_spelled segment d.copies d.fit;
  })

  module _ (h : List Entry) (begins : IsPrefix second h) (opening : List Record) (stands : opens opening) where
    here : Each (IsThere (life_log opening h)) d.copies
    here = are_there opens first second h opening stands begins segment 0 d.copies d.fit d.current

    pub tells : (bytes : List ℕ) → bytes ≡ object_bytes backup segment x.images → Tells (life_log opening h) (naming_of backup segment x) bytes
    tells bytes is = (
      d.copies,
      subst (λ (ps : List PageLsn). AreCopiesOf (life_log opening h) ps d.copies) (sym is_told) (all_copies (life_log opening h) d.copies here),
      record { images = x.images; are = record { count = count; fit = d.fit; spelled = ap (λ (z : Drawn). z.images) d.drawn }; spelled = is },
    )

    pub suits : life_log opening h ≢ [] → GoesOn (life_log opening h) backup segment → Suits opening h (record_of (naming_of backup segment x))
    suits not_empty goes = record {
      lawful = record {
        first = sym (ap not (some_items (life_log opening h) not_empty));
        fields = spelled;
        chain = tt;
        heads = tt;
        applicable = λ p n. absurd (cc n);
        place = tt;
        value = tt;
        upkeep = record {
          images = subst (λ (ps : List PageLsn). are_images (life_log opening h) ps ≡ true) (sym is_told) (all_images (life_log opening h) d.copies here);
          inside = subst (λ (ps : List PageLsn). list_all (λ (y : PageLsn). segment_of y.page == segment) ps ≡ true) (sym is_told) (all_inside segment 0 d.copies d.fit);
          fresh = goes.fresh segment (omega arith);
          number = goes.number;
        };
      };
      rule = tt;
    }
