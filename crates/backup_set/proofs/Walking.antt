-- The images of a backup object one by one: a walk from the left, and that an object has one list of copies.
use Rattle.std.proofs.Common.{◌≡◌, ◌≢◌, inl, inr, ℕ, zero, suc, ◌+◌, ◌-◌, ◌*◌, ◌^◌, ◌<◌, ◌≤◌, List, [], ◌∷◌, ◌++◌, length, take, drop, Result, Ok, Err, refl, sym, ap, subst, ◌∙◌, append_assoc, arith}
use Rattle.std.specs.Prelude.{IsTrue, flat_map, map}
use Rattle.std.specs.List.{All}
use Rattle.std.proofs.lemmas.List.{append-nil, length-append, length-map, length-drop, length_push, take_at, drop_at, drop-drop, drop_all, take-append-drop, nil_from_length}
use Rattle.std.proofs.lemmas.List.Elements.{All-push}
use Rattle.state_codec.proofs.Fields.{IsBytes, IsBytes-take, ok_is}
use Rattle.wal_record.specs.Rules.{is_page_count}
use Rattle.page_image.specs.Image.{image_bytes}
use Rattle.page_image.specs.declared.sealed.Sealed.{Sealed}
use Rattle.backup_set.specs.Backup.{IsCopy, AreCopies, IsAmong, IsBackup, backup_name, copy_bytes, head_bytes}
use Rattle.backup_set.specs.Reading.{BeginsWith, IsFaultBehind, IsFirstFault, IsNoImage, LacksPage, NoCopy, head_at, last_page}
use Rattle.backup_set.specs.Answers.{HasImage, IsBad}
use Rattle.backup_set.specs.declared.copy.PageCopy.{PageCopy}
use Rattle.backup_set.proofs.Heads.{head_again, head_ok, head_takes, length-head}
use Rattle.backup_set.proofs.Images.{copy_same, length-copy, no_flaw, page_below}

abbrev pub copies_bytes : List PageCopy → List ℕ
copies_bytes cs = flat_map copy_bytes cs

-- ---- one copy more

pub fit_more : (segment above : ℕ) (cs : List PageCopy) (c : PageCopy) → AreCopies segment above cs → IsCopy segment (last_page above cs) c → AreCopies segment above (cs ++ c ∷ [])
fit_more segment above [] c fits one = (one, tt)
fit_more segment above (d ∷ ds) c fits one = (fits.0, fit_more segment d.page ds c fits.1 one)

pub last_more : (above : ℕ) (cs : List PageCopy) (c : PageCopy) → last_page above (cs ++ c ∷ []) ≡ c.page
last_more above [] c = refl
last_more above (d ∷ ds) c = last_more d.page ds c

pub bytes_more : (cs : List PageCopy) (c : PageCopy) → copies_bytes (cs ++ c ∷ []) ≡ copies_bytes cs ++ copy_bytes c
bytes_more [] c = append-nil (copy_bytes c)
bytes_more (d ∷ ds) c = ap (λ (t : List ℕ). copy_bytes d ++ t) (bytes_more ds c) ∙ sym (append_assoc (copy_bytes d) (copies_bytes ds) (copy_bytes c))

pub length-copies : (segment above : ℕ) (cs : List PageCopy) → AreCopies segment above cs → length (copies_bytes cs) ≡ 4096 * length cs
length-copies segment above [] fits = refl
length-copies segment above (c ∷ cs) fits =
    let a = length-append (copy_bytes c) (copies_bytes cs) in
    let b = length-copy segment above c fits.0 in
    let rest = length-copies segment c.page cs fits.1 in
    omega arith

-- so far a walk has come
pub record Walked (segment page place above : ℕ) (images rest : List ℕ) : Type 0 where
  pub front : List PageCopy
  pub count : length front ≡ place
  pub fit : AreCopies segment 0 front
  pub last : above ≡ last_page 0 front
  pub spelled : images ≡ copies_bytes front ++ rest
  pub none : All (λ c. c.page ≢ page) front

pub walk_starts : (segment page : ℕ) (images : List ℕ) → Walked segment page 0 0 images images
walk_starts segment page images = record { front = []; count = refl; fit = tt; last = refl; spelled = refl; none = λ k d lt. absurd (omega arith) }

parts_of : (rest text : List ℕ) (n : ℕ) → take n rest ≡ text → rest ≡ text ++ drop n rest
parts_of rest text n e = sym (take-append-drop n rest) ∙ ap (λ (t : List ℕ). t ++ drop n rest) e

pub walk_goes_on : (segment page place above : ℕ) (images rest : List ℕ) (c : PageCopy) → Walked segment page place above images rest → IsCopy segment above c → take 4096 rest ≡ copy_bytes c → c.page ≢ page
    → Walked segment page (place + 1) c.page images (drop 4096 rest)
walk_goes_on segment page place above images rest c w one text other =
    let cs : List PageCopy = w.front in
    record {
      front = cs ++ c ∷ [];
      count = length_push cs c ∙ ap (λ (n : ℕ). n + 1) w.count;
      fit = fit_more segment 0 cs c w.fit (subst (λ (a : ℕ). IsCopy segment a c) w.last one);
      last = sym (last_more 0 cs c);
      spelled = w.spelled ∙ ap (λ (t : List ℕ). copies_bytes cs ++ t) (parts_of rest (copy_bytes c) 4096 text) ∙ sym (append_assoc (copies_bytes cs) (copy_bytes c) (drop 4096 rest)) ∙ ap (λ (t : List ℕ). t ++ drop 4096 rest) (sym (bytes_more cs c));
      none = All-push (λ (d : PageCopy). d.page ≢ page) cs c w.none other;
    }

-- behind the images of the walk is the rest
pub walked_to : (segment page place above : ℕ) (images rest : List ℕ) → Walked segment page place above images rest → drop (4096 * place) images ≡ rest
walked_to segment page place above images rest w =
    ap (drop (4096 * place)) w.spelled ∙ drop_at (copies_bytes w.front) rest (4096 * place) (length-copies segment 0 w.front w.fit ∙ ap (λ (n : ℕ). 4096 * n) w.count)

-- ---- one list of copies

pub above_all : (segment above : ℕ) (cs : List PageCopy) (c : PageCopy) → AreCopies segment above cs → IsAmong c cs → above < c.page
above_all segment above [] c fits among = absurd among
above_all segment above (d ∷ ds) c fits (inl is) = let p : c.page ≡ d.page = ap (λ (x : PageCopy). x.page) is in let r = fits.0.rises in omega arith
above_all segment above (d ∷ ds) c fits (inr more) = let r = fits.0.rises in let s = above_all segment d.page ds c fits.1 more in omega arith

same_copy : (segment a b : ℕ) (c d : PageCopy) → IsCopy segment a c → IsCopy segment b d → copy_bytes c ≡ copy_bytes d → c ≡ d
same_copy segment a b c d fc fd e = copy_same c d (page_below c.page fc.page) (page_below d.page fd.page) fc.state fc.lsn fd.state fd.lsn e

-- where copies begin the bytes of others, which are no fewer, they are the first of those
pub apart : (segment a b : ℕ) (xs ys : List PageCopy) (r t : List ℕ) → AreCopies segment a xs → AreCopies segment b ys → copies_bytes xs ++ r ≡ copies_bytes ys ++ t → length xs ≤ length ys
    → (ys ≡ xs ++ drop (length xs) ys) × (r ≡ copies_bytes (drop (length xs) ys) ++ t)
apart segment a b [] ys r t fx fy e le = (refl, e)
apart segment a b (x ∷ xs) [] r t fx fy e le = absurd (omega arith)
apart segment a b (x ∷ xs) (y ∷ ys) r t fx fy e le =
    let lx = length-copy segment a x fx.0 in
    let ly = length-copy segment b y fy.0 in
    let all : copy_bytes x ++ (copies_bytes xs ++ r) ≡ copy_bytes y ++ (copies_bytes ys ++ t) = sym (append_assoc (copy_bytes x) (copies_bytes xs) r) ∙ e ∙ append_assoc (copy_bytes y) (copies_bytes ys) t in
    let first : copy_bytes x ≡ copy_bytes y = sym (take_at (copy_bytes x) (copies_bytes xs ++ r) 4096 lx) ∙ ap (take 4096) all ∙ take_at (copy_bytes y) (copies_bytes ys ++ t) 4096 ly in
    let others : copies_bytes xs ++ r ≡ copies_bytes ys ++ t = sym (drop_at (copy_bytes x) (copies_bytes xs ++ r) 4096 lx) ∙ ap (drop 4096) all ∙ drop_at (copy_bytes y) (copies_bytes ys ++ t) 4096 ly in
    let same' : y ≡ x = sym (same_copy segment a b x y fx.0 fy.0 first) in
    let more = apart segment x.page y.page xs ys r t fx.1 fy.1 others (omega arith) in
    (λ i. same' i ∷ more.0 i, more.1)

pub behind_fit : (segment above : ℕ) (xs ds : List PageCopy) → AreCopies segment above (xs ++ ds) → AreCopies segment (last_page above xs) ds
behind_fit segment above [] ds fits = fits
behind_fit segment above (x ∷ xs) ds fits = behind_fit segment x.page xs ds fits.1

-- the copy whose image stands at a place
pub record StandsAt (cs : List PageCopy) (place : ℕ) : Type 0 where
  pub copy : PageCopy
  pub among : IsAmong copy cs
  pub image : take 4096 (drop (4096 * place) (copies_bytes cs)) ≡ copy_bytes copy
  pub one : (c : PageCopy) → IsAmong c cs → c.page ≡ copy.page → c ≡ copy

pub stands_at : (segment above : ℕ) (cs : List PageCopy) (place : ℕ) → AreCopies segment above cs → place < length cs → StandsAt cs place
stands_at segment above [] place fits lt = absurd (omega arith)
stands_at segment above (d ∷ ds) zero fits lt = record {
  copy = d;
  among = inl refl;
  image = take_at (copy_bytes d) (copies_bytes ds) 4096 (length-copy segment above d fits.0);
  one = λ c among page. elim among [ inl is ↦ is | inr more ↦ absurd (let s = above_all segment d.page ds c fits.1 more in omega arith) ];
}
stands_at segment above (d ∷ ds) (suc place) fits lt =
    let s = stands_at segment d.page ds place fits.1 (omega arith) in
    let far : 4096 * suc place ≡ 4096 + 4096 * place = omega arith in
    let on : drop (4096 * suc place) (copies_bytes (d ∷ ds)) ≡ drop (4096 * place) (copies_bytes ds) =
    ap (λ (n : ℕ). drop n (copies_bytes (d ∷ ds))) far ∙ sym (drop-drop (4096 * place) 4096 (copies_bytes (d ∷ ds))) ∙ ap (drop (4096 * place)) (drop_at (copy_bytes d) (copies_bytes ds) 4096 (length-copy segment above d fits.0)) in
    record {
      copy = s.copy;
      among = inr s.among;
      image = ap (take 4096) on ∙ s.image;
      one = λ c among page. elim among [ inl is ↦ absurd (let r = above_all segment d.page ds s.copy fits.1 s.among in let p : c.page ≡ d.page = ap (λ (x : PageCopy). x.page) is in omega arith) | inr more ↦ s.one c more page ];
    }

pub fit_among : (segment above : ℕ) (cs : List PageCopy) (c : PageCopy) → AreCopies segment above cs → IsAmong c cs → (b : ℕ) × IsCopy segment b c
fit_among segment above [] c fits among = absurd among
fit_among segment above (d ∷ ds) c fits (inl is) = (above, subst (λ (x : PageCopy). IsCopy segment above x) (sym is) fits.0)
fit_among segment above (d ∷ ds) c fits (inr more) = fit_among segment d.page ds c fits.1 more

-- ---- objects in their form

flat_images : (cs : List PageCopy) → flat_map (λ (image : List ℕ). image) (map copy_bytes cs) ≡ copies_bytes cs
flat_images [] = refl
flat_images (c ∷ cs) = ap (λ (t : List ℕ). copy_bytes c ++ t) (flat_images cs)

module _ (backup segment : ℕ) (b : backup < 2 ^ 64) (s : segment < 2 ^ 32) (copies : List PageCopy) (bytes : List ℕ) (is : IsBackup backup segment copies bytes) where
  images_count : length is.images ≡ length copies
  images_count = ap length is.are.spelled ∙ length-map copies copy_bytes

  laid : bytes ≡ head_bytes backup segment (length copies) ++ copies_bytes copies
  laid = is.spelled ∙ ap (λ (n : ℕ). head_bytes backup segment n ++ flat_map (λ (image : List ℕ). image) is.images) images_count
      ∙ ap (λ (t : List ℕ). head_bytes backup segment (length copies) ++ t) (ap (flat_map (λ (image : List ℕ). image)) is.are.spelled ∙ flat_images copies)

  pub the_head : head_at backup segment (take 20 bytes) ≡ Ok (length copies, [])
  the_head = ap (λ (t : List ℕ). head_at backup segment (take 20 t)) laid
      ∙ ap (head_at backup segment) (take_at (head_bytes backup segment (length copies)) (copies_bytes copies) 20 (length-head backup segment (length copies)))
      ∙ head_again backup segment (length copies) b s is.are.count

  pub the_images : drop 20 bytes ≡ copies_bytes copies
  the_images = ap (drop 20) laid ∙ drop_at (head_bytes backup segment (length copies)) (copies_bytes copies) 20 (length-head backup segment (length copies))

  counts : (count : ℕ) → head_at backup segment (take 20 bytes) ≡ Ok (count, []) → count ≡ length copies
  counts count e = let both : ◌≡◌ {A = Result (ℕ × List ℕ) ℕ} (Ok (count, [])) (Ok (length copies, [])) = sym e ∙ the_head in ap (λ (x : ℕ × List ℕ). x.0) (ok_is {A = ℕ × List ℕ} (count, []) (length copies, []) both)

  -- the image that is found is the copy's
  pub found_is : (page : ℕ) (x : Sealed) (c : PageCopy) → page < 2 ^ 32 → HasImage backup segment page bytes x → IsAmong c copies → c.page ≡ page → x ≡ c.sealed
  found_is page x c small has among named =
      let count = counts has.count has.head in
      let at = stands_at segment 0 copies has.place is.are.fit (omega (arith, has.counted, count)) in
      let there : take 4096 (drop (4096 * has.place) (copies_bytes copies)) ≡ image_bytes page x.lsn x.state =
      ap (λ (t : List ℕ). take 4096 (drop (4096 * has.place) t)) (sym the_images) ∙ ap (take 4096) (drop-drop (4096 * has.place) 20 bytes) ∙ has.here.image in
      let mine = fit_among segment 0 copies at.copy is.are.fit at.among in
      let y : PageCopy = record { page = page; sealed = x } in
      let same : y ≡ at.copy = copy_same y at.copy small (page_below at.copy.page mine.1.page) has.here.state has.here.lsn mine.1.state mine.1.lsn (sym there ∙ at.image) in
      let one : c ≡ at.copy = at.one c among (named ∙ ap (λ (z : PageCopy). z.page) same) in
      ap (λ (z : PageCopy). z.sealed) (same ∙ sym one)

  no_fault_behind : (byte : ℕ) → IsFaultBehind backup segment bytes byte → ⊥
  no_fault_behind byte f =
      let count = counts f.count f.begins.head in
      let few : length f.front ≤ length copies = elim f.breaks [ inl next ↦ omega (arith, next.0, count) | inr behind ↦ omega (arith, behind.0, count) ] in
      let e : copies_bytes f.front ++ f.rest ≡ copies_bytes copies ++ [] = sym f.begins.spelled ∙ the_images ∙ sym (append-nil (copies_bytes copies)) in
      let p = apart segment 0 0 f.front copies f.rest [] f.begins.fit is.are.fit e few in
      let fits = behind_fit segment 0 f.front (drop (length f.front) copies) (subst (AreCopies segment 0) p.0 is.are.fit) in
      let size = length-drop (length f.front) copies in
      let bytes_left : f.rest ≡ copies_bytes (drop (length f.front) copies) = p.1 ∙ append-nil _ in
      elim f.breaks [
        | inl next ↦ none (drop (length f.front) copies) f.rest f.at fits (omega (arith, next.0, count, size)) bytes_left next.1
        | inr behind ↦ let gone : drop (length f.front) copies ≡ [] = nil_from_length _ (omega (arith, behind.0, count, size)) in let short : length f.rest ≡ 0 = ap length bytes_left ∙ ap (λ (cs : List PageCopy). length (copies_bytes cs)) gone in omega (arith, behind.1)
      ]
    where
      none : (ds : List PageCopy) (rest : List ℕ) (at : ℕ) → AreCopies segment (last_page 0 f.front) ds → 0 < length ds → rest ≡ copies_bytes ds → NoCopy segment (last_page 0 f.front) rest at → ⊥
      none [] rest at fits some e wrong = omega arith
      none (d ∷ ds) rest at fits some e wrong =
          let size = length-copy segment (last_page 0 f.front) d fits.0 in
          elim wrong [
            | inl cut ↦ omega (arith, cut.1, ap length e, length-append (copy_bytes d) (copies_bytes ds))
            | inr flaw ↦ no_flaw segment (last_page 0 f.front) d fits.0 at (subst (λ (t : List ℕ). IsNoImage segment (last_page 0 f.front) t at) (ap (take 4096) e ∙ take_at (copy_bytes d) (copies_bytes ds) 4096 size) flaw.1)
          ]

  pub no_fault : (byte : ℕ) → IsFirstFault backup segment bytes byte → ⊥
  no_fault byte (inl head) = let both : ◌≡◌ {A = Result (ℕ × List ℕ) ℕ} (Err head.0) (Ok (length copies, [])) = sym head.1 ∙ the_head in absurd cc
  no_fault byte (inr behind) = no_fault_behind byte behind

not_among : (page : ℕ) (cs : List PageCopy) (c : PageCopy) → All (λ d. d.page ≢ page) cs → IsAmong c cs → c.page ≡ page → ⊥
not_among page [] c none among named = among
not_among page (d ∷ ds) c none (inl is) named = none 0 d (omega arith) (sym (ap (λ (x : PageCopy). x.page) is) ∙ named)
not_among page (d ∷ ds) c none (inr more) named = not_among page ds c (λ k e lt. none (suc k) e (omega arith)) more named

-- an object with the page doesn't lack it
pub not_lacking : (backup segment page byte : ℕ) (b : backup < 2 ^ 64) (s : segment < 2 ^ 32) (copies : List PageCopy) (bytes : List ℕ) (is : IsBackup backup segment copies bytes) (c : PageCopy) → IsAmong c copies → c.page ≡ page → LacksPage backup segment page bytes byte → ⊥
not_lacking backup segment page byte b s copies bytes is c among named lacks =
    let count : length lacks.copies ≡ length copies = counts backup segment b s copies bytes is (length lacks.copies) (the_head backup segment b s lacks.copies bytes lacks.is) in
    let e : copies_bytes lacks.copies ++ [] ≡ copies_bytes copies ++ [] = ap (λ (t : List ℕ). t ++ []) (sym (the_images backup segment b s lacks.copies bytes lacks.is) ∙ the_images backup segment b s copies bytes is) in
    let p = apart segment 0 0 lacks.copies copies [] [] lacks.is.are.fit is.are.fit e (omega (arith, count)) in
    let none : drop (length lacks.copies) copies ≡ [] = drop_all (length lacks.copies) copies (omega (arith, count)) in
    let same : copies ≡ lacks.copies = p.0 ∙ ap (λ (t : List PageCopy). lacks.copies ++ t) none ∙ append-nil lacks.copies in
    not_among page lacks.copies c lacks.none (subst (IsAmong c) same among) named

-- ---- what a walk comes to

module _ (backup segment page count place above : ℕ) (bytes rest : List ℕ) (head : head_at backup segment (take 20 bytes) ≡ Ok (count, [])) (w : Walked segment page place above (drop 20 bytes) rest) where
  pub has_found : (c : PageCopy) → place < count → IsCopy segment above c → take 4096 rest ≡ copy_bytes c → c.page ≡ page → HasImage backup segment page bytes c.sealed
  has_found c lt one text named = record {
    count = count;
    head = head;
    place = place;
    counted = lt;
    here = record {
      image = ap (take 4096) (sym (drop-drop (4096 * place) 20 bytes)) ∙ ap (take 4096) (walked_to segment page place above (drop 20 bytes) rest w) ∙ text ∙ ap (λ (p : ℕ). image_bytes p c.sealed.lsn c.sealed.state) named;
      state = one.state;
      lsn = one.lsn;
    };
  }

  begins : BeginsWith backup segment count w.front rest bytes
  begins = record { head = head; fit = w.fit; spelled = w.spelled }

  pub breaks_here : (at : ℕ) → place < count → NoCopy segment above rest at → IsBad backup segment page bytes (backup_name backup segment) (20 + 4096 * place + at)
  breaks_here at lt wrong = record {
    named = refl;
    cause = inl (inr (record {
      count = count;
      front = w.front;
      rest = rest;
      at = at;
      begins = begins;
      breaks = inl (let n = w.count in omega arith, subst (λ (a : ℕ). NoCopy segment a rest at) w.last wrong);
      place = ap (λ (n : ℕ). 20 + 4096 * n + at) (sym w.count);
    }));
  }

  pub has_surplus : place ≡ count → 0 < length rest → IsBad backup segment page bytes (backup_name backup segment) (20 + 4096 * count)
  has_surplus end some = record {
    named = refl;
    cause = inl (inr (record {
      count = count;
      front = w.front;
      rest = rest;
      at = 0;
      begins = begins;
      breaks = inr (w.count ∙ end, some, refl);
      place = let n = w.count in omega arith;
    }));
  }

  pub lacks_page : IsBytes bytes → place ≡ count → rest ≡ [] → IsBad backup segment page bytes (backup_name backup segment) 16
  lacks_page fits end none =
      let cs : List PageCopy = w.front in
      let first : IsBytes (take 20 bytes) = IsBytes-take 20 bytes fits in
      let h = head_ok backup segment (take 20 bytes) (count, []) head in
      let n : length cs ≡ count = w.count ∙ end in
      let front : take 20 bytes ≡ head_bytes backup segment count = head_takes backup segment (take 20 bytes) (count, []) first head ∙ append-nil _ in
      let behind : drop 20 bytes ≡ copies_bytes cs = w.spelled ∙ ap (λ (l : List ℕ). copies_bytes cs ++ l) none ∙ append-nil (copies_bytes cs) in
      record {
        named = refl;
        cause = inr (record {
          copies = cs;
          is = record {
            images = map copy_bytes cs;
            are = record { count = subst (λ (k : ℕ). IsTrue (is_page_count k)) (sym n) h.count; fit = w.fit; spelled = refl };
            spelled = sym (take-append-drop 20 bytes) ∙ (λ i. front i ++ behind i) ∙ ap (λ (k : ℕ). head_bytes backup segment k ++ copies_bytes cs) (sym n ∙ sym (length-map cs copy_bytes)) ∙ ap (λ (l : List ℕ). head_bytes backup segment (length (map copy_bytes cs)) ++ l) (sym (flat_images cs));
          };
          none = w.none;
          place = refl;
        });
      }
