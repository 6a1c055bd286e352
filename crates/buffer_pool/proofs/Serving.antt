-- What an image of the data device is, and the page that was rebuilt from one.
use Rattle.std.proofs.Common.{◌≡◌, ◌≢◌, ℕ, ◌≤◌, ◌<◌, ◌^◌, List, [], ◌∷◌, ◌++◌, length, take, Option, Bool, Some, None, true, refl, sym, ap, subst, ◌∙◌, arith, inl, inr}
use Rattle.std.specs.Prelude.{IfSome, IsTrue, is_some}
use Rattle.std.proofs.lemmas.List.{take-append-le, length-take-le}
use Rattle.std.proofs.lemmas.Bool.Decides.{nat_tests}
use mathlib.Core.List.{IsPrefix}
use Rattle.front.specs.Seen.{PassSeen}
use Rattle.books.specs.Rights.{PageClaim}
use Rattle.wal_record.specs.Chains.{head, names_at}
use Rattle.wal_record.specs.History.{life_log, log_of}
use Rattle.wal_record.specs.Images.{image}
use Rattle.wal_record.specs.Rules.{is_number}
use Rattle.wal_record.specs.Sound.{AreLawful}
use Rattle.wal_record.specs.State.{KeepsState}
use Rattle.wal_record.specs.declared.page.PageState.{PageState}
use Rattle.wal_record.specs.declared.record.Record.{Record}
use Rattle.wal_record.specs.declared.entry.Entry.{Entry}
use Rattle.tree_laws.proofs.Whole.{tree}
use Rattle.chain_laws.proofs.Named.{head_in, lawful_taken, named_below, named_kept, names_taken, no_image, take_take}
use Rattle.chain_laws.proofs.Steps.{heads}
use Rattle.page_image.specs.Image.{image_bytes}
use Rattle.page_image.specs.declared.sealed.Sealed.{Sealed}
use Rattle.page_image.proofs.Reading.{image_is}
use Rattle.front.proofs.Keeping.{prefix_self}
use Rattle.page_ops.specs.Claims.{Claims, Agree, PageAgrees, IsInRange}
use Rattle.page_ops.specs.Hands.{IsInHand}
use Rattle.page_ops.specs.Desks.{IsMade}
use Rattle.page_ops.specs.Seeing.{IsConsistent}
use Rattle.page_ops.proofs.Staying.{longer_log}
use Rattle.page_repair.specs.Chains.{IsImageAt}
use Rattle.page_repair.specs.Images.{IsImage}
use Rattle.page_repair.specs.Supplies.{IsBase, IsHead, IsRebuilt}
use Rattle.page_repair.proofs.Staying.{written_later}
use Rattle.buffer_pool.specs.Bases.{IsBaseAmong, IsGiven, Serves}
use Rattle.buffer_pool.specs.Hands.{one_right}

-- an image of a lawful log keeps the rules of a state
pub logged_keeps : (log : List Record) (p : ℕ) (s : PageState) → AreLawful log → image log p ≡ Some s → KeepsState s
logged_keeps [] p s lawful is = absurd (cc (sym (no_image p) ∙ is))
logged_keeps (r ∷ rs) p s lawful is = (tree (r ∷ rs) lawful (λ e. cc e)).keeps p s is

number_below : (m n : ℕ) → m ≢ 0 → m ≤ n → is_number n ≡ true → is_number m ≡ true
number_below m n some below number = grind (arith, nat_tests)

pub some_number : (n : ℕ) → is_number n ≡ true → n ≢ 0
some_number n number = grind (arith, nat_tests)

page_fits : (p : PageClaim) → IsInRange p → p.page < 2 ^ 32
page_fits p range = let r = range.0 in grind (arith, nat_tests)

-- bytes are the image of one state at one LSN
same_image : (page : ℕ) (bytes : List ℕ) (x y : Sealed) → page < 2 ^ 32 → KeepsState x.state → IsTrue (is_number x.lsn) → KeepsState y.state → IsTrue (is_number y.lsn)
    → bytes ≡ image_bytes page x.lsn x.state → bytes ≡ image_bytes page y.lsn y.state → x ≡ y
same_image page bytes x y small kx nx ky ny ex ey = cc (sym (image_is page small bytes x kx nx ex).reads ∙ (image_is page small bytes y ky ny ey).reads)

-- an image of the log that serves is what it says
module _ (log : List Record) (lawful : AreLawful log) (page written lsn : ℕ) (small : page < 2 ^ 32) (last : lsn ≡ head log page) (number : is_number lsn ≡ true) (bytes : List ℕ) (x : Sealed) (serves : Serves page written lsn bytes x)
    (durable : ℕ) (w : IsImage log durable page bytes) where
  abbrev front : List Record
  front = take w.sealed.upto log

  abbrev first : ℕ
  first = head front page

  within : first ≤ w.sealed.upto
  within = let l = length-take-le w.sealed.upto log w.sealed.within in let h = head_in page front in omega (arith, l, h)

  made : first ≢ 0
  made z = cc (sym ((heads front page).unmade z) ∙ w.sealed.image)

  below : first ≤ lsn
  below = let n = named_below page first log (sym (names_taken log first w.sealed.upto page within) ∙ (heads front page).named made) in omega (arith, n, last)

  same : x ≡ record { state = w.sealed.state; lsn = first }
  same = same_image page bytes x (record { state = w.sealed.state; lsn = first }) small serves.keeps serves.number (logged_keeps front page w.sealed.state (lawful_taken log w.sealed.upto lawful) w.sealed.image)
      (number_below first lsn made below number) serves.image w.sealed.sealed

  pub served_at : IsImageAt log page x
  served_at =
      subst
      (λ (y : Sealed). IsImageAt log page y)
      (sym same)
      (ap (λ (l : List Record). image l page) (sym (take_take first w.sealed.upto log within)) ∙ (heads front page).stays first (omega arith) ∙ w.sealed.image)

module _ (opens : List Record → Type 0) (p : PageClaim) (range : IsInRange p) (h : List Entry) (consistent : IsConsistent opens h) (agrees : PageAgrees opens h p) where
  -- the record at the page's head names it
  pub head_named : IsHead opens h p.page p.lsn
  head_named opening stands =
      let log = life_log opening h in
      let last = agrees opening stands in
      subst (λ (n : ℕ). names_at log n p.page ≡ true) (sym last) ((heads log p.page).named (λ z. some_number p.lsn range.1 (last ∙ z)))

  -- so the page is made
  pub head_made : IsMade opens h p.page
  head_made opening stands = by (image (life_log opening h) p.page) refl
    where
      by : (s : Option PageState) → image (life_log opening h) p.page ≡ s → is_some s ≡ true
      by (Some s) is = refl
      by None is = absurd (some_number p.lsn range.1 (agrees opening stands ∙ (heads (life_log opening h) p.page).made (consistent.sound opening stands).lawful is))

  -- an image that the device gave, and that serves, is a base
  pub served_base : (written : ℕ) (first seen : PassSeen Entry) (bytes : List ℕ) (x : Sealed) → seen.log ≡ h → IsGiven opens first p.page bytes → IsPrefix first.log seen.log → first.durable ≤ seen.durable
      → Serves p.page written p.lsn bytes x → IsBase opens h p.page p.lsn x
  served_base written first seen bytes x is given begins later serves = record {
    keeps = serves.keeps;
    before = serves.before;
    image = elim given [
      | inl bad ↦ absurd (bad (image_is p.page (page_fits p range) bytes x serves.keeps serves.number serves.image).verifies)
      | inr there ↦ λ opening stands.
          let w = subst (λ (e : List Entry). IsImage (life_log opening e) seen.durable p.page bytes) is (written_later opens first seen p.page bytes begins later there opening stands) in
          served_at (life_log opening h) (consistent.sound opening stands).lawful p.page written p.lsn (page_fits p range) (agrees opening stands) range.1 bytes x serves seen.durable w
    ];
  }

  -- the page that is rebuilt later is the image here
  pub rebuilt_image : (h' : List Entry) (x : Sealed) → IsPrefix h h' → IsRebuilt opens h' p.page p.lsn x → (opening : List Record) → opens opening → image (life_log opening h) p.page ≡ Some x.state
  rebuilt_image h' x begins made opening stands =
      let log = life_log opening h in
      let last = agrees opening stands in
      let more : life_log opening h' ≡ log ++ log_of begins.0 = ap (life_log opening) (sym begins.1) ∙ longer_log opening h begins.0 in
      let within = head_in p.page log in
      let front : take x.lsn (life_log opening h') ≡ take x.lsn log = ap (take x.lsn) more ∙ take-append-le x.lsn log (log_of begins.0) (let e = made.lsn in omega (arith, e, last, within)) in
      sym ((heads log p.page).stays x.lsn (let e = made.lsn in omega (arith, e, last))) ∙ ap (λ (l : List Record). image l p.page) (sym front) ∙ made.image opening stands

-- a page that is rebuilt stays so
pub rebuilt_later : (opens : List Record → Type 0) (h h' h'' : List Entry) (page lsn : ℕ) (x : Sealed) → IsHead opens h page lsn → IsPrefix h h' → IsPrefix h' h'' → IsRebuilt opens h' page lsn x → IsRebuilt opens h'' page lsn x
rebuilt_later opens h h' h'' page lsn x named begins begins' made = record {
  keeps = made.keeps;
  lsn = made.lsn;
  image = λ opening stands.
      let a = life_log opening h' in
      let longer : a ≡ life_log opening h ++ log_of begins.0 = ap (life_log opening) (sym begins.1) ∙ longer_log opening h begins.0 in
      let more : life_log opening h'' ≡ a ++ log_of begins'.0 = ap (life_log opening) (sym begins'.1) ∙ longer_log opening h' begins'.0 in
      let there : names_at a lsn page ≡ true = subst (λ (l : List Record). names_at l lsn page ≡ true) (sym longer) (named_kept (life_log opening h) (log_of begins.0) page lsn (named opening stands)) in
      let within : lsn ≤ length a = let n = named_below page lsn a there in let l = head_in page a in omega (arith, n, l) in
      ap (λ (l : List Record). image l page) (ap (take x.lsn) more ∙ take-append-le x.lsn a (log_of begins'.0) (let e = made.lsn in omega (arith, e, within))) ∙ made.image opening stands;
}

-- what was given is still given later
pub given_later : (opens : List Record → Type 0) (p q : PassSeen Entry) (page : ℕ) (o : Option (List ℕ)) → IsPrefix p.log q.log → p.durable ≤ q.durable → IfSome o (IsGiven opens p page) → IfSome o (IsGiven opens q page)
given_later opens p q page None begins later given = tt
given_later opens p q page (Some bytes) begins later given = elim given [
  | inl bad ↦ inl bad
  | inr there ↦ inr (written_later opens p q page bytes begins later there)
]

-- the right that was handed in agrees
pub agrees_of : (opens : List Record → Type 0) (h : List Entry) (x : Claims) (p : PageClaim) → x ≡ one_right p → Agree opens h x → PageAgrees opens h p
agrees_of opens h x p is agree = subst (λ (o : Option PageClaim). IfSome o (PageAgrees opens h)) (ap (λ (c : Claims). c.a) is) agree.a

-- what serves of bytes that were given is a base
pub given_base : (opens : List Record → Type 0) (p : PageClaim) → IsInRange p → (seen : PassSeen Entry) → IsConsistent opens seen.log → PageAgrees opens seen.log p → (written : ℕ) (o : Option (List ℕ)) (base : Option Sealed)
    → IfSome o (IsGiven opens seen p.page) → IsBaseAmong p.page written p.lsn o base → IfSome base (IsBase opens seen.log p.page p.lsn)
given_base opens p range seen consistent agrees written o None given among = tt
given_base opens p range seen consistent agrees written None (Some x) given among = absurd (cc among)
given_base opens p range seen consistent agrees written (Some bytes) (Some x) given among = served_base opens p range seen.log consistent agrees written seen seen bytes x refl given (prefix_self seen.log) (omega arith) among

-- a page that is rebuilt is in hand
pub hand_of : (opens : List Record → Type 0) (p : PageClaim) → IsInRange p → (h : List Entry) → IsConsistent opens h → PageAgrees opens h p → (h' : List Entry) (x : Sealed) → IsPrefix h h' → IsRebuilt opens h' p.page p.lsn x
    → (seen : PassSeen Entry) (right : Option PageClaim) (dirty : Bool) → seen.log ≡ h → right ≡ Some p → IsInHand opens (record { page = p.page; lsn = p.lsn; state = x.state; dirty = dirty; right = right; pass = seen })
hand_of opens p range h consistent agrees h' x begins made seen right dirty is whose = record {
  right = whose;
  head = λ opening stands. subst (λ (l : List Entry). PageAgrees opens l p) (sym is) agrees opening stands;
  image = λ opening stands. ap (λ (l : List Entry). image (life_log opening l) p.page) is ∙ rebuilt_image opens p range h consistent agrees h' x begins made opening stands;
  keeps = made.keeps;
  number = range.0;
  place = range.1;
}
