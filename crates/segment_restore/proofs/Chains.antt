-- A chain that is followed by the journal: each log of the life answers as it was first seen.
use Rattle.std.proofs.Common.{◌≡◌, ℕ, zero, suc, length, refl, ◌≤◌, true, List, [], ◌++◌, reverse, Option, Some, None, sym, ap, subst, ◌∙◌, arith, inr}
use Rattle.std.specs.Prelude.{IfSome, IsTrue, take}
use Rattle.std.proofs.lemmas.List.{take-append-le}
use Rattle.wal_record.specs.Images.{image}
use mathlib.Core.List.{IsPrefix}
use Rattle.front.specs.Seen.{PassSeen}
use Rattle.store_model.specs.declared.fault.Fault.{Fault}
use Rattle.store_model.specs.declared.fault.Fault.TheVariants as faults
use Rattle.wal_record.specs.Chains.{names_at, record_with}
use Rattle.wal_record.specs.History.{life_log, log_of}
use Rattle.wal_record.specs.Sound.{AreLawful}
use Rattle.wal_record.specs.declared.record.Record.{Record}
use Rattle.wal_record.specs.declared.entry.Entry.{Entry}
use Rattle.chain_laws.specs.Steps.{named_between, previous}
use Rattle.chain_laws.proofs.Named.{at_place, named_kept, place_kept, head_in}
use Rattle.chain_laws.proofs.Steps.{heads}
use Rattle.page_image.specs.Image.{image_bytes}
use Rattle.page_image.specs.declared.sealed.Sealed.{Sealed}
use Rattle.page_ops.specs.Causes.{EndsBy, FailsToBring, FailsToRead, IsUntold, MeetsNoEnd}
use Rattle.page_ops.specs.Desks.{Faults}
use Rattle.page_ops.specs.Names.{LedgerName}
use Rattle.page_ops.specs.Seeing.{Account, Enters, IsConsistent, Keeps, Looks, Upholds, is_none, known}
use Rattle.page_ops.proofs.Staying.{longer_log}
use Rattle.page_ops.specs.Claims.{Claims, no_claims}
use Rattle.page_ops.proofs.Composing.{bring_then}
use Rattle.page_ops.proofs.Gaining.{goes_of, looked, upheld, upheld_then}
use Rattle.page_repair.specs.Chains.{IsUnknown, IsImageAt}
use Rattle.page_repair.specs.Rebuild.{IsBaseOf, IsChainOf, IsPageOf, Replayed, base_lsn, base_state}
use Rattle.page_repair.proofs.RebuiltPages.{page_is, unknown_if_none, unknown_if_not}
use Rattle.wal_record.specs.State.{KeepsState}
use Rattle.wal_record.specs.declared.page.PageState.{PageState}
use Rattle.std.specs.Prelude.{Bool, false}
use Rattle.page_repair.specs.Supplies.{IsBase, IsHead, IsRebuilt}
use Rattle.page_repair.proofs.Following.{falls}
use Rattle.std.specs.Option.{option_map}
use Rattle.segment_restore.specs.Based.{IsBased}
use Rattle.segment_restore.specs.declared.base.Base.{Base}

-- ---- the logs of a life, as they were seen

abbrev pub IsLogOf : (List Record → Type 0) → List Entry → List Record → Type 0
IsLogOf opens h log = (opening : List Record) × opens opening × (log ≡ life_log opening h)

longer : (opening : List Record) (h now : List Entry) (begins : IsPrefix h now) → life_log opening now ≡ life_log opening h ++ log_of begins.0
longer opening h now begins = ap (life_log opening) (sym begins.1) ∙ longer_log opening h begins.0

-- a record that is found later at an LSN that named the page was there before
pub found_first : (log more : List Record) (p lsn : ℕ) (r : Record) → names_at log lsn p ≡ true → record_with (log ++ more) lsn ≡ Some r → record_with log lsn ≡ Some r
found_first log more p lsn r named found =
    let at = at_place log lsn p named in
    let there : record_with log lsn ≡ Some at.1 = ap (record_with log) at.2 ∙ at.3 in
    there ∙ sym (place_kept log more lsn at.1 there) ∙ found

pub found_in : (opens : List Record → Type 0) (h now : List Entry) (p lsn : ℕ) (r : Record) → IsPrefix h now → IsHead opens h p lsn → (opening : List Record) → opens opening → record_with (life_log opening now) lsn ≡ Some r
    → record_with (life_log opening h) lsn ≡ Some r
found_in opens h now p lsn r begins named opening stands found =
    found_first (life_log opening h) (log_of begins.0) p lsn r (named opening stands) (subst (λ (l : List Record). record_with l lsn ≡ Some r) (longer opening h now begins) found)

pub head_later : (opens : List Record → Type 0) (h now : List Entry) (p lsn : ℕ) → IsPrefix h now → IsHead opens h p lsn → IsHead opens now p lsn
head_later opens h now p lsn begins named opening stands =
    subst (λ (l : List Record). IsTrue (names_at l lsn p)) (sym (longer opening h now begins)) (named_kept (life_log opening h) (log_of begins.0) p lsn (named opening stands))

-- ---- why a read is refused

pub read_fails : (opens : List Record → Type 0) (log_faults made : LedgerName) (own : Faults) (old new : Account) (h : List Entry) (f : Fault) → FailsToRead opens f → EndsBy opens log_faults made old new h f → FailsToBring opens log_faults made own own old new h f
read_fails opens log_faults made own old new h faults.Memory may why = why
read_fails opens log_faults made own old new h faults.LogFault may why = (why.1, inr why.2)
read_fails opens log_faults made own old new h (faults.Ended at) may why = why
read_fails opens log_faults made own old new h (faults.LogBad block byte) may why = (record { ended = why.1.0 ∙ sym why.0.0; amount = why.1.1 ∙ sym why.0.1 }, may)
read_fails opens log_faults made own old new h _ may why = absurd may

pub is_there : (log : List Record) (p lsn : ℕ) → names_at log lsn p ≡ true → (1 ≤ lsn) × (lsn ≤ length log)
is_there log p zero h = absurd (cc h)
is_there log p (suc n) h = (omega arith, let m = (heads log p).most (suc n) h in let l = head_in p log in omega (arith, m, l))

-- ---- a step that doesn't fall

pub rises_untold : (opens : List Record → Type 0) (h now : List Entry) (p lsn : ℕ) (r : Record) → IsPrefix h now → IsConsistent opens now → IsHead opens h p lsn
    → ((opening : List Record) → opens opening → record_with (life_log opening now) lsn ≡ Some r) → lsn ≤ previous p r → IsUntold opens
rises_untold opens h now p lsn r begins consistent named found rises opening stands =
    falls (life_log opening now) p lsn r ((consistent.sound opening stands).lawful) (head_later opens h now p lsn begins named opening stands) (found opening stands) rises

-- ---- the page that is rebuilt

module _ (opens : List Record → Type 0) (h : List Entry) (p high : ℕ) where
  pub is_chain : IsConsistent opens h → IsHead opens h p high → IsChainOf (IsLogOf opens h) p high
  is_chain consistent named = record {
    lawful = λ log l. subst AreLawful (sym l.2) ((consistent.sound l.0 l.1).lawful);
    named = λ log l. subst (λ (x : List Record). IsTrue (names_at x high p)) (sym l.2) (named l.0 l.1);
  }

  pub is_base : (base : Option Sealed) → IfSome base (IsBase opens h p high) → IfSome base (IsBaseOf (IsLogOf opens h) p high)
  is_base None b = tt
  is_base (Some x) b = record { keeps = b.keeps; before = b.before; image = λ log l. subst (λ (y : List Record). IsImageAt y p x) (sym l.2) (b.image l.0 l.1) }

  pub untold_of : IsUnknown (IsLogOf opens h) → IsUntold opens
  untold_of unknown opening stands = unknown (life_log opening h) (opening, stands, refl)

  pub is_rebuilt : (x : Sealed) → IsPageOf (IsLogOf opens h) p high x → IsRebuilt opens h p high x
  is_rebuilt x page = record { keeps = page.keeps; lsn = page.lsn; image = λ opening stands. page.image (life_log opening h) (opening, stands, refl) }

  pub records_of : (rs : List Record) (low : ℕ) → ((opening : List Record) → opens opening → rs ≡ reverse (named_between (life_log opening h) p low high))
      → (log : List Record) → IsLogOf opens h log → rs ≡ reverse (named_between log p low high)
  records_of rs low found log l = found l.0 l.1 ∙ sym (ap (λ (x : List Record). reverse (named_between x p low high)) l.2)

-- ---- calls one after the other

pub open_then : (a b c : Account) → MeetsNoEnd a b → MeetsNoEnd b c → MeetsNoEnd a c
open_then a b c x y = record { ended = y.ended ∙ x.ended; amount = y.amount ∙ x.amount }

module _ (opens : List Record → Type 0) (entries sessions : LedgerName) (a b c : Account) (p q r : PassSeen Entry) where
  pub upheld_looked : Upholds opens entries sessions is_none (known a p no_claims) (known b q no_claims) → Looks opens entries sessions b q c r → Upholds opens entries sessions is_none (known a p no_claims) (known c r no_claims)
  upheld_looked u l =
      upheld_then is_none opens entries sessions (known a p no_claims) (known b q no_claims) (known c r no_claims) (goes_of is_none opens entries sessions (known a p no_claims) (known b q no_claims) u) (upheld opens entries sessions is_none b c q r l)

  pub upheld_both : Upholds opens entries sessions is_none (known a p no_claims) (known b q no_claims) → Upholds opens entries sessions is_none (known b q no_claims) (known c r no_claims) → Upholds opens entries sessions is_none (known a p no_claims) (known c r no_claims)
  upheld_both u v = upheld_then is_none opens entries sessions (known a p no_claims) (known b q no_claims) (known c r no_claims) (goes_of is_none opens entries sessions (known a p no_claims) (known b q no_claims) u) v

pub looks : (opens : List Record → Type 0) (entries sessions : LedgerName) (b c : Account) (q r : PassSeen Entry) (x y : Claims) → Enters opens entries sessions (known b q x) [] (known c r y)
    → Upholds opens entries sessions is_none (known b q no_claims) (known c r no_claims)
looks opens entries sessions b c q r x y e = upheld opens entries sessions is_none b c q r (looked opens entries sessions b c q r x y e)

pub fails_then : (opens : List Record → Type 0) (log_faults made : LedgerName) (own : Faults) (a b c : Account) (h : List Entry) (f : Fault) → MeetsNoEnd a b → Keeps a b → FailsToBring opens log_faults made own own b c h f → FailsToBring opens log_faults made own own a c h f
fails_then opens log_faults made own a b c h f none keeps e = bring_then opens log_faults made a b c h none keeps own own own f (record { log = omega arith; vault = omega arith }) e

-- ---- images, as the log goes on

image_later : (opening : List Record) (h now : List Entry) (p lsn : ℕ) (x : Sealed) → IsPrefix h now → names_at (life_log opening h) lsn p ≡ true → x.lsn ≤ lsn → IsImageAt (life_log opening h) p x → IsImageAt (life_log opening now) p x
image_later opening h now p lsn x begins named low there =
    let within = (is_there (life_log opening h) p lsn named).1 in
    let same : take x.lsn (life_log opening now) ≡ take x.lsn (life_log opening h) = ap (take x.lsn) (longer opening h now begins) ∙ take-append-le x.lsn (life_log opening h) (log_of begins.0) (omega (arith, within, low)) in
    ap (λ (l : List Record). image l p) same ∙ there

pub base_later : (opens : List Record → Type 0) (h now : List Entry) (p high : ℕ) (base : Option Sealed) → IsPrefix h now → IsHead opens h p high → IfSome base (IsBase opens h p high) → IfSome base (IsBase opens now p high)
base_later opens h now p high None begins named b = tt
base_later opens h now p high (Some x) begins named b = record { keeps = b.keeps; before = b.before; image = λ opening stands. image_later opening h now p high x begins (named opening stands) b.before (b.image opening stands) }

pub base_keeps : (opens : List Record → Type 0) (h : List Entry) (p high : ℕ) (base : Option Sealed) → IfSome base (IsBase opens h p high) → (old : Option PageState) → old ≡ base_state base → IfSome old KeepsState
base_keeps opens h p high None b old is = subst (λ (o : Option PageState). IfSome o KeepsState) (sym is) tt
base_keeps opens h p high (Some x) b old is = subst (λ (o : Option PageState). IfSome o KeepsState) (sym is) b.keeps

pub rebuilt_later : (opens : List Record → Type 0) (h now : List Entry) (p high : ℕ) (x : Sealed) → IsPrefix h now → IsHead opens h p high → IsRebuilt opens h p high x → IsRebuilt opens now p high x
rebuilt_later opens h now p high x begins named r =
    let at = r.lsn in
    record { keeps = r.keeps; lsn = r.lsn; image = λ opening stands. image_later opening h now p high x begins (named opening stands) (omega (arith, at)) (r.image opening stands) }

-- ---- a page that is rebuilt, as it was seen

module _ (opens : List Record → Type 0) (h : List Entry) (p high : ℕ) (consistent : IsConsistent opens h) (named : IsHead opens h p high) (base : Option Sealed) (based : IfSome base (IsBase opens h p high))
    (low : ℕ) (low_is : low ≡ base_lsn base) (old : Option PageState) (old_is : old ≡ base_state base) (rs : List Record) (found : (opening : List Record) → opens opening → rs ≡ reverse (named_between (life_log opening h) p low high)) where
  all : (log : List Record) → IsLogOf opens h log → rs ≡ reverse (named_between log p low high)
  all = records_of opens h p high rs low found

  pub untold_if_not : (new : Option PageState) (done : Bool) → done ≡ false → Replayed p (reverse rs) old new done → IsUntold opens
  untold_if_not new done is r = untold_of opens h p high (unknown_if_not (IsLogOf opens h) p high (is_chain opens h p high consistent named) base (is_base opens h p high base based) low low_is old old_is rs all new done is r)

  pub untold_if_none : (new : Option PageState) (done : Bool) → done ≡ true → Replayed p (reverse rs) old new done → new ≡ None → IsUntold opens
  untold_if_none new done is r none = untold_of opens h p high (unknown_if_none (IsLogOf opens h) p high (is_chain opens h p high consistent named) base (is_base opens h p high base based) low low_is old old_is rs all new done is r none)

  pub made : (new : Option PageState) (done : Bool) (s : PageState) → done ≡ true → Replayed p (reverse rs) old new done → IfSome new KeepsState → new ≡ Some s → IsRebuilt opens h p high (record { state = s; lsn = high })
  made new done s is r keeps is_s = is_rebuilt opens h p high (record { state = s; lsn = high }) (page_is (IsLogOf opens h) p high (is_chain opens h p high consistent named) base (is_base opens h p high base based) low low_is old old_is rs all new done s is r keeps is_s)

-- ---- an image with its bytes

-- without them it is an image to begin from
pub based : (opens : List Record → Type 0) (h : List Entry) (p high : ℕ) (base : Option Base) (image : Option Sealed) → image ≡ option_map (λ (b : Base). b.sealed) base → IfSome base (IsBased opens h p high) → IfSome image (IsBase opens h p high)
based opens h p high None image is b = subst (λ (o : Option Sealed). IfSome o (IsBase opens h p high)) (sym is) tt
based opens h p high (Some x) image is b = subst (λ (o : Option Sealed). IfSome o (IsBase opens h p high)) (sym is) b.image

-- at the head it is the page's image there
pub at_head : (opens : List Record → Type 0) (h now : List Entry) (p high : ℕ) (b : Base) → IsPrefix h now → IsHead opens h p high → b.sealed.lsn ≡ high → IsBased opens h p high b → IsRebuilt opens now p high b.sealed
at_head opens h now p high b begins named at is = rebuilt_later opens h now p high b.sealed begins named (record { keeps = is.image.keeps; lsn = at; image = is.image.image })

pub own_bytes : (p high : ℕ) (b : Base) → b.sealed.lsn ≡ high → IfSome b.bytes (λ bytes. bytes ≡ image_bytes p b.sealed.lsn b.sealed.state) → IfSome b.bytes (λ bytes. bytes ≡ image_bytes p high b.sealed.state)
own_bytes p high b at is = subst (λ (n : ℕ). IfSome b.bytes (λ bytes. bytes ≡ image_bytes p n b.sealed.state)) at is
