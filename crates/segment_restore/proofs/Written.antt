-- Images that a restore has written.
use Rattle.std.proofs.Common.{◌≡◌, ◌≢◌, ℕ, suc, List, [], ◌∷◌, ◌++◌, take, Option, Some, Bool, true, false, refl, sym, ap, subst, ◌∙◌, arith, inl, inr}
use Rattle.std.specs.Prelude.{◌≤◌, ◌<◌, ◌+◌, ◌*◌, ◌-◌, ◌⊎◌, ◌^◌, min, not, Contains, IfSome, OnOk, OnErr, Result, Ok, Err}
use Rattle.std.proofs.lemmas.Bool.{cases_order}
use Rattle.std.proofs.lemmas.List.{take-append-le}
use mathlib.Core.List.{IsPrefix}
use Rattle.front.proofs.Keeping.{prefix_self, prefix_trans}
use Rattle.media.specs.Cause.{Rose}
use Rattle.wal_record.specs.Chains.{head, names_at}
use Rattle.wal_record.specs.History.{life_log, log_of}
use Rattle.wal_record.specs.Images.{image}
use Rattle.wal_record.specs.Upkeep.{segment_of}
use Rattle.wal_record.specs.declared.analysis.PageHead.{PageHead}
use Rattle.wal_record.specs.declared.page.PageState.{PageState}
use Rattle.wal_record.specs.declared.record.Record.{Record}
use Rattle.wal_record.specs.declared.entry.Entry.{Entry}
use Rattle.chain_laws.proofs.Steps.{heads}
use Rattle.page_image.specs.Image.{image_bytes}
use Rattle.page_image.specs.declared.sealed.Sealed.{Sealed}
use Rattle.page_ops.proofs.Staying.{longer_log}
use Rattle.page_ops.specs.Outcomes.{IsListed}
use Rattle.page_ops.specs.declared.outcome.Listed.{Listed}
use Rattle.page_repair.specs.Images.{Spares}
use Rattle.page_repair.specs.Supplies.{IsHead, IsRebuilt}
use Rattle.segment_restore.specs.Restored.{AreBack, IsBack, IsHeadImage, IsLost, SpareOthers}
use Rattle.segment_restore.proofs.Chains.{is_there, rebuilt_later}
use Rattle.segment_restore.proofs.Segments.{listed_head}

-- ---- counts of faults

-- a write was taken, or the device failed
pub taken_or : {T E : Type 0} (result : Result T E) (taken failed : Type 0) → OnOk result taken → OnErr result failed → taken ⊎ failed
taken_or (Ok x) taken failed t f = inl t
taken_or (Err e) taken failed t f = inr f

pub written_or : {T E : Type 0} (result : Result T E) (newest : Option (List ℕ)) (bytes bytes' : List ℕ) (before now : ℕ) → bytes ≡ bytes' → OnOk result (newest ≡ Some bytes) → OnErr result (Rose before now)
    → (newest ≡ Some bytes') ⊎ Rose before now
written_or result newest bytes bytes' before now is ok failed = taken_or result (newest ≡ Some bytes') (Rose before now) (on_ok result (newest ≡ Some bytes) (newest ≡ Some bytes') (λ e. e ∙ ap Some is) ok) failed
  where
    on_ok : {T E : Type 0} (result : Result T E) (P Q : Type 0) → (P → Q) → OnOk result P → OnOk result Q
    on_ok (Ok x) P Q f p = f p
    on_ok (Err e) P Q f p = tt

-- ---- one page

module _ (opens : List Record → Type 0) (page : ℕ) (written : Option (List ℕ)) where
  pub back_on : (first now later : List Entry) → IsPrefix now later → IsBack opens first now page written → IsBack opens first later page written
  back_on first now later more b = record { moment = b.moment; begins = b.begins; goes_on = prefix_trans b.moment now later b.goes_on more; image = b.image }

  pub back_from : (first now later : List Entry) → IsPrefix first now → IsBack opens now later page written → IsBack opens first later page written
  back_from first now later begins b = record { moment = b.moment; begins = prefix_trans first now b.moment begins b.begins; goes_on = b.goes_on; image = b.image }

-- the state at the head is the image
state_at : (opening : List Record) (h now : List Entry) (page : ℕ) (state : PageState) → IsPrefix h now → names_at (life_log opening h) (head (life_log opening h) page) page ≡ true
    → image (take (head (life_log opening h) page) (life_log opening now)) page ≡ Some state → image (life_log opening h) page ≡ Some state
state_at opening h now page state begins named is =
    let log = life_log opening h in
    let within = (is_there log page (head log page) named).1 in
    let longer : life_log opening now ≡ log ++ log_of begins.0 = ap (life_log opening) (sym begins.1) ∙ longer_log opening h begins.0 in
    let same : take (head log page) (life_log opening now) ≡ take (head log page) log = ap (take (head log page)) longer ∙ take-append-le (head log page) log (log_of begins.0) within in
    sym ((heads log page).stays (head log page) (omega arith)) ∙ sym (ap (λ (l : List Record). image l page) same) ∙ is

if_state : (found : Option PageState) (state : PageState) (P : PageState → Type 0) → found ≡ Some state → P state → IfSome found P
if_state found state P is p = subst (λ (o : Option PageState). IfSome o P) (sym is) p

-- a page that was written at its head is back
pub back_at_head : (opens : List Record → Type 0) (first h now : List Entry) (page : ℕ) (x : Listed) (written : Option (List ℕ)) → IsPrefix first h → IsPrefix h now → IsListed opens h page x → x.ends.head ≢ 0
    → IsHeadImage opens now page x.ends.head written → IsBack opens first now page written
back_at_head opens first h now page x written begins more l some w = record {
  moment = h;
  begins = begins;
  goes_on = more;
  image = λ opening stands.
      let log = life_log opening h in
      let e : x.ends.head ≡ head log page = ap (λ (y : PageHead). y.head) (l.ends opening stands) in
      let named : names_at log (head log page) page ≡ true = subst (λ (n : ℕ). names_at log n page ≡ true) e (listed_head opens h page x l some opening stands) in
      let at : w.0.lsn ≡ head log page = w.1.lsn ∙ e in
      let there : image (take (head log page) (life_log opening now)) page ≡ Some w.0.state = ap (λ (n : ℕ). image (take n (life_log opening now)) page) (sym at) ∙ w.1.image opening stands in
      if_state (image log page) w.0.state (λ state. written ≡ Some (image_bytes page (head log page) state)) (state_at opening h now page w.0.state more named there)
      (w.2 ∙ ap (λ (n : ℕ). Some (image_bytes page n w.0.state)) e);
}

-- a page that was never made has nothing to come back
pub back_unmade : (opens : List Record → Type 0) (first h : List Entry) (page : ℕ) (x : Listed) (written : Option (List ℕ)) → IsPrefix first h → IsListed opens h page x → x.ends.head ≡ 0 → IsBack opens first h page written
back_unmade opens first h page x written begins l none = record {
  moment = h;
  begins = begins;
  goes_on = prefix_self h;
  image = λ opening stands.
      let log = life_log opening h in
      let e : head log page ≡ 0 = sym (ap (λ (y : PageHead). y.head) (l.ends opening stands)) ∙ none in
      subst (λ (o : Option PageState). IfSome o (λ state. written ≡ Some (image_bytes page (head log page) state))) (sym ((heads log page).unmade e)) tt;
}

or_rose : {T E : Type 0} (result : Result T E) (P Q R : Type 0) → (P → Q) → OnOk result (P ⊎ R) → OnOk result (Q ⊎ R)
or_rose (Ok x) P Q R f (inl p) = inl (f p)
or_rose (Ok x) P Q R f (inr r) = inr r
or_rose (Err e) P Q R f p = tt

pub head_image : {T E : Type 0} (result : Result T E) (opens : List Record → Type 0) (h now : List Entry) (page lsn : ℕ) (x : Sealed) (newest : Option (List ℕ)) (failed : Type 0) → IsPrefix h now → IsHead opens h page lsn → IsRebuilt opens h page lsn x
    → OnOk result ((newest ≡ Some (image_bytes page lsn x.state)) ⊎ failed) → OnOk result (IsHeadImage opens now page lsn newest ⊎ failed)
head_image result opens h now page lsn x newest failed more named made =
    or_rose result (newest ≡ Some (image_bytes page lsn x.state)) (IsHeadImage opens now page lsn newest) failed (λ is. (x, rebuilt_later opens h now page lsn x more named made, is))

pub listed_back : {T E : Type 0} (result : Result T E) (opens : List Record → Type 0) (first h now : List Entry) (page : ℕ) (x : Listed) (newest : Option (List ℕ)) (failed : Type 0) → IsPrefix first h → IsPrefix h now → IsListed opens h page x → x.ends.head ≢ 0
    → OnOk result (IsHeadImage opens now page x.ends.head newest ⊎ failed) → OnOk result (IsBack opens first now page newest ⊎ failed)
listed_back result opens first h now page x newest failed begins more l some =
    or_rose result (IsHeadImage opens now page x.ends.head newest) (IsBack opens first now page newest) failed (back_at_head opens first h now page x newest begins more l some)

-- ---- a segment, page by page

lost_within : (segment lost page : ℕ) → IsLost segment lost page → (16 * segment < page) × (page ≤ 16 * segment + 16)
lost_within segment lost page l = let p = l.positive in let s = l.inside in omega (arith, p, s)

-- the pages up to this one
abbrev pub IsLostTo : ℕ → ℕ → ℕ → ℕ → Type 0
IsLostTo segment lost last page = IsLost segment lost page × (page ≤ last)

pub none_back : (opens : List Record → Type 0) (first now : List Entry) (segment lost : ℕ) (newest : ℕ → Option (List ℕ)) (start faults before : ℕ) → start ≤ faults → before ≤ 16 * segment
    → AreBack opens first now (IsLostTo segment lost before) newest start faults
none_back opens first now segment lost newest start faults before later low = record {
  missing = [];
  failed = omega (arith, later);
  back = λ page l. let w = lost_within segment lost page l.0 in let a = w.0 in let b = l.1 in absurd (omega (arith, low, b, a));
}

pub all_back : (opens : List Record → Type 0) (first now : List Entry) (which these : ℕ → Type 0) (newest : ℕ → Option (List ℕ)) (start faults : ℕ) → ((page : ℕ) → these page → which page) → AreBack opens first now which newest start faults
    → AreBack opens first now these newest start faults
all_back opens first now which these newest start faults among b = record { missing = b.missing; failed = b.failed; back = λ page t. b.back page (among page t) }

-- one page more is missing
one_more : (xs : List ℕ) (x y : ℕ) → Contains xs y → Contains (x ∷ xs) y
one_more xs x y c = (suc c.0, let lt = c.1 in omega (arith, lt), c.2)

the_one : (xs : List ℕ) (x : ℕ) → Contains (x ∷ xs) x
the_one xs x = (0, omega arith, refl)

module _ (opens : List Record → Type 0) (first now later : List Entry) (segment lost last : ℕ) (newest newest' : ℕ → Option (List ℕ)) (start faults faults' : ℕ)
    (begins : IsPrefix first now) (more : IsPrefix now later) (high : faults ≤ faults') (here : ℕ) (is : here ≡ last + 1) (others : (p : ℕ) → p ≢ here → newest' p ≡ newest p) where
  kept : (page : ℕ) → page ≢ here → IsBack opens first now page (newest page) → IsBack opens first later page (newest' page)
  kept page apart b = subst (λ (w : Option (List ℕ)). IsBack opens first later page w) (sym (others page apart)) (back_on opens page (newest page) first now later more b)

  -- the pages so far, and the new one
  with_new : (old missing : List ℕ) (upto : ℕ) → upto ≤ here → ((page : ℕ) → IsLostTo segment lost last page → IsBack opens first now page (newest page) ⊎ Contains old page) → ((page : ℕ) → Contains old page → Contains missing page)
      → IsBack opens first later here (newest' here) ⊎ Contains missing here → (page : ℕ) → IsLostTo segment lost upto page → IsBack opens first later page (newest' page) ⊎ Contains missing page
  with_new old missing upto within all still new page l =
      let low = l.1 in
      elim (cases_order page here) [
        | inl same ↦ subst (λ (p : ℕ). IsBack opens first later p (newest' p) ⊎ Contains missing p) (sym same) new
        | inr (inl below) ↦ elim (all page (l.0, omega (arith, below, is))) [ inl b ↦ inl (kept page (λ e. omega (arith, below, e)) b) | inr c ↦ inr (still page c) ]
        | inr (inr above) ↦ absurd (omega (arith, above, low, within))
      ]

  pub more_back : (upto : ℕ) → upto ≤ here → AreBack opens first now (IsLostTo segment lost last) newest start faults → IsBack opens now later here (newest' here) ⊎ Rose faults faults' → AreBack opens first later (IsLostTo segment lost upto) newest' start faults'
  more_back upto within all (inl b) =
      let f = all.failed in
      record { missing = all.missing; failed = omega (arith, f, high); back = with_new all.missing all.missing upto within all.back (λ page c. c) (inl (back_from opens here (newest' here) first now later begins b)) }
  more_back upto within all (inr rose) =
      let f = all.failed in
      record { missing = here ∷ all.missing; failed = omega (arith, f, rose); back = with_new all.missing (here ∷ all.missing) upto within all.back (one_more all.missing here) (inr (the_one all.missing here)) }

-- the page behind these is one of the segment's
pub lost_next : (segment lost done : ℕ) → min (segment * 16) (2 ^ 32 - 1) ≤ done → done < min lost (min (min (segment * 16) (2 ^ 32 - 1) + 16) (2 ^ 32 - 1)) → IsLost segment lost (done + 1)
lost_next segment lost done low high = record { positive = omega arith; inside = omega (arith, low, high); upto = omega (arith, high) }

-- a write of one of its pages leaves the others as they are
pub spared : (segment lost here : ℕ) (start newest newest' : ℕ → Option (List ℕ)) → IsLost segment lost here → ((p : ℕ) → p ≢ here → newest' p ≡ newest p)
    → ((p : ℕ) → (IsLost segment lost p → ⊥) → newest p ≡ start p) → (p : ℕ) → (IsLost segment lost p → ⊥) → newest' p ≡ start p
spared segment lost here start newest newest' lost_here others so_far p apart = others p (λ e. apart (subst (IsLost segment lost) (sym e) lost_here)) ∙ so_far p apart

-- no page of the segment stands behind its last one
pub lost_upto : (segment lost page last : ℕ) → IsLost segment lost page → lost < 2 ^ 32 → min lost (min (min (segment * 16) (2 ^ 32 - 1) + 16) (2 ^ 32 - 1)) ≤ last → page ≤ last
lost_upto segment lost page last l few most = let w = lost_within segment lost page l in let a = w.0 in let b = w.1 in let c = l.upto in omega (arith, few, most, a, b, c)

not_none : (b : Bool) → not b ≡ false → b ≡ true
not_none true e = refl
not_none false e = sym e

-- a restore of the page's segment spares the other segments
pub spares_others : {I : Type 0} (opens : List Record → Type 0) (page segment : ℕ) (x : Listed) (before at now : List Entry) (newest : I → ℕ → Option (List ℕ)) (old new : I) → segment ≡ segment_of page → IsListed opens at page x → not x.unrestored ≡ false
    → IsPrefix before at → IsPrefix at now → SpareOthers (IsLost segment x.lost) newest old new → Spares opens page before now newest old new
spares_others opens page segment x before at now newest old new is l unrestored begins goes_on s =
    inr (record { moment = at; begins = begins; goes_on = goes_on; is = λ opening stands. sym (l.unrestored opening stands) ∙ not_none x.unrestored unrestored }, λ p apart. s p (λ lost. apart (lost.inside ∙ is)))
