-- A segment's pages are copied one by one.
use Rattle.std.proofs.Common.{◌≡◌, ◌⊎◌, ℕ, ◌+◌, ◌-◌, ◌*◌, ◌/◌, ◌<◌, ◌≤◌, List, [], ◌∷◌, ◌++◌, map, refl, sym, ap, subst, ◌∙◌, arith, inl, inr}
use Rattle.std.specs.Prelude.{IsTrue}
use Rattle.std.proofs.lemmas.List.{length_push, map-append}
use mathlib.Core.List.{IsPrefix}
use Rattle.front.proofs.Keeping.{prefix_self, prefix_trans}
use Rattle.wal_record.specs.Rules.{is_page}
use Rattle.wal_record.specs.Upkeep.{segment_of}
use Rattle.wal_record.specs.declared.record.PageLsn.{PageLsn}
use Rattle.wal_record.specs.declared.record.Record.{Record}
use Rattle.wal_record.specs.declared.entry.Entry.{Entry}
use Rattle.backup_set.specs.Backup.{IsAmong, IsCopy, copy_bytes}
use Rattle.backup_set.specs.Reading.{last_page}
use Rattle.backup_set.specs.declared.copy.PageCopy.{PageCopy}
use Rattle.backup_set.proofs.Walking.{fit_more, last_more}
use Rattle.foster_tree.specs.Nows.{IsNow}
use Rattle.page_ops.specs.Groups.{Each}
use Rattle.page_ops.specs.Hands.{Hand, IsInHand}
use Rattle.backups.specs.Copies.{AreDrawn, Drawn, HasOneMore, IsCurrent, WasCurrent, drawn_of, nothing_drawn, told_of}
use Rattle.backups.proofs.Lists.{among_last, among_left, each_both, each_more, low_or_high}

-- ---- a page in hand

pub one_more : (opens : List Record → Type 0) (h : List Entry) (page : ℕ) (x : Hand) (old new : Drawn) → x.page ≡ page → IsInHand opens x → IsNow opens h x → new.told ≡ old.told ++ record { page = page; lsn = x.lsn } ∷ []
    → (image : List ℕ) → image ≡ copy_bytes (record { page = page; sealed = record { state = x.state; lsn = x.lsn } }) → new.images ≡ old.images ++ image ∷ [] → HasOneMore opens h page old new
one_more opens h page x old new is hand now told image sealed images =
    let copy : PageCopy = record { page = page; sealed = record { state = x.state; lsn = x.lsn } } in
    record {
      copy = copy;
      is = refl;
      number = subst (λ (p : ℕ). IsTrue (is_page p)) is hand.number;
      place = hand.place;
      keeps = hand.keeps;
      more = let bytes = images ∙ ap (λ (i : List ℕ). old.images ++ i ∷ []) sealed in (λ i. record { told = told i; images = bytes i });
      current = subst (λ (p : ℕ). IsCurrent opens h (record { page = p; sealed = record { state = x.state; lsn = x.lsn } })) is (record { lsn = now.agrees; image = now.image });
    }

-- ---- a page more

inside : (segment count : ℕ) → count < 16 → (16 * segment + count + 1 - 1) / 16 ≡ segment
inside segment count few = omega arith

pub nothing : (opens : List Record → Type 0) (h : List Entry) (segment : ℕ) → AreDrawn opens h h segment 0 nothing_drawn
nothing opens h segment = record {
  copies = [];
  drawn = refl;
  long = refl;
  fit = tt;
  upto = omega arith;
  each = λ page above upto. absurd (omega (arith, above, upto));
  current = tt;
}

all_later : (opens : List Record → Type 0) (first second third : List Entry) → IsPrefix second third → (cs : List PageCopy) → Each (WasCurrent opens first second) cs → Each (WasCurrent opens first third) cs
all_later opens first second third begins = each_more (WasCurrent opens first second) (WasCurrent opens first third) (λ c w. record { moment = w.moment; begins = w.begins; goes_on = prefix_trans w.moment second third w.goes_on begins; current = w.current })

pub later : (opens : List Record → Type 0) (first second third : List Entry) (segment count : ℕ) (x : Drawn) → IsPrefix second third → AreDrawn opens first second segment count x → AreDrawn opens first third segment count x
later opens first second third segment count x begins d = record {
  copies = d.copies;
  drawn = d.drawn;
  long = d.long;
  fit = d.fit;
  upto = d.upto;
  each = d.each;
  current = all_later opens first second third begins d.copies d.current;
}

module _ (opens : List Record → Type 0) (first second third : List Entry) (segment count page : ℕ) (x y : Drawn) (since : IsPrefix first second) (begins : IsPrefix second third) (few : count < 16) (next : page ≡ 16 * segment + count + 1)
    (d : AreDrawn opens first second segment count x) (o : HasOneMore opens third page x y) where
  abbrev copies : List PageCopy
  copies = d.copies ++ o.copy ∷ []

  here : o.copy.page ≡ 16 * segment + count + 1
  here = o.is ∙ next

  drawn_more : y ≡ drawn_of copies
  drawn_more =
      let told : x.told ≡ map told_of d.copies = ap (λ (z : Drawn). z.told) d.drawn in
      let images : x.images ≡ map copy_bytes d.copies = ap (λ (z : Drawn). z.images) d.drawn in
      let more_told : x.told ++ told_of o.copy ∷ [] ≡ map told_of copies = ap (λ (l : List PageLsn). l ++ told_of o.copy ∷ []) told ∙ sym (map-append told_of d.copies (o.copy ∷ [])) in
      let more_images : x.images ++ copy_bytes o.copy ∷ [] ≡ map copy_bytes copies = ap (λ (l : List (List ℕ)). l ++ copy_bytes o.copy ∷ []) images ∙ sym (map-append copy_bytes d.copies (o.copy ∷ [])) in
      o.more ∙ (λ i. record { told = more_told i; images = more_images i })

  fits : IsCopy segment (last_page 0 d.copies) o.copy
  fits = record {
    page = subst (λ (p : ℕ). IsTrue (is_page p)) (sym o.is) o.number;
    in_segment = ap segment_of here ∙ inside segment count few;
    rises = let u = d.upto in let p = here in omega (arith, u, p);
    state = o.keeps;
    lsn = o.place;
  }

  has : (p : ℕ) → 16 * segment < p → p ≤ 16 * segment + (count + 1) → (c : PageCopy) × IsAmong c copies × (c.page ≡ p)
  has p above upto = by (low_or_high p (16 * segment + count))
    where
      by : (p ≤ 16 * segment + count) ⊎ (16 * segment + count < p) → (c : PageCopy) × IsAmong c copies × (c.page ≡ p)
      by (inl before) = let e = d.each p above before in (e.0, among_left e.0 d.copies (o.copy ∷ []) e.1, e.2)
      by (inr last) = (o.copy, among_last o.copy d.copies, here ∙ omega (arith, upto, last))

  pub more : AreDrawn opens first third segment (count + 1) y
  more = record {
    copies = copies;
    drawn = drawn_more;
    long = length_push d.copies o.copy ∙ ap (λ (n : ℕ). n + 1) d.long;
    fit = fit_more segment 0 d.copies o.copy d.fit fits;
    upto = let p = last_more 0 d.copies o.copy ∙ here in omega (arith, p);
    each = has;
    current = each_both (WasCurrent opens first third) d.copies (o.copy ∷ []) (all_later opens first second third begins d.copies d.current) (record { moment = third; begins = prefix_trans first second third since begins; goes_on = prefix_self third; current = o.current }, tt);
  }
