-- Two pages in hand at any moment at which both rights agree, and behind a group of one record that was entered.
use Rattle.std.proofs.Common.{◌≡◌, List, Option, Some, true, ap, subst, ◌∙◌}
use Rattle.std.specs.Prelude.{IfSome}
use mathlib.Core.List.{IsPrefix}
use Rattle.books.specs.Rights.{PageClaim}
use Rattle.front.specs.Seen.{PassSeen}
use Rattle.front.proofs.Keeping.{prefix_trans}
use Rattle.wal_record.specs.State.{KeepsState}
use Rattle.wal_record.specs.Books.{page_book}
use Rattle.wal_record.specs.Chains.{head}
use Rattle.wal_record.specs.History.{life_log, log_of}
use Rattle.wal_record.specs.Images.{image}
use Rattle.wal_record.specs.Sound.{IsLawful}
use Rattle.wal_record.specs.declared.page.PageState.{PageState}
use Rattle.wal_record.specs.declared.record.Record.{Record}
use Rattle.wal_record.specs.declared.entry.Entry.{Entry}
use Rattle.wal_record.proofs.Along.{AllAlong_less}
use Rattle.foster_laws.specs.InHand.{IsSeen}
use Rattle.page_ops.specs.Claims.{PageAgrees, IsInRange}
use Rattle.page_ops.specs.Hands.{Hand, IsInHand}
use Rattle.page_ops.specs.Outcomes.{page_of}
use Rattle.page_ops.specs.Seeing.{IsConsistent, IsMoment}
use Rattle.page_ops.proofs.Staying.{image_later}
use Rattle.smo.proofs.Settling.{page_same}
use Rattle.adoption.specs.Adoptions.{claims_of_both}

pub seen_of : (opens : List Record → Type 0) (opening : List Record) (h : List Entry) → opens opening → IsConsistent opens h → IsSeen opening h
seen_of opens opening h stands consistent =
    let sound = consistent.sound opening stands in
    record {
      lawful = AllAlong_less IsLawful opening (log_of h) sound.lawful;
      rest = record { legal = consistent.legal opening stands; sound = sound; told = consistent.told; split = consistent.split opening stands };
      some = consistent.some opening stands;
    }

module _ (opens : List Record → Type 0) (seen : List Entry) (parent fosterer : Hand) (there : IsInHand opens parent) (there' : IsInHand opens fosterer) (begins : IsPrefix parent.pass.log seen) (begins' : IsPrefix fosterer.pass.log seen)
    (opening : List Record) (stands : opens opening) (h : List Entry) (moment : IsMoment opens seen (claims_of_both parent fosterer) h) where
  agrees : PageAgrees opens h (record { page = parent.page; lsn = parent.lsn })
  agrees = subst (λ (o : Option PageClaim). IfSome o (PageAgrees opens h)) there.right moment.rights.a

  agrees' : PageAgrees opens h (record { page = fosterer.page; lsn = fosterer.lsn })
  agrees' = subst (λ (o : Option PageClaim). IfSome o (PageAgrees opens h)) there'.right moment.rights.b

  pub parent_image : image (life_log opening h) parent.page ≡ Some parent.state
  parent_image = image_later opens parent h there (prefix_trans _ _ _ begins moment.begins) agrees opening stands

  pub fosterer_image : image (life_log opening h) fosterer.page ≡ Some fosterer.state
  fosterer_image = image_later opens fosterer h there' (prefix_trans _ _ _ begins' moment.begins) agrees' opening stands

  pub parent_last : parent.lsn ≡ head (life_log opening h) parent.page
  parent_last = agrees opening stands

  pub fosterer_last : fosterer.lsn ≡ head (life_log opening h) fosterer.page
  fosterer_last = agrees' opening stands

-- a page whose right came back
pub back_in_hand : (opens : List Record → Type 0) (hand : Hand) (there : IsInHand opens hand) (seen : PassSeen Entry) (o : Option PageClaim) (c : PageClaim) (state : PageState) → o ≡ Some c → page_of o ≡ page_of hand.right
    → IfSome o (PageAgrees opens seen.log) → IfSome o IsInRange → ((opening : List Record) → opens opening → image (life_log opening seen.log) hand.page ≡ Some state) → KeepsState state
    → IsInHand opens (record { page = hand.page; lsn = c.lsn; state = state; dirty = true; right = Some c; pass = seen })
back_in_hand opens hand there seen o c state is same agrees range here keeps =
    let page : c.page ≡ hand.page = page_same o c (record { page = hand.page; lsn = hand.lsn }) is (same ∙ ap page_of there.right) in
    let agreed : PageAgrees opens seen.log c = subst (λ (x : Option PageClaim). IfSome x (PageAgrees opens seen.log)) is agrees in
    let inside : IsInRange c = subst (λ (x : Option PageClaim). IfSome x IsInRange) is range in
    record {
      right = λ i. Some (record { page = page i; lsn = c.lsn });
      head = λ opening stands. agreed opening stands ∙ ap (page_book opening seen.log) page;
      image = here;
      keeps = keeps;
      number = there.number;
      place = inside.1;
    }
