-- What is so of a leaf in hand at any moment at which its right agrees.
use Rattle.std.proofs.Common.{◌≡◌, ◌+◌, ◌^◌, List, [], length, Option, Some, sym, ap, subst, arith, append-nil, refl, inl, inr}
use Rattle.std.specs.Prelude.{IfSome, IsTrue}
use Rattle.std.proofs.lemmas.Bool.{cases_lt}
use mathlib.Core.List.{IsPrefix}
use Rattle.books.specs.Rights.{PageClaim, SessionClaim}
use Rattle.front.proofs.Keeping.{prefix_trans}
use Rattle.wal_record.specs.State.{leaf_rows}
use Rattle.wal_record.specs.Chains.{head}
use Rattle.wal_record.specs.History.{life_log, log_of}
use Rattle.wal_record.specs.Images.{image}
use Rattle.wal_record.specs.Sound.{IsLawful}
use Rattle.wal_record.specs.declared.page.Rows.TheVariants.{Leaf}
use Rattle.wal_record.specs.declared.record.Record.{Record}
use Rattle.wal_record.specs.declared.entry.Entry.{Entry}
use Rattle.wal_record.proofs.Along.{AllAlong_less}
use Rattle.claim_laws.specs.Entering.{IsAtRest}
use Rattle.foster_laws.specs.InHand.{IsSeen}
use Rattle.foster_laws.specs.Purges.{has_tombstone}
use Rattle.foster_laws.proofs.InHand.{hand_law}
use Rattle.page_ops.specs.Asking.{IsAskable}
use Rattle.page_ops.specs.Claims.{PageAgrees}
use Rattle.page_ops.specs.Hands.{Hand, IsInHand}
use Rattle.page_ops.specs.Seeing.{IsMoment}
use Rattle.page_ops.proofs.Staying.{image_later}
use Rattle.asking_laws.proofs.Asks.{asks_law}
use Rattle.smo.specs.Purges.{purge_of, purge_group}
use Rattle.smo.specs.Settled.{claims_of}

module _ (opens : List Record → Type 0) (seen : List Entry) (hand : Hand) (owner : Option SessionClaim) (there : IsInHand opens hand) (begins : IsPrefix hand.pass.log seen)
    (opening : List Record) (stands : opens opening) (h : List Entry) (moment : IsMoment opens seen (claims_of hand owner) h) where
  pub agrees : PageAgrees opens h (record { page = hand.page; lsn = hand.lsn })
  agrees = subst (λ (o : Option PageClaim). IfSome o (PageAgrees opens h)) there.right moment.rights.a

  pub is_image : image (life_log opening h) hand.page ≡ Some hand.state
  is_image = image_later opens hand h there (prefix_trans _ _ _ begins moment.begins) agrees opening stands

  pub last_is : hand.lsn ≡ head (life_log opening h) hand.page
  last_is = agrees opening stands

  pub is_seen : IsSeen opening h
  is_seen =
      let consistent = moment.consistent in
      let sound = consistent.sound opening stands in
      record {
        lawful = AllAlong_less IsLawful opening (log_of h) sound.lawful;
        rest = record { legal = consistent.legal opening stands; sound = sound; told = consistent.told; split = consistent.split opening stands };
        some = consistent.some opening stands;
      }

  -- a purge may follow
  pub purge_follows : (a : Option PageClaim) → hand.state.rows ≡ Leaf (leaf_rows hand.state.rows) → IsTrue (has_tombstone hand.state) → IsAskable opening h a (purge_group hand.page hand.lsn)
  purge_follows a leaf some = elim (cases_lt (length (life_log opening h) + 3) (2 ^ 63)) [
    | inl few ↦
        let seen_now = is_seen in
        let suits = (hand_law opening h).purge seen_now (omega (arith, few)) (record { page = hand.page; page_prev = hand.lsn }) hand.state is_image last_is leaf some in
        subst (λ (l : List Entry). IsAskable opening l a (purge_group hand.page hand.lsn)) (append-nil h)
        ((asks_law opening h []).plain seen_now.lawful (subst (IsAtRest opening) (sym (append-nil h)) seen_now.rest) a (purge_of hand.page hand.lsn) refl (ap (λ (l : List Entry). head (life_log opening l) hand.page) (append-nil h)) suits)
    | inr many ↦ record { leaf = tt; follows = λ timely room numbers. absurd (omega (arith, numbers, many)); declines = λ lacks. absurd (cc lacks.0) }
  ]
