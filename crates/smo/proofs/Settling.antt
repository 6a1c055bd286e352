-- A page in hand behind a group of one record, which was entered.
use Rattle.std.proofs.Common.{◌≡◌, ℕ, List, [], ◌∷◌, ◌++◌, Option, Some, None, Bool, true, sym, ap, subst, ◌∙◌, refl}
use Rattle.std.specs.Prelude.{IfSome, Ok}
use mathlib.Core.List.{IsPrefix}
use Rattle.books.specs.Rights.{PageClaim, SessionClaim}
use Rattle.front.specs.Seen.{PassSeen}
use Rattle.wal_record.specs.State.{KeepsState}
use Rattle.wal_record.specs.Chains.{names}
use Rattle.wal_record.specs.Books.{page_book}
use Rattle.wal_record.specs.History.{life_log, log_of}
use Rattle.wal_record.specs.Images.{image, applied}
use Rattle.wal_record.specs.declared.page.PageState.{PageState}
use Rattle.wal_record.specs.declared.record.Record.{Record}
use Rattle.wal_record.specs.declared.entry.Entry.{Entry}
use Rattle.wal_record.specs.declared.entry.Entry.TheVariants.{Rec}
use Rattle.tree_laws.proofs.Counts.{inside_some}
use Rattle.foster_laws.proofs.Entering.{image_at}
use Rattle.page_ops.specs.Claims.{Claims, PageAgrees, AreInRange, IsInRange}
use Rattle.page_ops.specs.Groups.{Numbers, AreFilledFrom, filled, made_by, record_entries, said_entries}
use Rattle.page_ops.specs.Hands.{Hand, IsInHand}
use Rattle.page_ops.specs.Names.{LedgerName}
use Rattle.page_ops.specs.Outcomes.{page_of}
use Rattle.page_ops.specs.Seeing.{Account, known}
use Rattle.page_ops.specs.declared.group.Group.{Group}
use Rattle.page_ops.specs.declared.group.Said.{Said}
use Rattle.page_ops.specs.declared.outcome.Entered.TheVariants.{At}
use Rattle.page_ops.proofs.Staying.{longer_log}
use Rattle.smo.specs.Asked.{Asked}
use Rattle.smo.specs.Settled.{claims_of}
use Rattle.smo.proofs.Moments.{is_image}

filled_one : (made : Option ℕ) (new : ℕ) (r : Record) (xs : List Record) → AreFilledFrom made new (r ∷ []) xs → (n : Numbers) × (xs ≡ filled made n r ∷ [])
filled_one made new r [] f = absurd f
filled_one made new r (x ∷ []) f = (f.0.0, ap (λ (y : Record). y ∷ []) f.0.2)
filled_one made new r (x ∷ y ∷ ys) f = absurd f.1

pub no_record : (said : Option Said) → log_of (said_entries said) ≡ []
no_record None = refl
no_record (Some s) = refl

pub page_same : (z : Option PageClaim) (c p : PageClaim) → z ≡ Some c → page_of z ≡ page_of (Some p) → c.page ≡ p.page
page_same z c p is same = inside_some c.page p.page (sym (ap page_of is) ∙ same)

module _ (opens : List Record → Type 0) (ledger sessions : LedgerName) (hand : Hand) (owner : Option SessionClaim) (there : IsInHand opens hand) (seen seen' : PassSeen Entry) (a a' : Account) (z : Claims)
    (g : Group) (r : Record) (one : g.recs ≡ r ∷ []) (pos : ℕ) (begins : IsPrefix hand.pass.log seen.log)
    (asked : Asked opens ledger sessions g (Ok (At pos)) (known a seen (claims_of hand owner)) (known a' seen' z)) where
  record_is : (n : Numbers) × (asked.now.recs ≡ filled (made_by g.recs) n r ∷ [])
  record_is = filled_one (made_by g.recs) asked.filled.child r asked.now.recs (subst (λ (rs : List Record). AreFilledFrom (made_by g.recs) asked.filled.child rs asked.now.recs) one asked.filled.recs)

  log_is : (opening : List Record) → life_log opening seen'.log ≡ life_log opening asked.enters.enters.moment ++ filled (made_by g.recs) record_is.0 r ∷ []
  log_is opening =
      let m = asked.enters.enters.moment in
      let x = filled (made_by g.recs) record_is.0 r in
      ap (life_log opening) (asked.enters.enters.is ∙ ap (λ (rs : List Record). m ++ (record_entries asked.now.lsn rs ++ said_entries g.said)) record_is.1)
      ∙ longer_log opening m (Rec asked.now.lsn x ∷ said_entries g.said)
      ∙ ap (λ (rs : List Record). life_log opening m ++ x ∷ rs) (no_record g.said)

  pub image_now : (state : PageState) → ((n : Numbers) → names hand.page (filled (made_by g.recs) n r) ≡ true) → ((n : Numbers) → applied (filled (made_by g.recs) n r) hand.page (Some hand.state) ≡ Some state)
      → (opening : List Record) → opens opening → image (life_log opening seen'.log) hand.page ≡ Some state
  image_now state named makes opening stands =
      let m = asked.enters.enters.moment in
      let x = filled (made_by g.recs) record_is.0 r in
      let before = is_image opens seen.log hand owner there begins opening stands m asked.enters.enters.found in
      ap (λ (l : List Record). image l hand.page) (log_is opening)
      ∙ image_at (life_log opening m) x hand.page (named record_is.0)
      ∙ ap (applied x hand.page) before
      ∙ makes record_is.0

  -- with its right
  pub in_hand : (state : PageState) (dirty : Bool) (c : PageClaim) → ((n : Numbers) → names hand.page (filled (made_by g.recs) n r) ≡ true) → ((n : Numbers) → applied (filled (made_by g.recs) n r) hand.page (Some hand.state) ≡ Some state)
      → KeepsState state → z.a ≡ Some c → page_of z.a ≡ page_of hand.right → AreInRange z
      → IsInHand opens (record { page = hand.page; lsn = c.lsn; state = state; dirty = dirty; right = Some c; pass = seen' })
  in_hand state dirty c named makes keeps is same range =
      let page : c.page ≡ hand.page = page_same z.a c (record { page = hand.page; lsn = hand.lsn }) is (same ∙ ap page_of there.right) in
      let agrees : PageAgrees opens seen'.log c = subst (λ (o : Option PageClaim). IfSome o (PageAgrees opens seen'.log)) is asked.enters.enters.now.rights.a in
      let inside : IsInRange c = subst (λ (o : Option PageClaim). IfSome o IsInRange) is range.a in
      record {
        right = λ i. Some (record { page = page i; lsn = c.lsn });
        head = λ opening stands. agrees opening stands ∙ ap (page_book opening seen'.log) page;
        image = image_now state named makes;
        keeps = keeps;
        number = there.number;
        place = inside.1;
      }
