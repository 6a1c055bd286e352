-- Behind a group of one record that makes a page: the record, the page in hand, and the new page.
use Rattle.std.proofs.Common.{◌≡◌, ◌≢◌, ℕ, List, [], ◌∷◌, ◌++◌, Option, Some, None, Bool, true, sym, ap, subst, ◌∙◌, refl}
use Rattle.std.specs.Prelude.{IfOk, IfSome, IsSome, Ok, Err, Result, option_map}
use mathlib.Core.List.{IsPrefix}
use Rattle.books.specs.Rights.{PageClaim, SessionClaim, MaintClaim}
use Rattle.front.specs.Seen.{PassSeen}
use Rattle.store_model.specs.declared.fault.Fault.{Fault}
use Rattle.store_model.specs.declared.fault.Memory.{Memory}
use Rattle.wal_record.specs.State.{KeepsState, is_child}
use Rattle.wal_record.specs.Books.{page_book}
use Rattle.wal_record.specs.History.{life_log}
use Rattle.wal_record.specs.Images.{image}
use Rattle.wal_record.specs.Sound.{AreLawful, IsLawful}
use Rattle.wal_record.specs.declared.page.PageState.{PageState}
use Rattle.wal_record.specs.declared.record.Record.{Record}
use Rattle.wal_record.specs.declared.entry.Entry.{Entry}
use Rattle.wal_record.specs.declared.entry.Entry.TheVariants.{Rec}
use Rattle.wal_record.proofs.Pushes.{lawful_front}
use Rattle.page_ops.specs.Claims.{Claims, PageAgrees, AreInRange, IsInRange, no_claims}
use Rattle.page_ops.specs.Groups.{Numbers, AreFilledFrom, filled, made_by, record_entries, said_entries}
use Rattle.page_ops.specs.Hands.{Hand, IsInHand}
use Rattle.page_ops.specs.Names.{LedgerName}
use Rattle.page_ops.specs.Outcomes.{SameHolders, new_place, page_of}
use Rattle.page_ops.specs.Seeing.{Account, Enters, known}
use Rattle.page_ops.specs.declared.group.Group.{Group}
use Rattle.page_ops.specs.declared.outcome.Entered.{Entered}
use Rattle.page_ops.specs.declared.outcome.Entered.TheVariants.{At}
use Rattle.page_ops.proofs.Staying.{longer_log}
use Rattle.smo.specs.Asked.{MayAsk, Asked, AskedIfMade}
use Rattle.smo.specs.Settled.{claims_of}
use Rattle.smo.specs.Splits.{EntersMade}
use Rattle.smo.proofs.Moments.{is_image}
use Rattle.smo.proofs.Settling.{no_record, page_same}

-- a right that isn't to anything isn't there
pub none_mapped : {A B : Type 0} (f : A → B) (o : Option A) → option_map f o ≡ None → o ≡ None
none_mapped f None e = refl
none_mapped f (Some x) e = absurd (cc e)

pub filled_made : (made : Option ℕ) (new : ℕ) (r : Record) (xs : List Record) → AreFilledFrom made new (r ∷ []) xs → (n : Numbers) × (n.child ≡ new) × (xs ≡ filled made n r ∷ [])
filled_made made new r [] f = absurd f
filled_made made new r (x ∷ []) f = (f.0.0, f.0.1, ap (λ (y : Record). y ∷ []) f.0.2)
filled_made made new r (x ∷ y ∷ ys) f = absurd f.1

-- the right to the new page is another's now
abbrev pub without_new : (opens : List Record → Type 0) (ledger sessions : LedgerName) (a a' : Account) (seen seen' : PassSeen Entry) (y z : Claims) (es : List Entry) → Enters opens ledger sessions (known a seen y) es (known a' seen' z)
    → Enters opens ledger sessions (known a seen y) es (known a' seen' (record { a = z.a; b = z.b; c = None; s = z.s; m = z.m }))
without_new opens ledger sessions a a' seen seen' y z es e = record {
  moment = e.moment;
  found = e.found;
  is = e.is;
  now = record { begins = e.now.begins; consistent = e.now.consistent; rights = record { a = e.now.rights.a; b = e.now.rights.b; c = tt; s = e.now.rights.s; m = e.now.rights.m } };
  durable = e.durable;
  keeps = e.keeps;
  counted = e.counted;
  sessions_counted = e.sessions_counted;
  totals = e.totals;
}

module _ (opens : List Record → Type 0) (ledger sessions : LedgerName) (hand : Hand) (owner : Option SessionClaim) (there : IsInHand opens hand) (seen seen' : PassSeen Entry) (a a' : Account) (z : Claims)
    (g : Group) (placeholder : ℕ) (made : made_by g.recs ≡ Some placeholder) (pos : ℕ) (begins : IsPrefix hand.pass.log seen.log)
    (asked : Asked opens ledger sessions g (Ok (At pos)) (known a seen (claims_of hand owner)) (known a' seen' z)) where
  pub number : is_child asked.filled.child ≡ true
  number = asked.filled.numbered (subst IsSome (sym made) refl)

  -- the right that came back is to the new page
  pub is_made : (c : PageClaim) → z.c ≡ Some c → c.page ≡ asked.filled.child
  is_made c is = page_same z.c c (record { page = asked.filled.child; lsn = 0 }) is (asked.filled.made ∙ ap (λ (o : Option ℕ). new_place o asked.filled.child None) made)

  pub some : (opening : List Record) → opens opening → life_log opening asked.enters.enters.moment ≢ []
  some opening stands = asked.enters.enters.found.consistent.some opening stands

  pub was : (opening : List Record) → opens opening → image (life_log opening asked.enters.enters.moment) hand.page ≡ Some hand.state
  was opening stands = is_image opens seen.log hand owner there begins opening stands asked.enters.enters.moment asked.enters.enters.found

  -- the page in hand, with its right
  pub kept : (state : PageState) (dirty : Bool) (c : PageClaim) → ((opening : List Record) → opens opening → image (life_log opening seen'.log) hand.page ≡ Some state) → KeepsState state
      → z.a ≡ Some c → page_of z.a ≡ page_of hand.right → AreInRange z
      → IsInHand opens (record { page = hand.page; lsn = c.lsn; state = state; dirty = dirty; right = Some c; pass = seen' })
  kept state dirty c here keeps is same range =
      let page : c.page ≡ hand.page = page_same z.a c (record { page = hand.page; lsn = hand.lsn }) is (same ∙ ap page_of there.right) in
      let agrees : PageAgrees opens seen'.log c = subst (λ (o : Option PageClaim). IfSome o (PageAgrees opens seen'.log)) is asked.enters.enters.now.rights.a in
      let inside : IsInRange c = subst (λ (o : Option PageClaim). IfSome o IsInRange) is range.a in
      record {
        right = λ i. Some (record { page = page i; lsn = c.lsn });
        head = λ opening stands. agrees opening stands ∙ ap (page_book opening seen'.log) page;
        image = here;
        keeps = keeps;
        number = there.number;
        place = inside.1;
      }

  -- the new page
  pub new_page : (state : PageState) (c : PageClaim) → ((opening : List Record) → opens opening → image (life_log opening seen'.log) asked.filled.child ≡ Some state) → KeepsState state → z.c ≡ Some c → AreInRange z
      → IsInHand opens (record { page = c.page; lsn = c.lsn; state = state; dirty = true; right = Some c; pass = seen' })
  new_page state c here keeps is range =
      let agrees : PageAgrees opens seen'.log c = subst (λ (o : Option PageClaim). IfSome o (PageAgrees opens seen'.log)) is asked.enters.enters.now.rights.c in
      let inside : IsInRange c = subst (λ (o : Option PageClaim). IfSome o IsInRange) is range.c in
      record {
        right = refl;
        head = agrees;
        image = λ opening stands. ap (image (life_log opening seen'.log)) (is_made c is) ∙ here opening stands;
        keeps = keeps;
        number = inside.0;
        place = inside.1;
      }

  -- of one record
  module _ (r : Record) (one : g.recs ≡ r ∷ []) where
    pub record_is : (n : Numbers) × (n.child ≡ asked.filled.child) × (asked.now.recs ≡ filled (made_by g.recs) n r ∷ [])
    record_is = filled_made (made_by g.recs) asked.filled.child r asked.now.recs (subst (λ (rs : List Record). AreFilledFrom (made_by g.recs) asked.filled.child rs asked.now.recs) one asked.filled.recs)

    pub log_is : (opening : List Record) → life_log opening seen'.log ≡ life_log opening asked.enters.enters.moment ++ filled (made_by g.recs) record_is.0 r ∷ []
    log_is opening =
        let m = asked.enters.enters.moment in
        let x = filled (made_by g.recs) record_is.0 r in
        ap (life_log opening) (asked.enters.enters.is ∙ ap (λ (rs : List Record). m ++ (record_entries asked.now.lsn rs ++ said_entries g.said)) record_is.2)
        ∙ longer_log opening m (Rec asked.now.lsn x ∷ said_entries g.said)
        ∙ ap (λ (rs : List Record). life_log opening m ++ x ∷ rs) (no_record g.said)

    pub lawful : (opening : List Record) → opens opening → AreLawful (life_log opening asked.enters.enters.moment) × IsLawful (life_log opening asked.enters.enters.moment) (filled (made_by g.recs) record_is.0 r)
    lawful opening stands =
        lawful_front (life_log opening asked.enters.enters.moment) (filled (made_by g.recs) record_is.0 r) (subst AreLawful (log_is opening) (asked.enters.enters.now.consistent.sound opening stands).lawful)

    -- the history, and who has which right then
    pub made_enters : (f : ℕ → ℕ → Record) → ((n : Numbers) → filled (made_by g.recs) n r ≡ f n.page_prev n.child) → (c c' : PageClaim) → g.said ≡ None → z.a ≡ Some c → z.c ≡ Some c' → owner ≡ None → SameHolders (claims_of hand owner) z
        → EntersMade opens ledger sessions f (Ok (Some c'.page)) (known a seen (claims_of hand owner)) (known a' seen' (record { a = Some c; b = None; c = None; s = None; m = None }))
    made_enters f fills c c' quiet is is' free holders =
        let lone : z.b ≡ None = none_mapped (λ (p : PageClaim). p.page) z.b holders.b in
        let unowned : z.s ≡ None = none_mapped (λ (s : SessionClaim). s.session) z.s (holders.s ∙ ap (option_map (λ (s : SessionClaim). s.session)) free) in
        let idle : z.m ≡ None = none_mapped (λ (m : MaintClaim). m.number) z.m holders.m in
        let entries_are : record_entries asked.now.lsn asked.now.recs ++ said_entries g.said ≡ Rec asked.now.lsn (f record_is.0.page_prev c'.page) ∷ [] =
        (λ i. record_entries asked.now.lsn (record_is.2 i) ++ said_entries (quiet i))
        ∙ ap (λ (x : Record). Rec asked.now.lsn x ∷ []) (fills record_is.0 ∙ ap (f record_is.0.page_prev) (record_is.1 ∙ sym (is_made c' is'))) in
        record {
          lsn = asked.now.lsn;
          prev = record_is.0.page_prev;
          enters = subst (λ (q : (List Entry) × Claims). Enters opens ledger sessions (known a seen (claims_of hand owner)) q.0 (known a' seen' q.1))
              (λ i. (entries_are i, record { a = is i; b = lone i; c = None; s = unowned i; m = idle i }))
              (without_new opens ledger sessions a a' seen seen' (claims_of hand owner) z (record_entries asked.now.lsn asked.now.recs ++ said_entries g.said) asked.enters.enters);
        }

-- ---- as a body has them: what it handed in, and what it took from the rights that came back

module _ (opens : List Record → Type 0) (ledger sessions : LedgerName) (group : Hand → Group) (hand inside : Hand) (view : inside ≡ hand) (seen seen' : PassSeen Entry) (made : Result Group Memory) (is : IfOk made (λ (g : Group). g ≡ group inside))
    (result : Result Entered Fault) (right : Option PageClaim) (x y z z' : Claims) (right_is : right ≡ inside.right) (none : x ≡ no_claims) (claims : y ≡ record x { a = right }) where
  all : y ≡ claims_of hand None
  all = claims ∙ (λ i. record { a = (right_is ∙ ap (λ (h : Hand). h.right) view) i; b = (none i).b; c = (none i).c; s = (none i).s; m = (none i).m })

  pub may_here : MayAsk opens seen.log (claims_of hand None) (group hand) → IfOk made (MayAsk opens seen.log y)
  may_here may = by made is
    where
      by : (made : Result Group Memory) → IfOk made (λ (g : Group). g ≡ group inside) → IfOk made (MayAsk opens seen.log y)
      by (Err m) e = tt
      by (Ok g) e = subst (λ (z : Claims × Group). MayAsk opens seen.log z.0 z.1) (λ i. (sym all i, sym (e ∙ ap group view) i)) may

  pub asked_here : (a a' : Account) (pos : ℕ) → result ≡ Ok (At pos) → AskedIfMade opens ledger sessions made result (known a seen y) (known a' seen' z) → Asked opens ledger sessions (group hand) (Ok (At pos)) (known a seen (claims_of hand None)) (known a' seen' z)
  asked_here a a' pos result_is = by made is
    where
      by : (made : Result Group Memory) → IfOk made (λ (g : Group). g ≡ group inside) → AskedIfMade opens ledger sessions made result (known a seen y) (known a' seen' z)
          → Asked opens ledger sessions (group hand) (Ok (At pos)) (known a seen (claims_of hand None)) (known a' seen' z)
      by (Err m) e k = absurd (cc (sym k.0 ∙ result_is))
      by (Ok g) e k = subst (λ (q : Group × (Result Entered Fault) × Claims). Asked opens ledger sessions q.0 q.1 (known a seen q.2) (known a' seen' z)) (λ i. ((e ∙ ap group view) i, result_is i, all i)) k

  pub same_here : SameHolders y z → SameHolders (claims_of hand None) z
  same_here holders = subst (λ (w : Claims). SameHolders w z) all holders

  pub old_here : (c : PageClaim) (took : Option PageClaim) → z' ≡ z → took ≡ z'.a → took ≡ Some c → z.a ≡ Some c
  old_here c took view' is some = sym (ap (λ (w : Claims). w.a) view') ∙ sym is ∙ some

  pub new_here : (c : PageClaim) (took : Option PageClaim) → z' ≡ z → took ≡ z'.c → took ≡ Some c → z.c ≡ Some c
  new_here c took view' is some = sym (ap (λ (w : Claims). w.c) view') ∙ sym is ∙ some
