-- The right to undo a transaction, at later moments.
use Rattle.std.proofs.Common.{◌≡◌, ℕ, ◌<◌, ◌≤◌, Bool, true, false, eqb, List, [], ◌∷◌, Option, Some, None, Result, Ok, Err, refl, sym, ap, subst, ◌∙◌, arith}
use Rattle.std.specs.Prelude.{IfErr, IfSome, OnOk, ◌||◌, ◌&&◌}
use Rattle.std.specs.List.{list_any}
use Rattle.std.specs.Option.{option_map}
use Rattle.std.proofs.lemmas.List.Folds.{list_any-append}
use mathlib.Core.List.{IsPrefix}
use Rattle.books.specs.Rights.{SessionClaim}
use Rattle.front.proofs.Keeping.{prefix_self, prefix_trans}
use Rattle.store_model.proofs.Bools.{both_true, or_left, or_right}
use Rattle.store_model.specs.declared.fault.Fault.{Fault}
use Rattle.store_model.specs.declared.fault.Fault.TheVariants as faults
use Rattle.wal_record.specs.Books.{session_entries}
use Rattle.wal_record.specs.Chains.{finishes}
use Rattle.wal_record.specs.History.{Live, is_owner, life_log, log_of, phase}
use Rattle.wal_record.specs.Legal.{IsAllowed, IsLegal}
use Rattle.wal_record.specs.OpenWrites.{open_writes}
use Rattle.wal_record.specs.Rules.{is_lsn_or_none, is_number}
use Rattle.wal_record.specs.Sound.{AreLawful, UndoRule}
use Rattle.wal_record.specs.declared.page.PageState.{PageState}
use Rattle.wal_record.specs.declared.record.Record.{Record}
use Rattle.wal_record.specs.declared.record.Record.TheVariants as kinds
use Rattle.wal_record.specs.declared.entry.Entry.{Entry}
use Rattle.wal_record.specs.declared.entry.Entry.TheVariants.{Began, Rec}
use Rattle.wal_record.proofs.Along.{AllAlong_less}
use Rattle.wal_record.proofs.Pushes.{legal_front, log_of_push}
use Rattle.log_laws.specs.Phases.{begins}
use Rattle.log_laws.proofs.Phases.{live_law}
use Rattle.claim_laws.proofs.Going.{legal_before}
use Rattle.page_ops.specs.Claims.{SessionAgrees}
use Rattle.page_ops.specs.Outcomes.{IsFull}
use Rattle.page_ops.specs.Seeing.{IsConsistent}
use Rattle.page_ops.specs.declared.group.Group.{Group}
use Rattle.page_ops.specs.declared.outcome.Entered.{Entered}
use Rattle.page_ops.specs.declared.outcome.Entered.TheVariants.{At, NoRoom, Late}
use Rattle.group_laws.specs.Stays.{StaysAs}
use Rattle.group_laws.proofs.Owners.{transaction}
use Rattle.group_laws.proofs.Quiet.{entries_grow, stays}
use Rattle.leaf_writes.specs.MayChange.{MayBy, MayChange, undo_of}
use Rattle.leaf_writes.specs.Owners.{KeepsOwner}
use Rattle.leaf_writes.specs.declared.change.Change.{Change}
use Rattle.leaf_writes.specs.declared.change.How.{How}
use Rattle.leaf_writes.specs.declared.change.How.TheVariants as hows
use Rattle.leaf_writes.proofs.AsksOne.{above_none}
use Rattle.rollback.specs.Owners.{MayRollBack}
use Rattle.rollback.specs.Rolls.{IfAt, IsUndoAt}
use Rattle.rollback.specs.Undoes.{TakesBackLast}

-- ---- what a pass sees more

pub may_later : (opens : List Record → Type 0) (seen h : List Entry) (tx : ℕ) (owner : Option SessionClaim) → IsPrefix seen h → MayRollBack opens seen tx owner → MayRollBack opens h tx owner
may_later opens seen h tx None longer may = may
may_later opens seen h tx (Some s) longer may = record { tx = may.tx; before = may.before; begins = prefix_trans may.before seen h may.begins longer; agrees = may.agrees; live = may.live }

-- ---- a right that agrees with two moments

module _ (opens : List Record → Type 0) (before seen h : List Entry) (s : SessionClaim) (first : SessionAgrees before s) (some : 0 < s.tx) (begins : IsPrefix before seen) (longer : IsPrefix seen h) (consistent : IsConsistent opens h) (now : SessionAgrees h s) (opening : List Record) (stands : opens opening) where
  own : is_owner before s.session s.tx ≡ true
  own = (transaction before s.session s.tx first.tx some).0

  steady : (l : List Entry) (from : IsPrefix before l) → IsLegal opening l → session_entries l s.session ≡ session_entries before s.session → StaysAs opening before l s.tx
  steady l from legal same =
      (subst (λ (l : List Entry). StaysAs opening before l s.tx × (is_owner l s.session s.tx ≡ true)) from.1
      (stays opening before from.0 s.session s.tx own (subst (IsLegal opening) (sym from.1) legal) (ap (λ (l : List Entry). session_entries l s.session) from.1 ∙ same))).0

  grows : (a b : List Entry) → IsPrefix a b → session_entries a s.session ≤ session_entries b s.session
  grows a b p = subst (λ (l : List Entry). session_entries a s.session ≤ session_entries l s.session) p.1 (entries_grow a p.0 s.session)

  legal : IsLegal opening h
  legal = consistent.legal opening stands

  pub stays_now : StaysAs opening before h s.tx
  stays_now = steady h (prefix_trans before seen h begins longer) legal (sym now.entries ∙ first.entries)

  between : session_entries seen s.session ≡ session_entries before s.session
  between =
      let up = grows before seen begins in
      let up' = grows seen h longer in
      let is = first.entries in
      let is' = now.entries in
      omega (arith, up, up', is, is')

  stays_seen : StaysAs opening before seen s.tx
  stays_seen = steady seen begins (legal_before opening seen longer.0 (subst (IsLegal opening) (sym longer.1) legal)) between

  -- so between them nothing was written or undone
  pub same_writes : open_writes (life_log opening h) s.tx ≡ open_writes (life_log opening seen) s.tx
  same_writes = stays_now.writes ∙ sym stays_seen.writes

-- ---- the undo may be asked for

undone_by : (opens : List Record → Type 0) (seen h : List Entry) (owner : Option SessionClaim) (tx : ℕ) (key : List ℕ) (new : Option (List ℕ)) (next : ℕ) (at : PageState) → IsPrefix seen h → IsConsistent opens h → IfSome owner (SessionAgrees h) → is_number tx ≡ true → MayRollBack opens seen tx owner
    → ((opening : List Record) → opens opening → UndoRule (open_writes (life_log opening seen) tx) (undo_of tx key new next)) → is_lsn_or_none next ≡ true → MayBy (hows.Undo next) opens h at tx key new owner
undone_by opens seen h None tx key new next at longer consistent agrees number may last place = (
  number,
  place,
  record {
    loser = may;
    was = λ opening stands. (seen, longer, last opening stands);
  },
)
undone_by opens seen h (Some s) tx key new next at longer consistent agrees number may last place =
    let some : 0 < s.tx = subst (λ (t : ℕ). 0 < t) (sym may.tx) (above_none tx number) in (
      number,
      place,
      record {
        agrees = agrees;
        tx = may.tx;
        live = λ opening stands. subst (λ (t : ℕ). phase h t ≡ phase may.before t) may.tx (stays_now opens may.before seen h s may.agrees some may.begins longer consistent agrees opening stands).phase ∙ may.live opening stands;
        last = λ opening stands. subst (λ (ws : List Record). UndoRule ws (undo_of tx key new next))
            (sym (subst (λ (t : ℕ). open_writes (life_log opening h) t ≡ open_writes (life_log opening seen) t) may.tx (same_writes opens may.before seen h s may.agrees some may.begins longer consistent agrees opening stands))) (last opening stands);
      },
    )

pub may_change : (opens : List Record → Type 0) (seen h : List Entry) (owner owner' : Option SessionClaim) (c : Change) (at : PageState) → owner' ≡ owner → IsPrefix seen h → IsConsistent opens h → IfSome owner' (SessionAgrees h) → is_number c.tx ≡ true → MayRollBack opens seen c.tx owner
    → TakesBackLast opens seen c → MayChange opens h at c owner'
may_change opens seen h owner owner' c at same longer consistent agrees number may last =
    subst (λ (q : How × Option SessionClaim). MayBy q.0 opens h at c.tx c.key c.new q.1) (λ i. (sym last.how i, sym same i))
    (undone_by opens seen h owner c.tx c.key c.new last.next at longer consistent (subst (λ (o : Option SessionClaim). IfSome o (SessionAgrees h)) same agrees) number may last.last last.place)

-- ---- behind it

either : (a a' b b' : Bool) → (a ≡ true → a' ≡ true) → (b ≡ true → b' ≡ true) → (a || b) ≡ true → (a' || b') ≡ true
either true a' b b' f g h = or_left a' b' (f refl)
either false a' b b' f g h = or_right a' b' (g h)

-- who began a transaction has begun it
owner_begins : (h : List Entry) (session tx : ℕ) → is_owner h session tx ≡ true → list_any (begins tx) h ≡ true
owner_begins [] session tx is = absurd (cc is)
owner_begins (Began x u ∷ es) session tx is = either (eqb x session && eqb u tx) (eqb u tx) (is_owner es session tx) (list_any (begins tx) es) (λ own. (both_true (eqb x session) (eqb u tx) own).1) (λ h. owner_begins es session tx h) is
owner_begins (_ ∷ es) session tx is = owner_begins es session tx is

either_none : (a b : Bool) → (a || b) ≡ false → b ≡ false
either_none true b h = absurd (cc h)
either_none false b h = h

-- a transaction that one has undone a write of was live, and is
pub undo_leaves_live : (opening : List Record) (h : List Entry) (session tx pos : ℕ) → AreLawful opening → IsLegal opening h → is_owner h session tx ≡ true → IsUndoAt tx h pos → phase h tx ≡ Live
undo_leaves_live opening h session tx pos lawful legal own at = (live_law opening h).only lawful legal tx (owner_begins h session tx own) going
  where
    parts : IsLegal opening at.before × IsAllowed opening at.before (Rec at.lsn (kinds.Undo at.undo))
    parts = legal_front opening at.before (Rec at.lsn (kinds.Undo at.undo)) (subst (IsLegal opening) at.is legal)

    none : list_any (finishes tx) (log_of at.before) ≡ false
    none = either_none (list_any (finishes tx) opening) _ (sym (list_any-append (finishes tx) opening (log_of at.before)) ∙ subst (λ (t : ℕ). list_any (finishes t) (life_log opening at.before) ≡ false) at.tx parts.1.rule.lawful.chain.1)

    going : list_any (finishes tx) (log_of h) ≡ false
    going =
        ap (λ (l : List Entry). list_any (finishes tx) (log_of l)) at.is ∙ ap (list_any (finishes tx)) (log_of_push at.before (Rec at.lsn (kinds.Undo at.undo)))
        ∙ list_any-append (finishes tx) (log_of at.before) (kinds.Undo at.undo ∷ []) ∙ ap (λ (b : Bool). b || false) none

-- the right behind the undo of a write
pub may_behind : (opens : List Record → Type 0) (seen h : List Entry) (tx : ℕ) (owner owner' : Option SessionClaim) (g : Group) (result : Result Entered Fault) → IsPrefix seen h → IsConsistent opens h → is_number tx ≡ true → MayRollBack opens seen tx owner → KeepsOwner result owner owner'
    → OnOk result (IfSome owner' (SessionAgrees h)) → g.room ≡ false → IfErr result (IsFull opens h g) → IfAt result (IsUndoAt tx h) → MayRollBack opens h tx owner'
may_behind opens seen h tx owner owner' g result longer consistent number may keeps agrees none full at = by result keeps agrees full at
  where
    as_was : owner' ≡ owner → MayRollBack opens h tx owner'
    as_was same = subst (MayRollBack opens h tx) (sym same) (may_later opens seen h tx owner longer may)

    entered : (o o' : Option SessionClaim) (pos : ℕ) → MayRollBack opens seen tx o → option_map (λ (s : SessionClaim). s.session) o' ≡ option_map (λ (s : SessionClaim). s.session) o
        → option_map (λ (s : SessionClaim). s.tx) o' ≡ option_map (λ (s : SessionClaim). s.tx) o → IfSome o' (SessionAgrees h) → IsUndoAt tx h pos → MayRollBack opens h tx o'
    entered None None pos m session t a u = m
    entered None (Some s') pos m session t a u = absurd (cc session)
    entered (Some s) None pos m session t a u = absurd (cc session)
    entered (Some s) (Some s') pos m session t a u =
        let is : s'.tx ≡ s.tx = cc t in
        let tx_is : s'.tx ≡ tx = is ∙ m.tx in
        let some : 0 < s'.tx = subst (λ (n : ℕ). 0 < n) (sym tx_is) (above_none tx number) in
        let own = subst (λ (n : ℕ). is_owner h s'.session n ≡ true) tx_is (transaction h s'.session s'.tx a.tx some).0 in
        record {
          tx = tx_is;
          before = h;
          begins = prefix_self h;
          agrees = a;
          live = λ opening stands. undo_leaves_live opening h s'.session tx pos (AllAlong_less _ opening (log_of h) (consistent.sound opening stands).lawful) (consistent.legal opening stands) own u;
        }

    by : (result : Result Entered Fault) → KeepsOwner result owner owner' → OnOk result (IfSome owner' (SessionAgrees h)) → IfErr result (IsFull opens h g) → IfAt result (IsUndoAt tx h) → MayRollBack opens h tx owner'
    by (Ok (At pos)) k a f u = entered owner owner' pos may k.session k.tx a u
    by (Ok NoRoom) k a f u = as_was k.same
    by (Ok (Late pos)) k a f u = as_was k.same
    by (Err (faults.Full pages pending at')) k a f u = absurd (let clash : true ≡ false = sym f.0 ∙ none in cc clash)
    by (Err _) k a f u = as_was k.same
