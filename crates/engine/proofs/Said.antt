-- An answer handed to the journal alone, as the body has it.
use Rattle.std.proofs.Common.{◌≡◌, ℕ, true, false, List, [], ◌∷◌, ◌++◌, Option, Some, None, Result, Ok, Err, refl, sym, ap, subst, ◌∙◌, append-nil}
use Rattle.std.specs.Prelude.{IfErr, IfOk, IfSome, OnErr}
use Rattle.std.specs.List.{list_all}
use Rattle.std.specs.Option.{option_map}
use Rattle.books.specs.Rights.{PageClaim, SessionClaim}
use Rattle.front.specs.Seen.{PassSeen}
use Rattle.store_model.specs.declared.fault.Fault.{Fault}
use Rattle.store_model.specs.declared.fault.Fault.TheVariants as faults
use Rattle.store_model.specs.declared.fault.Memory.{Memory}
use Rattle.store_model.specs.declared.reply.Reply.{Reply}
use Rattle.store_model.specs.declared.request.Request.{Request}
use Rattle.wal_record.specs.Books.{page_book}
use Rattle.wal_record.specs.Chains.{head}
use Rattle.wal_record.specs.History.{life_log, log_of}
use Rattle.wal_record.specs.Rules.{is_number}
use Rattle.wal_record.specs.declared.record.Record.{Record}
use Rattle.wal_record.specs.declared.entry.Entry.{Entry}
use Rattle.page_ops.specs.Claims.{AreInRange, Claims, IsInRange, PageAgrees, no_claims}
use Rattle.page_ops.specs.Groups.{AreFilled, group_entries}
use Rattle.page_ops.specs.Hands.{Hand, IsInHand}
use Rattle.page_ops.specs.Names.{LedgerName}
use Rattle.page_ops.specs.Outcomes.{IsAnswer, KeepsRights, SameHolders, page_of}
use Rattle.page_ops.specs.Seeing.{Account, Enters, known}
use Rattle.page_ops.specs.declared.group.Group.{Group}
use Rattle.page_ops.specs.declared.outcome.Entered.{Entered}
use Rattle.page_ops.specs.declared.outcome.Entered.TheVariants.{At, NoRoom, Late}
use Rattle.page_ops.proofs.Staying.{longer_log}
use Rattle.smo.specs.Asked.{Asked, AskedIfMade}
use Rattle.smo.specs.Settled.{claims_of}
use Rattle.leaf_writes.proofs.Owners.{keeps_owner, leaves}
use Rattle.engine.specs.Saying.{KeepsHolder, said_entries, told_alone}

-- a told answer has no record
pub none_logged : (result : Result ℕ Fault) (owner : Option SessionClaim) (request : Request) (told : Result Reply Memory) → log_of (said_entries result owner request told) ≡ []
none_logged (Err f) owner request told = refl
none_logged (Ok pos) None request told = refl
none_logged (Ok pos) (Some s) request (Err m) = refl
none_logged (Ok pos) (Some s) request (Ok r) = refl

-- and begins and ends nothing
all_leave : (result : Result ℕ Fault) (owner : Option SessionClaim) (request : Request) (told : Result Reply Memory) → list_all leaves (said_entries result owner request told) ≡ true
all_leave (Err f) owner request told = refl
all_leave (Ok pos) None request told = refl
all_leave (Ok pos) (Some s) request (Err m) = refl
all_leave (Ok pos) (Some s) request (Ok r) = refl

no_records : (child : ℕ) (xs : List Record) → AreFilled child [] xs → xs ≡ []
no_records child [] f = refl
no_records child (x ∷ xs) f = absurd f

module _ (opens : List Record → Type 0) (ledger sessions : LedgerName) (hand inside : Hand) (view : inside ≡ hand) (owner : Option SessionClaim) (seen : PassSeen Entry) (request : Request) (reply : Result Reply Memory) (made : Result Group Memory)
    (is : IfOk reply (λ r. made ≡ Ok (told_alone owner request r))) (none : IfErr reply (λ m. made ≡ Err m)) (right : Option PageClaim) (owned : Option SessionClaim) (x y : Claims) (right_is : right ≡ inside.right) (owned_is : owned ≡ owner) (nothing : x ≡ no_claims) (claims : y ≡ record x { a = right; s = owned }) where
  all : y ≡ claims_of hand owner
  all = claims ∙ (λ i. record { a = (right_is ∙ ap (λ (h : Hand). h.right) view) i; b = (nothing i).b; c = (nothing i).c; s = owned_is i; m = (nothing i).m })

  module _ (seen' : PassSeen Entry) (a a' : Account) (z : Claims) (answer : Result Entered Fault) (asked : AskedIfMade opens ledger sessions made answer (known a seen y) (known a' seen' z)) where
    -- the group, or no memory for it
    of_group : (r : Reply) → reply ≡ Ok r → Asked opens ledger sessions (told_alone owner request r) answer (known a seen (claims_of hand owner)) (known a' seen' z)
    of_group r told =
        let e : made ≡ Ok (told_alone owner request r) = subst (λ (q : Result Reply Memory). IfOk q (λ r. made ≡ Ok (told_alone owner request r))) told is in
        subst (λ (q : Result Group Memory × Claims). AskedIfMade opens ledger sessions q.0 answer (known a seen q.1) (known a' seen' z)) (λ i. (e i, all i)) asked

    of_none : (m : Memory) → reply ≡ Err m → (answer ≡ Err faults.Memory) × Enters opens ledger sessions (known a seen (claims_of hand owner)) [] (known a' seen' z)
    of_none m told =
        let e : made ≡ Err m = subst (λ (q : Result Reply Memory). IfErr q (λ m. made ≡ Err m)) told none in
        subst (λ (q : Result Group Memory × Claims). AskedIfMade opens ledger sessions q.0 answer (known a seen q.1) (known a' seen' z)) (λ i. (e i, all i)) asked

    pub said_ok : (pos : ℕ) → answer ≡ Ok (At pos) → Enters opens ledger sessions (known a seen (claims_of hand owner)) (said_entries (Ok pos) owner request reply) (known a' seen' z)
    said_ok pos at = by reply refl
      where
        spoken : (r : Reply) (o : Option SessionClaim) (lsn : ℕ) → group_entries lsn [] (told_alone o request r).said ≡ said_entries (Ok pos) o request (Ok r)
        spoken r None lsn = refl
        spoken r (Some s) lsn = refl

        by : (told : Result Reply Memory) → reply ≡ told → Enters opens ledger sessions (known a seen (claims_of hand owner)) (said_entries (Ok pos) owner request told) (known a' seen' z)
        by (Ok r) e =
            let k = subst (λ (q : Result Entered Fault). Asked opens ledger sessions (told_alone owner request r) q (known a seen (claims_of hand owner)) (known a' seen' z)) at (of_group r e) in
            let empty = no_records k.filled.child k.now.recs k.filled.recs in
            subst (λ (es : List Entry). Enters opens ledger sessions (known a seen (claims_of hand owner)) es (known a' seen' z)) (ap (λ (rs : List Record). group_entries k.now.lsn rs (told_alone owner request r).said) empty ∙ spoken r owner k.now.lsn) k.enters.enters
        by (Err m) e = absurd (let clash = sym at ∙ (of_none m e).0 in cc clash)

    -- nothing else can come of it
    pub no_other : IfOk made (λ (g : Group). IfOk answer (IsAnswer opens seen'.log g)) → (e : Entered) → answer ≡ Ok e → ((pos : ℕ) → e ≡ At pos → ⊥) → ⊥
    no_other may e at other = by reply refl
      where
        plain : (r : Reply) (e : Entered) → ((pos : ℕ) → e ≡ At pos → ⊥) → IsAnswer opens seen'.log (told_alone owner request r) e → ⊥
        plain r (At pos) other k = other pos refl
        plain r NoRoom other k = let clash : false ≡ true = k.1 in absurd (cc clash)
        plain r (Late pos) other k = absurd (cc k.0)

        by : (told : Result Reply Memory) → reply ≡ told → ⊥
        by (Ok r) t =
            let g : made ≡ Ok (told_alone owner request r) = subst (λ (q : Result Reply Memory). IfOk q (λ r. made ≡ Ok (told_alone owner request r))) t is in
            plain r e other (subst (λ (q : Result Group Memory × Result Entered Fault). IfOk q.0 (λ (g : Group). IfOk q.1 (IsAnswer opens seen'.log g))) (λ i. (g i, at i)) may)
        by (Err m) t = absurd (let clash = sym at ∙ (of_none m t).0 in cc clash)

    -- the right to the session
    pub keeps_holder : (result : Result ℕ Fault) → Enters opens ledger sessions (known a seen (claims_of hand owner)) (said_entries result owner request reply) (known a' seen' z) → SameHolders y z → KeepsRights answer y z → (owned' : Option SessionClaim) → owned' ≡ z.s
        → OnErr result (z ≡ y) → KeepsHolder result owner owned'
    keeps_holder result e holders keeps owned' owned'_is same =
        let same_session : option_map (λ (s : SessionClaim). s.session) z.s ≡ option_map (λ (s : SessionClaim). s.session) owner = holders.s ∙ ap (λ (w : Claims). option_map (λ (s : SessionClaim). s.session) w.s) all in
        let kept = keeps_owner opens ledger sessions (said_entries result owner request reply) (known a seen (claims_of hand owner)) (known a' seen' z) answer e (all_leave result owner request reply) same_session (subst (λ (w : Claims). KeepsRights answer w z) all keeps) in
        record {
          session = ap (option_map (λ (s : SessionClaim). s.session)) owned'_is ∙ kept.session;
          tx = ap (option_map (λ (s : SessionClaim). s.tx)) owned'_is ∙ kept.tx;
          same = by result same;
        }
      where
        by : (r : Result ℕ Fault) → OnErr r (z ≡ y) → OnErr r (owned' ≡ owner)
        by (Ok pos) s = tt
        by (Err f) s = owned'_is ∙ ap (λ (w : Claims). w.s) (s ∙ all)

    -- the leaf is in hand as before
    pub still_in_hand : (result : Result ℕ Fault) → IsInHand opens inside → Enters opens ledger sessions (known a seen (claims_of hand owner)) (said_entries result owner request reply) (known a' seen' z) → SameHolders y z → (z' : Claims) → z' ≡ z → AreInRange z' → (c : PageClaim) (took : Option PageClaim)
        → took ≡ z'.a → took ≡ Some c → (lsn : ℕ) → lsn ≡ c.lsn → IsInHand opens (record { page = inside.page; lsn = lsn; state = inside.state; dirty = inside.dirty; right = Some c; pass = inside.pass })
    still_in_hand result there e holders z' view' range c took took_is took_some lsn lsn_is =
        let some : z.a ≡ Some c = ap (λ (w : Claims). w.a) (sym view') ∙ sym took_is ∙ took_some in
        let mine : IsInHand opens hand = subst (IsInHand opens) view there in
        let page : c.page ≡ inside.page = same_page c (sym (ap page_of some) ∙ holders.a ∙ ap (λ (w : Claims). page_of w.a) (claims ∙ (λ i. record { a = right_is i; b = x.b; c = x.c; s = owned; m = x.m })) ∙ ap page_of there.right) in
        let agrees : PageAgrees opens seen'.log c = subst (λ (o : Option PageClaim). IfSome o (PageAgrees opens seen'.log)) some e.now.rights.a in
        let inside_range : IsInRange c = subst (λ (o : Option PageClaim). IfSome o IsInRange) (ap (λ (w : Claims). w.a) view' ∙ some) range.a in
        let was : PageAgrees opens e.moment (record { page = hand.page; lsn = hand.lsn }) = subst (λ (o : Option PageClaim). IfSome o (PageAgrees opens e.moment)) mine.right e.found.rights.a in
        let number : (opening : List Record) → opens opening → c.lsn ≡ inside.lsn = λ opening stands.
        agrees opening stands ∙ ap (λ (p : ℕ). page_book opening seen'.log p) page
        ∙ ap (λ (l : List Record). head l inside.page) (ap (life_log opening) e.is ∙ longer_log opening e.moment (said_entries result owner request reply) ∙ ap (λ (rs : List Record). life_log opening e.moment ++ rs) (none_logged result owner request reply) ∙ append-nil (life_log opening e.moment))
        ∙ ap (λ (h : Hand). page_book opening e.moment h.page) view ∙ sym (was opening stands) ∙ ap (λ (h : Hand). h.lsn) (sym view) in
        record {
          right = λ i. Some (record { page = page i; lsn = sym lsn_is i });
          head = λ opening stands. lsn_is ∙ number opening stands ∙ there.head opening stands;
          image = there.image;
          keeps = there.keeps;
          number = there.number;
          place = subst (λ (n : ℕ). is_number n ≡ true) (sym lsn_is) inside_range.1;
        }
      where
        same_page : (c : PageClaim) {p : ℕ} → page_of (Some c) ≡ Some p → c.page ≡ p
        same_page c is = cc is
