-- The End of a transaction that has no open write left: it may be asked for at any moment, and what its answer says.
use Rattle.std.proofs.Common.{◌≡◌, ◌≢◌, ℕ, ◌+◌, ◌<◌, ◌^◌, Bool, true, false, cond, List, [], ◌∷◌, ◌++◌, length, Option, Some, None, Result, Ok, Err, refl, sym, ap, subst, ◌∙◌, arith, append-nil, inl, inr}
use Rattle.std.specs.Prelude.{◌⊎◌, IfErr, IfOk, IfSome, not, ◌||◌}
use Rattle.std.specs.List.{list_any}
use Rattle.std.specs.Option.{option_map}
use Rattle.std.proofs.Math.Nat.{le-max_left, le-max_right}
use Rattle.std.proofs.lemmas.Bool.{ne_eqb}
use Rattle.std.proofs.lemmas.List.Folds.{list_any-append}
use mathlib.Core.List.{IsPrefix}
use Rattle.books.specs.Rights.{PageClaim, SessionClaim}
use Rattle.front.specs.Seen.{PassSeen}
use Rattle.front.proofs.Keeping.{prefix_trans}
use Rattle.store_model.proofs.Bools.{false_unless, not_both}
use Rattle.store_model.specs.declared.fault.Fault.{Fault}
use Rattle.store_model.specs.declared.fault.Fault.TheVariants as faults
use Rattle.store_model.specs.declared.fault.Memory.{Memory}
use Rattle.wal_record.specs.Books.{session_transaction, unless_over}
use Rattle.wal_record.specs.Chains.{finishes, greatest, last, link_of, tx_of}
use Rattle.wal_record.specs.History.{Ended, Live, Phase, is_owner, is_over, last_begun, life_log, log_of, phase}
use Rattle.wal_record.specs.Legal.{IsLegal, MayUndo}
use Rattle.wal_record.specs.OpenWrites.{has_items, is_loser, open_writes}
use Rattle.wal_record.specs.Rules.{is_number}
use Rattle.wal_record.specs.Sound.{AreLawful, IsLawful}
use Rattle.wal_record.specs.declared.record.Record.{Record}
use Rattle.wal_record.specs.declared.record.Record.TheVariants as kinds
use Rattle.wal_record.specs.declared.entry.Entry.{Entry}
use Rattle.wal_record.specs.declared.entry.Entry.TheVariants.{Rec}
use Rattle.wal_record.proofs.Along.{AllAlong_less, by_pushes}
use Rattle.wal_record.proofs.Pushes.{greatest_push, last_begun_push, phase_push}
use Rattle.log_laws.proofs.Central.{eqb_self}
use Rattle.log_laws.proofs.Phases.{live_law}
use Rattle.log_laws.proofs.Serial.{owner_new}
use Rattle.claim_laws.specs.Entering.{IsAtRest}
use Rattle.claim_laws.specs.Suiting.{Suits}
use Rattle.claim_laws.proofs.Filling.{last_in}
use Rattle.claim_laws.proofs.Losers.{finished_none, loser_law}
use Rattle.foster_laws.proofs.InHand.{lsn_is}
use Rattle.page_ops.specs.Asking.{IsAskable, IsLate, IsTimely, WasTimely}
use Rattle.page_ops.specs.Claims.{Claims, SessionAgrees, no_claims}
use Rattle.page_ops.specs.Gains.{Gains}
use Rattle.page_ops.specs.Groups.{AreFilled, HasOwner, HasSpeaker, group_entries}
use Rattle.page_ops.specs.Names.{LedgerName}
use Rattle.page_ops.specs.Outcomes.{IsAnswer, IsFull, KeepsRights, SameHolders}
use Rattle.page_ops.specs.Seeing.{Account, Enters, IsConsistent, IsMoment, known}
use Rattle.page_ops.specs.declared.group.Group.{Group}
use Rattle.page_ops.specs.declared.outcome.Entered.{Entered}
use Rattle.page_ops.specs.declared.outcome.Entered.TheVariants.{At, NoRoom, Late}
use Rattle.page_ops.proofs.Gaining.{gains_of, gains_then}
use Rattle.asking_laws.specs.Asks.{group_of}
use Rattle.asking_laws.proofs.Alike.{alike_law}
use Rattle.asking_laws.proofs.Asks.{asks_law}
use Rattle.group_laws.proofs.Owners.{transaction}
use Rattle.leaf_writes.proofs.AsksOne.{above_none}
use Rattle.leaf_writes.proofs.EachKind.{never_live}
use Rattle.smo.specs.Asked.{Asked, AskedIfMade, MayAsk}
use Rattle.rollback.specs.Endings.{GainsEnd, HasEnded, IsFreed, KeepsUnended, end_by, end_of}
use Rattle.rollback.specs.Owners.{IsSameSession, MayRollBack, claim_of}
use Rattle.rollback.proofs.Owning.{same_writes, stays_now}
use Rattle.rollback.proofs.Composing.{reclaimed}

-- ---- small facts of logs

both_no : (a b : Bool) → a ≡ false → b ≡ false → (a || b) ≡ false
both_no true b x y = x
both_no false b x y = y

unfinished : (t : ℕ) (r : Record) → tx_of r < t → finishes t r ≡ false
unfinished t (kinds.Commit c) h = ne_eqb c.tx t (λ e. omega (arith, e, h))
unfinished t (kinds.End c) h = ne_eqb c.tx t (λ e. omega (arith, e, h))
unfinished t _ h = refl

none_finishes : (log : List Record) (t : ℕ) → greatest log < t → list_any (finishes t) log ≡ false
none_finishes log t = by_pushes (λ (log : List Record). greatest log < t → list_any (finishes t) log ≡ false) (λ _. refl) (λ log r before h.
    let e = greatest_push log r in
    let l = le-max_left (greatest log) (tx_of r) in
    let m = le-max_right (greatest log) (tx_of r) in
    list_any-append (finishes t) log (r ∷ []) ∙ both_no (list_any (finishes t) log) (finishes t r || false) (before (omega (arith, e, l, h))) (ap (λ (b : Bool). b || false) (unfinished t r (omega (arith, e, m, h))))) log

-- ---- at one moment

some_items : (log : List Record) → log ≢ [] → has_items log ≡ true
some_items [] some = absurd (some refl)
some_items (r ∷ rs) some = refl

module _ (opens : List Record → Type 0) (tx : ℕ) (number : is_number tx ≡ true) (opening : List Record) (stands : opens opening) (h : List Entry) (consistent : IsConsistent opens h) where
  abbrev log : List Record
  log = life_log opening h

  pub lawful : AreLawful opening
  lawful = AllAlong_less IsLawful opening (log_of h) (consistent.sound opening stands).lawful

  rest : IsAtRest opening h
  rest = record { legal = consistent.legal opening stands; sound = consistent.sound opening stands; told = consistent.told; split = consistent.split opening stands }

  suits : MayUndo opening h tx → open_writes log tx ≡ [] → list_any (finishes tx) log ≡ false → length log + 3 < 2 ^ 63 → Suits opening h (end_by tx (last log tx))
  suits may none going few = record {
    lawful = record {
      first = sym (ap (λ (b : Bool). not b) (some_items log (consistent.some opening stands)));
      fields = record { tx = number; prev = lsn_is (last log tx) (let n = last_in tx log in omega (arith, n, few)) };
      chain = (refl, going);
      heads = tt;
      applicable = λ p names. absurd (cc names);
      place = tt;
      value = none;
      upkeep = tt;
    };
    rule = may;
  }

  -- the End may follow, where the transaction has none yet
  asks : MayUndo opening h tx → open_writes log tx ≡ [] → (IsTimely opening h (end_by tx 0) → list_any (finishes tx) log ≡ false) → (a : Option PageClaim) → IsAskable opening h a (end_of tx)
  asks may none going a = record {
    leaf = tt;
    follows = λ timely room numbers.
        let e = end_by tx (last log tx) in
        let raw = (asks_law opening h []).plain lawful (subst (IsAtRest opening) (sym (append-nil h)) rest) a e refl refl (suits may none (going timely.0) numbers) in
        let ours = (alike_law opening h (group_of e) (end_of tx)).asks (record { records = (λ n. refl, tt); said = refl; room = refl }) a (subst (λ (l : List Entry). IsAskable opening l a (group_of e)) (append-nil h) raw) in
        ours.follows timely room numbers;
    declines = λ lacks. absurd (cc lacks.0);
  }

  -- a loser had no End when the life began
  was_timely : (seen : List Entry) → WasTimely opening seen (end_by tx 0)
  was_timely seen =
      ([], (seen, refl), λ loser. ap (list_any (finishes tx)) (append-nil opening) ∙ false_unless (list_any (finishes tx) opening) (λ is. not_both (is_loser opening tx) loser (ap has_items (finished_none tx opening lawful is))))

-- ---- at any moment

none_left : (ws gone : List Record) → [] ≡ ws ++ gone → ws ≡ []
none_left [] gone is = refl
none_left (w ∷ ws) gone is = absurd (cc is)

module _ (opens : List Record → Type 0) (seen0 seen : List Entry) (tx : ℕ) (number : is_number tx ≡ true) (longer : IsPrefix seen0 seen) (nothing : (opening : List Record) → opens opening → open_writes (life_log opening seen0) tx ≡ []) where
  askable : (owner : Option SessionClaim) → MayRollBack opens seen0 tx owner → (opening : List Record) (h : List Entry) → opens opening → IsMoment opens seen (claim_of owner) h → IsAskable opening h None (end_of tx)
  askable None may opening h stands moment =
      let consistent = moment.consistent in
      let loser = may opening stands in
      let from : IsPrefix seen0 h = prefix_trans seen0 seen h longer moment.begins in
      let fewer = (loser_law opening seen0 from.0 tx).fewer (lawful opens tx number opening stands h consistent) (subst (IsLegal opening) (sym from.1) (consistent.legal opening stands)) loser in
      let none = none_left (open_writes (life_log opening (seen0 ++ from.0)) tx) fewer.0 (sym (nothing opening stands) ∙ fewer.1) in
      asks opens tx number opening stands h consistent (inr loser) (ap (λ (l : List Entry). open_writes (life_log opening l) tx) (sym from.1) ∙ none) (λ timely. timely loser) None
  askable (Some s) may opening h stands moment =
      let consistent = moment.consistent in
      let from : IsPrefix seen0 h = prefix_trans seen0 seen h longer moment.begins in
      let some : 0 < s.tx = subst (λ (t : ℕ). 0 < t) (sym may.tx) (above_none tx number) in
      let steady = stays_now opens may.before seen0 h s may.agrees some may.begins from consistent moment.rights.s opening stands in
      let live : phase h tx ≡ Live = subst (λ (t : ℕ). phase h t ≡ phase may.before t) may.tx steady.phase ∙ may.live opening stands in
      let same = subst (λ (t : ℕ). open_writes (life_log opening h) t ≡ open_writes (life_log opening seen0) t) may.tx (same_writes opens may.before seen0 h s may.agrees some may.begins from consistent moment.rights.s opening stands) in
      let legal = consistent.legal opening stands in
      let first_lawful = lawful opens tx number opening stands h consistent in
      let own = subst (λ (t : ℕ). is_owner h s.session t ≡ true) may.tx (transaction h s.session s.tx moment.rights.s.tx some).0 in
      let before = none_finishes opening tx (owner_new opening h legal s.session tx own) in
      let since = ((live_law opening h).live first_lawful legal tx live).1 in
      asks opens tx number opening stands h consistent (inl live) (same ∙ nothing opening stands) (λ timely. list_any-append (finishes tx) opening (log_of h) ∙ both_no (list_any (finishes tx) opening) (list_any (finishes tx) (log_of h)) before since) None

  has_owner : (owner : Option SessionClaim) → MayRollBack opens seen0 tx owner → HasOwner opens seen (claim_of owner) (link_of (end_by tx 0))
  has_owner None may = λ opening stands lawful legal live. absurd (never_live opening seen tx lawful legal (may opening stands) live)
  has_owner (Some s) may = λ opening stands lawful legal live. (refl, may.tx)

  pub may_end : (owner : Option SessionClaim) (x : Claims) (made : Result Group Memory) → x ≡ claim_of owner → IsConsistent opens seen → MayRollBack opens seen0 tx owner → IfOk made (λ (g : Group). g ≡ end_of tx) → IfOk made (MayAsk opens seen x)
  may_end owner x (Err m) is consistent may g_is = tt
  may_end owner x (Ok g) is consistent may g_is = subst (λ (q : Claims × Group). MayAsk opens seen q.0 q.1) (λ i. (sym is i, sym g_is i)) (record {
    group = record { few = omega arith; kinds = refl; spelled = (record { tx = number; prev = refl }, tt); told = refl; alone = λ n. refl };
    rights = record { pages = refl; new = λ n. refl; owners = (has_owner owner may, tt); speaker = speaker owner; maintenance = λ n. absurd (cc n) };
    askable = λ opening h stands moment. askable owner may opening h stands moment;
    timely = λ opening stands. (was_timely opens tx number opening stands seen consistent seen, tt);
  })
    where
      speaker : (o : Option SessionClaim) → HasSpeaker o None
      speaker None = tt
      speaker (Some s) = tt

-- ---- what its answer says

-- filled in, the group is one End
filled_end : (child tx : ℕ) (xs : List Record) → AreFilled child (end_of tx).recs xs → (prev : ℕ) × (xs ≡ end_by tx prev ∷ [])
filled_end child tx [] f = absurd f
filled_end child tx (x ∷ y ∷ ys) f = absurd f.1
filled_end child tx (x ∷ []) f = (f.0.0.prev, λ i. f.0.2 i ∷ [])

-- a session whose transaction it is has none behind it
begun_last : (h : List Entry) (b : Option ℕ) (t : ℕ) → t ≡ unless_over h b → 0 < t → b ≡ Some t
begun_last h None t is some = absurd (omega (arith, is, some))
begun_last h (Some u) t is some = by (is_over (phase h u)) is
  where
    by : (c : Bool) → t ≡ cond c 0 u → ◌≡◌ {A = Option ℕ} (Some u) (Some t)
    by true is = absurd (omega (arith, is, some))
    by false is = ap Some (sym is)

freed : (h : List Entry) (lsn tx prev session : ℕ) → 0 < tx → tx ≡ session_transaction h session → session_transaction (h ++ Rec lsn (end_by tx prev) ∷ []) session ≡ 0
freed h lsn tx prev session some is =
    let e = Rec lsn (end_by tx prev) in
    let last = begun_last h (last_begun h session) tx is some in
    ap (unless_over (h ++ e ∷ [])) (last_begun_push h e session ∙ last)
    ∙ ap (λ (p : Phase). cond (is_over p) 0 tx) (phase_push h e tx ∙ ap (λ (b : Bool). cond b Ended (phase h tx)) (eqb_self tx))

module _ (opens : List Record → Type 0) (ledger sessions : LedgerName) (tx : ℕ) (number : is_number tx ≡ true) (seen0 : List Entry) (owner : Option SessionClaim) (may : MayRollBack opens seen0 tx owner) (a0 a1 a2 : Account) (s0 s1 s2 : PassSeen Entry) (x0 x1 x2 : Claims)
    (owned : x1 ≡ claim_of owner) (looked : Enters opens ledger sessions (known a0 s0 x0) [] (known a1 s1 x1)) (made : Result Group Memory) (is : IfOk made (λ (g : Group). g ≡ end_of tx)) (result : Result Entered Fault) (asked : AskedIfMade opens ledger sessions made result (known a1 s1 x1) (known a2 s2 x2)) where
  -- what was asked, or that there was no memory for it
  entered : (Asked opens ledger sessions (end_of tx) result (known a1 s1 x1) (known a2 s2 x2)) ⊎ ((result ≡ Err faults.Memory) × Enters opens ledger sessions (known a1 s1 x1) [] (known a2 s2 x2))
  entered = by made is asked
    where
      by : (made : Result Group Memory) → IfOk made (λ (g : Group). g ≡ end_of tx) → AskedIfMade opens ledger sessions made result (known a1 s1 x1) (known a2 s2 x2)
          → (Asked opens ledger sessions (end_of tx) result (known a1 s1 x1) (known a2 s2 x2)) ⊎ ((result ≡ Err faults.Memory) × Enters opens ledger sessions (known a1 s1 x1) [] (known a2 s2 x2))
      by (Ok g) e k = inl (subst (λ (q : Group). Asked opens ledger sessions q result (known a1 s1 x1) (known a2 s2 x2)) e k)
      by (Err m) e k = inr k

  first : Gains opens ledger sessions [] (known a0 s0 no_claims) (known a1 s1 no_claims)
  first = reclaimed opens ledger sessions [] a0 a1 s0 s1 x0 x1 no_claims no_claims (gains_of opens ledger sessions [] (known a0 s0 x0) (known a1 s1 x1) looked)

  then : (es : List Entry) → Enters opens ledger sessions (known a1 s1 x1) es (known a2 s2 x2) → Gains opens ledger sessions es (known a0 s0 no_claims) (known a2 s2 no_claims)
  then es e =
      gains_then opens ledger sessions [] es (known a0 s0 no_claims) (known a1 s1 no_claims) (known a2 s2 no_claims) first
      (reclaimed opens ledger sessions es a1 a2 s1 s2 x1 x2 no_claims no_claims (gains_of opens ledger sessions es (known a1 s1 x1) (known a2 s2 x2) e))

  gains_by : (r : Result Entered Fault) → Asked opens ledger sessions (end_of tx) r (known a1 s1 x1) (known a2 s2 x2) → GainsEnd opens ledger sessions tx r (known a0 s0 no_claims) (known a2 s2 no_claims)
  gains_by (Ok (At pos)) k =
      let one = filled_end k.filled.child tx k.now.recs k.filled.recs in
      (k.now.lsn, one.0, then (Rec k.now.lsn (end_by tx one.0) ∷ []) (subst (λ (rs : List Record). Enters opens ledger sessions (known a1 s1 x1) (group_entries k.now.lsn rs None) (known a2 s2 x2)) one.1 k.enters.enters))
  gains_by (Ok NoRoom) k = then [] k.enters.enters
  gains_by (Ok (Late pos)) k = then [] k.enters.enters
  gains_by (Err (faults.Full p q at)) k = then [] k.enters.enters
  gains_by (Err _) k = then [] k.enters.enters

  pub gains_end : GainsEnd opens ledger sessions tx result (known a0 s0 no_claims) (known a2 s2 no_claims)
  gains_end = elim entered [
    | inl k ↦ gains_by result k
    | inr k ↦ subst (λ (r : Result Entered Fault). GainsEnd opens ledger sessions tx r (known a0 s0 no_claims) (known a2 s2 no_claims)) (sym k.0) (then [] k.1)
  ]

  module _ (keeps : KeepsRights result x1 x2) (holders : SameHolders x1 x2) where
    session_same : option_map (λ (s : SessionClaim). s.session) x2.s ≡ option_map (λ (s : SessionClaim). s.session) owner
    session_same = holders.s ∙ ap (λ (w : Claims). option_map (λ (s : SessionClaim). s.session) w.s) owned

    pub same_session : (owned' : Option SessionClaim) → owned' ≡ x2.s → IsSameSession owner owned'
    same_session owned' owned'_is = ap (option_map (λ (s : SessionClaim). s.session)) owned'_is ∙ session_same

    as_was : (r : Result Entered Fault) → KeepsRights r x1 x2 → (IfErr r (IsFull opens s2.log (end_of tx))) → KeepsUnended r owner x2.s
    as_was (Ok (At pos)) k f = tt
    as_was (Ok NoRoom) k f = ap (λ (w : Claims). w.s) k ∙ ap (λ (w : Claims). w.s) owned
    as_was (Ok (Late pos)) k f = ap (λ (w : Claims). w.s) k ∙ ap (λ (w : Claims). w.s) owned
    as_was (Err (faults.Full p q at)) k f = absurd (let clash : false ≡ true = f.0 in cc clash)
    as_was (Err _) k f = ap (λ (w : Claims). w.s) k ∙ ap (λ (w : Claims). w.s) owned

    full_by : (made : Result Group Memory) → IfOk made (λ (g : Group). g ≡ end_of tx) → AskedIfMade opens ledger sessions made result (known a1 s1 x1) (known a2 s2 x2) → IfOk made (λ (g : Group). IfErr result (IsFull opens s2.log g)) → IfErr result (IsFull opens s2.log (end_of tx))
    full_by (Ok g) e k h = subst (λ (q : Group). IfErr result (IsFull opens s2.log q)) e h
    full_by (Err m) e k h = subst (λ (r : Result Entered Fault). IfErr r (IsFull opens s2.log (end_of tx))) (sym k.0) tt

    pub never_full : IfOk made (λ (g : Group). IfErr result (IsFull opens s2.log g)) → IfErr result (IsFull opens s2.log (end_of tx))
    never_full h = full_by made is asked h

    pub kept_unended : IfOk made (λ (g : Group). IfErr result (IsFull opens s2.log g)) → (owned' : Option SessionClaim) → owned' ≡ x2.s → KeepsUnended result owner owned'
    kept_unended full owned' owned'_is = subst (KeepsUnended result owner) (sym owned'_is) (as_was result keeps (never_full full))

    freed_by : (o o' : Option SessionClaim) (moment : List Entry) (lsn prev : ℕ) → MayRollBack opens seen0 tx o → IfSome o (SessionAgrees moment) → IfSome o' (SessionAgrees s2.log) → s2.log ≡ moment ++ Rec lsn (end_by tx prev) ∷ []
        → option_map (λ (s : SessionClaim). s.session) o' ≡ option_map (λ (s : SessionClaim). s.session) o → IsFreed s2.log o'
    freed_by o None moment lsn prev m before now log same = tt
    freed_by None (Some s') moment lsn prev m before now log same = absurd (cc same)
    freed_by (Some s) (Some s') moment lsn prev m before now log same =
        let at : s'.session ≡ s.session = cc same in
        let from : tx ≡ session_transaction moment s.session = sym m.tx ∙ before.tx in
        (now.tx ∙ (λ i. session_transaction (log i) (at i)) ∙ freed moment lsn tx prev s.session (above_none tx number) from, now)

    ended_by : (e : Entered) → Asked opens ledger sessions (end_of tx) (Ok e) (known a1 s1 x1) (known a2 s2 x2) → IsAnswer opens s2.log (end_of tx) e → HasEnded opens s2.log tx x2.s e
    ended_by (At pos) k answer =
        let one = filled_end k.filled.child tx k.now.recs k.filled.recs in
        let log : s2.log ≡ k.enters.enters.moment ++ Rec k.now.lsn (end_by tx one.0) ∷ [] = k.enters.enters.is ∙ ap (λ (rs : List Record). k.enters.enters.moment ++ group_entries k.now.lsn rs None) one.1 in (
          record { before = k.enters.enters.moment; lsn = k.now.lsn; prev = one.0; is = log; place = answer },
          freed_by owner x2.s k.enters.enters.moment k.now.lsn one.0 may (subst (λ (w : Claims). IfSome w.s (SessionAgrees k.enters.enters.moment)) owned k.enters.enters.found.rights.s) k.enters.enters.now.rights.s log session_same,
        )
    ended_by NoRoom k answer = absurd (let clash : false ≡ true = answer.1 in cc clash)
    ended_by (Late pos) k answer = λ opening stands. late opening (answer.1 opening stands)
      where
        late : (opening : List Record) → IsLate opening s2.log pos (end_of tx).recs → list_any (finishes tx) (life_log opening s2.log) ≡ true
        late opening (inr none) = absurd none
        late opening (inl f) = by (list_any (finishes tx) (life_log opening s2.log)) refl
          where
            by : (b : Bool) → list_any (finishes tx) (life_log opening s2.log) ≡ b → list_any (finishes tx) (life_log opening s2.log) ≡ true
            by true e = e
            by false e = absurd (f.late (λ loser. e))

    answered_by : (made : Result Group Memory) → IfOk made (λ (g : Group). g ≡ end_of tx) → AskedIfMade opens ledger sessions made result (known a1 s1 x1) (known a2 s2 x2) → IfOk made (λ (g : Group). IfOk result (IsAnswer opens s2.log g)) → IfOk result (HasEnded opens s2.log tx x2.s)
    answered_by (Ok g) e k answer = by result (subst (λ (q : Group). Asked opens ledger sessions q result (known a1 s1 x1) (known a2 s2 x2)) e k) (subst (λ (q : Group). IfOk result (IsAnswer opens s2.log q)) e answer)
      where
        by : (r : Result Entered Fault) → Asked opens ledger sessions (end_of tx) r (known a1 s1 x1) (known a2 s2 x2) → IfOk r (IsAnswer opens s2.log (end_of tx)) → IfOk r (HasEnded opens s2.log tx x2.s)
        by (Ok e) k a = ended_by e k a
        by (Err f) k a = tt
    answered_by (Err m) e k answer = subst (λ (r : Result Entered Fault). IfOk r (HasEnded opens s2.log tx x2.s)) (sym k.0) tt

    pub has_ended : IfOk made (λ (g : Group). IfOk result (IsAnswer opens s2.log g)) → (owned' : Option SessionClaim) → owned' ≡ x2.s → IfOk result (HasEnded opens s2.log tx owned')
    has_ended answer owned' owned'_is = subst (λ (o : Option SessionClaim). IfOk result (HasEnded opens s2.log tx o)) (sym owned'_is) (answered_by made is asked answer)
