-- Pages of a segment written back, and that it is restored.
use Rattle.std.proofs.Common.{◌≡◌, ◌≢◌, ℕ, suc, List, [], ◌∷◌, ◌++◌, length, take, filter, Option, None, Bool, true, false, cond, refl, sym, ap, subst, ◌∙◌, arith, inl, inr}
use Rattle.std.specs.Prelude.{◌≤◌, ◌<◌, ◌^◌, min, not, IfErr, IsTrue, OnOk, Result, Ok, Err, ◌==◌, ◌||◌}
use Rattle.std.specs.List.{list_any, list_all}
use Rattle.std.proofs.lemmas.Bool.Decides.{nat_tests}
use mathlib.Core.List.{IsPrefix}
use Rattle.front.specs.Seen.{PassSeen}
use Rattle.front.proofs.Keeping.{prefix_trans}
use Rattle.store_model.proofs.Bools.{false_unless}
use Rattle.store_model.specs.declared.fault.Fault.{Fault}
use Rattle.store_model.specs.declared.fault.Fault.TheVariants as faults
use Rattle.wal_record.specs.Chains.{head, names_at}
use Rattle.wal_record.specs.History.{life_log, log_of}
use Rattle.wal_record.specs.Images.{image}
use Rattle.wal_record.specs.OpenWrites.{has_items}
use Rattle.wal_record.specs.Rules.{HasSpelling}
use Rattle.wal_record.specs.Sound.{IsLawful}
use Rattle.store_model.specs.Along.{along}
use Rattle.wal_record.specs.Upkeep.{unrestored}
use Rattle.wal_record.specs.declared.analysis.PageHead.{PageHead}
use Rattle.wal_record.specs.declared.record.Record.{Record}
use Rattle.wal_record.specs.declared.record.Record.TheVariants as kinds
use Rattle.wal_record.specs.declared.entry.Entry.{Entry}
use Rattle.wal_record.specs.declared.entry.Entry.TheVariants as entries
use Rattle.wal_record.proofs.Along.{AllAlong_less, along_push}
use Rattle.wal_record.proofs.Pushes.{unrestored_push}
use Rattle.chain_laws.proofs.Steps.{heads}
use Rattle.claim_laws.specs.Entering.{IsAtRest}
use Rattle.claim_laws.specs.Suiting.{Suits}
use Rattle.claim_laws.specs.Upkeep.{is_unrestored}
use Rattle.asking_laws.proofs.Asks.{asks_law}
use Rattle.page_image.specs.Image.{image_bytes}
use Rattle.page_image.specs.declared.sealed.Sealed.{Sealed}
use Rattle.page_ops.specs.Asking.{IsAskable, WasTimely, IsLate}
use Rattle.page_ops.specs.Causes.{EndsBy, IsOpen, MeetsNoEnd, FailsToBring, FailsToEnter, FailsToFlush, NoOther, OrFull}
use Rattle.page_ops.specs.Claims.{Agree, Claims, no_claims}
use Rattle.page_ops.specs.Desks.{Faults}
use Rattle.page_ops.specs.Groups.{AreFilled, AreFilledFrom, Each, HasRights, IsGroup, Numbers, filled}
use Rattle.page_ops.specs.Names.{LedgerName}
use Rattle.page_ops.specs.Outcomes.{EntersGroup, IsAnswer, IsFilledIn, IsFull, IsListed, OnEntered, answered}
use Rattle.page_ops.specs.Seeing.{Account, Known, Enters, IsMoment, Keeps, Upholds, is_none, is_of_session, of_sessions, known}
use Rattle.page_ops.specs.declared.group.Group.{Group}
use Rattle.page_ops.specs.declared.outcome.Entered.{Entered}
use Rattle.page_ops.specs.declared.outcome.Entered.TheVariants as entereds
use Rattle.page_ops.specs.declared.outcome.Listed.{Listed}
use Rattle.page_ops.proofs.Gaining.{gains_of, goes_of, upheld, upheld_then}
use Rattle.page_ops.proofs.Staying.{longer_log}
use Rattle.page_repair.specs.Images.{IsWritten}
use Rattle.page_repair.specs.Supplies.{IsHead, IsRebuilt, is_restored}
use Rattle.segment_restore.specs.Restored.{IsRestored, WasUnrestored, restored_group}
use Rattle.segment_restore.proofs.Chains.{fails_then, head_later, is_there, open_then, rebuilt_later}

-- ---- an image that is written

pub listed_head : (opens : List Record → Type 0) (h : List Entry) (page : ℕ) (x : Listed) → IsListed opens h page x → x.ends.head ≢ 0 → IsHead opens h page x.ends.head
listed_head opens h page x l some opening stands =
    let e : x.ends.head ≡ head (life_log opening h) page = ap (λ (y : PageHead). y.head) (l.ends opening stands) in
    subst (λ (n : ℕ). IsTrue (names_at (life_log opening h) n page)) (sym e) ((heads (life_log opening h) page).named (λ z. some (e ∙ z)))

pub may_write : (opens : List Record → Type 0) (h : List Entry) (p : PassSeen Entry) (page at : ℕ) (x : Sealed) → IsPrefix h p.log → IsHead opens h page at → IsRebuilt opens h page at x
    → ((opening : List Record) → opens opening → min at (length (life_log opening p.log)) ≤ p.durable) → (bytes : List ℕ) → bytes ≡ image_bytes page at x.state → IsWritten opens p page bytes
may_write opens h p page at x begins named made durable bytes is opening stands =
    let log = life_log opening p.log in
    let there = head_later opens h p.log page at begins named opening stands in
    let now = rebuilt_later opens h p.log page at x begins named made in
    let within = (is_there log page at there).1 in
    record {
      sealed = record {
        upto = at;
        within = within;
        state = x.state;
        image = ap (λ (n : ℕ). image (take n log) page) (sym now.lsn) ∙ now.image opening stands;
        sealed = is ∙ ap (λ (n : ℕ). image_bytes page n x.state) (sym ((heads log page).headed at there));
      };
      durable_upto = let d = durable opening stands in omega (arith, d, within);
    }

-- ---- why calls are refused

module _ (opens : List Record → Type 0) (log_faults made : LedgerName) (own : Faults) (old new : Account) (h : List Entry) where
  pub flush_fails : (f : Fault) → FailsToFlush f → EndsBy opens log_faults made old new h f → FailsToBring opens log_faults made own own old new h f
  flush_fails faults.LogFault may why = (why.1, inr why.2)
  flush_fails (faults.Ended at) may why = why
  flush_fails _ may why = absurd may

  pub enter_fails : (f : Fault) → FailsToEnter NoOther f → EndsBy opens log_faults made old new h f → FailsToBring opens log_faults made own own old new h f
  enter_fails faults.Memory may why = why
  enter_fails (faults.Ended at) may why = why
  enter_fails _ may why = absurd may

  pub ask_fails : (h' : List Entry) (g : Group) (f : Fault) → g.room ≡ false → FailsToEnter OrFull f → IsFull opens h' g f → EndsBy opens log_faults made old new h f → FailsToBring opens log_faults made own own old new h f
  ask_fails h' g faults.Memory none may full why = why
  ask_fails h' g (faults.Ended at) none may full why = why
  ask_fails h' g (faults.Full pages pending at) none may full why = absurd (cc (sym none ∙ full.0))
  ask_fails h' g _ none may full why = absurd may

pub open_met : (a b : Account) → IsOpen a × IsOpen b → MeetsNoEnd a b
open_met a b e = record { ended = e.1.0 ∙ sym e.0.0; amount = e.1.1 ∙ sym e.0.1 }

-- a call behind calls that were done
module _ {T : Type 0} (opens : List Record → Type 0) (log_faults made : LedgerName) (own : Faults) (a b c : Account) (h : List Entry) (none : MeetsNoEnd a b) where
  pub fails_behind : (r : Result T Fault) → Keeps a b → IfErr r (FailsToBring opens log_faults made own own b c h) → IfErr r (FailsToBring opens log_faults made own own a c h)
  fails_behind (Ok x) keeps e = tt
  fails_behind (Err f) keeps e = fails_then opens log_faults made own a b c h f none keeps e

  pub open_behind : (r : Result T Fault) → OnOk r (MeetsNoEnd b c) → OnOk r (MeetsNoEnd a c)
  open_behind (Ok x) e = open_then a b c none e
  open_behind (Err f) e = tt

-- what enters nothing upholds
none_kinds : (es : List Entry) → list_all is_none es ≡ true → list_all is_restored es ≡ true
none_kinds [] h = refl
none_kinds (e ∷ es) h = absurd (cc h)

module _ (opens : List Record → Type 0) (ledger sessions : LedgerName) (a b : Known) where
  pub restored_more : Upholds opens ledger sessions is_none a b → Upholds opens ledger sessions is_restored a b
  restored_more u = record {
    gained = u.gained;
    is = u.is;
    own = u.own;
    among = u.among;
    kinds = none_kinds u.own u.kinds;
    consistent = u.consistent;
    durable = u.durable;
    keeps = u.keeps;
    counted = u.counted;
    sessions_counted = u.sessions_counted;
    totals = u.totals;
  }

  pub restored_both : (c : Known) → Upholds opens ledger sessions is_restored a b → Upholds opens ledger sessions is_restored b c → Upholds opens ledger sessions is_restored a c
  restored_both c u v = upheld_then is_restored opens ledger sessions a b c (goes_of is_restored opens ledger sessions a b u) v

-- ---- that a segment is restored

some_items : {A : Type 0} (xs : List A) → xs ≢ [] → has_items xs ≡ true
some_items [] some = absurd (some refl)
some_items (x ∷ xs) some = refl

gone : (segment : ℕ) (ss : List ℕ) → list_any (λ s. s == segment) (filter (λ s. not (s == segment)) ss) ≡ false
gone segment [] = refl
gone segment (s ∷ ss) = by (s == segment) refl (gone segment ss)
  where
    by : (b : Bool) → (s == segment) ≡ b → list_any (λ s. s == segment) (filter (λ s. not (s == segment)) ss) ≡ false → list_any (λ s. s == segment) (cond (not b) (s ∷ filter (λ s. not (s == segment)) ss) (filter (λ s. not (s == segment)) ss)) ≡ false
    by true is none = none
    by false is none = ap (λ (b : Bool). b || list_any (λ s. s == segment) (filter (λ s. not (s == segment)) ss)) is ∙ none

restored_log : (log : List Record) (segment : ℕ) → is_unrestored (log ++ kinds.Restored (record { segment = segment }) ∷ []) segment ≡ false
restored_log log segment = ap (list_any (λ s. s == segment)) (unrestored_push log (kinds.Restored (record { segment = segment }))) ∙ gone segment (unrestored log)

no_segments : unrestored [] ≡ []
unfolding unrestored along
no_segments = refl

some_log : (log : List Record) (segment : ℕ) → is_unrestored log segment ≡ true → has_items log ≡ true
some_log [] segment is = absurd (cc (sym (ap (list_any (λ s. s == segment)) no_segments) ∙ is))
some_log (r ∷ rs) segment is = refl

abbrev pub restored_of : ℕ → Record
restored_of segment = kinds.Restored (record { segment = segment })

pub spelled_by : (segment : ℕ) → segment < 2 ^ 32 → HasSpelling (kinds.Restored (record { segment = segment }))
spelled_by segment fits = record { segment = grind (arith, nat_tests) }

module _ (segment : ℕ) (spelled : HasSpelling (kinds.Restored (record { segment = segment }))) (g : Group) (is : g ≡ restored_group segment) where
  pub is_group : IsGroup g
  is_group = subst IsGroup (sym is) (record { few = omega arith; kinds = refl; spelled = (spelled, tt); told = refl; alone = λ a. absurd (cc a) })

  pub has_rights : (opens : List Record → Type 0) (h : List Entry) (x : Claims) → HasRights opens h x g
  has_rights opens h x = subst (HasRights opens h x) (sym is) (record { pages = refl; new = λ s. absurd (cc s); owners = (tt, tt); speaker = tt; maintenance = λ needs. absurd (cc needs) })

  suits : (opening : List Record) (before : List Entry) → is_unrestored (life_log opening before) segment ≡ true → Suits opening before (kinds.Restored (record { segment = segment }))
  suits opening before lacks = record {
    lawful = record {
      first = sym (ap not (some_log (life_log opening before) segment lacks));
      fields = spelled;
      chain = tt;
      heads = tt;
      applicable = λ p n. absurd (cc n);
      place = tt;
      value = tt;
      upkeep = lacks;
    };
    rule = tt;
  }

  pub is_askable : (opens : List Record → Type 0) (seen : List Entry) → ((opening : List Record) → opens opening → WasUnrestored opening seen segment) → (x : Claims) (opening : List Record) (h : List Entry) → opens opening → IsMoment opens seen x h → IsAskable opening h x.a g
  is_askable opens seen was x opening h stands moment =
      let w = was opening stands in
      let begins : IsPrefix w.0 h = prefix_trans w.0 seen h w.1 moment.begins in
      let consistent = moment.consistent in
      let sound = consistent.sound opening stands in
      let rest : IsAtRest opening h = record { legal = consistent.legal opening stands; sound = sound; told = consistent.told; split = consistent.split opening stands } in
      subst (λ (z : Group). IsAskable opening h x.a z) (sym is)
      (subst (λ (l : List Entry). IsAskable opening l x.a (restored_group segment)) begins.1
      ((asks_law opening w.0 begins.0).restored (AllAlong_less IsLawful opening (log_of h) sound.lawful) (subst (IsAtRest opening) (sym begins.1) rest) x.a (record { segment = segment }) (suits opening w.0 w.2)))

  pub is_timely : (opening : List Record) (seen : List Entry) → WasUnrestored opening seen segment → Each (WasTimely opening seen) g.recs
  is_timely opening seen w = subst (λ (z : Group). Each (WasTimely opening seen) z.recs) (sym is) ((w.0, w.1, w.2), tt)

  pub late : (opening : List Record) (h : List Entry) (pos : ℕ) → IsLate opening h pos g.recs → IsRestored opening h segment
  late opening h pos l = by (subst (λ (z : Group). IsLate opening h pos z.recs) is l)
    where
      by : IsLate opening h pos ((restored_group segment).recs) → IsRestored opening h segment
      by (inl f) = false_unless (is_unrestored (life_log opening h) segment) f.late
      by (inr none) = absurd none

  pub no_room : (opens : List Record → Type 0) (h : List Entry) → IsAnswer opens h g entereds.NoRoom → ⊥
  no_room opens h answer = cc (sym (ap (λ (z : Group). z.room) is) ∙ answer.1)

  -- ---- what was entered

  module _ (opens : List Record → Type 0) (ledger sessions : LedgerName) (now : Group) (a b : Account) (p q : PassSeen Entry) (x y : Claims) where
    unclaimed : (es : List Entry) → Enters opens ledger sessions (known a p x) es (known b q y) → Enters opens ledger sessions (known a p no_claims) es (known b q no_claims)
    unclaimed es e =
        let none : (h : List Entry) → Agree opens h no_claims = λ h. record { a = tt; b = tt; c = tt; s = tt; m = tt } in
        record {
          moment = e.moment;
          found = record { begins = e.found.begins; consistent = e.found.consistent; rights = none e.moment };
          is = e.is;
          now = record { begins = e.now.begins; consistent = e.now.consistent; rights = none q.log };
          durable = e.durable;
          keeps = e.keeps;
          counted = e.counted;
          sessions_counted = e.sessions_counted;
          totals = e.totals;
        }

    one_record : (r : Record) (made : Option ℕ) (new : ℕ) (xs : List Record) → ((n : Numbers) → filled made n r ≡ r) → AreFilledFrom made new (r ∷ []) xs → xs ≡ r ∷ []
    one_record r made new [] keeps f = absurd f
    one_record r made new (z ∷ []) keeps f = ap (λ (y : Record). y ∷ []) (f.0.2 ∙ keeps f.0.0)
    one_record r made new (z ∷ y ∷ ys) keeps f = absurd f.1

    of_group : (result : Result Entered Fault) → EntersGroup opens ledger sessions g now result (known a p x) (known b q y) → Enters opens ledger sessions (known a p no_claims) (answered now.lsn now.recs None result) (known b q no_claims)
    of_group result e = unclaimed (answered now.lsn now.recs None result) (subst (λ (z : Group). Enters opens ledger sessions (known a p x) (answered now.lsn now.recs z.said result) (known b q y)) is e.enters)

    pub entered_at : (pos : ℕ) (result : Result Entered Fault) → result ≡ Ok (entereds.At pos) → EntersGroup opens ledger sessions g now result (known a p x) (known b q y) → OnEntered result (IsFilledIn g now x y)
        → Enters opens ledger sessions (known a p no_claims) (entries.Rec now.lsn (restored_of segment) ∷ []) (known b q no_claims)
    entered_at pos result at e f =
        let whole = subst (λ (r : Result Entered Fault). Enters opens ledger sessions (known a p no_claims) (answered now.lsn now.recs None r) (known b q no_claims)) at (of_group result e) in
        let filled_in : IsFilledIn g now x y = subst (λ (r : Result Entered Fault). OnEntered r (IsFilledIn g now x y)) at f in
        let recs : now.recs ≡ restored_of segment ∷ [] = one_record (restored_of segment) None filled_in.child now.recs (λ n. refl) (subst (λ (z : Group). AreFilled filled_in.child z.recs now.recs) is filled_in.recs) in
        subst (λ (rs : List Record). Enters opens ledger sessions (known a p no_claims) (answered now.lsn rs None (Ok (entereds.At pos))) (known b q no_claims)) recs whole

    none_declined : (f : Fault) → answered now.lsn now.recs None (Err f) ≡ []
    none_declined (faults.Full pages pending at) = refl
    none_declined faults.Memory = refl
    none_declined faults.LogFault = refl
    none_declined faults.VaultFault = refl
    none_declined (faults.Ended at) = refl
    none_declined _ = refl

    pub entered_none : (f : Fault) → EntersGroup opens ledger sessions g now (Err f) (known a p x) (known b q y) → Upholds opens ledger sessions is_restored (known a p no_claims) (known b q no_claims)
    entered_none f e = upheld opens ledger sessions is_restored a b p q (subst (λ (es : List Entry). Enters opens ledger sessions (known a p no_claims) es (known b q no_claims)) (none_declined f) (of_group (Err f) e))

    pub entered_late : (pos : ℕ) (result : Result Entered Fault) → result ≡ Ok (entereds.Late pos) → EntersGroup opens ledger sessions g now result (known a p x) (known b q y) → Upholds opens ledger sessions is_restored (known a p no_claims) (known b q no_claims)
    entered_late pos result at e = upheld opens ledger sessions is_restored a b p q (subst (λ (r : Result Entered Fault). Enters opens ledger sessions (known a p no_claims) (answered now.lsn now.recs None r) (known b q no_claims)) at (of_group result e))

    of_sessions_push : (h : List Entry) (e : Entry) → of_sessions (h ++ e ∷ []) ≡ cond (is_of_session h e) (suc (of_sessions h)) (of_sessions h)
    unfolding of_sessions
    of_sessions_push h e = along_push _ _ h e

    pub upheld_at : (lsn : ℕ) → Enters opens ledger sessions (known a p no_claims) (entries.Rec lsn (restored_of segment) ∷ []) (known b q no_claims) → Upholds opens ledger sessions is_restored (known a p no_claims) (known b q no_claims)
    upheld_at lsn e =
        let r = entries.Rec lsn (restored_of segment) in
        let gained = gains_of opens ledger sessions (r ∷ []) (known a p no_claims) (known b q no_claims) e in
        let same : of_sessions q.log ≡ of_sessions e.moment = ap of_sessions e.is ∙ of_sessions_push e.moment r in
        record {
          gained = gained.gained;
          is = gained.is;
          own = r ∷ [];
          among = gained.among;
          kinds = refl;
          consistent = e.now.consistent;
          durable = e.durable;
          keeps = e.keeps;
          counted = e.counted;
          sessions_counted = omega (arith, same, e.sessions_counted);
          totals = e.totals;
        }

    pub restored_at : (lsn : ℕ) → Enters opens ledger sessions (known a p no_claims) (entries.Rec lsn (restored_of segment) ∷ []) (known b q no_claims) → (opening : List Record) → IsRestored opening q.log segment
    restored_at lsn e opening =
        let r = entries.Rec lsn (restored_of segment) in
        let longer : life_log opening q.log ≡ life_log opening e.moment ++ restored_of segment ∷ [] = ap (life_log opening) e.is ∙ longer_log opening e.moment (r ∷ []) in
        subst (λ (l : List Record). is_unrestored l segment ≡ false) (sym longer) (restored_log (life_log opening e.moment) segment)
