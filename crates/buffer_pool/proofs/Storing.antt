-- A page in hand is written: its image is one of the log, and that it was written may be entered.
use Rattle.std.proofs.Common.{◌≡◌, ◌≢◌, ℕ, ◌≤◌, List, [], ◌∷◌, ◌++◌, length, take, Option, Some, None, Bool, true, false, refl, sym, ap, subst, ◌∙◌, arith, append-nil, length-append}
use Rattle.std.specs.Prelude.{Result, Ok, Err, min, not}
use Rattle.std.proofs.lemmas.List.{take-append-le}
use mathlib.Core.List.{IsPrefix}
use Rattle.books.specs.Rights.{PageClaim}
use Rattle.front.specs.Seen.{PassSeen}
use Rattle.wal_record.specs.Chains.{head, names_at}
use Rattle.wal_record.specs.History.{life_log, log_of}
use Rattle.wal_record.specs.Images.{image}
use Rattle.wal_record.specs.OpenWrites.{has_items}
use Rattle.wal_record.specs.Rules.{is_number, is_page}
use Rattle.wal_record.specs.Sound.{IsLawful}
use Rattle.wal_record.specs.declared.record.Record.{Record}
use Rattle.wal_record.specs.declared.entry.Entry.{Entry}
use Rattle.wal_record.specs.declared.entry.Entry.TheVariants as entries
use Rattle.wal_record.proofs.Along.{AllAlong_less}
use Rattle.chain_laws.proofs.Named.{head_in, named_kept}
use Rattle.chain_laws.proofs.Steps.{heads}
use Rattle.claim_laws.specs.Suiting.{Suits}
use Rattle.claim_laws.specs.Entering.{IsAtRest}
use Rattle.asking_laws.proofs.Asks.{asks_law}
use Rattle.page_image.specs.Image.{image_bytes}
use Rattle.page_ops.specs.Asking.{IsAskable, WasTimely}
use Rattle.page_ops.specs.Claims.{Claims, Agree, no_claims}
use Rattle.page_ops.specs.Gains.{Gains}
use Rattle.page_ops.specs.Groups.{Each, HasRights, IsGroup, Numbers, AreFilledFrom, filled, record_entries}
use Rattle.page_ops.specs.Hands.{Hand, IsInHand}
use Rattle.page_ops.specs.Names.{LedgerName}
use Rattle.page_ops.specs.Outcomes.{EntersGroup, IsFilledIn, OnEntered, answered}
use Rattle.page_ops.specs.Seeing.{Account, Known, IsMoment, Enters, Upholds, is_none, known}
use Rattle.page_ops.specs.declared.group.Group.{Group}
use Rattle.page_ops.specs.declared.outcome.Entered.{Entered}
use Rattle.page_ops.specs.declared.outcome.Entered.TheVariants.{At}
use Rattle.store_model.specs.declared.fault.Fault.{Fault}
use Rattle.store_model.specs.declared.fault.Fault.TheVariants as faults
use Rattle.page_ops.proofs.Staying.{longer_log}
use Rattle.page_repair.specs.Images.{IsWritten}
use Rattle.page_repair.specs.Supplies.{IsHead}
use Rattle.buffer_pool.specs.Writes.{EntersWritten, written_entries, written_of, written_group}
use Rattle.buffer_pool.proofs.Entering.{gains_behind}
use Rattle.buffer_pool.proofs.Serving.{some_number}

-- a page in hand, at a later moment
module _ (opens : List Record → Type 0) (hand : Hand) (there : IsInHand opens hand) (h : List Entry) (begins : IsPrefix hand.pass.log h) (opening : List Record) (stands : opens opening) where
  abbrev first : List Record
  first = life_log opening hand.pass.log

  longer : life_log opening h ≡ first ++ log_of begins.0
  longer = ap (life_log opening) (sym begins.1) ∙ longer_log opening hand.pass.log begins.0

  within : hand.lsn ≤ length first
  within = let e = there.head opening stands in let l = head_in hand.page first in omega (arith, e, l)

  named : names_at first hand.lsn hand.page ≡ true
  named =
      let e = there.head opening stands in
      subst (λ (n : ℕ). names_at first n hand.page ≡ true) (sym e) ((heads first hand.page).named (λ z. some_number hand.lsn there.place (e ∙ z)))

  same : take hand.lsn (life_log opening h) ≡ take hand.lsn first
  same = ap (take hand.lsn) longer ∙ take-append-le hand.lsn first (log_of begins.0) within

  pub hand_named : names_at (life_log opening h) hand.lsn hand.page ≡ true
  hand_named = subst (λ (l : List Record). names_at l hand.lsn hand.page ≡ true) (sym longer) (named_kept first (log_of begins.0) hand.page hand.lsn named)

  pub hand_head : head (take hand.lsn (life_log opening h)) hand.page ≡ hand.lsn
  hand_head = ap (λ (l : List Record). head l hand.page) same ∙ (heads first hand.page).headed hand.lsn named

  pub hand_image : image (take hand.lsn (life_log opening h)) hand.page ≡ Some hand.state
  hand_image =
      let e = there.head opening stands in
      ap (λ (l : List Record). image l hand.page) same ∙ (heads first hand.page).stays hand.lsn (omega (arith, e)) ∙ there.image opening stands

  pub hand_within : hand.lsn ≤ length (life_log opening h)
  hand_within = let n = ap length longer in let l = length-append first (log_of begins.0) in let w = within in omega (arith, n, l, w)

-- its image may be written where the log is durable up to its LSN
pub may_write : (opens : List Record → Type 0) (hand : Hand) → IsInHand opens hand → (seen : PassSeen Entry) → IsPrefix hand.pass.log seen.log
    → ((opening : List Record) → opens opening → min hand.lsn (length (life_log opening seen.log)) ≤ seen.durable)
    → (bytes : List ℕ) → bytes ≡ image_bytes hand.page hand.lsn hand.state → IsWritten opens seen hand.page bytes
may_write opens hand there seen begins durable bytes is opening stands = record {
  sealed = record {
    upto = hand.lsn;
    within = hand_within opens hand there seen.log begins opening stands;
    state = hand.state;
    image = hand_image opens hand there seen.log begins opening stands;
    sealed = is ∙ ap (λ (n : ℕ). image_bytes hand.page n hand.state) (sym (hand_head opens hand there seen.log begins opening stands));
  };
  durable_upto = let d = durable opening stands in let w = hand_within opens hand there seen.log begins opening stands in omega (arith, d, w);
}

-- ---- that it was written

some_items : {A : Type 0} (xs : List A) → xs ≢ [] → has_items xs ≡ true
some_items [] some = absurd (some refl)
some_items (x ∷ xs) some = refl

module _ (opens : List Record → Type 0) (seen : List Entry) (page lsn : ℕ) (is_there : is_page page ≡ true) (number : is_number lsn ≡ true) (last : IsHead opens seen page lsn) where
  suits : (opening : List Record) (h : List Entry) → opens opening → IsMoment opens seen no_claims h → Suits opening h (written_of page lsn)
  suits opening h stands moment =
      let longer : life_log opening h ≡ life_log opening seen ++ log_of moment.begins.0 = ap (life_log opening) (sym moment.begins.1) ∙ longer_log opening seen moment.begins.0 in
      record {
        lawful = record {
          first = sym (ap not (some_items (life_log opening h) (moment.consistent.some opening stands)));
          fields = record { page = is_there; lsn = number };
          chain = tt;
          heads = tt;
          applicable = λ p n. absurd (cc n);
          place = tt;
          value = tt;
          upkeep = subst (λ (l : List Record). names_at l lsn page ≡ true) (sym longer) (named_kept (life_log opening seen) (log_of moment.begins.0) page lsn (last opening stands));
        };
        rule = tt;
      }

  pub may_enter : (opening : List Record) (h : List Entry) → opens opening → IsMoment opens seen no_claims h → (a : Option PageClaim) → IsAskable opening h a (written_group page lsn)
  may_enter opening h stands moment a =
      let consistent = moment.consistent in
      let sound = consistent.sound opening stands in
      let rest : IsAtRest opening h = record { legal = consistent.legal opening stands; sound = sound; told = consistent.told; split = consistent.split opening stands } in
      subst (λ (l : List Entry). IsAskable opening l a (written_group page lsn)) (append-nil h)
      ((asks_law opening h []).plain (AllAlong_less IsLawful opening (log_of h) sound.lawful) (subst (IsAtRest opening) (sym (append-nil h)) rest) a (written_of page lsn) refl tt (suits opening h stands moment))

pub was_timely : (opening : List Record) (seen : List Entry) (page lsn : ℕ) → Each (WasTimely opening seen) ((written_group page lsn).recs)
was_timely opening seen page lsn = ((seen, ([], append-nil seen), tt), tt)

-- ---- what was entered

module _ (opens : List Record → Type 0) (ledger sessions : LedgerName) where
  -- rights of which nothing is asked are of no account
  unclaimed : (a a' : Account) (s s' : PassSeen Entry) (es : List Entry) (x x' : Claims) → Enters opens ledger sessions (known a s x) es (known a' s' x') → Enters opens ledger sessions (known a s no_claims) es (known a' s' no_claims)
  unclaimed a a' s s' es x x' e =
      let none : (h : List Entry) → Agree opens h no_claims = λ h. record { a = tt; b = tt; c = tt; s = tt; m = tt } in
      record {
        moment = e.moment;
        found = record { begins = e.found.begins; consistent = e.found.consistent; rights = none e.moment };
        is = e.is;
        now = record { begins = e.now.begins; consistent = e.now.consistent; rights = none s'.log };
        durable = e.durable;
        keeps = e.keeps;
        counted = e.counted;
        sessions_counted = e.sessions_counted;
        totals = e.totals;
      }

  one_record : (r : Record) (made : Option ℕ) (new : ℕ) (xs : List Record) → ((n : Numbers) → filled made n r ≡ r) → AreFilledFrom made new (r ∷ []) xs → xs ≡ r ∷ []
  one_record r made new [] keeps f = absurd f
  one_record r made new (x ∷ []) keeps f = ap (λ (y : Record). y ∷ []) (f.0.2 ∙ keeps f.0.0)
  one_record r made new (x ∷ y ∷ ys) keeps f = absurd f.1

  pub enters_written : (page lsn pos : ℕ) (now : Group) (a a' : Account) (s s' : PassSeen Entry) (x' : Claims) → EntersGroup opens ledger sessions (written_group page lsn) now (Ok (At pos)) (known a s no_claims) (known a' s' x')
      → IsFilledIn (written_group page lsn) now no_claims x' → Enters opens ledger sessions (known a s no_claims) (entries.Rec now.lsn (written_of page lsn) ∷ []) (known a' s' no_claims)
  enters_written page lsn pos now a a' s s' x' e f =
      let one : now.recs ≡ written_of page lsn ∷ [] = one_record (written_of page lsn) None f.child now.recs (λ n. refl) f.recs in
      unclaimed a a' s s' (entries.Rec now.lsn (written_of page lsn) ∷ []) no_claims x'
      (subst (λ (rs : List Record). Enters opens ledger sessions (known a s no_claims) (record_entries now.lsn rs ++ []) (known a' s' x')) one e.enters)

-- ---- the conditions of entering it

module _ (page lsn : ℕ) (is_there : is_page page ≡ true) (number : is_number lsn ≡ true) (g : Group) (is : g ≡ written_group page lsn) where
  one_group : IsGroup (written_group page lsn)
  one_group = record {
    few = omega arith;
    kinds = refl;
    spelled = (record { page = is_there; lsn = number }, tt);
    told = refl;
    alone = λ e. absurd (cc e);
  }

  pub is_group : IsGroup g
  is_group = subst IsGroup (sym is) one_group

  no_rights : (opens : List Record → Type 0) (seen : List Entry) → HasRights opens seen no_claims (written_group page lsn)
  no_rights opens seen = record {
    pages = refl;
    new = λ s. refl;
    owners = (tt, tt);
    speaker = tt;
    maintenance = λ e. absurd (cc e);
  }

  pub has_rights : (opens : List Record → Type 0) (seen : List Entry) (x : Claims) → x ≡ no_claims → HasRights opens seen x g
  has_rights opens seen x none = subst (λ (z : Group). HasRights opens seen x z) (sym is) (subst (λ (y : Claims). HasRights opens seen y (written_group page lsn)) (sym none) (no_rights opens seen))

  pub is_askable : (opens : List Record → Type 0) (seen : List Entry) → IsHead opens seen page lsn → (x : Claims) → x ≡ no_claims
      → (opening : List Record) (h : List Entry) → opens opening → IsMoment opens seen x h → IsAskable opening h x.a g
  is_askable opens seen last x none opening h stands moment =
      subst (λ (z : Group). IsAskable opening h x.a z) (sym is) (may_enter opens seen page lsn is_there number last opening h stands (subst (λ (y : Claims). IsMoment opens seen y h) none moment) x.a)

  pub is_timely : (opening : List Record) (seen : List Entry) → Each (WasTimely opening seen) g.recs
  is_timely opening seen = subst (λ (z : Group). Each (WasTimely opening seen) z.recs) (sym is) (was_timely opening seen page lsn)

  module _ (opens : List Record → Type 0) (ledger sessions : LedgerName) (now : Group) (a a' : Account) (s s' : PassSeen Entry) (x x' : Claims) (none : x ≡ no_claims) where
    of_group : (result : Result Entered Fault) → EntersGroup opens ledger sessions g now result (known a s x) (known a' s' x') → EntersGroup opens ledger sessions (written_group page lsn) now result (known a s no_claims) (known a' s' x')
    of_group result e =
        subst (λ (z : Group). EntersGroup opens ledger sessions z now result (known a s no_claims) (known a' s' x')) is
        (subst (λ (y : Claims). EntersGroup opens ledger sessions g now result (known a s y) (known a' s' x')) none e)

    pub entered_one : (pos : ℕ) (result : Result Entered Fault) → result ≡ Ok (At pos) → EntersGroup opens ledger sessions g now result (known a s x) (known a' s' x') → OnEntered result (IsFilledIn g now x x')
        → Enters opens ledger sessions (known a s no_claims) (entries.Rec now.lsn (written_of page lsn) ∷ []) (known a' s' no_claims)
    entered_one pos result at e f =
        enters_written opens ledger sessions page lsn pos now a a' s s' x'
        (subst (λ (r : Result Entered Fault). EntersGroup opens ledger sessions (written_group page lsn) now r (known a s no_claims) (known a' s' x')) at (of_group result e))
        (subst (λ (z : Group). IsFilledIn z now no_claims x') is (subst (λ (y : Claims). IsFilledIn g now y x') none (subst (λ (r : Result Entered Fault). OnEntered r (IsFilledIn g now x x')) at f)))

    none_declined : (f : Fault) → answered now.lsn now.recs None (Err f) ≡ []
    none_declined (faults.Full pages pending at) = refl
    none_declined faults.Memory = refl
    none_declined faults.LogFault = refl
    none_declined faults.VaultFault = refl
    none_declined (faults.Ended at) = refl
    none_declined _ = refl

    pub entered_none : (f : Fault) → EntersGroup opens ledger sessions g now (Err f) (known a s x) (known a' s' x') → Enters opens ledger sessions (known a s no_claims) [] (known a' s' no_claims)
    entered_none f e =
        let y = of_group (Err f) e in
        unclaimed opens ledger sessions a a' s s' [] no_claims x' (subst (λ (es : List Entry). Enters opens ledger sessions (known a s no_claims) es (known a' s' x')) (none_declined f) y.enters)

-- ---- what a call enters

module _ (opens : List Record → Type 0) (ledger sessions : LedgerName) (page lsn : ℕ) where
  pub written_none : (f : Fault) (a b : Known) → Gains opens ledger sessions [] a b → EntersWritten opens ledger sessions page lsn (Err f) a b
  written_none f a b g = record { at = 0; gains = g }

  pub written_false : (a b : Known) → Gains opens ledger sessions [] a b → EntersWritten opens ledger sessions page lsn (Ok false) a b
  written_false a b g = record { at = 0; gains = g }

  pub written_one : (a b : Known) (at : ℕ) → Gains opens ledger sessions (entries.Rec at (written_of page lsn) ∷ []) a b → EntersWritten opens ledger sessions page lsn (Ok true) a b
  written_one a b at g = record { at = at; gains = g }

  -- behind a call that entered nothing
  pub written_behind : (r : Result Bool Fault) (a b c : Known) → Upholds opens ledger sessions is_none a b → EntersWritten opens ledger sessions page lsn r b c → EntersWritten opens ledger sessions page lsn r a c
  written_behind r a b c u w = record { at = w.at; gains = gains_behind opens ledger sessions (written_entries page lsn r w.at) a b c u w.gains }

pub clean_hand : (opens : List Record → Type 0) (h : Hand) → IsInHand opens h → IsInHand opens (record h { dirty = false })
clean_hand opens h there = record { right = there.right; head = there.head; image = there.image; keeps = there.keeps; number = there.number; place = there.place }
