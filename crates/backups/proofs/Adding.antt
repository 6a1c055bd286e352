-- What a backup's calls enter, one behind the other, and why they are refused.
use Rattle.std.proofs.Common.{◌≡◌, ◌⊎◌, ℕ, ◌+◌, ◌-◌, ◌*◌, ◌<◌, ◌≤◌, cond, eqb, append_assoc, Bool, true, false, List, [], ◌∷◌, ◌++◌, length, map, Option, Some, None, refl, sym, ap, subst, ◌∙◌, arith, append-nil, inl, inr}
use Rattle.std.specs.Prelude.{is_some, min, ◌&&◌, ◌||◌, Result, Ok, Err, IfErr, IfOk}
use Rattle.std.proofs.lemmas.Bool.Decides.{nat_tests}
use mathlib.Core.List.{IsPrefix}
use Rattle.front.specs.Seen.{PassSeen}
use Rattle.front.proofs.Keeping.{prefix_trans}
use Rattle.store_model.specs.declared.fault.Fault.{Fault}
use Rattle.store_model.specs.declared.fault.Fault.TheVariants as faults
use Rattle.wal_record.specs.Chains.{head, names, pages}
use Rattle.wal_record.specs.History.{life_log, log_of}
use Rattle.wal_record.specs.Images.{image}
use Rattle.wal_record.specs.Sound.{AreLawful}
use Rattle.wal_record.specs.Upkeep.{last_backup}
use Rattle.wal_record.specs.declared.page.PageState.{PageState}
use Rattle.wal_record.specs.declared.record.BackupDone.{BackupDone}
use Rattle.wal_record.specs.declared.record.PageLsn.{PageLsn}
use Rattle.wal_record.specs.declared.record.Record.{Record}
use Rattle.wal_record.specs.declared.record.Record.TheVariants as kinds
use Rattle.wal_record.specs.declared.entry.Entry.{Entry}
use Rattle.wal_record.specs.declared.entry.Entry.TheVariants.{Rec}
use Rattle.wal_record.proofs.Along.{by_pushes}
use Rattle.wal_record.proofs.Pushes.{head_push, last_backup_push}
use Rattle.chain_laws.proofs.Previous.{unimaged}
use Rattle.claim_laws.proofs.Upkeep.{books_law}
use Rattle.listing_laws.proofs.Named.{all_named, image_named, named, named_in, named_push}
use Rattle.backup_set.specs.Backup.{IsAmong}
use Rattle.backup_set.specs.declared.copy.PageCopy.{PageCopy}
use Rattle.foster_tree.specs.Nows.{KeepsDesk}
use Rattle.foster_tree.proofs.Made.{made_since}
use Rattle.page_ops.specs.Causes.{EndsBy, FailsToBring, FailsToEnter, MeetsNoEnd, NoOther}
use Rattle.page_ops.specs.Claims.{no_claims}
use Rattle.page_ops.specs.Desks.{Desk, Faults, KeepsFaults}
use Rattle.page_ops.specs.Gains.{Gains, Goes, IsSettled}
use Rattle.page_ops.specs.Groups.{Each}
use Rattle.page_ops.specs.Names.{LedgerName}
use Rattle.page_ops.specs.Seeing.{Account, IsConsistent, Keeps, Known, Looks, Upholds, is_upkeep, known}
use Rattle.page_ops.proofs.Composing.{bring_then}
use Rattle.page_ops.proofs.Gaining.{gains_of, gains_of_upheld, gains_then, keeps_self, upheld, upheld_by, upheld_then}
use Rattle.page_ops.proofs.Staying.{longer_log}
use Rattle.named_objects.proofs.MadeObjects.{calm_sessions}
use Rattle.named_objects.specs.Drafts.{FailsToName, NamesOne}
use Rattle.named_objects.specs.declared.naming.Naming.TheVariants as namings
use Rattle.backups.specs.Backups.{AddsTo, BacksUp, BeginsToBackUp, HasPage, IsAbove, IsDurable, IsTold, SomeOf, is_of_backup}
use Rattle.backups.specs.Copies.{AreDrawn, AreMade, Drawn, WasCurrent, told_of}
use Rattle.backups.specs.Going.{HasBackedUp, HasBackedUpOr}
use Rattle.backups.proofs.Lists.{all_both, all_more, each_both, each_more, each_of_all, low_or_high, some_left, some_more, some_right}

-- ---- entries of a backup

of_upkeep : (backup : ℕ) (e : Entry) → is_upkeep e ≡ true → is_of_backup backup e ≡ true
of_upkeep backup (Rec lsn (kinds.BackupDone b)) h = absurd (cc h)
of_upkeep backup (Rec lsn r) h = h
of_upkeep backup e h = h

upkeep_durable : (durable : ℕ) (e : Entry) → is_upkeep e ≡ true → IsDurable durable e
upkeep_durable durable (Rec lsn (kinds.BackupDone b)) h = absurd (cc h)
upkeep_durable durable (Rec lsn r) h = tt
upkeep_durable durable e h = tt

durable_later : (before now : ℕ) → before ≤ now → (e : Entry) → IsDurable before e → IsDurable now e
durable_later before now up (Rec lsn (kinds.BackupDone b)) h = omega (arith, up, h)
durable_later before now up (Rec lsn r) h = tt
durable_later before now up e h = tt

of_above : (backup last : ℕ) → last < backup → (e : Entry) → is_of_backup backup e ≡ true → IsAbove last e
of_above backup last lt (Rec lsn (kinds.BackupDone b)) h = let same : b.backup ≡ backup = grind (arith, nat_tests) in omega (arith, lt, same)
of_above backup last lt (Rec lsn r) h = tt
of_above backup last lt e h = tt

told_less : (page least less : ℕ) → less ≤ least → (xs : List PageLsn) → IsTold page least xs → IsTold page less xs
told_less page least less low [] t = absurd t
told_less page least less low (x ∷ xs) (inl is) = inl (is.0, let at = is.1 in omega (arith, at, low))
told_less page least less low (x ∷ xs) (inr more) = inr (told_less page least less low xs more)

page_less : (backup page least less : ℕ) → less ≤ least → (e : Entry) → HasPage backup page least e → HasPage backup page less e
page_less backup page least less low (Rec lsn (kinds.BackupDone b)) h = (h.0, told_less page least less low b.pages h.1)
page_less backup page least less low (Rec lsn r) h = absurd h
page_less backup page least less low e h = absurd h

-- ---- heads

heads_rise : (opening : List Record) (h now : List Entry) (page : ℕ) → IsPrefix h now → head (life_log opening h) page ≤ head (life_log opening now) page
heads_rise opening h now page begins =
    let rises = (books_law opening h begins.0).page page in
    let e = ap (λ (l : List Entry). head (life_log opening l) page) begins.1 in
    omega (arith, rises, e)

pub begins_of : (opens : List Record → Type 0) (entries sessions : LedgerName) (backup : ℕ) (own : List Entry) (a b : Known) → AddsTo opens entries sessions backup own a b → IsPrefix a.log b.log
begins_of opens entries sessions backup own a b x = (x.gains.gained, sym x.gains.is)

-- ---- one call behind the other

module _ (opens : List Record → Type 0) (entries sessions : LedgerName) (backup : ℕ) where
  pub adds_then : (xs ys : List Entry) (a b c : Known) → AddsTo opens entries sessions backup xs a b → AddsTo opens entries sessions backup ys b c → AddsTo opens entries sessions backup (xs ++ ys) a c
  adds_then xs ys a b c x y = record {
    gains = gains_then opens entries sessions xs ys a b c x.gains y.gains;
    kinds = all_both (is_of_backup backup) xs ys x.kinds y.kinds;
    sessions_counted = y.sessions_counted ∙ x.sessions_counted;
  }

  pub adds_upkeep : (a b : Known) (u : Upholds opens entries sessions is_upkeep a b) → AddsTo opens entries sessions backup u.own a b
  adds_upkeep a b u = record {
    gains = gains_of_upheld is_upkeep opens entries sessions a b u;
    kinds = all_more is_upkeep (is_of_backup backup) (of_upkeep backup) u.own u.kinds;
    sessions_counted = u.sessions_counted;
  }

  pub adds_one : (lsn : ℕ) (b : BackupDone) (x y : Known) → b.backup ≡ backup → Gains opens entries sessions (Rec lsn (kinds.BackupDone b) ∷ []) x y → y.account.session_entries.amount ≡ x.account.session_entries.amount
      → AddsTo opens entries sessions backup (Rec lsn (kinds.BackupDone b) ∷ []) x y
  adds_one lsn b x y is g same = record { gains = g; kinds = one (eqb b.backup backup) (grind (arith, nat_tests)); sessions_counted = same }
    where
      one : (t : Bool) → t ≡ true → (t && true) ≡ true
      one true e = refl
      one false e = e

  pub adds_none : (x y : Known) → Gains opens entries sessions [] x y → y.account.session_entries.amount ≡ x.account.session_entries.amount → AddsTo opens entries sessions backup [] x y
  adds_none x y g same = record { gains = g; kinds = refl; sessions_counted = same }

  -- ---- one segment behind others

  pub backed_then : (first : List Entry) (from middle upto : ℕ) (a b c : Known) → IsPrefix first b.log → HasBackedUp opens entries sessions first backup from middle a b → HasBackedUp opens entries sessions b.log backup middle upto b c → HasBackedUp opens entries sessions first backup from upto a c
  backed_then first from middle upto a b c begins x y = record {
    own = x.own ++ y.own;
    adds = adds_then x.own y.own a b c x.adds y.adds;
    pages = λ opening page stands above below. by opening page stands above below (low_or_high page middle);
    durable = λ opening stands.
        each_both (IsDurable c.durable) x.own y.own
        (each_more (IsDurable b.durable) (IsDurable c.durable) (durable_later b.durable c.durable y.adds.gains.durable) x.own (x.durable opening stands)) (y.durable opening stands);
  }
    where
      by : (opening : List Record) (page : ℕ) → opens opening → from < page → page ≤ upto → (page ≤ middle) ⊎ (middle < page) → SomeOf (HasPage backup page (head (life_log opening first) page)) (x.own ++ y.own)
      by opening page stands above below (inl low) = some_left (HasPage backup page (head (life_log opening first) page)) x.own y.own (x.pages opening page stands above low)
      by opening page stands above below (inr high) =
          some_right (HasPage backup page (head (life_log opening first) page)) x.own y.own
          (some_more (HasPage backup page (head (life_log opening b.log) page)) (HasPage backup page (head (life_log opening first) page)) (page_less backup page (head (life_log opening b.log) page) (head (life_log opening first) page) (heads_rise opening first b.log page begins)) y.own
          (y.pages opening page stands high below))

-- ---- one segment

told_among : (opens : List Record → Type 0) (first second : List Entry) (opening : List Record) → opens opening → (page : ℕ) (cs : List PageCopy) → Each (WasCurrent opens first second) cs → (c : PageCopy) → IsAmong c cs → c.page ≡ page → IsTold page (head (life_log opening first) page) (map told_of cs)
told_among opens first second opening stands page [] all c among is = absurd among
told_among opens first second opening stands page (d ∷ ds) all c (inr more) is = inr (told_among opens first second opening stands page ds all.1 c more is)
told_among opens first second opening stands page (d ∷ ds) all c (inl same) is =
    let p : d.page ≡ page = sym (ap (λ (x : PageCopy). x.page) same) ∙ is in
    let w = all.0 in
    let rises = heads_rise opening first w.moment d.page w.begins in
    let at = w.current.lsn opening stands in
    let e = ap (λ (n : ℕ). head (life_log opening first) n) p in
    inl (p, omega (arith, rises, at, e))

module _ (opens : List Record → Type 0) (entries sessions : LedgerName) (backup segment most : ℕ) (a b c d : Account) (p q r s : PassSeen Entry) (goes : Goes is_upkeep (known a p no_claims) (known b q no_claims)) (looks : Looks opens entries sessions b q c r) where
  -- the upkeep of its pages, and then a look
  abbrev upkeep : Upholds opens entries sessions is_upkeep (known a p no_claims) (known c r no_claims)
  upkeep = upheld_then is_upkeep opens entries sessions (known a p no_claims) (known b q no_claims) (known c r no_claims) goes (upheld opens entries sessions is_upkeep b c q r looks)

  pub refused_early : (own : List Entry) × AddsTo opens entries sessions backup own (known a p no_claims) (known c r no_claims)
  refused_early = (upkeep.own, adds_upkeep opens entries sessions backup (known a p no_claims) (known c r no_claims) upkeep)

  -- its record
  module _ (x : Drawn) (drawn : AreDrawn opens p.log q.log segment (min 16 (most - 16 * segment)) x) (same : d.session_entries.amount ≡ c.session_entries.amount) where
    abbrev done : BackupDone
    done = record { backup = backup; segment = segment; pages = x.told }

    with_one : (lsn : ℕ) → Gains opens entries sessions (Rec lsn (kinds.BackupDone done) ∷ []) (known c r no_claims) (known d s no_claims) → AddsTo opens entries sessions backup (upkeep.own ++ Rec lsn (kinds.BackupDone done) ∷ []) (known a p no_claims) (known d s no_claims)
    with_one lsn g = adds_then opens entries sessions backup upkeep.own (Rec lsn (kinds.BackupDone done) ∷ []) (known a p no_claims) (known c r no_claims) (known d s no_claims) (adds_upkeep opens entries sessions backup (known a p no_claims) (known c r no_claims) upkeep)
        (adds_one opens entries sessions backup lsn done (known c r no_claims) (known d s no_claims) refl g same)

    with_none : Gains opens entries sessions [] (known c r no_claims) (known d s no_claims) → AddsTo opens entries sessions backup (upkeep.own ++ []) (known a p no_claims) (known d s no_claims)
    with_none g = adds_then opens entries sessions backup upkeep.own [] (known a p no_claims) (known c r no_claims) (known d s no_claims) (adds_upkeep opens entries sessions backup (known a p no_claims) (known c r no_claims) upkeep) (adds_none opens entries sessions backup (known c r no_claims) (known d s no_claims) g same)

    pub refused_late : (f : Fault) → NamesOne opens entries sessions (namings.Backup done) (Err f) (known c r no_claims) (known d s no_claims) → (own : List Entry) × AddsTo opens entries sessions backup own (known a p no_claims) (known d s no_claims)
    refused_late faults.LogFault g = (upkeep.own ++ Rec g.0 (kinds.BackupDone done) ∷ [], with_one g.0 g.1)
    refused_late (faults.Ended at) g = elim g [
      | inl none ↦ (upkeep.own ++ [], with_none none)
      | inr some ↦ (upkeep.own ++ Rec some.0 (kinds.BackupDone done) ∷ [], with_one some.0 some.1)
    ]
    refused_late _ g = (upkeep.own ++ [], with_none g)

    pub segment_done : (lsn : ℕ) → NamesOne opens entries sessions (namings.Backup done) (Ok lsn) (known c r no_claims) (known d s no_claims) → ((opening : List Record) → opens opening → lsn ≤ s.durable)
        → HasBackedUp opens entries sessions p.log backup (16 * segment) (min most (16 * segment + 16)) (known a p no_claims) (known d s no_claims)
    segment_done lsn g durable = record {
      own = upkeep.own ++ Rec lsn (kinds.BackupDone done) ∷ [];
      adds = with_one lsn g;
      pages = λ opening page stands above upto.
          let one = drawn.each page above (omega (arith, above, upto)) in
          let told = told_among opens p.log q.log opening stands page drawn.copies drawn.current one.0 one.1 one.2 in
          some_right (HasPage backup page (head (life_log opening p.log) page)) upkeep.own (Rec lsn (kinds.BackupDone done) ∷ [])
          (inl (refl, subst (λ (ts : List PageLsn). IsTold page (head (life_log opening p.log) page) ts) (sym (ap (λ (z : Drawn). z.told) drawn.drawn)) told));
      durable = λ opening stands. each_both (IsDurable s.durable) upkeep.own (Rec lsn (kinds.BackupDone done) ∷ []) (each_of_all is_upkeep (IsDurable s.durable) (upkeep_durable s.durable) upkeep.own upkeep.kinds) (durable opening stands, tt);
    }

    -- whatever becomes of it
    pub segment_or : (result : Result ℕ Fault) → NamesOne opens entries sessions (namings.Backup done) result (known c r no_claims) (known d s no_claims) → IfOk result (λ lsn. (opening : List Record) → opens opening → lsn ≤ s.durable)
        → HasBackedUpOr opens entries sessions backup (16 * segment) (min most (16 * segment + 16)) result (known a p no_claims) (known d s no_claims)
    segment_or (Ok lsn) g durable = segment_done lsn g durable
    segment_or (Err f) g durable = refused_late f g

-- a first part of the segment's upkeep alone
pub refused_first : (opens : List Record → Type 0) (entries sessions : LedgerName) (backup : ℕ) (a b : Account) (p q : PassSeen Entry) → Goes is_upkeep (known a p no_claims) (known b q no_claims) → IsSettled opens entries sessions b q.log
    → (own : List Entry) × AddsTo opens entries sessions backup own (known a p no_claims) (known b q no_claims)
refused_first opens entries sessions backup a b p q goes settled =
    let u = upheld_by is_upkeep opens entries sessions (known a p no_claims) (known b q no_claims) goes settled in
    (u.own, adds_upkeep opens entries sessions backup (known a p no_claims) (known b q no_claims) u)

-- ---- the whole

pub none_backed : (opens : List Record → Type 0) (entries sessions : LedgerName) (backup most : ℕ) (a : Account) (p : PassSeen Entry) → IsSettled opens entries sessions a p.log → HasBackedUp opens entries sessions p.log backup 0 (min most (16 * 0)) (known a p no_claims) (known a p no_claims)
none_backed opens entries sessions backup most a p settled = record {
  own = [];
  adds = record {
    gains = record { gained = []; is = sym (append-nil p.log); among = tt; consistent = settled.consistent; durable = omega arith; keeps = keeps_self a; counted = omega arith; totals = settled.totals };
    kinds = refl;
    sessions_counted = refl;
  };
  pages = λ opening page stands above upto. absurd (omega (arith, above, upto));
  durable = λ opening stands. tt;
}

pub turn_refused : (opens : List Record → Type 0) (entries sessions : LedgerName) (first : List Entry) (backup from upto : ℕ) (a b c : Known) → HasBackedUp opens entries sessions first backup from upto a b → (own : List Entry) × AddsTo opens entries sessions backup own b c → (own : List Entry) × AddsTo opens entries sessions backup own a c
turn_refused opens entries sessions first backup from upto a b c x y = (x.own ++ y.0, adds_then opens entries sessions backup x.own y.0 a b c x.adds y.1)

pub turn_done : (opens : List Record → Type 0) (entries sessions : LedgerName) (backup segment most : ℕ) (a b c : Known) → 16 * segment < most → HasBackedUp opens entries sessions a.log backup 0 (min most (16 * segment)) a b → HasBackedUp opens entries sessions b.log backup (16 * segment) (min most (16 * segment + 16)) b c
    → HasBackedUp opens entries sessions a.log backup 0 (min most (16 * (segment + 1))) a c
turn_done opens entries sessions backup segment most a b c some x y =
    let here : min most (16 * segment) ≡ 16 * segment = omega (arith, some) in
    let next : min most (16 * segment + 16) ≡ min most (16 * (segment + 1)) = omega arith in
    subst (λ (n : ℕ). HasBackedUp opens entries sessions a.log backup 0 n a c) next
    (backed_then opens entries sessions backup a.log 0 (16 * segment) (min most (16 * segment + 16)) a b c (begins_of opens entries sessions backup x.own a b x.adds) (subst (λ (n : ℕ). HasBackedUp opens entries sessions a.log backup 0 n a b) here x) y)

pub all_done : (opens : List Record → Type 0) (entries sessions : LedgerName) (backup segment most : ℕ) (a b : Known) → most ≤ 16 * segment → HasBackedUp opens entries sessions a.log backup 0 (min most (16 * segment)) a b → HasBackedUp opens entries sessions a.log backup 0 most a b
all_done opens entries sessions backup segment most a b all x = subst (λ (n : ℕ). HasBackedUp opens entries sessions a.log backup 0 n a b) (omega (arith, all)) x

-- ---- from its beginning

last_rises : (log more : List Record) → last_backup log ≤ last_backup (log ++ more)
last_rises log = by_pushes (λ (more : List Record). last_backup log ≤ last_backup (log ++ more)) (let e = ap last_backup (append-nil log) in omega (arith, e))
    (λ more r before.
    let e = ap last_backup (sym (append_assoc log more (r ∷ []))) in
    let push = last_backup_push (log ++ more) r in
    omega (arith, before, e, push))

named_head : (page : ℕ) (log : List Record) → named log page ≡ true → head log page ≡ 0 → ⊥
named_head page = by_pushes (λ (log : List Record). named log page ≡ true → head log page ≡ 0 → ⊥) (λ t e. absurd (cc t))
    (λ log r before t e. by log (names page r) before (sym (named_push log r page) ∙ t) (sym (head_push log r page) ∙ e))
  where
    or_none : (x : Bool) → (x || false) ≡ x
    or_none true = refl
    or_none false = refl

    by : (log : List Record) (b : Bool) → (named log page ≡ true → head log page ≡ 0 → ⊥) → (named log page || b) ≡ true → cond b (length log + 1) (head log page) ≡ 0 → ⊥
    by log true before t e = omega (arith, e)
    by log false before t e = before (sym (or_none (named log page)) ∙ t) e

made_page : (log : List Record) → AreLawful log → (page : ℕ) → 1 ≤ page → page ≤ pages log → is_some (image log page) ≡ true
made_page log lawful page one upto = by (image log page) refl
  where
    by : (s : Option PageState) → image log page ≡ s → is_some (image log page) ≡ true
    by None e = absurd (named_head page log (all_named log lawful page one upto) (unimaged page log lawful e))
    by (Some s) e = ap is_some e

pub all_made : (opens : List Record → Type 0) (h : List Entry) (most : ℕ) → IsConsistent opens h → ((opening : List Record) → opens opening → most ≡ pages (life_log opening h)) → AreMade opens h most
all_made opens h most consistent count page one upto opening stands = let n = count opening stands in made_page (life_log opening h) ((consistent.sound opening stands).lawful) page one (omega (arith, upto, n))

in_range : (log : List Record) → AreLawful log → (page : ℕ) → is_some (image log page) ≡ true → (1 ≤ page) × (page ≤ pages log)
in_range log lawful page made = by (image log page) refl
  where
    by : (s : Option PageState) → image log page ≡ s → (1 ≤ page) × (page ≤ pages log)
    by None e = absurd (cc (sym (ap is_some e) ∙ made))
    by (Some s) e = named_in log lawful page (image_named page log s e)

module _ (opens : List Record → Type 0) (entries sessions : LedgerName) (a b c d : Account) (p q r s : PassSeen Entry) (first : Looks opens entries sessions a p b q) (second : Looks opens entries sessions b q c r) where
  abbrev both : Gains opens entries sessions [] (known a p no_claims) (known c r no_claims)
  both = gains_then opens entries sessions [] [] (known a p no_claims) (known b q no_claims) (known c r no_claims) (gains_of opens entries sessions [] (known a p no_claims) (known b q no_claims) first) (gains_of opens entries sessions [] (known b q no_claims) (known c r no_claims) second)

  abbrev calm : c.session_entries.amount ≡ a.session_entries.amount
  calm = calm_sessions opens entries sessions b c q r second ∙ calm_sessions opens entries sessions a b p q first

  pub nothing_begun : BeginsToBackUp opens entries sessions (known a p no_claims) (known c r no_claims)
  nothing_begun = record { backup = 0; own = []; adds = adds_none opens entries sessions 0 (known a p no_claims) (known c r no_claims) both calm; above = λ opening stands. tt }

  number_above : (backup : ℕ) → ((opening : List Record) → opens opening → backup ≡ last_backup (life_log opening r.log) + 1) → (opening : List Record) → opens opening → last_backup (life_log opening p.log) < backup
  number_above backup number opening stands =
      let rises = last_rises (life_log opening p.log) (log_of both.gained) in
      let longer : life_log opening r.log ≡ life_log opening p.log ++ log_of both.gained = ap (life_log opening) both.is ∙ longer_log opening p.log both.gained in
      let l = ap last_backup longer in
      let n = number opening stands in
      omega (arith, rises, l, n)

  module _ (third : Looks opens entries sessions c r d s) where
    abbrev before : (backup : ℕ) → AddsTo opens entries sessions backup [] (known a p no_claims) (known d s no_claims)
    before backup =
        adds_none opens entries sessions backup (known a p no_claims) (known d s no_claims)
        (gains_then opens entries sessions [] [] (known a p no_claims) (known c r no_claims) (known d s no_claims) both (gains_of opens entries sessions [] (known c r no_claims) (known d s no_claims) third)) (calm_sessions opens entries sessions c d r s third ∙ calm)

    pub begun : (backup : ℕ) (e : Known) → ((opening : List Record) → opens opening → backup ≡ last_backup (life_log opening r.log) + 1) → (own : List Entry) × AddsTo opens entries sessions backup own (known d s no_claims) e
        → BeginsToBackUp opens entries sessions (known a p no_claims) e
    begun backup e number x = record {
      backup = backup;
      own = x.0;
      adds = adds_then opens entries sessions backup [] x.0 (known a p no_claims) (known d s no_claims) e (before backup) x.1;
      above = λ opening stands.
          each_of_all (is_of_backup backup) (IsAbove (last_backup (life_log opening p.log))) (of_above backup (last_backup (life_log opening p.log)) (number_above backup number opening stands)) x.0 x.1.kinds;
    }

    pub backed_up : (backup most : ℕ) (e : Known) → ((opening : List Record) → opens opening → backup ≡ last_backup (life_log opening r.log) + 1) → ((opening : List Record) → opens opening → most ≡ pages (life_log opening s.log))
        → HasBackedUp opens entries sessions s.log backup 0 most (known d s no_claims) e → BacksUp opens entries sessions backup (known a p no_claims) e
    backed_up backup most e number count x = record {
      own = x.own;
      adds = adds_then opens entries sessions backup [] x.own (known a p no_claims) (known d s no_claims) e (before backup) x.adds;
      above = number_above backup number;
      pages = λ opening page stands made.
          let begins : IsPrefix p.log s.log = prefix_trans p.log r.log s.log (both.gained, sym both.is) third.now.begins in
          let still : is_some (image (life_log opening s.log) page) ≡ true = made_since (λ (l : List Record). l ≡ opening) p.log s.log page begins (λ other same. subst (λ (l : List Record). is_some (image (life_log l p.log) page) ≡ true) (sym same) made) opening refl in
          let range = in_range (life_log opening s.log) ((third.now.consistent.sound opening stands).lawful) page still in
          let one = range.0 in
          let most_is = count opening stands in
          let upto = range.1 in
          some_more (HasPage backup page (head (life_log opening s.log) page)) (HasPage backup page (head (life_log opening p.log) page))
          (page_less backup page (head (life_log opening s.log) page) (head (life_log opening p.log) page) (heads_rise opening p.log s.log page begins)) x.own
          (x.pages opening page stands (omega (arith, one)) (omega (arith, upto, most_is)));
      durable = x.durable;
    }

-- ---- why it is refused

module _ (opens : List Record → Type 0) (log_faults made : LedgerName) where
  pub of_entry : (own : Faults) (a b : Account) (h : List Entry) (f : Fault) → FailsToEnter NoOther f → EndsBy opens log_faults made a b h f → FailsToBring opens log_faults made own own a b h f
  of_entry own a b h faults.Memory may why = why
  of_entry own a b h (faults.Ended at) may why = why
  of_entry own a b h _ may why = absurd may

  -- as an object isn't made, where the pages count a fault of the vault
  pub of_name : (own now : Faults) (v w : ℕ) (a b : Account) (h : List Entry) (f : Fault) → (f ≡ faults.VaultFault → own.vault < now.vault) → FailsToName opens log_faults made v w a b h f → FailsToBring opens log_faults made own now a b h f
  of_name own now v w a b h faults.VaultFault counted why = (why.0, counted refl)
  of_name own now v w a b h faults.Memory counted why = why
  of_name own now v w a b h faults.LogFault counted why = (why.1, inr why.2)
  of_name own now v w a b h (faults.Ended at) counted why = why
  of_name own now v w a b h _ counted why = absurd why

  -- behind calls that met no end
  pub fails_then : (own own' now : Faults) (a b c : Account) (h : List Entry) (f : Fault) → MeetsNoEnd a b → Keeps a b → KeepsFaults own own' → FailsToBring opens log_faults made own' now b c h f → FailsToBring opens log_faults made own now a c h f
  fails_then own own' now a b c h f none keeps more why = bring_then opens log_faults made a b c h none keeps own own' now f more why

  pub refused_behind : {T : Type 0} (result : Result T Fault) (own own' now : Faults) (a b c : Account) (h : List Entry) → MeetsNoEnd a b → Keeps a b → KeepsFaults own own' → IfErr result (FailsToBring opens log_faults made own' now b c h) → IfErr result (FailsToBring opens log_faults made own now a c h)
  refused_behind (Ok x) own own' now a b c h none keeps more why = tt
  refused_behind (Err f) own own' now a b c h none keeps more why = fails_then own own' now a b c h f none keeps more why

-- the desk is the same behind the second call
pub desk_still : (d e f : Desk) → KeepsDesk d e → f ≡ e → KeepsDesk d f
desk_still d e f keeps same = subst (λ (x : Desk). KeepsDesk d x) (sym same) keeps
