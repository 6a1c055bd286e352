-- What an archive's calls enter, one behind the other, and why they are refused.
use Rattle.std.proofs.Common.{◌≡◌, ℕ, suc, ◌+◌, ◌-◌, ◌^◌, ◌<◌, ◌≤◌, List, [], ◌∷◌, ◌++◌, length, refl, sym, ap, subst, ◌∙◌, arith, append-nil, length-append, inl, inr}
use Rattle.std.specs.Prelude.{◌⊎◌, min, Result, Ok, Err, IfErr}
use mathlib.Core.List.{IsPrefix}
use Rattle.front.specs.Seen.{PassSeen}
use Rattle.store_model.specs.declared.fault.Fault.{Fault}
use Rattle.store_model.specs.declared.fault.Fault.TheVariants as faults
use Rattle.wal_record.specs.History.{life_log, log_of}
use Rattle.wal_record.specs.Upkeep.{archived, standing_runs}
use Rattle.wal_record.specs.declared.record.Record.{Record}
use Rattle.wal_record.specs.declared.record.Record.TheVariants as kinds
use Rattle.wal_record.specs.declared.entry.Entry.{Entry}
use Rattle.wal_record.specs.declared.entry.Entry.TheVariants.{Rec}
use Rattle.log_archive.specs.Items.{numbered}
use Rattle.log_archive.specs.Run.{items_size}
use Rattle.page_ops.specs.Causes.{EndsBy, FailsToEnter, FailsToFlush, FailsToRead, IsOpen, MeetsNoEnd, NoOther}
use Rattle.page_ops.specs.Claims.{no_claims}
use Rattle.page_ops.specs.Gains.{Gains, IsSettled}
use Rattle.page_ops.specs.Groups.{Each}
use Rattle.page_ops.specs.Names.{LedgerName}
use Rattle.page_ops.specs.Seeing.{Account, Keeps, Known, Looks, known}
use Rattle.page_ops.proofs.Composing.{ends_by_then}
use Rattle.page_ops.proofs.Gaining.{gains_of, gains_then, keeps_self}
use Rattle.page_ops.proofs.Staying.{longer_log}
use Rattle.named_objects.specs.Drafts.{FailsToName, NamesOne}
use Rattle.named_objects.specs.declared.naming.Naming.TheVariants as namings
use Rattle.named_objects.proofs.Drafting.{part_later}
use Rattle.named_objects.proofs.MadeObjects.{calm_sessions}
use Rattle.archiving.specs.Archives.{AddsNone, AddsRuns, Archives, ArchivesOr, BeginsNext, BeginsToMake, FailsToArchive, FewWait, Follow, HasLongest, IsDurable, IsLongest, MakesNext, MakesRuns, run_size}
use Rattle.archiving.specs.Going.{ComesNext, HasMade, MadeAll, MadeAllOr, MayHaveMade, MayHaveNext}
use Rattle.archiving.specs.declared.waiting.Waiting.{Waiting}
use Rattle.archiving.proofs.Standing.{few_stand}
use Rattle.archiving.proofs.Suiting.{done}

-- ---- entries

follow_then : (next middle behind : ℕ) (xs ys : List Entry) → Follow next xs middle → Follow middle ys behind → Follow next (xs ++ ys) behind
follow_then next middle behind [] ys x y = subst (λ (n : ℕ). Follow n ys behind) (sym x) y
follow_then next middle behind (Rec lsn (kinds.RunDone d) ∷ xs) ys x y = (x.0, x.1, follow_then (suc d.last) middle behind xs ys x.2 y)
follow_then next middle behind (Rec lsn r ∷ xs) ys x y = absurd x
follow_then next middle behind (e ∷ xs) ys x y = absurd x

follow_rises : (next behind : ℕ) (xs : List Entry) → Follow next xs behind → next ≤ behind
follow_rises next behind [] x = omega (arith, x)
follow_rises next behind (Rec lsn (kinds.RunDone d) ∷ xs) x = let first = x.0 in let order = x.1 in let rest = follow_rises (suc d.last) behind xs x.2 in omega (arith, first, order, rest)
follow_rises next behind (Rec lsn r ∷ xs) x = absurd x
follow_rises next behind (e ∷ xs) x = absurd x

size_later : (log more : List Record) (first last : ℕ) → 1 ≤ first → first ≤ last → last ≤ length log → run_size (log ++ more) first last ≡ run_size log first last
size_later log more first last one order within = ap (λ (rs : List Record). items_size (numbered first rs)) (part_later log more first last one order within)

one_later : (log more : List Record) (first last upto : ℕ) → 1 ≤ first → first ≤ last → upto ≤ length log → IsLongest log first last upto → IsLongest (log ++ more) first last upto
one_later log more first last upto one order within x =
    let inside = x.within in
    let same = size_later log more first last one order (omega (arith, inside, within)) in
    let fits = x.fits in
    record {
      within = x.within;
      fits = omega (arith, same, fits);
      next = λ less. let then = size_later log more first (last + 1) one (omega (arith, order)) (omega (arith, less, within)) in let over = x.next less in omega (arith, then, over);
    }

all_later : (log more : List Record) (upto next behind : ℕ) (xs : List Entry) → 1 ≤ next → upto ≤ length log → Follow next xs behind → Each (HasLongest log upto) xs → Each (HasLongest (log ++ more) upto) xs
all_later log more upto next behind [] one within f x = tt
all_later log more upto next behind (Rec lsn (kinds.RunDone d) ∷ xs) one within f x =
    let first = f.0 in
    (one_later log more d.first d.last upto (omega (arith, first, one)) f.1 within x.0, all_later log more upto (suc d.last) behind xs (omega arith) within f.2 x.1)
all_later log more upto next behind (Rec lsn r ∷ xs) one within f x = absurd f
all_later log more upto next behind (e ∷ xs) one within f x = absurd f

durable_later : (before now : ℕ) → before ≤ now → (xs : List Entry) → Each (IsDurable before) xs → Each (IsDurable now) xs
durable_later before now up [] x = tt
durable_later before now up (Rec lsn (kinds.RunDone d) ∷ xs) x = let here = x.0 in (omega (arith, here, up), durable_later before now up xs x.1)
durable_later before now up (Rec lsn r ∷ xs) x = (tt, durable_later before now up xs x.1)
durable_later before now up (e ∷ xs) x = (tt, durable_later before now up xs x.1)

each_both : (P : Entry → Type 0) (xs ys : List Entry) → Each P xs → Each P ys → Each P (xs ++ ys)
each_both P [] ys a b = b
each_both P (x ∷ xs) ys a b = (a.0, each_both P xs ys a.1 b)

longer : (opening : List Record) (h now : List Entry) (begins : IsPrefix h now) → life_log opening now ≡ life_log opening h ++ log_of begins.0
longer opening h now begins = ap (life_log opening) (sym begins.1) ∙ longer_log opening h begins.0

length_later : (opening : List Record) (h now : List Entry) → IsPrefix h now → length (life_log opening h) ≤ length (life_log opening now)
length_later opening h now begins = let l = ap length (longer opening h now begins) in let n = length-append (life_log opening h) (log_of begins.0) in omega (arith, l, n)

-- ---- one call behind the other

module _ (opens : List Record → Type 0) (entries sessions : LedgerName) where
  begins_of : (own : List Entry) (a b : Known) → Gains opens entries sessions own a b → IsPrefix a.log b.log
  begins_of own a b g = (g.gained, sym g.is)

  pub none_of : (a b : Account) (p q : PassSeen Entry) → Looks opens entries sessions a p b q → AddsNone opens entries sessions (known a p no_claims) (known b q no_claims)
  none_of a b p q l = record { gains = gains_of opens entries sessions [] (known a p no_claims) (known b q no_claims) l; sessions_counted = calm_sessions opens entries sessions a b p q l }

  pub none_then : (a b c : Known) → AddsNone opens entries sessions a b → AddsNone opens entries sessions b c → AddsNone opens entries sessions a c
  none_then a b c x y = record { gains = gains_then opens entries sessions [] [] a b c x.gains y.gains; sessions_counted = y.sessions_counted ∙ x.sessions_counted }

  no_runs : (next upto : ℕ) (a b : Known) → AddsNone opens entries sessions a b → AddsRuns opens entries sessions next upto next [] a b
  no_runs next upto a b x = record { gains = x.gains; sessions_counted = x.sessions_counted; follow = refl; longest = λ opening stands. tt }

  runs_then : (next middle upto behind : ℕ) (xs ys : List Entry) (a b c : Known) → 1 ≤ next → ((opening : List Record) → opens opening → upto ≤ length (life_log opening b.log))
      → AddsRuns opens entries sessions next upto middle xs a b → AddsRuns opens entries sessions middle upto behind ys b c → AddsRuns opens entries sessions next upto behind (xs ++ ys) a c
  runs_then next middle upto behind xs ys a b c one there x y = record {
    gains = gains_then opens entries sessions xs ys a b c x.gains y.gains;
    sessions_counted = y.sessions_counted ∙ x.sessions_counted;
    follow = follow_then next middle behind xs ys x.follow y.follow;
    longest = λ opening stands.
        let begins = begins_of ys b c y.gains in
        each_both (HasLongest (life_log opening c.log) upto) xs ys
        (subst (λ (l : List Record). Each (HasLongest l upto) xs) (sym (longer opening b.log c.log begins)) (all_later (life_log opening b.log) (log_of begins.0) upto next middle xs one (there opening stands) x.follow (x.longest opening stands)))
        (y.longest opening stands);
  }

  -- ---- one run

  module _ (a b c d : Account) (p q r s : PassSeen Entry) (none : AddsNone opens entries sessions (known a p no_claims) (known b q no_claims)) (looks : Looks opens entries sessions b q c r) (w : Waiting) where
    early : AddsNone opens entries sessions (known a p no_claims) (known c r no_claims)
    early = none_then (known a p no_claims) (known b q no_claims) (known c r no_claims) none (none_of b c q r looks)

    pub refused_first : MayHaveNext opens entries sessions w (known a p no_claims) (known b q no_claims)
    refused_first = record { own = []; behind = w.first; adds = no_runs w.first w.upto (known a p no_claims) (known b q no_claims) none; one = omega arith }

    pub refused_early : MayHaveNext opens entries sessions w (known a p no_claims) (known c r no_claims)
    refused_early = record { own = []; behind = w.first; adds = no_runs w.first w.upto (known a p no_claims) (known c r no_claims) early; one = omega arith }

    module _ (last : ℕ) (one : 1 ≤ w.first) (order : w.first ≤ last) (there : (opening : List Record) → opens opening → w.upto ≤ length (life_log opening p.log))
        (longest : (opening : List Record) → opens opening → IsLongest (life_log opening p.log) w.first last w.upto) (same : d.session_entries.amount ≡ c.session_entries.amount) where
      abbrev entry : ℕ → List Entry
      entry lsn = Rec lsn (kinds.RunDone (done w.run w.first last)) ∷ []

      with_none : Gains opens entries sessions [] (known c r no_claims) (known d s no_claims) → AddsRuns opens entries sessions w.first w.upto w.first [] (known a p no_claims) (known d s no_claims)
      with_none g = no_runs w.first w.upto (known a p no_claims) (known d s no_claims) (none_then (known a p no_claims) (known c r no_claims) (known d s no_claims) early (record { gains = g; sessions_counted = same }))

      with_one : (lsn : ℕ) → Gains opens entries sessions (entry lsn) (known c r no_claims) (known d s no_claims) → AddsRuns opens entries sessions w.first w.upto (suc last) (entry lsn) (known a p no_claims) (known d s no_claims)
      with_one lsn g =
          let all = gains_then opens entries sessions [] (entry lsn) (known a p no_claims) (known c r no_claims) (known d s no_claims) early.gains g in
          let begins = begins_of (entry lsn) (known a p no_claims) (known d s no_claims) all in
          record {
            gains = all;
            sessions_counted = same ∙ early.sessions_counted;
            follow = (refl, order, refl);
            longest = λ opening stands. (
              subst (λ (l : List Record). IsLongest l w.first last w.upto) (sym (longer opening p.log s.log begins)) (one_later (life_log opening p.log) (log_of begins.0) w.first last w.upto one order (there opening stands) (longest opening stands)),
              tt,
            );
          }

      pub refused_late : (f : Fault) → NamesOne opens entries sessions (namings.Run (done w.run w.first last)) (Err f) (known c r no_claims) (known d s no_claims) → MayHaveNext opens entries sessions w (known a p no_claims) (known d s no_claims)
      refused_late faults.LogFault g = record { own = entry g.0; behind = suc last; adds = with_one g.0 g.1; one = omega arith }
      refused_late (faults.Ended at) g = elim g [
        | inl n ↦ record { own = []; behind = w.first; adds = with_none n; one = omega arith }
        | inr some ↦ record { own = entry some.0; behind = suc last; adds = with_one some.0 some.1; one = omega arith }
      ]
      refused_late _ g = record { own = []; behind = w.first; adds = with_none g; one = omega arith }

      pub one_made : (v : Waiting) (lsn : ℕ) → v.first ≡ last + 1 → v.upto ≡ w.upto → v.stood ≡ w.stood + 1 → NamesOne opens entries sessions (namings.Run (done w.run w.first last)) (Ok lsn) (known c r no_claims) (known d s no_claims)
          → ((opening : List Record) → opens opening → lsn ≤ s.durable) → HasMade opens entries sessions w v (known a p no_claims) (known d s no_claims)
      one_made v lsn first upto stood g durable = record {
        own = entry lsn;
        adds = subst (λ (n : ℕ). AddsRuns opens entries sessions w.first w.upto n (entry lsn) (known a p no_claims) (known d s no_claims)) (omega (arith, first)) (with_one lsn g);
        named = λ opening stands. (durable opening stands, tt);
        upto = upto;
        stood = omega (arith, stood);
      }

  -- ---- one run behind others

  pub none_made : (a : Account) (p : PassSeen Entry) (w : Waiting) → IsSettled opens entries sessions a p.log → HasMade opens entries sessions w w (known a p no_claims) (known a p no_claims)
  none_made a p w settled = record {
    own = [];
    adds = no_runs w.first w.upto (known a p no_claims) (known a p no_claims) (record {
      gains = record { gained = []; is = sym (append-nil p.log); among = tt; consistent = settled.consistent; durable = omega arith; keeps = keeps_self a; counted = omega arith; totals = settled.totals };
      sessions_counted = refl;
    });
    named = λ opening stands. tt;
    upto = refl;
    stood = omega arith;
  }

  pub begins_made : (w v : Waiting) (a b : Known) → HasMade opens entries sessions w v a b → IsPrefix a.log b.log
  begins_made w v a b x = begins_of x.own a b x.adds.gains

  pub still_there : (w v : Waiting) (a b : Known) → HasMade opens entries sessions w v a b → ((opening : List Record) → opens opening → w.upto ≤ length (life_log opening a.log)) → (opening : List Record) → opens opening → v.upto ≤ length (life_log opening b.log)
  still_there w v a b x there opening stands = let t = there opening stands in let l = length_later opening a.log b.log (begins_made w v a b x) in let u = x.upto in omega (arith, t, l, u)

  pub from_one : (w v : Waiting) (a b : Known) → HasMade opens entries sessions w v a b → 1 ≤ w.first → 1 ≤ v.first
  from_one w v a b x one = let up = follow_rises w.first v.first x.own x.adds.follow in omega (arith, up, one)

  pub made_then : (w v u : Waiting) (a b c : Known) → 1 ≤ w.first → ((opening : List Record) → opens opening → w.upto ≤ length (life_log opening a.log)) → HasMade opens entries sessions w v a b → HasMade opens entries sessions v u b c → HasMade opens entries sessions w u a c
  made_then w v u a b c one there x y = record {
    own = x.own ++ y.own;
    adds = runs_then w.first v.first w.upto u.first x.own y.own a b c one (there_then w v a b x there) x.adds (subst (λ (n : ℕ). AddsRuns opens entries sessions v.first n u.first y.own b c) x.upto y.adds);
    named = λ opening stands. each_both (IsDurable c.durable) x.own y.own (durable_later b.durable c.durable y.adds.gains.durable x.own (x.named opening stands)) (y.named opening stands);
    upto = y.upto ∙ x.upto;
    stood = let m = x.stood in let n = y.stood in let l = length-append x.own y.own in omega (arith, m, n, l);
  }
    where
      there_then : (w v : Waiting) (a b : Known) → HasMade opens entries sessions w v a b → ((opening : List Record) → opens opening → w.upto ≤ length (life_log opening a.log)) → (opening : List Record) → opens opening → w.upto ≤ length (life_log opening b.log)
      there_then w v a b x there opening stands = let t = there opening stands in let l = length_later opening a.log b.log (begins_made w v a b x) in omega (arith, t, l)

  pub refused_then : (w v : Waiting) (a b c : Known) → 1 ≤ w.first → ((opening : List Record) → opens opening → w.upto ≤ length (life_log opening a.log)) → v.stood < 1024 → HasMade opens entries sessions w v a b → MayHaveNext opens entries sessions v b c → MayHaveMade opens entries sessions w a c
  refused_then w v a b c one there room x y = record {
    own = x.own ++ y.own;
    behind = y.behind;
    adds = runs_then w.first v.first w.upto y.behind x.own y.own a b c one there_then x.adds (subst (λ (n : ℕ). AddsRuns opens entries sessions v.first n y.behind y.own b c) x.upto y.adds);
    few = λ low. let f = y.one in let m = x.stood in let l = length-append x.own y.own in omega (arith, f, m, l, room);
  }
    where
      there_then : (opening : List Record) → opens opening → w.upto ≤ length (life_log opening b.log)
      there_then opening stands = let t = there opening stands in let l = length_later opening a.log b.log (begins_made w v a b x) in omega (arith, t, l)

  -- ---- from its beginning

  runs_before : (next upto behind : ℕ) (own : List Entry) (a b c : Known) → AddsNone opens entries sessions a b → AddsRuns opens entries sessions next upto behind own b c → AddsRuns opens entries sessions next upto behind own a c
  runs_before next upto behind own a b c x y = record {
    gains = gains_then opens entries sessions [] own a b c x.gains y.gains;
    sessions_counted = y.sessions_counted ∙ x.sessions_counted;
    follow = y.follow;
    longest = y.longest;
  }

  -- of what waits at a look
  module _ (a d : Account) (p s : PassSeen Entry) (none : AddsNone opens entries sessions (known a p no_claims) (known d s no_claims)) (w : Waiting) (e : Known) (upto : w.upto ≡ s.durable) (next : (opening : List Record) → opens opening → ComesNext (life_log opening s.log) w) where
    makes : (behind : ℕ) (own : List Entry) → AddsRuns opens entries sessions w.first w.upto behind own (known d s no_claims) e → (w.stood ≤ 1024 → w.stood + length own ≤ 1024) → MakesRuns opens entries sessions w.stood w.first w.upto behind own (known a p no_claims) e
    makes behind own x few = record {
      adds = runs_before w.first w.upto behind own (known a p no_claims) (known d s no_claims) e none x;
      moment = s.log;
      since = begins_of [] (known a p no_claims) (known d s no_claims) none.gains;
      goes_on = begins_of own (known d s no_claims) e x.gains;
      stands = λ opening stands. record { count = (next opening stands).stood; first = (next opening stands).first };
      durable = let l = x.gains.durable in omega (arith, l, upto);
      few = λ opening stands.
          let n = (next opening stands).stood in
          let most = few_stand (life_log opening s.log) ((none.gains.consistent.sound opening stands).lawful) in
          few (omega (arith, n, most));
    }

    -- one run
    module _ (room : w.stood < 1024) where
      pub begins_next : MayHaveNext opens entries sessions w (known d s no_claims) e → BeginsNext opens entries sessions (known a p no_claims) e
      begins_next x = record { stood = w.stood; next = w.first; upto = w.upto; behind = x.behind; own = x.own; makes = makes x.behind x.own x.adds (λ low. let o = x.one in omega (arith, o, room)); one = x.one }

      pub makes_next : (v : Waiting) → v.stood ≡ w.stood + 1 → w.first + 1000 ≤ suc w.upto → HasMade opens entries sessions w v (known d s no_claims) e → MakesNext opens entries sessions (known a p no_claims) e
      makes_next v more many x =
          let n = x.stood in
          let l = none.gains.durable in
          record {
            stood = w.stood;
            next = w.first;
            upto = w.upto;
            behind = v.first;
            own = x.own;
            makes = makes v.first x.own x.adds (λ low. omega (arith, n, more, room));
            one = omega (arith, n, more);
            many = many;
            later = omega (arith, l, upto);
            named = x.named;
          }

    -- all
    module _ (whole : (opening : List Record) → opens opening → length (life_log opening p.log) ≤ w.upto) where
      begun : MayHaveMade opens entries sessions w (known d s no_claims) e → BeginsToMake opens entries sessions (known a p no_claims) e
      begun x = record { stood = w.stood; next = w.first; upto = w.upto; behind = x.behind; own = x.own; makes = makes x.behind x.own x.adds x.few; whole = whole }

      archived_all : (count : ℕ) → MadeAll opens entries sessions count w (known d s no_claims) e → Archives opens entries sessions count (known a p no_claims) e
      archived_all count x =
          let made = x.made in
          let n = made.stood in
          let m = x.counted in
          record {
            stood = w.stood;
            next = w.first;
            upto = w.upto;
            behind = x.now.first;
            own = made.own;
            makes = makes x.now.first made.own made.adds (λ low. let f = x.few low in omega (arith, f, n));
            whole = whole;
            counted = omega (arith, n, m);
            named = made.named;
            done = elim x.done [
              | inl less ↦ inl (let u = made.upto in omega (arith, less, u))
              | inr many ↦ inr (omega (arith, many, m))
            ];
          }

      pub archives_or : (result : Result ℕ Fault) → MadeAllOr opens entries sessions result w (known d s no_claims) e → ArchivesOr opens entries sessions result (known a p no_claims) e
      archives_or (Ok count) x = archived_all count x
      archives_or (Err f) x = inr (begun x)

  module _ (a b c : Account) (p q r : PassSeen Entry) (first : Looks opens entries sessions a p b q) (second : Looks opens entries sessions b q c r) where
    pub looked : AddsNone opens entries sessions (known a p no_claims) (known c r no_claims)
    looked = none_then (known a p no_claims) (known b q no_claims) (known c r no_claims) (none_of a b p q first) (none_of b c q r second)

    module _ (d : Account) (s : PassSeen Entry) (third : Looks opens entries sessions c r d s) where
      pub looked_on : AddsNone opens entries sessions (known a p no_claims) (known d s no_claims)
      looked_on = none_then (known a p no_claims) (known c r no_claims) (known d s no_claims) looked (none_of c d r s third)

      -- all that stood before a flush is durable then
      pub all_there : (upto : ℕ) → ((opening : List Record) → opens opening → min (2 ^ 64 - 1) (length (life_log opening q.log)) ≤ q.durable) → upto ≡ s.durable → upto < 2 ^ 63 → (opening : List Record) → opens opening → length (life_log opening p.log) ≤ upto
      all_there upto flush is small opening stands =
          let f = flush opening stands in
          let l = length_later opening p.log q.log first.now.begins in
          let m = second.durable in
          let n = third.durable in
          omega (arith, f, l, m, n, is, small)

-- the look tells how much waits
pub few_wait : (durable runs last : ℕ) (log : List Record) → runs ≡ length (standing_runs log) → last ≡ archived (standing_runs log) → (durable < last + 1000) ⊎ (1024 ≤ runs) → FewWait durable log
few_wait durable runs last log count end few = elim few [
  | inl low ↦ inl (omega (arith, low, end))
  | inr many ↦ inr (omega (arith, many, count))
]

-- ---- why it is refused

module _ (opens : List Record → Type 0) (log_faults made : LedgerName) where
  pub of_read : (v w : ℕ) (a b : Account) (h : List Entry) (f : Fault) → FailsToRead opens f → EndsBy opens log_faults made a b h f → FailsToArchive opens log_faults made v w a b h f
  of_read v w a b h faults.Memory may why = (may, why)
  of_read v w a b h faults.LogFault may why = (may, why)
  of_read v w a b h (faults.Ended at) may why = (may, why)
  of_read v w a b h (faults.LogBad block byte) may why = (may, why)
  of_read v w a b h _ may why = absurd may

  pub of_entry : (v w : ℕ) (a b : Account) (h : List Entry) (f : Fault) → FailsToEnter NoOther f → EndsBy opens log_faults made a b h f → FailsToArchive opens log_faults made v w a b h f
  of_entry v w a b h faults.Memory may why = (tt, why)
  of_entry v w a b h (faults.Ended at) may why = (tt, why)
  of_entry v w a b h _ may why = absurd may

  pub of_flush : (v w : ℕ) (a b : Account) (h : List Entry) (f : Fault) → FailsToFlush f → EndsBy opens log_faults made a b h f → FailsToArchive opens log_faults made v w a b h f
  of_flush v w a b h faults.LogFault may why = (tt, why)
  of_flush v w a b h (faults.Ended at) may why = (tt, why)
  of_flush v w a b h _ may why = absurd may

  pub of_name : (v w : ℕ) (a b : Account) (h : List Entry) (f : Fault) → FailsToName opens log_faults made v w a b h f → FailsToArchive opens log_faults made v w a b h f
  of_name v w a b h faults.VaultFault why = why
  of_name v w a b h faults.Memory why = (tt, why)
  of_name v w a b h faults.LogFault why = (tt, why)
  of_name v w a b h (faults.Ended at) why = (tt, why)
  of_name v w a b h _ why = absurd why

  -- of a call behind others
  pub fails_then : (v v' w : ℕ) (first old new : Account) (h : List Entry) (f : Fault) → MeetsNoEnd first old → Keeps first old → v ≤ v' → FailsToArchive opens log_faults made v' w old new h f → FailsToArchive opens log_faults made v w first new h f
  fails_then v v' w first old new h faults.VaultFault none keeps up why = let x = why.0 in let r = why.1 in (record { ended = x.ended ∙ none.ended; amount = x.amount ∙ none.amount }, omega (arith, r, up))
  fails_then v v' w first old new h faults.Memory none keeps up why = (tt, ends_by_then opens log_faults made first old new h none keeps faults.Memory why.1)
  fails_then v v' w first old new h faults.LogFault none keeps up why = (tt, ends_by_then opens log_faults made first old new h none keeps faults.LogFault why.1)
  fails_then v v' w first old new h (faults.Ended at) none keeps up why = (tt, ends_by_then opens log_faults made first old new h none keeps (faults.Ended at) why.1)
  fails_then v v' w first old new h (faults.LogBad block byte) none keeps up why = (why.0, ends_by_then opens log_faults made first old new h none keeps (faults.LogBad block byte) why.1)
  fails_then v v' w first old new h _ none keeps up why = absurd why.0

  pub fails_or : (v v' w : ℕ) (first old new : Account) (h : List Entry) (result : Result ℕ Fault) → MeetsNoEnd first old → Keeps first old → v ≤ v' → IfErr result (FailsToArchive opens log_faults made v' w old new h) → IfErr result (FailsToArchive opens log_faults made v w first new h)
  fails_or v v' w first old new h (Ok n) none keeps up why = tt
  fails_or v v' w first old new h (Err f) none keeps up why = fails_then v v' w first old new h f none keeps up why

pub met_none : (a : Account) → MeetsNoEnd a a
met_none a = record { ended = refl; amount = refl }

pub met_then : (a b c : Account) → MeetsNoEnd a b → MeetsNoEnd b c → MeetsNoEnd a c
met_then a b c x y = record { ended = y.ended ∙ x.ended; amount = y.amount ∙ x.amount }

pub met_open : (a b : Account) → IsOpen a × IsOpen b → MeetsNoEnd a b
met_open a b e = record { ended = e.1.0 ∙ sym e.0.0; amount = e.1.1 ∙ sym e.0.1 }
