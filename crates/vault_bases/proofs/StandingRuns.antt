-- The record of a page in the object of a standing archive run.
use Rattle.std.proofs.Common.{◌≡◌, ℕ, zero, suc, ◌+◌, ◌-◌, ◌^◌, ◌<◌, ◌≤◌, Bool, true, false, cond, eqb, List, [], ◌∷◌, ◌++◌, length, drop, Option, Some, refl, sym, ap, subst, ◌∙◌, append_assoc, arith}
use Rattle.std.specs.Prelude.{◌||◌, filter, nat_le, nat_lt, slice_get, IfErr, IfOk, Result, Ok, Err}
use Rattle.std.specs.List.{All}
use Rattle.std.proofs.lemmas.Bool.Decides.{nat_tests}
use Rattle.std.proofs.lemmas.List.{length-drop, length-take}
use Rattle.std.proofs.lemmas.List.Elements.{All-drop, All-head, All-nil, All-push, All-tail, All-take}
use mathlib.Core.List.{IsPrefix}
use Rattle.store_model.proofs.Bools.{both_true}
use Rattle.store_model.specs.Along.{along}
use Rattle.store_model.specs.declared.fault.Fault.{Fault}
use Rattle.store_model.specs.declared.fault.Fault.TheVariants as faults
use Rattle.store_model.specs.declared.object.ObjectName.{ObjectName}
use Rattle.wal_record.specs.Chains.{names, names_at, record_with}
use Rattle.wal_record.specs.History.{life_log, log_of}
use Rattle.wal_record.specs.Rules.{HasSpelling, is_number, is_page}
use Rattle.wal_record.specs.Sound.{AreLawful, IsLawful}
use Rattle.wal_record.specs.State.{is_child}
use Rattle.wal_record.specs.Upkeep.{runs_step, standing_runs}
use Rattle.wal_record.specs.declared.analysis.Run.{Run}
use Rattle.wal_record.specs.declared.entry.Entry.{Entry}
use Rattle.wal_record.specs.declared.record.Record.{Record}
use Rattle.wal_record.specs.declared.record.Record.TheVariants as kinds
use Rattle.wal_record.specs.declared.record.RunDone.{RunDone}
use Rattle.wal_record.proofs.Along.{AllAlong_less, by_pushes}
use Rattle.wal_record.proofs.Pushes.{lawful_front, runs_push}
use Rattle.chain_laws.proofs.Named.{at_place, item_taken, place_kept}
use Rattle.log_archive.specs.Answers.{FailsToFind, HasNone}
use Rattle.log_archive.specs.Items.{chunks_of, from_lsn, numbered, on_page, part}
use Rattle.log_archive.specs.Run.{run_bytes, run_name}
use Rattle.log_archive.specs.declared.item.Numbered.{Numbered}
use Rattle.log_archive.proofs.Again.{le_is_true}
use Rattle.log_archive.proofs.Made.{made_is_run, on_all}
use Rattle.page_ops.specs.Causes.{IsUntold}
use Rattle.page_ops.specs.Outcomes.{IsFound, IsRunOf}
use Rattle.page_ops.specs.Seeing.{IsConsistent}
use Rattle.page_ops.specs.declared.outcome.Found.TheVariants as founds
use Rattle.page_repair.specs.Supplies.{IsHead}
use Rattle.named_objects.specs.Named.{Names}
use Rattle.named_objects.specs.declared.naming.Naming.TheVariants as namings
use Rattle.vault_bases.specs.Faults.{FailsToGive}
use Rattle.vault_bases.specs.Named.{OfNamed}
use Rattle.vault_bases.specs.Runs.{FailsToTake, GivesRecord, HasRecord}
use Rattle.vault_bases.proofs.Keeping.{longer}

-- ---- each run of a list

abbrev EachRun : (Run → Type 0) → List Run → Type 0
EachRun P [] = Unit {0}
EachRun P (x ∷ xs) = P x × EachRun P xs

each_more : (P Q : Run → Type 0) → ((x : Run) → P x → Q x) → (xs : List Run) → EachRun P xs → EachRun Q xs
each_more P Q more [] h = tt
each_more P Q more (x ∷ xs) h = (more x h.0, each_more P Q more xs h.1)

each_joined : (P : Run → Type 0) (xs ys : List Run) → EachRun P xs → EachRun P ys → EachRun P (xs ++ ys)
each_joined P [] ys h k = k
each_joined P (x ∷ xs) ys h k = (h.0, each_joined P xs ys h.1 k)

each_left : (P : Run → Type 0) (f : Run → Bool) (xs : List Run) → EachRun P xs → EachRun P (filter f xs)
each_left P f [] h = tt
each_left P f (x ∷ xs) h = by (f x) (each_left P f xs h.1)
  where
    by : (b : Bool) → EachRun P (filter f xs) → EachRun P (cond b (x ∷ filter f xs) (filter f xs))
    by true rest = (h.0, rest)
    by false rest = rest

each_among : (P : Run → Type 0) (front : List Run) (x : Run) (back : List Run) → EachRun P (front ++ x ∷ back) → P x
each_among P [] x back h = h.0
each_among P (y ∷ ys) x back h = each_among P ys x back h.1

-- ---- a run that stands was done

abbrev done_of : Run → RunDone
done_of x = record { run = x.run; first = x.first; last = x.last }

record WasDone (log : List Record) (x : Run) : Type 0 where
  before : List Record
  behind : List Record
  is : log ≡ before ++ kinds.RunDone (done_of x) ∷ behind
  lawful : IsLawful before (kinds.RunDone (done_of x))

done_more : (log : List Record) (r : Record) (x : Run) → WasDone log x → WasDone (log ++ r ∷ []) x
done_more log r x d = record {
  before = d.before;
  behind = d.behind ++ r ∷ [];
  is = ap (λ (l : List Record). l ++ r ∷ []) d.is ∙ append_assoc d.before (kinds.RunDone (done_of x) ∷ d.behind) (r ∷ []);
  lawful = d.lawful;
}

all_more : (log : List Record) (r : Record) (xs : List Run) → EachRun (WasDone log) xs → EachRun (WasDone (log ++ r ∷ [])) xs
all_more log r = each_more (WasDone log) (WasDone (log ++ r ∷ [])) (done_more log r)

-- the runs behind one record more
stepped : (log : List Record) (r : Record) (runs : List Run) → IsLawful log r → EachRun (WasDone (log ++ r ∷ [])) runs → EachRun (WasDone (log ++ r ∷ [])) (runs_step runs r)
stepped log (kinds.RunDone d) runs law h =
    let P : Run → Type 0 = WasDone (log ++ kinds.RunDone d ∷ []) in
    each_joined P (filter (λ (x : Run). nat_lt x.last d.first) runs) (record { run = d.run; first = d.first; last = d.last } ∷ filter (λ (x : Run). nat_lt d.last x.first) runs) (each_left P (λ (x : Run). nat_lt x.last d.first) runs h)
    (record { before = log; behind = []; is = refl; lawful = law }, each_left P (λ (x : Run). nat_lt d.last x.first) runs h)
stepped log _ runs law h = h

none_stand : standing_runs [] ≡ []
unfolding standing_runs along
none_stand = refl

all_done : (log : List Record) → AreLawful log → EachRun (WasDone log) (standing_runs log)
all_done = by_pushes (λ (log : List Record). AreLawful log → EachRun (WasDone log) (standing_runs log)) (λ _. subst (EachRun (WasDone [])) (sym none_stand) tt) (λ log r before sound.
    let parts = lawful_front log r sound in
    subst (EachRun (WasDone (log ++ r ∷ []))) (sym (runs_push log r)) (stepped log r (standing_runs log) parts.1 (all_more log r (standing_runs log) (before parts.0))))

-- ---- records

pub some_is : (x r : Record) → ◌≡◌ {A = Option Record} (Some x) (Some r) → x ≡ r
some_is x r e = cc

all_spelled : (log : List Record) → AreLawful log → All HasSpelling log
all_spelled = by_pushes (λ (log : List Record). AreLawful log → All HasSpelling log) (λ _. All-nil HasSpelling) (λ log r before sound. let parts = lawful_front log r sound in All-push HasSpelling log r (before parts.0) parts.1.fields)

spelled_at : (log : List Record) (n : ℕ) (r : Record) → All HasSpelling log → slice_get log n ≡ Some r → HasSpelling r
spelled_at [] n r all e = absurd cc
spelled_at (x ∷ xs) zero r all e = subst HasSpelling (some_is x r e) (All-head HasSpelling x xs all)
spelled_at (x ∷ xs) (suc n) r all e = spelled_at xs n r (All-tail HasSpelling x xs all) e

item_front : (xs ys : List Record) (n : ℕ) → n < length xs → slice_get (xs ++ ys) n ≡ slice_get xs n
item_front [] ys n less = absurd (omega (arith, less))
item_front (x ∷ xs) ys zero less = refl
item_front (x ∷ xs) ys (suc n) less = item_front xs ys n (omega (arith, less))

item_dropped : (xs : List Record) (k i n : ℕ) → n ≡ k + i → slice_get (drop k xs) i ≡ slice_get xs n
item_dropped xs zero i n is = let same : i ≡ n = omega (arith, is) in ap (slice_get xs) same
item_dropped [] (suc k) i n is = refl
item_dropped (x ∷ xs) (suc k) i zero is = absurd (omega (arith, is))
item_dropped (x ∷ xs) (suc k) i (suc n) is = item_dropped xs k i n (omega (arith, is))

-- ---- the pages that a record names

is_same : (p q : ℕ) → eqb p q ≡ true → p ≡ q
is_same p q h = grind (arith, nat_tests)

page_as : (p q : ℕ) → eqb p q ≡ true → is_page q ≡ true → is_page p ≡ true
page_as p q h page = subst (λ (n : ℕ). is_page n ≡ true) (sym (is_same p q h)) page

child_is_page : (n : ℕ) → is_child n ≡ true → is_page n ≡ true
child_is_page n is = let both = both_true (nat_le 2 n) (nat_le n 16384) is in grind (arith, nat_tests, both.0, both.1)

one_of : (p : ℕ) (a b : Bool) → (a ≡ true → is_page p ≡ true) → (b ≡ true → is_page p ≡ true) → (a || b) ≡ true → is_page p ≡ true
one_of p true b left right h = left refl
one_of p false b left right h = right h

named_page : (p : ℕ) (r : Record) → HasSpelling r → names p r ≡ true → is_page p ≡ true
named_page p (kinds.Format f) k h = page_as p 1 h refl
named_page p (kinds.Write w) k h = page_as p w.page h k.page
named_page p (kinds.Apply a) k h = page_as p a.page h k.page
named_page p (kinds.Undo u) k h = page_as p u.page h k.page
named_page p (kinds.Split s) k h = one_of p (eqb p s.page) (eqb p s.child) (λ e. page_as p s.page e k.page) (λ e. page_as p s.child e (child_is_page s.child k.child)) h
named_page p (kinds.Adopt a) k h = one_of p (eqb p a.parent) (eqb p a.fosterer) (λ e. page_as p a.parent e k.parent) (λ e. page_as p a.fosterer e k.fosterer) h
named_page p (kinds.Grow g) k h = one_of p (eqb p 1) (eqb p g.child) (λ e. page_as p 1 e refl) (λ e. page_as p g.child e (child_is_page g.child k.child)) h
named_page p (kinds.Purge g) k h = page_as p g.page h k.page
named_page p _ k h = absurd (cc h)

-- ---- the first of a page's items from an LSN on

skipped : (lsn : ℕ) (x : Numbered) (rest : List Numbered) (b : Bool) → nat_le lsn x.lsn ≡ false → from_lsn lsn (cond b (x ∷ rest) rest) ≡ from_lsn lsn rest
skipped lsn x rest true low = ap (λ (c : Bool). cond c (x ∷ from_lsn lsn rest) (from_lsn lsn rest)) low
skipped lsn x rest false low = refl

found_at : (page lsn : ℕ) (rs : List Record) (first i : ℕ) (r : Record) → lsn ≡ first + i → slice_get rs i ≡ Some r → names page r ≡ true → (behind : List Numbered) × (from_lsn lsn (on_page page (numbered first rs)) ≡ record { lsn = lsn; rec = r } ∷ behind)
found_at page lsn [] first i r is e named = absurd cc
found_at page lsn (x ∷ xs) first zero r is e named =
    let same : x ≡ r = some_is x r e in
    let here : first ≡ lsn = omega (arith, is) in
    let rest = on_page page (numbered (suc first) xs) in
    let item : Numbered = record { lsn = first; rec = x } in
    let on : on_page page (numbered first (x ∷ xs)) ≡ item ∷ rest = ap (λ (b : Bool). cond b (item ∷ rest) rest) (ap (names page) same ∙ named) in
    let from : nat_le lsn first ≡ true = le_is_true lsn first (omega (arith, here)) in
    (from_lsn lsn rest, ap (from_lsn lsn) on ∙ ap (λ (b : Bool). cond b (item ∷ from_lsn lsn rest) (from_lsn lsn rest)) from ∙ (λ i. record { lsn = here i; rec = same i } ∷ from_lsn lsn rest))
found_at page lsn (x ∷ xs) first (suc i) r is e named =
    let behind = found_at page lsn xs (suc first) i r (omega (arith, is)) e named in
    let low : nat_le lsn first ≡ false = grind (arith, nat_tests, is) in
    (behind.0, skipped lsn (record { lsn = first; rec = x }) (on_page page (numbered (suc first) xs)) (names page x) low ∙ behind.1)

-- ---- the record in the run

-- the log has the record, and names the run's object, in which it stands
pub record InRun (log : List Record) (run page lsn : ℕ) : Type 0 where
  pub rec : Record
  pub at : record_with log lsn ≡ Some rec
  pub bytes : List ℕ
  pub names_it : Names log (run_name run) bytes
  pub has : length bytes < 2 ^ 32 → HasRecord run page lsn rec bytes

some_number : (n : ℕ) → is_number n ≡ true → 1 ≤ n
some_number n number = grind (arith, nat_tests)

module _ (log : List Record) (page lsn : ℕ) (run : Run) (lawful : AreLawful log) (of : IsRunOf log lsn run) (named : names_at log lsn page ≡ true) where
  was : WasDone log run
  was = each_among (WasDone log) of.front run of.back (subst (EachRun (WasDone log)) of.stands (all_done log lawful))

  abbrev records : List Record
  records = part run.first (run.last + 1) was.before

  lawful_before : AreLawful was.before
  lawful_before = AllAlong_less IsLawful was.before (kinds.RunDone (done_of run) ∷ was.behind) (subst AreLawful was.is lawful)

  spelled : All HasSpelling records
  spelled = All-take HasSpelling (run.last + 1 - run.first) (drop (run.first - 1) was.before) (All-drop HasSpelling (run.first - 1) was.before (all_spelled was.before lawful_before))

  first_some : 1 ≤ run.first
  first_some = some_number run.first was.lawful.fields.first

  count : run.first + length records ≡ run.last + 1
  count =
      let one = first_some in
      let order = was.lawful.upkeep.covers in
      let within = was.lawful.upkeep.ends in
      let rest = length-drop (run.first - 1) was.before in
      let all = length-take (run.last + 1 - run.first) (drop (run.first - 1) was.before) in
      omega (arith, one, order, within, rest, all)

  pub in_run : InRun log run.run page lsn
  in_run =
      let a = at_place log lsn page named in
      let n : ℕ = a.0 in
      let r : Record = a.1 in
      let is : lsn ≡ suc n = a.2 in
      let there : slice_get log n ≡ Some r = a.3 in
      let on : names page r ≡ true = a.4 in
      let one = first_some in
      let within = was.lawful.upkeep.ends in
      let from = of.from in
      let upto = of.upto in
      let before : slice_get was.before n ≡ Some r =
      sym (item_front was.before (kinds.RunDone (done_of run) ∷ was.behind) n (omega (arith, is, within, upto))) ∙ ap (λ (l : List Record). slice_get l n) (sym was.is) ∙ there in
      let placed : slice_get records (lsn - run.first) ≡ Some r =
      item_taken (drop (run.first - 1) was.before) (lsn - run.first) (run.last + 1 - run.first) (omega (arith, from, upto)) ∙ item_dropped was.before (run.first - 1) (lsn - run.first) n (omega (arith, one, from, is)) ∙ before in
      let found = found_at page lsn records run.first (lsn - run.first) r (omega (arith, from)) placed on in
      let number = named_page page r (spelled_at log n r (all_spelled log lawful) there) on in
      record {
        rec = r;
        at = ap (record_with log) is ∙ there;
        bytes = run_bytes run.run run.first run.last (chunks_of (numbered run.first records));
        names_it = record { before = was.before; naming = namings.Run (done_of run); behind = was.behind; is = was.is; named = refl; tells = refl };
        has = λ short. record {
          first = run.first;
          last = run.last;
          chunks = chunks_of (numbered run.first records);
          is = made_is_run run.run run.first run.last records was.lawful.fields.first was.lawful.fields.last was.lawful.upkeep.covers count spelled short;
          behind = found.0;
          items = ap (from_lsn lsn) (on_all (λ q. on_page q (numbered run.first records)) page number) ∙ found.1;
        };
      }

-- ---- what is answered of a run that was read

-- where no items are found there is none of this LSN
pub lacks : (bad : ObjectName → ℕ → Type 0) (items : List Numbered) (x : Numbered) (behind : List Numbered) (r : Record) (f : Fault) → FailsToFind bad f → HasNone items f → items ≡ x ∷ behind → GivesRecord r (Err f)
lacks bad items x behind r faults.Memory may none is = tt
lacks bad items x behind r (faults.VaultBad object byte) may none is = let both : [] ≡ x ∷ behind = sym none ∙ is in absurd (cc both)
lacks bad items x behind r _ may none is = absurd may

pub fails_so : (bad : ObjectName → ℕ → Type 0) (f : Fault) → FailsToFind bad f → FailsToTake f
fails_so bad faults.Memory may = tt
fails_so bad (faults.VaultBad object byte) may = tt
fails_so bad _ may = absurd may

ok_of : (result : Result Record Fault) (P Q : Record → Type 0) → ((r : Record) → result ≡ Ok r → P r → Q r) → IfOk result P → IfOk result Q
ok_of (Ok x) P Q f p = f x refl p
ok_of (Err e) P Q f p = tt

err_of : (opens : List Record → Type 0) (result : Result Record Fault) (before after vault vault_now : ℕ) → ((object : ObjectName) (byte : ℕ) → result ≡ Err (faults.VaultBad object byte) → IsUntold opens) → IfErr result FailsToTake → IfErr result (FailsToGive opens before after vault vault_now)
err_of opens (Ok x) before after vault vault_now untold e = tt
err_of opens (Err f) before after vault vault_now untold e = by f untold e
  where
    by : (f : Fault) → ((object : ObjectName) (byte : ℕ) → ◌≡◌ {A = Result Record Fault} (Err f) (Err (faults.VaultBad object byte)) → IsUntold opens) → FailsToTake f → FailsToGive opens before after vault vault_now f
    by faults.Memory untold e = tt
    by (faults.VaultBad object byte) untold e = untold object byte refl
    by _ untold e = absurd e

module _ (opens : List Record → Type 0) (h now : List Entry) (page lsn : ℕ) (run : Run) (begins : IsPrefix h now) (consistent : IsConsistent opens now) (of : IsFound opens h lsn (founds.Run run)) (named : IsHead opens h page lsn)
    (name : ObjectName) (name_is : name ≡ run_name run.run) (got : List ℕ) (read : OfNamed opens h name (λ bytes. (got ≡ bytes) × (length bytes < 2 ^ 28))) (result : Result Record Fault)
    (found : (r : Record) → HasRecord run.run page lsn r got → GivesRecord r result) where
  lawful : (opening : List Record) → opens opening → AreLawful (life_log opening h)
  lawful opening stands = AllAlong_less IsLawful (life_log opening h) (log_of begins.0) (subst AreLawful (longer opening h now begins) ((consistent.sound opening stands).lawful))

  stands_there : (opening : List Record) → opens opening → InRun (life_log opening h) run.run page lsn
  stands_there opening stands = in_run (life_log opening h) page lsn run (lawful opening stands) (of opening stands) (named opening stands)

  gives : (opening : List Record) (stands : opens opening) → GivesRecord (stands_there opening stands).rec result
  gives opening stands =
      let x = stands_there opening stands in
      let e = read opening x.bytes stands (subst (λ (o : ObjectName). Names (life_log opening h) o x.bytes) (sym name_is) x.names_it) in
      let short = e.1 in
      found x.rec (subst (HasRecord run.run page lsn x.rec) (sym e.0) (x.has (omega (arith, short))))

  -- the record is the log's
  found_in_run : (r : Record) → result ≡ Ok r → HasSpelling r → IsFound opens now lsn (founds.Record r)
  found_in_run r is spelled = (
    spelled,
    λ opening stands.
        let x = stands_there opening stands in
        let same : r ≡ x.rec = subst (GivesRecord x.rec) is (gives opening stands) in
        subst (λ (l : List Record). record_with l lsn ≡ Some r) (sym (longer opening h now begins)) (place_kept (life_log opening h) (log_of begins.0) lsn r (x.at ∙ ap Some (sym same))),
  )

  -- a run that lacks it is in a life of which nothing is known
  untold_run : (object : ObjectName) (byte : ℕ) → result ≡ Err (faults.VaultBad object byte) → IsUntold opens
  untold_run object byte is opening stands = subst (GivesRecord (stands_there opening stands).rec) is (gives opening stands)

  pub run_found : IfOk result HasSpelling → IfOk result (λ r. IsFound opens now lsn (founds.Record r))
  run_found = ok_of result HasSpelling (λ r. IsFound opens now lsn (founds.Record r)) found_in_run

  pub run_fails : (before after vault vault_now : ℕ) → IfErr result FailsToTake → IfErr result (FailsToGive opens before after vault vault_now)
  run_fails before after vault vault_now = err_of opens result before after vault vault_now untold_run
