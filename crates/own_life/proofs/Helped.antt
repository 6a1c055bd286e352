-- The steps of a help, one after the other: what they add.
use Rattle.std.proofs.Common.{◌≡◌, ℕ, ◌+◌, ◌<◌, ◌≤◌, Bool, true, false, cond, ltb-true, List, [], ◌∷◌, ◌++◌, length, refl, sym, ap, subst, ◌∙◌, append-nil, append_assoc, length-append, arith, inl, inr}
use Rattle.std.specs.Prelude.{◌⊎◌, filter, Result, Ok, Err}
use Rattle.std.specs.List.{All}
use Rattle.std.proofs.Math.Dec.{ltb}
use Rattle.std.proofs.lemmas.Bool.{ltb-false}
use Rattle.std.proofs.lemmas.List.Elements.{All-append, All-cons, All-head, All-nil, All-tail, filter-append}
use Rattle.store_model.specs.declared.fault.Fault.{Fault}
use Rattle.wal_record.specs.declared.record.Record.{Record}
use Rattle.wal_record.specs.declared.record.Record.TheVariants as kinds
use Rattle.wal_record.specs.declared.entry.Entry.{Entry}
use Rattle.wal_record.specs.declared.entry.Entry.TheVariants.{Rec}
use Rattle.command_laws.specs.Commands.{Among, IsUpkeep}
use Rattle.command_laws.proofs.Listed.{among_own}
use Rattle.maintenance.specs.Steps.{AreAllOver, IsLeastLeft}
use Rattle.maintenance.proofs.Steps.{least_loses}
use Rattle.rollback.specs.Owners.{IsLoserOf}
use Rattle.store_life.specs.Steps.{AddsStep, AddsUpkeep, IsStep}
use Rattle.store_life.proofs.Stepped.{over_later}
use Rattle.store_pages.specs.Backed.{AreArchived, ArchivesNext, IsRunEntry, MakesUpto}
use Rattle.own_life.specs.Helps.{AddsSteps, Helps, Undoes, UndoesSome, takes_back}
use Rattle.store_pages.specs.Pages.{IsWrittenEntry, WritesUpto}

-- ---- own entries among others, one list behind the other

among_then : (P : Entry → Type 0) (own more es fs : List Entry) → Among P own es → Among P more fs → Among P (own ++ more) (es ++ fs)
among_then P [] more es fs a b = subst (λ (l : List Entry). Among P more (l ++ fs)) (sym a) b
among_then P (o ∷ own) more es fs a b = (a.0, a.1, a.2 ++ fs, ap (λ (l : List Entry). l ++ fs) a.3 ∙ append_assoc a.0 (o ∷ a.2) fs, among_then P own more a.2 fs a.4 b)

longer : (h h' h'' es fs : List Entry) → h' ≡ h ++ es → h'' ≡ h' ++ fs → h'' ≡ h ++ (es ++ fs)
longer h h' h'' es fs a b = b ∙ ap (λ (l : List Entry). l ++ fs) a ∙ append_assoc h es fs

-- ---- losers

loses : (P Q : ℕ → Type 0) → ((t : ℕ) → P t → Q t) → (e : Entry) → IsStep P e → IsStep Q e
loses P Q f (Rec lsn (kinds.Undo u)) is = f u.tx is
loses P Q f (Rec lsn (kinds.End x)) is = f x.tx is
loses P Q f _ is = absurd is

pub undoes_none : (loser : ℕ → Type 0) (h : List Entry) → Undoes loser 0 h h
undoes_none loser h = record { own = []; each = All-nil (IsStep loser); count = refl; entries = []; among = refl; added = sym (append-nil h) }

pub undoes_more : (opens : List Record → Type 0) (n : ℕ) (h h' h'' : List Entry) → Undoes (IsLoserOf opens) n h h' → AddsStep opens h' h'' → Undoes (IsLoserOf opens) (n + 1) h h''
undoes_more opens n h h' h'' u a =
    let one = loses (IsLeastLeft opens h') (IsLoserOf opens) (least_loses opens h') a.step a.is in
    let c = u.count in
    let l = length-append u.own (a.step ∷ []) in
    record {
      own = u.own ++ a.step ∷ [];
      each = All-append (IsStep (IsLoserOf opens)) u.own (a.step ∷ []) u.each (All-cons (IsStep (IsLoserOf opens)) a.step [] one (All-nil (IsStep (IsLoserOf opens))));
      count = omega (arith, c, l);
      entries = u.entries ++ (a.before ++ a.step ∷ []);
      among = among_then IsUpkeep u.own (a.step ∷ []) u.entries (a.before ++ a.step ∷ []) u.among (a.before, a.kept_up, [], refl, refl);
      added = longer h h' h'' u.entries (a.before ++ a.step ∷ []) u.added a.added;
    }

pub undoes_part : (loser : ℕ → Type 0) (n steps : ℕ) (h h' h'' : List Entry) → n ≤ steps → Undoes loser n h h' → AddsUpkeep h' h'' → UndoesSome loser steps h h''
undoes_part loser n steps h h' h'' few u a = record { taken = n; few = few; between = h'; undoes = u; more = a.0; kept_up = a.1; added = a.2 }

-- ---- upkeep, and pages that are written

pub upkeep_none : (h : List Entry) → AddsUpkeep h h
upkeep_none h = ([], All-nil IsUpkeep, sym (append-nil h))

pub upkeep_then : (h h' h'' : List Entry) → AddsUpkeep h h' → AddsUpkeep h' h'' → AddsUpkeep h h''
upkeep_then h h' h'' a b = (a.0 ++ b.0, All-append IsUpkeep a.0 b.0 a.1 b.1, longer h h' h'' a.0 b.0 a.2 b.2)

pub written_none : (h : List Entry) → WritesUpto 0 h h
written_none h = ([], All-nil IsWrittenEntry, omega arith, sym (append-nil h))

pub written_then : (n m : ℕ) (h h' h'' : List Entry) → WritesUpto n h h' → WritesUpto m h' h'' → WritesUpto (n + m) h h''
written_then n m h h' h'' a b =
    let x = a.2 in
    let y = b.2 in
    let l = length-append a.0 b.0 in
    (a.0 ++ b.0, All-append IsWrittenEntry a.0 b.0 a.1 b.1, omega (arith, x, y, l), longer h h' h'' a.0 b.0 a.3 b.3)

pub written_within : (n m : ℕ) (h h' : List Entry) → n ≤ m → WritesUpto n h h' → WritesUpto m h h'
written_within n m h h' few w = let x = w.2 in (w.0, w.1, omega (arith, few, x), w.3)

pub written_same : (n : ℕ) (h h' h'' : List Entry) → WritesUpto n h h' → h'' ≡ h' → WritesUpto n h h''
written_same n h h' h'' w same = subst (λ (l : List Entry). WritesUpto n h l) (sym same) w

-- ---- archive runs

pub made_none : (h : List Entry) → MakesUpto 0 h h
made_none h = ([], All-nil IsRunEntry, omega arith, sym (append-nil h))

pub made_within : (n m : ℕ) (h h' : List Entry) → n ≤ m → MakesUpto n h h' → MakesUpto m h h'
made_within n m h h' few w = let x = w.2 in (w.0, w.1, omega (arith, few, x), w.3)

-- one more at most
pub made_more : (opens : List Record → Type 0) (n : ℕ) (r : Result Bool Fault) (h h' h'' : List Entry) (before now : ℕ) → MakesUpto n h h' → ArchivesNext opens r h' h'' before now → MakesUpto (n + 1) h h''
made_more opens n r h h' h'' before now a x = let b = one r x in (
  a.0 ++ b.0,
  All-append IsRunEntry a.0 b.0 a.1 b.1,
  let few = a.2 in let most = b.2 in let l = length-append a.0 b.0 in omega (arith, few, most, l),
  longer h h' h'' a.0 b.0 a.3 b.3,
)
  where
    one : (r : Result Bool Fault) → ArchivesNext opens r h' h'' before now → MakesUpto 1 h' h''
    one (Ok true) x = let l = x.1 in (x.0.own, x.0.each, omega (arith, l), x.0.added)
    one (Ok false) x = made_within 0 1 h' h'' (omega arith) (subst (λ (l : List Entry). MakesUpto 0 h' l) (sym x.0) (made_none h'))
    one (Err f) x = x

-- known from an earlier moment on
pub archived_since : (opens : List Record → Type 0) (before middle now : ℕ) (h : List Entry) → before ≤ middle → AreArchived opens middle now h → AreArchived opens before now h
archived_since opens before middle now h low a = (a.0, let l = a.1 in omega (arith, low, l), a.2, a.3)

-- ---- the whole

pub helped : (loser : ℕ → Type 0) (n m k steps : ℕ) (h h1 h2 h3 h4 : List Entry) → Undoes loser n h h1 → AddsUpkeep h1 h2 → WritesUpto m h2 h3 → MakesUpto k h3 h4 → n + m + k ≤ steps → Helps loser steps h h4
helped loser n m k steps h h1 h2 h3 h4 u a w r few =
    let c = u.count in
    let d = w.2 in
    let e = r.2 in
    let last = w.0 ++ r.0 in
    let more = a.0 ++ last in
    record {
      own = u.own ++ more;
      are = record { undone = u.own; each = u.each; redone = a.0; kept_up = a.1; written = w.0; pages = w.1; runs = r.0; archived = r.1; few = omega (arith, c, d, e, few); is = refl };
      entries = u.entries ++ more;
      among = among_then IsUpkeep u.own more u.entries more u.among (among_own IsUpkeep more);
      added = longer h h1 h4 u.entries more u.added (longer h1 h2 h4 a.0 last a.2 (longer h2 h3 h4 w.0 r.0 w.3 r.3));
    }

pub helped_some : (loser : ℕ → Type 0) (steps : ℕ) (h h' : List Entry) → UndoesSome loser steps h h' → Helps loser steps h h'
helped_some loser steps h h' s =
    let few = s.few in
    helped loser s.taken 0 0 steps h s.between h' h' h' s.undoes (s.more, s.kept_up, s.added) (written_none h') (made_none h') (omega (arith, few))

-- ---- how many steps were taken

passes : (f : Entry → Bool) (e : Entry) (es : List Entry) → f e ≡ true → length (filter f (e ∷ es)) ≡ 1 + length (filter f es)
passes f e es is = by (f e) is
  where
    by : (b : Bool) → b ≡ true → length (cond b (e ∷ filter f es) (filter f es)) ≡ 1 + length (filter f es)
    by true k = omega arith
    by false k = absurd (cc k)

fails : (f : Entry → Bool) (e : Entry) (es : List Entry) → f e ≡ false → length (filter f (e ∷ es)) ≡ length (filter f es)
fails f e es is = by (f e) is
  where
    by : (b : Bool) → b ≡ false → length (cond b (e ∷ filter f es) (filter f es)) ≡ length (filter f es)
    by true k = absurd (cc k)
    by false k = refl

step_counts : (loser : ℕ → Type 0) (e : Entry) → IsStep loser e → takes_back e ≡ true
step_counts loser (Rec lsn (kinds.Undo u)) is = refl
step_counts loser (Rec lsn (kinds.End x)) is = refl
step_counts loser _ is = absurd is

upkeep_not : (e : Entry) → IsUpkeep e → takes_back e ≡ false
upkeep_not (Rec lsn (kinds.Undo u)) is = absurd is
upkeep_not (Rec lsn (kinds.End x)) is = absurd is
upkeep_not _ is = refl

written_not : (e : Entry) → IsWrittenEntry e → takes_back e ≡ false
written_not (Rec lsn (kinds.Undo u)) is = absurd is
written_not (Rec lsn (kinds.End x)) is = absurd is
written_not _ is = refl

run_not : (e : Entry) → IsRunEntry e → takes_back e ≡ false
run_not (Rec lsn (kinds.Undo u)) is = absurd is
run_not (Rec lsn (kinds.End x)) is = absurd is
run_not _ is = refl

none_of : (P : Entry → Type 0) → ((e : Entry) → P e → takes_back e ≡ false) → (es : List Entry) → All P es → length (filter takes_back es) ≡ 0
none_of P not [] all = refl
none_of P not (e ∷ es) all = fails takes_back e es (not e (All-head P e es all)) ∙ none_of P not es (All-tail P e es all)

count_both : (es fs : List Entry) → length (filter takes_back (es ++ fs)) ≡ length (filter takes_back es) + length (filter takes_back fs)
count_both es fs = ap length (filter-append takes_back es fs) ∙ length-append (filter takes_back es) (filter takes_back fs)

count_among : (loser : ℕ → Type 0) (own es : List Entry) → All (IsStep loser) own → Among IsUpkeep own es → length (filter takes_back es) ≡ length own
count_among loser [] es all a = ap (λ (l : List Entry). length (filter takes_back l)) a
count_among loser (o ∷ own) es all a =
    let whole = ap (λ (l : List Entry). length (filter takes_back l)) a.3 ∙ count_both a.0 (o ∷ a.2) in
    let before = none_of IsUpkeep upkeep_not a.0 a.1 in
    let first = passes takes_back o a.2 (step_counts loser o (All-head (IsStep loser) o own all)) in
    let rest = count_among loser own a.2 (All-tail (IsStep loser) o own all) a.4 in
    omega (arith, whole, before, first, rest)

steps_counted : (loser : ℕ → Type 0) (n m k : ℕ) (h h1 h2 h3 h4 : List Entry) → Undoes loser n h h1 → AddsUpkeep h1 h2 → WritesUpto m h2 h3 → MakesUpto k h3 h4 → AddsSteps n h h4
steps_counted loser n m k h h1 h2 h3 h4 u a w r =
    let last = w.0 ++ r.0 in
    let more = a.0 ++ last in
    let first = count_among loser u.own u.entries u.each u.among in
    let c = u.count in
    let ups = none_of IsUpkeep upkeep_not a.0 a.1 in
    let pages = none_of IsWrittenEntry written_not w.0 w.1 in
    let runs = none_of IsRunEntry run_not r.0 r.1 in
    let all = count_both u.entries more in
    let rest = count_both a.0 last in
    let both = count_both w.0 r.0 in
    (u.entries ++ more, longer h h1 h4 u.entries more u.added (longer h1 h2 h4 a.0 last a.2 (longer h2 h3 h4 w.0 r.0 w.3 r.3)), omega (arith, first, c, ups, pages, runs, all, rest, both))

-- no loser is left, or each step was one of these
pub losers_done : (opens : List Record → Type 0) (n m k steps total : ℕ) (h h1 h2 h3 h4 : List Entry) → Undoes (IsLoserOf opens) n h h1 → AddsUpkeep h1 h2 → WritesUpto m h2 h3 → MakesUpto k h3 h4 → n ≤ steps → n ≤ total → total ≤ steps → (n < steps → AreAllOver opens h1)
    → AreAllOver opens h4 ⊎ ((total ≡ steps) × AddsSteps steps h h4)
losers_done opens n m k steps total h h1 h2 h3 h4 u a w r few low high over = by (ltb n steps) refl
  where
    by : (b : Bool) → ltb n steps ≡ b → AreAllOver opens h4 ⊎ ((total ≡ steps) × AddsSteps steps h h4)
    by true less = inl (over_later opens h1 (a.0 ++ (w.0 ++ r.0)) h4 (longer h1 h2 h4 a.0 (w.0 ++ r.0) a.2 (longer h2 h3 h4 w.0 r.0 w.3 r.3)) (over (ltb-true n steps less)))
    by false more =
        let least = ltb-false n steps more in
        let all : n ≡ steps = omega (arith, least, few) in
        inr (omega (arith, all, low, high), subst (λ (x : ℕ). AddsSteps x h h4) all (steps_counted (IsLoserOf opens) n m k h h1 h2 h3 h4 u a w r))
