-- How many writes were undone, and pages repaired, entry by entry.
use Rattle.std.proofs.Common.{◌≡◌, ℕ, suc, cond, ◌+◌, ◌≤◌, List, [], ◌∷◌, ◌++◌, length, Option, Some, None, Bool, true, false, refl, sym, ap, ◌∙◌, subst, arith, length-append}
use Rattle.std.specs.Prelude.{filter}
use Rattle.std.proofs.lemmas.List.Elements.{filter-append}
use Rattle.page_ops.specs.Groups.{group_entries}
use Rattle.page_ops.specs.Outcomes.{is_undo, is_repaired}
use Rattle.page_ops.specs.declared.group.Said.{Said}
use Rattle.wal_record.specs.History.{log_of}
use Rattle.wal_record.specs.declared.record.Record.{Record}
use Rattle.wal_record.specs.declared.entry.Entry.{Entry}
use Rattle.wal_record.specs.declared.entry.Entry.TheVariants as entries
use Rattle.life_history.specs.Kept.{IsTallied, IsOneOf, is_calm}

log_of-append : (h es : List Entry) → log_of (h ++ es) ≡ log_of h ++ log_of es
log_of-append [] es = refl
log_of-append (entries.Rec lsn r ∷ h) es = ap (λ (rs : List Record). r ∷ rs) (log_of-append h es)
log_of-append (_ ∷ h) es = log_of-append h es

pub tallied_none : IsTallied [] 0 0
tallied_none = record { undone = refl; repaired = refl }

pub tallied_same : (h h' : List Entry) (u r : ℕ) → IsTallied h u r → h' ≡ h → IsTallied h' u r
tallied_same h h' u r k same = subst (λ (l : List Entry). IsTallied l u r) (sym same) k

-- entries more, of which so many undo a write, and so many say that a page was repaired
pub tallied_more : (h h' es : List Entry) (u r u' r' : ℕ) → IsTallied h u r → h' ≡ h ++ es → u' ≡ u + length (filter is_undo (log_of es)) → r' ≡ r + length (filter is_repaired es) → IsTallied h' u' r'
tallied_more h h' es u r u' r' k now undone repaired =
    let log = ap (λ (l : List Entry). length (filter is_undo (log_of l))) now ∙ ap (λ (l : List Record). length (filter is_undo l)) (log_of-append h es) ∙ ap (λ (l : List Record). length l) (filter-append is_undo (log_of h) (log_of es))
    ∙ length-append (filter is_undo (log_of h)) (filter is_undo (log_of es)) in
    let all = ap (λ (l : List Entry). length (filter is_repaired l)) now ∙ ap (λ (l : List Entry). length l) (filter-append is_repaired h es) ∙ length-append (filter is_repaired h) (filter is_repaired es) in
    let was = k.undone in
    let were = k.repaired in
    record { undone = omega (arith, undone, was, log); repaired = omega (arith, repaired, were, all) }

-- an entry that is neither
pub tallied_other : (h h' : List Entry) (e : Entry) (u r : ℕ) → IsTallied h u r → h' ≡ h ++ e ∷ [] → filter is_undo (log_of (e ∷ [])) ≡ [] → filter is_repaired (e ∷ []) ≡ [] → IsTallied h' u r
tallied_other h h' e u r k now undo repair =
    tallied_more h h' (e ∷ []) u r u r k now (let none = ap (λ (l : List Record). length l) undo in omega (arith, none)) (let none = ap (λ (l : List Entry). length l) repair in omega (arith, none))

pub tallied_calm : (session tx : ℕ) (h h' es : List Entry) (u r : ℕ) → IsOneOf session tx es → IsTallied h u r → h' ≡ h ++ es → IsTallied h' u r
tallied_calm session tx h h' [] u r is k now = absurd is
tallied_calm session tx h h' (e ∷ f ∷ es) u r is k now = absurd is
tallied_calm session tx h h' (e ∷ []) u r is k now = by e is.0 now
  where
    by : (e : Entry) → is_calm e ≡ true → h' ≡ h ++ e ∷ [] → IsTallied h' u r
    by (entries.Lock t range mode) calm now = tallied_other h h' (entries.Lock t range mode) u r k now refl refl
    by (entries.Refused t range mode holder) calm now = tallied_other h h' (entries.Refused t range mode holder) u r k now refl refl
    by (entries.Said s t request reply) calm now = tallied_other h h' (entries.Said s t request reply) u r k now refl refl
    by (entries.Declined s t request why) calm now = tallied_other h h' (entries.Declined s t request why) u r k now refl refl
    by _ calm now = absurd (cc calm)

-- ---- a group

group_log : (lsn : ℕ) (recs : List Record) (said : Option Said) → log_of (group_entries lsn recs said) ≡ recs
group_log lsn [] None = refl
group_log lsn [] (Some s) = refl
group_log lsn (r ∷ rs) said = ap (λ (l : List Record). r ∷ l) (group_log (suc lsn) rs said)

group_repairs : (lsn : ℕ) (recs : List Record) (said : Option Said) → filter is_repaired (group_entries lsn recs said) ≡ []
group_repairs lsn [] None = refl
group_repairs lsn [] (Some s) = refl
group_repairs lsn (r ∷ rs) said = group_repairs (suc lsn) rs said

pub tallied_group : (h h' : List Entry) (u r u' n lsn : ℕ) (recs : List Record) (said : Option Said) → IsTallied h u r → h' ≡ h ++ group_entries lsn recs said → n ≡ length (filter is_undo recs) → u' ≡ u + n → IsTallied h' u' r
tallied_group h h' u r u' n lsn recs said k now count sum =
    let log = ap (λ (l : List Record). length (filter is_undo l)) (group_log lsn recs said) in
    let none = ap (λ (l : List Entry). length l) (group_repairs lsn recs said) in
    tallied_more h h' (group_entries lsn recs said) u r u' r k now (omega (arith, log, count, sum)) (omega (arith, none))

-- ---- no more than entries

filter_within : {A : Type 0} (f : A → Bool) (xs : List A) → length (filter f xs) ≤ length xs
filter_within f [] = omega arith
filter_within f (x ∷ xs) = by (f x) (filter_within f xs)
  where
    by : (b : Bool) → length (filter f xs) ≤ length xs → length (cond b (x ∷ filter f xs) (filter f xs)) ≤ suc (length xs)
    by true rest = omega (arith, rest)
    by false rest = omega (arith, rest)

log_within : (h : List Entry) → length (log_of h) ≤ length h
log_within [] = omega arith
log_within (entries.Rec lsn r ∷ h) = let rest = log_within h in omega (arith, rest)
log_within (_ ∷ h) = let rest = log_within h in omega (arith, rest)

pub undone_within : (h : List Entry) (u r : ℕ) → IsTallied h u r → u ≤ length h
undone_within h u r k = let all = filter_within is_undo (log_of h) in let log = log_within h in let is = k.undone in omega (arith, all, log, is)

pub repaired_within : (h : List Entry) (u r : ℕ) → IsTallied h u r → r ≤ length h
repaired_within h u r k = let all = filter_within is_repaired h in let is = k.repaired in omega (arith, all, is)

pub tallied_repair : (h h' : List Entry) (page u r r' : ℕ) → IsTallied h u r → h' ≡ h ++ entries.Repaired page ∷ [] → r' ≡ r + 1 → IsTallied h' u r'
tallied_repair h h' page u r r' k now sum = tallied_more h h' (entries.Repaired page ∷ []) u r u r' k now (omega arith) (omega (arith, sum))
