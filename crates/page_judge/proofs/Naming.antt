-- The pages that a record names.
use Rattle.std.proofs.Common.{◌≡◌, ℕ, zero, suc, eqb, ◌<◌, ◌≤◌, ◌+◌, ◌-◌, List, [], ◌∷◌, ◌++◌, length, map, take, Option, Some, None, Bool, true, false, refl, sym, ap, ◌∙◌, arith}
use Rattle.std.specs.Prelude.{◌||◌, slice_get}
use Rattle.std.specs.Option.{option_map, option_map_or}
use Rattle.std.proofs.lemmas.Bool.Decides.{nat_tests}
use Rattle.std.proofs.lemmas.List.{length-map, length-take}
use Rattle.store_model.proofs.Bools.{or_left, or_right}
use Rattle.wal_record.specs.Chains.{names, names_at}
use Rattle.wal_record.specs.declared.record.Record.{Record}
use Rattle.wal_record.specs.declared.record.Record.TheVariants as kinds
use Rattle.page_judge.specs.Images.{IsNamed}
use Rattle.page_judge.specs.Names.{first_page, has_page, is_page, named_at, named_by, second_page}
use Rattle.page_judge.specs.declared.names.NamedPages.{NamedPages}

or_none : (b : Bool) → b ≡ (b || false)
or_none true = refl
or_none false = refl

pub names_are : (p : ℕ) (r : Record) → names p r ≡ (is_page p (first_page r) || is_page p (second_page r))
names_are p (kinds.Format f) = or_none (eqb p 1)
names_are p (kinds.Write w) = or_none (eqb p w.page)
names_are p (kinds.Apply a) = or_none (eqb p a.page)
names_are p (kinds.Undo u) = or_none (eqb p u.page)
names_are p (kinds.Split s) = refl
names_are p (kinds.Adopt a) = refl
names_are p (kinds.Grow g) = refl
names_are p (kinds.Purge x) = or_none (eqb p x.page)
names_are p r = refl

eqb_own : (n : ℕ) → eqb n n ≡ true
eqb_own n = grind (arith, nat_tests)

pub first_named : (r : Record) → IsNamed r (first_page r)
first_named r = by (first_page r) refl
  where
    by : (o : Option ℕ) → first_page r ≡ o → IsNamed r o
    by None e = tt
    by (Some p) e = names_are p r ∙ or_left (is_page p (first_page r)) (is_page p (second_page r)) (ap (is_page p) e ∙ eqb_own p)

pub second_named : (r : Record) → IsNamed r (second_page r)
second_named r = by (second_page r) refl
  where
    by : (o : Option ℕ) → second_page r ≡ o → IsNamed r o
    by None e = tt
    by (Some p) e = names_are p r ∙ or_right (is_page p (first_page r)) (is_page p (second_page r)) (ap (is_page p) e ∙ eqb_own p)

-- ---- by LSN

get_map : (log : List Record) (n : ℕ) → slice_get (map named_by log) n ≡ option_map named_by (slice_get log n)
get_map [] n = refl
get_map (r ∷ log) zero = refl
get_map (r ∷ log) (suc n) = get_map log n

get_taken : (xs : List NamedPages) (k n : ℕ) → n < k → slice_get (take k xs) n ≡ slice_get xs n
get_taken [] zero n lt = refl
get_taken [] (suc k) n lt = refl
get_taken (x ∷ xs) zero n lt = absurd (omega (arith, lt))
get_taken (x ∷ xs) (suc k) zero lt = refl
get_taken (x ∷ xs) (suc k) (suc n) lt = get_taken xs k n (omega (arith, lt))

named_is : (p : ℕ) (o : Option Record) → option_map_or (has_page p) (option_map named_by o) false ≡ option_map_or (names p) o false
named_is p None = refl
named_is p (Some r) = sym (names_are p r)

module _ (log : List Record) (xs : List NamedPages) (k : take (length log) xs ≡ map named_by log) where
  pub named_here : (lsn p : ℕ) → lsn ≤ length log → option_map_or (has_page p) (named_at xs lsn) false ≡ names_at log lsn p
  named_here zero p le = refl
  named_here (suc n) p le =
      ap (λ (o : Option NamedPages). option_map_or (has_page p) o false) (sym (get_taken xs (length log) n (omega (arith, le))) ∙ ap (λ (ys : List NamedPages). slice_get ys n) k ∙ get_map log n)
      ∙ named_is p (slice_get log n)

past_end : (log : List Record) (n : ℕ) → length log ≤ n → slice_get log n ≡ None
past_end [] n le = refl
past_end (r ∷ log) zero le = absurd (omega (arith, le))
past_end (r ∷ log) (suc n) le = past_end log n (omega (arith, le))

pub none_named : (log : List Record) (lsn p : ℕ) → length log < lsn → names_at log lsn p ≡ false
none_named log zero p lt = refl
none_named log (suc n) p lt = ap (λ (o : Option Record). option_map_or (names p) o false) (past_end log n (omega (arith, lt)))

-- ---- one record more

map_push : (log : List Record) (r : Record) → map named_by (log ++ r ∷ []) ≡ map named_by log ++ named_by r ∷ []
map_push [] r = refl
map_push (x ∷ log) r = ap (λ (ys : List NamedPages). named_by x ∷ ys) (map_push log r)

map_length : (log : List Record) → length (map named_by log) ≡ length log
map_length [] = refl
map_length (x ∷ log) = ap suc (map_length log)

take_whole : (xs : List NamedPages) (n : ℕ) → n ≡ length xs → take n xs ≡ xs
take_whole [] zero e = refl
take_whole [] (suc n) e = refl
take_whole (x ∷ xs) zero e = absurd (omega (arith, e))
take_whole (x ∷ xs) (suc n) e = ap (λ (ys : List NamedPages). x ∷ ys) (take_whole xs n (omega (arith, e)))

take_nothing : (xs : List NamedPages) → take 0 xs ≡ []
take_nothing [] = refl
take_nothing (x ∷ xs) = refl

pub none_kept : (xs : List NamedPages) → take 0 xs ≡ []
none_kept xs = take_nothing xs

take_front : (xs ys : List NamedPages) (n : ℕ) → n ≡ length xs → take n (xs ++ ys) ≡ xs
take_front [] ys zero e = take_nothing ys
take_front [] ys (suc n) e = absurd (omega (arith, e))
take_front (z ∷ xs) ys zero e = absurd (omega (arith, e))
take_front (z ∷ xs) ys (suc n) e = ap (λ (l : List NamedPages). z ∷ l) (take_front xs ys n (omega (arith, e)))

module _ (log : List Record) (kept : List NamedPages) (is : kept ≡ map named_by log) where
  -- what was kept before the LSN of the next record
  pub kept_still : take (length log) kept ≡ map named_by log
  kept_still = take_whole kept (length log) (sym (ap length is ∙ map_length log)) ∙ is

  pub kept_front : (x : NamedPages) (now : List NamedPages) → now ≡ kept ++ x ∷ [] → take (length log) now ≡ map named_by log
  kept_front x now push = ap (take (length log)) push ∙ take_front kept (x ∷ []) (length log) (sym (ap length is ∙ map_length log)) ∙ is

  pub kept_more : (r : Record) (x : NamedPages) (now : List NamedPages) → x ≡ named_by r → now ≡ kept ++ x ∷ [] → take (length (log ++ r ∷ [])) now ≡ map named_by (log ++ r ∷ [])
  kept_more r x now same push =
      let all : now ≡ map named_by (log ++ r ∷ []) = push ∙ (λ i. is i ++ same i ∷ []) ∙ sym (map_push log r) in
      take_whole now (length (log ++ r ∷ [])) (sym (ap length all ∙ map_length (log ++ r ∷ []))) ∙ all

-- ---- how many

pub few_named : (log : List Record) (xs : List NamedPages) → take (length log) xs ≡ map named_by log → length log ≤ length xs
few_named log xs same =
    let taken = length-take (length log) xs in
    let size = ap length same in
    let all = length-map log named_by in
    omega (arith, taken, size, all)
