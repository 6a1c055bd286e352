-- A chain that is followed back.
use Rattle.std.proofs.Common.{◌≡◌, ◌≢◌, ℕ, ◌+◌, ◌<◌, ◌≤◌, true, false, List, [], ◌∷◌, ◌++◌, length, reverse, Option, Some, None, Result, Ok, sym, ap, subst, ◌∙◌, arith, append_assoc, append-nil, length-append, take}
use Rattle.std.specs.Option.{option_map_or}
use Rattle.std.specs.Prelude.{filter, IfSome}
use Rattle.std.proofs.lemmas.List.{reverse-append, length-reverse, drop_all, length-take}
use Rattle.store_model.specs.declared.fault.Fault.{Fault}
use Rattle.wal_record.specs.Chains.{names, names_at, record_with}
use Rattle.wal_record.specs.Rules.{HasSpelling}
use Rattle.wal_record.specs.Sound.{AreLawful}
use Rattle.wal_record.specs.declared.record.Record.{Record}
use Rattle.chain_laws.specs.Steps.{previous, named_between, StepLaw}
use Rattle.chain_laws.proofs.Named.{at_place}
use Rattle.chain_laws.proofs.Steps.{step}
use Rattle.page_repair.specs.Chains.{SaysEnd}
use Rattle.page_repair.specs.Rebuild.{AreSpelled}

-- who knows at one moment that the life has ended, and at that one for a later one
pub still_ended : (a b c : Option ℕ) → IfSome a (λ at. b ≡ Some at) → IfSome b (λ at. c ≡ Some at) → IfSome a (λ at. c ≡ Some at)
still_ended None b c h g = tt
still_ended (Some at) b c h g = let k : IfSome (Some at) (λ at. c ≡ Some at) = subst (λ (o : Option ℕ). IfSome o (λ at. c ≡ Some at)) h g in k

-- ---- ends of a life: a first call tells it, and then nothing further is asked

-- a call that is done shows that no end was known before it
pub was_open : {T : Type 0} (x : T) (a b : Option ℕ) (P : ℕ → Type 0) → IfSome a (λ at. (b ≡ Some at) × SaysEnd at (Ok x)) → IfSome a P
was_open x None b P h = tt
was_open x (Some at) b P h = absurd h.1

pub was_open_before : {T : Type 0} (x : T) (a b c : Option ℕ) (P : ℕ → Type 0) → IfSome a (λ at. b ≡ Some at) → IfSome b (λ at. (c ≡ Some at) × SaysEnd at (Ok x)) → IfSome a P
was_open_before x None b c P h g = tt
was_open_before x (Some at) b c P h g = let k : IfSome (Some at) (λ at. (c ≡ Some at) × SaysEnd at (Ok x)) = subst (λ (o : Option ℕ). IfSome o (λ at. (c ≡ Some at) × SaysEnd at (Ok x))) h g in absurd k.1

pub none_told : {T : Type 0} (x : T) (a : Option ℕ) (P : ℕ → Type 0) → IfSome a (λ at. SaysEnd at (Ok x)) → IfSome a P
none_told x None P h = tt
none_told x (Some at) P h = absurd h

pub still_known : {T : Type 0} (r : Result T Fault) (a b : Option ℕ) → IfSome a (λ at. (b ≡ Some at) × SaysEnd at r) → IfSome a (λ at. b ≡ Some at)
still_known r None b h = tt
still_known r (Some at) b h = h.0

-- the walk still stands at the head, so it isn't done
pub at_head : (a : Option ℕ) (low lsn head : ℕ) (P : ℕ → Type 0) → lsn ≤ low → low < head → IfSome a (λ at. lsn ≡ head) → IfSome a P
at_head None low lsn head P l some h = tt
at_head (Some at) low lsn head P l some h = absurd (omega (arith, l, some, h))

pub spelled_more : (rs : List Record) (r : Record) → AreSpelled rs → HasSpelling r → AreSpelled (rs ++ r ∷ [])
spelled_more [] r h g = (g, tt)
spelled_more (x ∷ rs) r h g = (h.0, spelled_more rs r h.1 g)

pub spelled_less : (rs : List Record) (r : Record) → AreSpelled (rs ++ r ∷ []) → AreSpelled rs × HasSpelling r
spelled_less [] r h = (tt, h.0)
spelled_less (x ∷ rs) r h = let parts = spelled_less rs r h.1 in ((h.0, parts.0), parts.1)

-- nothing is left below the bound
pub none_left : (log : List Record) (p low lsn : ℕ) → lsn ≤ low → named_between log p low lsn ≡ []
none_left log p low lsn l = ap (filter (names p)) (drop_all low (take lsn log) (let n = length-take lsn log in omega (arith, n, l)))

pub all_found : (log : List Record) (p low lsn head : ℕ) (rs : List Record) → lsn ≤ low → reverse (named_between log p low head) ≡ rs ++ reverse (named_between log p low lsn) → rs ≡ reverse (named_between log p low head)
all_found log p low lsn head rs l e = sym (e ∙ ap (λ (xs : List Record). rs ++ reverse xs) (none_left log p low lsn l) ∙ append-nil rs)

-- a record of the log that was found at an LSN at which the page is named
module _ (log : List Record) (p lsn : ℕ) (r : Record) (lawful : AreLawful log) (there : names_at log lsn p ≡ true) (found : record_with log lsn ≡ Some r) where
  pub one : StepLaw log p lsn r
  one = step log p lsn r lawful found (sym (ap (λ (o : Option Record). option_map_or (names p) o false) found) ∙ there)

  pub found_more : (low head before : ℕ) (rs new : List Record) → low < lsn → before ≡ previous p r → new ≡ rs ++ r ∷ [] → reverse (named_between log p low head) ≡ rs ++ reverse (named_between log p low lsn)
      → reverse (named_between log p low head) ≡ new ++ reverse (named_between log p low before)
  found_more low head before rs new l told is e =
      e ∙ ap (λ (xs : List Record). rs ++ reverse xs) (one.last low l) ∙ ap (λ (xs : List Record). rs ++ xs) (reverse-append (named_between log p low (previous p r)) (r ∷ []))
      ∙ sym (append_assoc rs (r ∷ []) (reverse (named_between log p low (previous p r)))) ∙ (λ i. sym is i ++ reverse (named_between log p low (sym told i)))

  pub named_before : (before : ℕ) → before ≡ previous p r → before ≢ 0 → names_at log before p ≡ true
  named_before before told some = subst (λ (n : ℕ). names_at log n p ≡ true) (sym told) (one.named (λ z. some (told ∙ z)))

  -- an untold step: it doesn't fall
  pub falls : lsn ≤ previous p r → ⊥
  falls l = let f = one.falls in omega (arith, f, l)

-- one more was asked for than stand on the stack
pub few_more : (log : List Record) (p low lsn head : ℕ) (rs : List Record) → AreLawful log → names_at log lsn p ≡ true → low < lsn → reverse (named_between log p low head) ≡ rs ++ reverse (named_between log p low lsn)
    → length rs + 1 ≤ length (named_between log p low head)
few_more log p low lsn head rs lawful there l e =
    let at = at_place log lsn p there in
    let found : record_with log lsn ≡ Some at.1 = ap (record_with log) at.2 ∙ at.3 in
    let last = (one log p lsn at.1 lawful there found).last low l in
    let one_more = ap length last ∙ length-append (named_between log p low (previous p at.1)) (at.1 ∷ []) in
    let all = sym (length-reverse (named_between log p low head)) ∙ ap length e ∙ length-append rs (reverse (named_between log p low lsn)) in
    let left = length-reverse (named_between log p low lsn) in
    omega (arith, one_more, all, left)
