-- The empty log, and whether a log is it.
use Rattle.std.proofs.Common.{◌≡◌, ◌<◌, List, [], ◌∷◌, length, Bool, true, false, refl, sym, ap, ◌∙◌, arith}
use Rattle.std.specs.Prelude.{◌↔◌, IsTrue, not}
use Rattle.std.specs.FinMap as finite
use Rattle.store_model.specs.Along.{AllAlong, along}
use Rattle.wal_record.specs.Contents.{current}
use Rattle.wal_record.specs.OpenWrites.{has_items}
use Rattle.wal_record.specs.Sound.{AreLawful, is_format}
use Rattle.wal_record.specs.declared.record.Record.{Record}

pub nothing_lawful : AreLawful []
unfolding AllAlong
nothing_lawful = tt

pub current_none : current [] ≡ finite.empty
unfolding current along
current_none = refl

empty_is : (log : List Record) → (length log ≡ 0) ↔ (has_items log ≡ false)
empty_is [] = (λ e. refl, λ e. refl)
empty_is (x ∷ log) = (λ e. absurd (omega (arith, e)), λ e. absurd (cc e))

some_is : (log : List Record) → (0 < length log) ↔ (has_items log ≡ true)
some_is [] = (λ e. absurd (omega (arith, e)), λ e. absurd (cc e))
some_is (x ∷ log) = (λ e. refl, λ e. omega arith)

flip : (b c : Bool) → b ≡ not c → c ≡ not b
flip true true e = absurd (cc e)
flip true false e = refl
flip false true e = refl
flip false false e = absurd (cc e)

-- a Format stands where nothing stands before it
pub begun_format : (log : List Record) (r : Record) (b : Bool) → is_format r ≡ true → IsTrue b ↔ (length log ≡ 0) → IsTrue b ↔ (is_format r ≡ not (has_items log))
begun_format log r b is e = (
  λ t. is ∙ sym (ap not ((empty_is log).0 (e.0 t))),
  λ rule. e.1 ((empty_is log).1 (flip (is_format r) (has_items log) rule ∙ ap not is)),
)

-- and no other record
pub begun_other : (log : List Record) (r : Record) (b : Bool) → is_format r ≡ false → IsTrue b ↔ (0 < length log) → IsTrue b ↔ (is_format r ≡ not (has_items log))
begun_other log r b is e = (
  λ t. is ∙ sym (ap not ((some_is log).0 (e.0 t))),
  λ rule. e.1 ((some_is log).1 (flip (is_format r) (has_items log) rule ∙ ap not is)),
)

pub has_some : (log : List Record) → 0 < length log → has_items log ≡ true
has_some log lt = (some_is log).0 lt

pub some_there : (log : List Record) → has_items log ≡ true → 0 < length log
some_there log is = (some_is log).1 is

pub nothing_in : (xs : List Record) → length xs ≡ 0 → xs ≡ []
nothing_in [] e = refl
nothing_in (x ∷ xs) e = absurd (omega (arith, e))
