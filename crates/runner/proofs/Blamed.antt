-- A fault of the vault, which is told as one only where the vault has counted it.
use Rattle.std.proofs.Common.{◌≡◌, ℕ, List, Option, refl, sym, subst, ◌∙◌, arith, inl, inr}
use Rattle.std.specs.Prelude.{◌≢◌, ◌^◌, ◌-◌, min}
use Rattle.media.specs.Cause.{Rose}
use Rattle.life_commands.specs.Turns.{Stage, Start}
use Rattle.life_commands.specs.declared.status.Status.{Status}
use Rattle.life_commands.specs.declared.status.Status.TheVariants as statuses
use Rattle.runner.specs.Causes.{IsAsked, IsBlamed}
use Rattle.runner.specs.Clause.{Headline}
use Rattle.runner.specs.Usage.{IsUnbegun}
use Rattle.runner.proofs.Runs.{as_memory}

-- what is so of the status, and of want of memory, is so of what is told
pub by_blamed : (P : Status → Type 0) (before now : ℕ) (status told : Status) → IsBlamed before now status told → P statuses.Memory → P status → P told
by_blamed P before now statuses.VaultFault told (inl is) memory p = subst P (sym is.0) p
by_blamed P before now statuses.VaultFault told (inr is) memory p = subst P (sym is) memory
by_blamed P before now _ told is memory p = subst P (sym is) p

-- counts are told up to the end of their range
pub told_rose : (x y before now : ℕ) → before ≡ min x (2 ^ 64 - 1) → now ≡ min y (2 ^ 64 - 1) → Rose before now → Rose x y
told_rose x y before now is now_is rose = omega (arith, is, now_is, rose)

pub blamed_rose : (before now : ℕ) (status told : Status) → IsBlamed before now status told → told ≡ statuses.VaultFault → Rose before now
blamed_rose before now statuses.VaultFault told (inl is) fault = is.1
blamed_rose before now statuses.VaultFault told (inr is) fault = absurd (let e = sym is ∙ fault in cc)
blamed_rose before now _ told is fault = absurd (let e = sym is ∙ fault in cc)

pub asked_blamed : (before now : ℕ) (status told : Status) → IsBlamed before now status told → (Rose before now → ⊥) → (status ≢ statuses.VaultFault → IsAsked status) → IsAsked told
asked_blamed before now statuses.VaultFault told (inl is) none asked = absurd (none is.1)
asked_blamed before now statuses.VaultFault told (inr is) none asked = subst IsAsked (sym is) tt
asked_blamed before now statuses.Memory told is none asked = subst IsAsked (sym is) tt
asked_blamed before now _ told is none asked = subst IsAsked (sym is) (asked (λ e. cc))

pub as_blamed : (tells : Type 0) (start : Start) (B : Stage → Type 0) {left0 left told0 told : Option (List ℕ)} {pending : List ℕ} (before now : ℕ) (status said : Status) → IsBlamed before now status said → Headline tells start B left0 pending left told0 told status → Headline tells start B left0 pending left told0 told said
as_blamed tells start B {left0} {left} {told0} {told} {pending} before now statuses.VaultFault said (inl is) h = subst (λ (z : Status). Headline tells start B left0 pending left told0 told z) (sym is.0) h
as_blamed tells start B {left0} {left} {told0} {told} {pending} before now statuses.VaultFault said (inr is) h = subst (λ (z : Status). Headline tells start B left0 pending left told0 told z) (sym is) (as_memory tells start B h)
as_blamed tells start B {left0} {left} {told0} {told} {pending} before now _ said is h = subst (λ (z : Status). Headline tells start B left0 pending left told0 told z) (sym is) h

same_blamed : (before now : ℕ) (status told : Status) → IsBlamed before now status told → told ≢ statuses.Memory → told ≡ status
same_blamed before now statuses.VaultFault told (inl is) other = is.0
same_blamed before now statuses.VaultFault told (inr is) other = absurd (other is)
same_blamed before now _ told is other = is

-- a status that is told is what the run ended with, but for want of memory
pub as_status : (before now : ℕ) (status told x : Status) → IsBlamed before now status told → told ≡ x → x ≢ statuses.Memory → status ≡ x
as_status before now status told x is e other = sym (same_blamed before now status told is (λ m. other (sym e ∙ m))) ∙ e

-- what the words decide isn't told of a run
pub called_blamed : (before now : ℕ) (status told : Status) → IsBlamed before now status told → (status ≢ statuses.Usage) × (status ≢ statuses.NoGenerator) → (told ≢ statuses.Usage) × (told ≢ statuses.NoGenerator)
called_blamed before now status told is called = by_blamed (λ (s : Status). (s ≢ statuses.Usage) × (s ≢ statuses.NoGenerator)) before now status told is ((λ e. absurd cc), (λ e. absurd cc)) called

begun : (status : Status) → (status ≢ statuses.Usage) × (status ≢ statuses.NoGenerator) → IsUnbegun status → ⊥
begun statuses.Usage called is = called.0 refl
begun statuses.NoGenerator called is = called.1 refl
begun _ called is = is

pub begun_blamed : (before now : ℕ) (status told : Status) → IsBlamed before now status told → (status ≢ statuses.Usage) × (status ≢ statuses.NoGenerator) → IsUnbegun told → ⊥
begun_blamed before now status told is called = begun told (called_blamed before now status told is called)
