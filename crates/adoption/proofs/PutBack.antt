-- A thread's way to the pages, where pages in hand are put back.
use Rattle.std.proofs.Common.{◌≡◌, ℕ, ◌-◌, Option, Some, None, Result, Ok, Err, refl, sym, ap, ◌∙◌}
use Rattle.store_model.specs.declared.fault.Fault.{Fault}
use Rattle.page_ops.specs.Desks.{Desk}
use Rattle.smo.specs.Splits.{desk_after}

made_out : (d : Desk) (r : Result (Option ℕ) Fault) → (desk_after d r).out ≡ d.out
made_out d (Ok (Some child)) = refl
made_out d (Ok None) = refl
made_out d (Err f) = refl

made_faults : (d : Desk) (r : Result (Option ℕ) Fault) → (desk_after d r).faults ≡ d.faults
made_faults d (Ok (Some child)) = refl
made_faults d (Ok None) = refl
made_faults d (Err f) = refl

one_less : (d d' : Desk) (n m : ℕ) → d.out ≡ n → d' ≡ record d { out = d.out - 1 } → m ≡ n - 1 → d'.out ≡ m
one_less d d' n m had back less = ap (λ (x : Desk). x.out) back ∙ ap (λ (k : ℕ). k - 1) had ∙ sym less

-- one page, and two
pub back_faults : (d d' : Desk) → d' ≡ record d { out = d.out - 1 } → d'.faults ≡ d.faults
back_faults d d' back = ap (λ (x : Desk). x.faults) back

pub back_one : (d d' : Desk) → d.out ≡ 1 → d' ≡ record d { out = d.out - 1 } → d'.out ≡ 0
back_one d d' had back = one_less d d' 1 0 had back refl

pub back_two : (d d' d'' : Desk) → d.out ≡ 2 → d' ≡ record d { out = d.out - 1 } → d'' ≡ record d' { out = d'.out - 1 } → d''.out ≡ 0
back_two d d' d'' had back back' = one_less d' d'' 1 0 (one_less d d' 2 1 had back refl) back' refl

-- behind a call that may have made one
pub after_out : (d d' : Desk) (r : Result (Option ℕ) Fault) (n : ℕ) → d.out ≡ n → d' ≡ desk_after d r → d'.out ≡ n
after_out d d' r n had is = ap (λ (x : Desk). x.out) is ∙ made_out d r ∙ had

pub after_faults : (d d' : Desk) (r : Result (Option ℕ) Fault) → d' ≡ desk_after d r → d'.faults ≡ d.faults
after_faults d d' r is = ap (λ (x : Desk). x.faults) is ∙ made_faults d r
