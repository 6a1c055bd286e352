-- What an answer says, by what it has found.
use Rattle.std.proofs.Common.{◌≡◌, Option, Some, None, Result, Ok, Err, subst}
use Rattle.std.specs.Prelude.{IfErr, IfOk, IfSome, OnOk}
use Rattle.store_model.specs.declared.fault.Fault.{Fault}
use Rattle.adoption.specs.Adoptions.{UnlessAdopted}
use Rattle.adoption.specs.declared.outcome.Adoption.{Adoption}
use Rattle.adoption.specs.declared.outcome.Adoption.TheVariants as adoptions

pub if_found : {T : Type 0} (P Q : T → Type 0) (r : Result (Option T) Fault) → ((x : T) → P x → Q x) → IfOk r (λ found. IfSome found P) → IfOk r (λ found. IfSome found Q)
if_found P Q (Ok (Some x)) f h = f x h
if_found P Q (Ok None) f h = tt
if_found P Q (Err e) f h = tt

pub on_done : {T : Type 0} (P Q : Type 0) (r : Result T Fault) → (P → Q) → OnOk r P → OnOk r Q
on_done P Q (Ok x) f h = f h
on_done P Q (Err e) f h = tt

pub if_fails : {T : Type 0} (P Q : Fault → Type 0) (r : Result T Fault) → ((x : Fault) → P x → Q x) → IfErr r P → IfErr r Q
if_fails P Q (Ok x) f h = tt
if_fails P Q (Err e) f h = f e h

pub unless_room : (P : Type 0) (r : Result Adoption Fault) (free needed : _) → r ≡ Ok (adoptions.NoRoom free needed) → UnlessAdopted r P → P
unless_room P r free needed is h = subst (λ (q : Result Adoption Fault). UnlessAdopted q P) is h

pub if_err : {T : Type 0} (P : Type 0) (r : Result T Fault) → P → IfErr r (λ (fault : Fault). P)
if_err P (Ok x) p = tt
if_err P (Err e) p = p
