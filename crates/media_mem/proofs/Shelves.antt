-- Objects, and what their names stand for.
use Rattle.std.proofs.Common.{Bool, true, false, true≢false, ◌&&◌, eqb-true, eq-eqb, ◌≡◌, ⊎_elim, ℕ, zero, suc, ◌+◌, ◌<◌, List, [], ◌∷◌, ◌++◌, length, take, get_or, set, refl, sym, ◌∙◌, ap, subst, arith}
use Rattle.std.specs.Prelude.{if◌then◌else◌, map}
use Rattle.std.proofs.lemmas.Bool.{and_parts, cases_Bool}
use Rattle.store_model.specs.declared.object.ObjectName.{ObjectName}
use Rattle.store_model.specs.declared.object.ObjectKind.{ObjectKind}
use Rattle.store_model.specs.declared.object.ObjectKind.TheVariants.{Run, Backup}
use Rattle.media.specs.Objects.{Stored, Absent, MayLeave, synced}
use Rattle.media_mem.specs.declared.vault.State.{State}
use Rattle.media_mem.specs.declared.vault.State.TheVariants as states
use Rattle.media_mem.specs.Shelf.{Held, HasNone, IsFirst, left_object, left_state, same_kind, same_name, stands_for, stored, synced_object, synced_state}

same_kind_is : (a b : ObjectKind) → same_kind a b ≡ true → a ≡ b
same_kind_is Run Run e = refl
same_kind_is Run Backup e = absurd (true≢false (sym e))
same_kind_is Backup Run e = absurd (true≢false (sym e))
same_kind_is Backup Backup e = refl

same_kind_self : (a : ObjectKind) → same_kind a a ≡ true
same_kind_self Run = refl
same_kind_self Backup = refl

pub same_is : (a b : ObjectName) → same_name a b ≡ true → a ≡ b
same_is a b e =
    let kind = and_parts _ _ e in
    let rest = and_parts _ _ kind.1 in
    let k = same_kind_is a.kind b.kind kind.0 in
    let i = eqb-true a.id b.id rest.0 in
    let p = eqb-true a.part b.part rest.1 in
    λ j. record { kind = k j; id = i j; part = p j }

pub same_self : (a : ObjectName) → same_name a a ≡ true
same_self a =
    let id = eq-eqb a.id a.id refl in
    let part = eq-eqb a.part a.part refl in
    (λ j. same_kind_self a.kind j && (id j && part j))

pub differs : (a b : ObjectName) → (b ≡ a → ⊥) → same_name a b ≡ false
differs a b ne = ⊎_elim (λ e. absurd (ne (sym (same_is a b e)))) (λ e. e) (cases_Bool (same_name a b))

-- an if by its test
pub taken : {A : Type 0} (b : Bool) (x y : A) → b ≡ true → (if b then x else y) ≡ x
taken true x y e = refl
taken false x y e = absurd (true≢false (sym e))

pub passed : {A : Type 0} (b : Bool) (x y : A) → b ≡ false → (if b then x else y) ≡ y
passed true x y e = absurd (true≢false e)
passed false x y e = refl

pub first_at : (name : ObjectName) (os : List Held) (i : ℕ) (o : Held) → HasNone name (take i os) → i < length os → o ≡ get_or os i o → same_name o.name name ≡ true → IsFirst name i os
first_at name [] i o none lt is same = absurd (omega (arith, lt))
first_at name (p ∷ os) zero o none lt is same = subst (λ (x : Held). same_name x.name name ≡ true) is same
first_at name (p ∷ os) (suc i) o none lt is same = (none.0, first_at name os i o none.1 (omega (arith, lt)) is same)

pub none_more : (name : ObjectName) (os : List Held) (i : ℕ) (o : Held) → HasNone name (take i os) → i < length os → o ≡ get_or os i o → same_name o.name name ≡ false → HasNone name (take (i + 1) os)
none_more name [] i o none lt is other = absurd (omega (arith, lt))
none_more name (p ∷ os) zero o none lt is other = (subst (λ (x : Held). same_name x.name name ≡ false) is other, tt)
none_more name (p ∷ os) (suc i) o none lt is other =
    let one : suc (i + 1) ≡ suc i + 1 = omega arith in
    subst (λ n. HasNone name (take n (p ∷ os))) one (none.0, none_more name os i o none.1 (omega (arith, lt)) is other)

pub first_stored : (name : ObjectName) (os : List Held) (i : ℕ) (o : Held) → IsFirst name i os → o ≡ get_or os i o → stored os name ≡ stands_for o.state o.bytes
first_stored name [] i o first is = absurd first
first_stored name (p ∷ os) zero o first is = taken _ _ _ first ∙ ap (λ (x : Held). stands_for x.state x.bytes) (sym is)
first_stored name (p ∷ os) (suc i) o first is = passed _ _ _ first.0 ∙ first_stored name os i o first.1 is

pub none_stored : (name : ObjectName) (os : List Held) → HasNone name os → stored os name ≡ Absent
none_stored name [] none = refl
none_stored name (o ∷ os) none = passed _ _ _ none.0 ∙ none_stored name os none.1

-- another object takes the place of the first with its name
pub set_stored : (name : ObjectName) (os : List Held) (i : ℕ) (o : Held) → IsFirst name i os → o.name ≡ name → stored (set os i o) name ≡ stands_for o.state o.bytes
set_stored name [] i o first is = absurd first
set_stored name (p ∷ os) zero o first is = taken _ _ _ (ap (λ n. same_name n name) is ∙ same_self name)
set_stored name (p ∷ os) (suc i) o first is = passed _ _ _ first.0 ∙ set_stored name os i o first.1 is

pub set_others : (name other : ObjectName) (os : List Held) (i : ℕ) (o : Held) → IsFirst name i os → o.name ≡ name → (other ≡ name → ⊥) → stored (set os i o) other ≡ stored os other
set_others name other [] i o first is ne = absurd first
set_others name other (p ∷ os) zero o first is ne =
    passed _ _ _ (ap (λ n. same_name n other) is ∙ differs name other ne) ∙ sym (passed _ _ _ (ap (λ n. same_name n other) (same_is p.name name first) ∙ differs name other ne))
set_others name other (p ∷ os) (suc i) o first is ne =
    ap (λ (s : Stored). if same_name p.name other then stands_for p.state p.bytes else s) (set_others name other os i o first.1 is ne)

-- an object joins those with other names
pub push_stored : (name : ObjectName) (os : List Held) (o : Held) → HasNone name os → o.name ≡ name → stored (os ++ o ∷ []) name ≡ stands_for o.state o.bytes
push_stored name [] o none is = taken _ _ _ (ap (λ n. same_name n name) is ∙ same_self name)
push_stored name (p ∷ os) o none is = passed _ _ _ none.0 ∙ push_stored name os o none.1 is

pub push_others : (name other : ObjectName) (os : List Held) (o : Held) → o.name ≡ name → (other ≡ name → ⊥) → stored (os ++ o ∷ []) other ≡ stored os other
push_others name other [] o is ne = passed _ _ _ (ap (λ n. same_name n other) is ∙ differs name other ne)
push_others name other (p ∷ os) o is ne = ap (λ (s : Stored). if same_name p.name other then stands_for p.state p.bytes else s) (push_others name other os o is ne)

-- all are synced
pub synced_stored : (os : List Held) (name : ObjectName) → stored (map synced_object os) name ≡ synced (stored os name)
synced_stored [] name = refl
synced_stored (o ∷ os) name = one (same_name o.name name) o.state o.bytes _ _ (synced_stored os name)
  where
    one : (b : Bool) (s : State) (bytes : List ℕ) (x y : Stored) → x ≡ synced y → (if b then stands_for (synced_state s) bytes else x) ≡ synced (if b then stands_for s bytes else y)
    one true states.Absent bytes x y e = refl
    one true states.Unsynced bytes x y e = refl
    one true states.Synced bytes x y e = refl
    one false s bytes x y e = e

-- the machine has stopped and started
pub left_stored : (os : List Held) (name : ObjectName) → MayLeave (stored os name) (stored (map left_object os) name)
left_stored [] name = refl
left_stored (o ∷ os) name = one (same_name o.name name) o.state o.bytes _ _ (left_stored os name)
  where
    one : (b : Bool) (s : State) (bytes : List ℕ) (x y : Stored) → MayLeave x y → MayLeave (if b then stands_for s bytes else x) (if b then stands_for (left_state s) bytes else y)
    one true states.Absent bytes x y m = refl
    one true states.Unsynced bytes x y m = tt
    one true states.Synced bytes x y m = refl
    one false s bytes x y m = m

pub bytes_stand : (s : State) (bytes bytes2 : List ℕ) → bytes ≡ bytes2 → stands_for s bytes ≡ stands_for s bytes2
bytes_stand s bytes bytes2 e = ap (stands_for s) e
