-- Calls of a life one after the other: what they make of it together, and which pages are then dirty.
use Rattle.std.proofs.Common.{◌≡◌, ℕ, ◌+◌, ◌<◌, ◌≤◌, List, [], ◌∷◌, sym, ap, Option, Some, None, Bool, true, false, Result, Ok, Err, refl, ltb-true, ◌∙◌, arith, inl, inr}
use Rattle.std.specs.Prelude.{◌⊎◌, ◌==◌, ◌||◌, IfErr, OnOk, is_some}
use Rattle.std.specs.List.{list_any}
use Rattle.std.proofs.Math.Dec.{ltb}
use Rattle.std.proofs.lemmas.Bool.{ltb-false}
use Rattle.media.specs.Cause.{Rose}
use Rattle.store_model.specs.declared.fault.Fault.{Fault}
use Rattle.store_model.specs.declared.fault.Fault.TheVariants as faults
use Rattle.wal_record.specs.declared.record.Record.{Record}
use Rattle.page_ops.specs.Seeing.{Calls}
use Rattle.log_laws.proofs.Central.{eqb_self}
use Rattle.store_model.proofs.Bools.{or_left, or_right}
use Rattle.store_pages.specs.Pages.{AllBut, IsNextRedone, IsNextWritten, OneLess, OthersStay}
use Rattle.own_life.specs.State.{BreaksOff, CallsGoOn, Fails, FailsOver, FailsToFlush, GoesOn, LifeState}

-- ---- how they leave the life

calls_then : (failed : Type 0) (x y z : Calls) → CallsGoOn ⊥ x y → CallsGoOn failed y z → CallsGoOn failed x z
calls_then failed x y z a b =
    let r = a.refused in
    let r' = b.refused in
    let o = a.own in
    let o' = b.own in
    record {
      unarmed = λ none. let first = a.unarmed none in let then = b.unarmed first.0 in (then.0, then.1 ∙ first.1);
      refused = omega (arith, r, r');
      own = omega (arith, o, o');
      cause = λ f. rose (b.cause f);
    }
  where
    then_rose : (k l m : ℕ) → k ≤ l → Rose l m → Rose k m
    then_rose k l m more up = omega (arith, more, up)

    rose : Rose y.own z.own ⊎ Rose y.refused z.refused → Rose x.own z.own ⊎ Rose x.refused z.refused
    rose (inl h) = inl (then_rose x.own y.own z.own a.own h)
    rose (inr h) = inr (then_rose x.refused y.refused z.refused a.refused h)

pub goes_self : (x : LifeState) → x.ended ≡ None → GoesOn x x
goes_self x none = record {
  ended = none;
  later = omega arith;
  calls = record { unarmed = λ is. (is, refl); refused = omega arith; own = omega arith; cause = λ no. absurd no };
}

pub goes_then : (x y z : LifeState) → GoesOn x y → GoesOn y z → GoesOn x z
goes_then x y z a b =
    let l = a.later in
    let l' = b.later in
    record { ended = b.ended; later = omega (arith, l, l'); calls = calls_then ⊥ x.calls y.calls z.calls a.calls b.calls }

module _ (opens : List Record → Type 0) (x y z : LifeState) (a : GoesOn x y) where
  breaks_then : BreaksOff opens y z → BreaksOff opens x z
  breaks_then b =
      let l = a.later in
      let l' = b.later in
      record { at = b.at; ended = b.ended; later = omega (arith, l, l'); durable = b.durable; calls = calls_then (Unit {0}) x.calls y.calls z.calls a.calls b.calls }

  pub fails_then : (f : Fault) → Fails opens y z f → Fails opens x z f
  fails_then faults.Memory b = goes_then x y z a b
  fails_then faults.LogFault b = breaks_then b
  fails_then (faults.LogBad block byte) b = (goes_then x y z a b.0, b.1)
  fails_then _ b = absurd b

  -- of faults of the vault too, of which so many were counted
  pub over_then : (v w u : ℕ) → v ≤ w → (f : Fault) → FailsOver opens w u y z f → FailsOver opens v u x z f
  over_then v w u low faults.Memory b = goes_then x y z a b
  over_then v w u low faults.LogFault b = breaks_then b
  over_then v w u low faults.VaultFault b = (goes_then x y z a b.0, let more = b.1 in omega (arith, low, more))
  over_then v w u low (faults.LogBad block byte) b = (goes_then x y z a b.0, b.1)
  over_then v w u low (faults.VaultBad object byte) b = (goes_then x y z a b.0, b.1)
  over_then v w u low _ b = absurd b

  -- of a call that reads no vault
  pub plain_then : (v u : ℕ) (f : Fault) → Fails opens y z f → FailsOver opens v u x z f
  plain_then v u faults.Memory b = goes_then x y z a b
  plain_then v u faults.LogFault b = breaks_then b
  plain_then v u (faults.LogBad block byte) b = (goes_then x y z a b.0, b.1)
  plain_then v u _ b = absurd b

  flush_fails : (f : Fault) → FailsToFlush opens y z f → Fails opens x z f
  flush_fails faults.Memory b = goes_then x y z a b
  flush_fails faults.LogFault b = breaks_then b
  flush_fails _ b = absurd b

  pub flush_then : {T : Type 0} (r : Result T Fault) → IfErr r (FailsToFlush opens y z) → IfErr r (Fails opens x z)
  flush_then (Ok t) b = tt
  flush_then (Err f) b = flush_fails f b

  pub done_then : {T : Type 0} (r : Result T Fault) → OnOk r (GoesOn y z) → OnOk r (GoesOn x z)
  done_then (Ok t) b = goes_then x y z a b
  done_then (Err f) b = tt

-- ---- which pages are dirty

-- none from the first one up to this one
abbrev pub CleanUpto : (ℕ → Type 0) → ℕ → Type 0
CleanUpto dirty upto = (page : ℕ) → 0 < page → page ≤ upto → dirty page → ⊥

pub more_clean : (was is : ℕ → Type 0) (upto page : ℕ) → CleanUpto was upto → ((q : ℕ) → is q → was q) → IsNextWritten is upto (Some page) → CleanUpto is page
more_clean was is upto page clean fewer next q some low dirty = by (ltb upto q) refl
  where
    by : (b : Bool) → ltb upto q ≡ b → ⊥
    by true above = next.1 q (ltb-true upto q above) low dirty
    by false below = clean q some (ltb-false upto q below) (fewer q dirty)

pub all_clean : (was is : ℕ → Type 0) (upto : ℕ) → CleanUpto was upto → ((q : ℕ) → is q → was q) → IsNextWritten is upto None → (page : ℕ) → 0 < page → is page → ⊥
all_clean was is upto clean fewer none q some dirty = by (ltb upto q) refl
  where
    by : (b : Bool) → ltb upto q ≡ b → ⊥
    by true above = none q (ltb-true upto q above) dirty
    by false below = clean q some (ltb-false upto q below) (fewer q dirty)

pub no_more : (o : Option ℕ) → ((page : ℕ) → o ≡ Some page → ⊥) → o ≡ None
no_more None none = refl
no_more (Some page) none = absurd (none page refl)

pub on_ok : {T : Type 0} {Q : Type 0} (r : Result T Fault) → Q → OnOk r Q
on_ok (Ok x) q = q
on_ok (Err f) q = tt

-- ---- pages that are done, one by one

pub all_but_none : (P : ℕ → Type 0) → AllBut 0 P P
all_but_none P = ([], omega arith, λ q is. inl is)

pub all_but_more : (n page : ℕ) (P Q R : ℕ → Type 0) → AllBut n P Q → OthersStay page Q R → AllBut (n + 1) P R
all_but_more n page P Q R a others = (
  page ∷ a.0,
  let few = a.1 in omega (arith, few),
  λ q is. elim (a.2 q is) [
    | inl stays ↦ by q (q == page) (λ i. q == page) stays
    | inr gone ↦ inr (or_right (q == page) (list_any (λ p. q == p) a.0) gone)
  ],
)
  where
    by : (q : ℕ) (b : Bool) → (q == page) ≡ b → Q q → R q ⊎ (((q == page) || list_any (λ p. q == p) a.0) ≡ true)
    by q true same stays = inr (or_left (q == page) (list_any (λ p. q == p) a.0) same)
    by q false other stays = inl (others q (λ same. let two : true ≡ false = sym (ap (λ (m : ℕ). m == page) same ∙ eqb_self page) ∙ other in cc) stays)

pub all_but_within : (n m : ℕ) (P Q : ℕ → Type 0) → n ≤ m → AllBut n P Q → AllBut m P Q
all_but_within n m P Q low a = (a.0, let few = a.1 in omega (arith, few, low), a.2)

-- behind one more page that is redone, or where none awaits it
pub redone_more : (n : ℕ) (P Q R : ℕ → Type 0) (o : Option ℕ) → is_some o ≡ true → AllBut n P Q → IsNextRedone Q R o → AllBut (n + 1) P R
redone_more n P Q R None some a next = absurd (cc some)
redone_more n P Q R (Some page) some a next = all_but_more n page P Q R a next.3

pub redone_all : (n m : ℕ) (P Q R : ℕ → Type 0) (o : Option ℕ) → is_some o ≡ false → n ≤ m → AllBut n P Q → IsNextRedone Q R o → AllBut m P R
redone_all n m P Q R (Some page) none low a next = absurd (cc none)
redone_all n m P Q R None none low a next = (
  a.0,
  let few = a.1 in omega (arith, few, low),
  λ q is. elim (a.2 q is) [
    | inl stays ↦ absurd (next q stays)
    | inr gone ↦ inr gone
  ],
)

pub none_awaited : (Q R : ℕ → Type 0) (o : Option ℕ) → is_some o ≡ false → IsNextRedone Q R o → (q : ℕ) → Q q → ⊥
none_awaited Q R (Some page) none next = absurd (cc none)
none_awaited Q R None none next = next

-- behind one more page that is written, or where none is dirty
pub written_more : (n : ℕ) (P Q R : ℕ → Type 0) (o : Option ℕ) → is_some o ≡ true → AllBut n P Q → OneLess Q R o → AllBut (n + 1) P R
written_more n P Q R None some a one = absurd (cc some)
written_more n P Q R (Some page) some a one = all_but_more n page P Q R a one

pub written_all : (n m : ℕ) (P Q R : ℕ → Type 0) (o : Option ℕ) → is_some o ≡ false → n ≤ m → AllBut n P Q → OneLess Q R o → AllBut m P R
written_all n m P Q R (Some page) none low a one = absurd (cc none)
written_all n m P Q R None none low a one = (
  a.0,
  let few = a.1 in omega (arith, few, low),
  λ q is. elim (a.2 q is) [
    | inl stays ↦ inl (one q stays)
    | inr gone ↦ inr gone
  ],
)
