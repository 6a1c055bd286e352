-- The page that a chain's records make of a base.
use Rattle.std.proofs.Common.{◌≡◌, ℕ, ◌≤◌, Bool, true, false, List, [], ◌∷◌, reverse, Option, Some, None, refl, sym, ap, subst, ◌∙◌, arith, take}
use Rattle.std.proofs.lemmas.List.{reverse-append}
use Rattle.wal_record.specs.Chains.{names_at}
use Rattle.std.specs.Prelude.{IfSome}
use Rattle.wal_record.specs.State.{KeepsState}
use Rattle.wal_record.specs.Images.{image}
use Rattle.wal_record.specs.Sound.{AreLawful}
use Rattle.wal_record.specs.declared.page.PageState.{PageState}
use Rattle.wal_record.specs.declared.record.Record.{Record}
use Rattle.page_image.specs.declared.sealed.Sealed.{Sealed}
use Rattle.page_repair.specs.Chains.{IsUnknown}
use Rattle.chain_laws.specs.Steps.{named_between}
use Rattle.chain_laws.specs.Walks.{redone, AreApplicable, RebuildLaw}
use Rattle.chain_laws.proofs.Named.{no_image, lawful_taken}
use Rattle.chain_laws.proofs.Steps.{heads}
use Rattle.chain_laws.proofs.Walks.{rebuilt}
use Rattle.page_repair.specs.Rebuild.{base_lsn, base_state, IsBaseOf, IsChainOf, IsPageOf, Replayed}

twice : (rs : List Record) → reverse (reverse rs) ≡ rs
twice [] = refl
twice (r ∷ rs) = ap reverse (reverse-append (r ∷ []) rs) ∙ reverse-append (reverse rs) (r ∷ []) ∙ ap (λ (xs : List Record). r ∷ xs) (twice rs)

base_low : (answers : List Record → Type 0) (p high : ℕ) (base : Option Sealed) → IfSome base (IsBaseOf answers p high) → base_lsn base ≤ high
base_low answers p high None h = omega arith
base_low answers p high (Some x) h = h.before

base_image : (answers : List Record → Type 0) (p high : ℕ) (base : Option Sealed) → IfSome base (IsBaseOf answers p high) → (log : List Record) → answers log → image (take (base_lsn base) log) p ≡ base_state base
base_image answers p high None h log a = no_image p
base_image answers p high (Some x) h log a = h.image log a

module _ (log : List Record) (p low high : ℕ) (lawful : AreLawful log) (named : names_at log high p ≡ true) (l : low ≤ high) (old : Option PageState) (is : image (take low log) p ≡ old) (rs : List Record) (found : rs ≡ reverse (named_between log p low high)) where
  turned : reverse rs ≡ named_between log p low high
  turned = ap reverse found ∙ twice (named_between log p low high)

  law : RebuildLaw log p low high
  law = rebuilt log p low high

  pub can : AreApplicable p old (reverse rs)
  can = subst (AreApplicable p old) (sym turned) (subst (λ (s : Option PageState). AreApplicable p s (named_between log p low high)) is (law.applicable lawful l))

  pub cannot : (new : Option PageState) → Replayed p (reverse rs) old new false → ⊥
  cannot new h = h can

  pub made : (new : Option PageState) → Replayed p (reverse rs) old new true → image (take high log) p ≡ new
  made new h = law.folds l ∙ ap (λ (s : Option PageState). redone p s (named_between log p low high)) is ∙ sym (ap (redone p old) turned) ∙ sym h

  pub some : (new : Option PageState) → Replayed p (reverse rs) old new true → new ≡ None → ⊥
  some new h none =
      let up_to = heads (take high log) p in
      let zero = up_to.made (lawful_taken log high lawful) (made new h ∙ none) in
      let here = (heads log p).headed high named in
      by high named (sym here ∙ zero)
    where
      by : (n : ℕ) → names_at log n p ≡ true → n ≡ 0 → ⊥
      by n t z = let t0 : names_at log 0 p ≡ true = subst (λ (m : ℕ). names_at log m p ≡ true) z t in cc

module _ (answers : List Record → Type 0) (p high : ℕ) (chain : IsChainOf answers p high) (base : Option Sealed) (h : IfSome base (IsBaseOf answers p high)) (low : ℕ) (low_is : low ≡ base_lsn base)
    (old : Option PageState) (old_is : old ≡ base_state base) (rs : List Record) (found : (log : List Record) → answers log → rs ≡ reverse (named_between log p low high)) where
  low_within : low ≤ high
  low_within = let l = base_low answers p high base h in omega (arith, l, low_is)

  from : (log : List Record) → answers log → image (take low log) p ≡ old
  from log a = ap (λ (n : ℕ). image (take n log) p) low_is ∙ base_image answers p high base h log a ∙ sym old_is

  pub unknown_if_not : (new : Option PageState) (done : Bool) → done ≡ false → Replayed p (reverse rs) old new done → IsUnknown answers
  unknown_if_not new done is replayed log a =
      cannot log p low high (chain.lawful log a) (chain.named log a) low_within old (from log a) rs (found log a) new (subst (Replayed p (reverse rs) old new) is replayed)

  pub unknown_if_none : (new : Option PageState) (done : Bool) → done ≡ true → Replayed p (reverse rs) old new done → new ≡ None → IsUnknown answers
  unknown_if_none new done is replayed none log a =
      some log p low high (chain.lawful log a) (chain.named log a) low_within old (from log a) rs (found log a) new (subst (Replayed p (reverse rs) old new) is replayed) none

  pub page_is : (new : Option PageState) (done : Bool) (s : PageState) → done ≡ true → Replayed p (reverse rs) old new done → IfSome new KeepsState → new ≡ Some s → IsPageOf answers p high (record { state = s; lsn = high })
  page_is new done s is replayed keeps is_s = record {
    keeps = let k : IfSome (Some s) KeepsState = subst (λ (o : Option PageState). IfSome o KeepsState) is_s keeps in k;
    lsn = refl;
    image = λ log a. made log p low high (chain.lawful log a) (chain.named log a) low_within old (from log a) rs (found log a) new (subst (Replayed p (reverse rs) old new) is replayed) ∙ is_s;
  }
