-- Sessions by name, in a list.
use Rattle.std.proofs.Common.{◌≡◌, ℕ, zero, suc, ◌<◌, true, false, List, [], ◌∷◌, take, drop, Some, None, Result, Ok, Err, refl, sym, ap, subst, ◌∙◌}
use Rattle.std.specs.Prelude.{OnErr, is_ok, position, remove, slice_get, slice_index_or, slice_set}
use Rattle.std.specs.List.{All}
use Rattle.std.proofs.lemmas.List.Elements.{All-append, All-drop, All-get_or, All-set, All-take}
use Rattle.std.proofs.lemmas.Option.{get_or_from_slice_get, slice_get-get_or, slice_get_within}
use Rattle.std.proofs.lemmas.List.Quantifiers.{position-Some}
use Rattle.script.specs.Word.{same_text}
use Rattle.store_model.specs.declared.fault.Fault.{Fault}
use Rattle.command_laws.specs.Names.{Active, active_of}
use Rattle.engine.specs.Sittings.{Sitting}
use Rattle.command_laws.proofs.Names.{found, kept, removed, unknown}
use Rattle.store_life.specs.SoFar.{HasTransaction, active_by, actives, left_by}
use Rattle.store_life.specs.declared.life.Named.{Named}

pub has_one : {N : Type 0} (items : List (Named N)) (place : ℕ) (named : Named N) → slice_get items place ≡ Some named → All HasTransaction items → HasTransaction named
has_one items place named is all = subst HasTransaction (get_or_from_slice_get items place named named is) (All-get_or HasTransaction items place named (slice_get_within items place named is) all)

-- a session that has the same transaction, in its place
module _ {N : Type 0} (items : List (Named N)) (place : ℕ) (named : Named N) (is : slice_get items place ≡ Some named) (s : Sitting) (session : s.claim.session ≡ named.session.claim.session) (tx : s.claim.tx ≡ named.session.claim.tx) where
  pub same_actives : actives (slice_set items place (record named { session = s })) ≡ actives items
  same_actives = kept active_by items place named (record named { session = s }) is (λ i. record { name = named.name; session = session i; tx = tx i })

  pub same_transactions : All HasTransaction items → All HasTransaction (slice_set items place (record named { session = s }))
  same_transactions all = All-set HasTransaction items place (record named { session = s }) (subst (λ (n : ℕ). 0 < n) (sym tx) (has_one items place named is all)) all

pub left_transactions : {N : Type 0} (items : List (Named N)) (place : ℕ) → All HasTransaction items → All HasTransaction (remove items place)
left_transactions items place all = All-append HasTransaction (take place items) (drop (suc place) items) (All-take HasTransaction place items all) (All-drop HasTransaction (suc place) items all)

-- ---- the session of a name

removed_set : {X : Type 0} (xs : List X) (i : ℕ) (y : X) → remove (slice_set xs i y) i ≡ remove xs i
removed_set [] i y = refl
removed_set (x ∷ xs) zero y = refl
removed_set (x ∷ xs) (suc i) y = ap (λ (l : List _). x ∷ l) (removed_set xs i y)

module _ {N : Type 0} (items : List (Named N)) (name : List ℕ) (place : ℕ) (named : Named N) (at : position (λ (n : Named N). same_text name n.name) items ≡ Some place) (is : named ≡ slice_index_or items place named) where
  pub at_place : slice_get items place ≡ Some named
  at_place =
      let first = position-Some (λ (n : Named N). same_text name n.name) items place named at in
      slice_get-get_or items place named first.0 ∙ ap (λ (n : Named N). Some n) (sym is)

  pub here : active_of (actives items) name ≡ Some (active_by named)
  here = found active_by name items place named at at_place

  pub not_unknown : active_of (actives items) name ≡ None → ⊥
  not_unknown none = let two : Some (active_by named) ≡ None = sym here ∙ none in cc

  pub is_it : (a : Active) → active_of (actives items) name ≡ Some a → active_by named ≡ a
  is_it a e = let two : Some (active_by named) ≡ Some a = sym here ∙ e in cc

  -- behind a session whose transaction is over, the others are left
  pub left_over : {T : Type 0} (r : Result T Fault) (y : Named N) (left : List (Named N)) → is_ok r ≡ true → left ≡ remove (slice_set items place y) place → actives left ≡ left_by r (actives items) name
  left_over (Ok x) y left ok now = ap actives (now ∙ removed_set items place y) ∙ sym (removed active_by name items place named at at_place)
  left_over (Err f) y left ok now = absurd (cc ok)

  pub left_there : {T : Type 0} (r : Result T Fault) (s : Sitting) → is_ok r ≡ false → s.claim.session ≡ named.session.claim.session → OnErr r (s.claim.tx ≡ named.session.claim.tx)
      → actives (slice_set items place (record named { session = s })) ≡ left_by r (actives items) name
  left_there (Ok x) s ok session tx = absurd (cc ok)
  left_there (Err f) s ok session tx = same_actives items place named at_place s session tx

pub no_one : {N : Type 0} (items : List (Named N)) (name : List ℕ) → position (λ (n : Named N). same_text name n.name) items ≡ None → (a : Active) → active_of (actives items) name ≡ Some a → ⊥
no_one items name at a e = let two : None ≡ Some a = sym (unknown active_by name items at) ∙ e in cc
