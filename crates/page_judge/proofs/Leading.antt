-- A page, if it has an image.
use Rattle.std.proofs.Common.{◌≡◌, ℕ, zero, suc, ◌<◌, ◌≤◌, List, [], ◌∷◌, length, get_or, Option, Some, None, Bool, refl, sym, ap, subst, ◌∙◌, arith}
use Rattle.std.specs.Prelude.{◌↔◌, IsTrue, false, not, slice_get}
use Rattle.std.specs.List.{list_any}
use Rattle.std.specs.Option.{option_map, option_map_or}
use Rattle.store_model.proofs.Bools.{not_true}
use Rattle.wal_record.specs.Images.{OnPage}
use Rattle.wal_record.specs.Legal.{IsCrowded}
use Rattle.wal_record.specs.declared.page.BranchRow.{BranchRow}
use Rattle.wal_record.specs.declared.page.LeafRow.{LeafRow}
use Rattle.wal_record.specs.declared.page.Rows.{Rows}
use Rattle.wal_record.specs.declared.page.Rows.TheVariants.{Leaf}
use Rattle.page_judge.specs.Splitting.{is_tombstone, key_at, low_at}
use Rattle.wal_record.specs.declared.page.PageState.{PageState}

some_state : PageState → Option PageState → PageState
some_state d None = d
some_state d (Some s) = s

module _ (P : PageState → Type 0) (o : Option PageState) where
  pub on_some : (s : PageState) → o ≡ Some s → OnPage P o ↔ P s
  unfolding some_state
  on_some s e = (λ h. subst P (ap (some_state s) (sym h.1 ∙ e)) h.2, λ p. (s, e, p))

  pub on_none : o ≡ None → IsTrue false ↔ OnPage P o
  on_none e = (λ is. absurd (cc is), λ h. (let none : Some h.0 ≡ None = sym h.1 ∙ e in absurd (cc none)))

-- ---- where rows begin

get_here : {A : Type 0} (xs : List A) (i : ℕ) (x : A) → i < length xs → x ≡ get_or xs i x → slice_get xs i ≡ Some x
get_here [] i x lt is = absurd (omega (arith, lt))
get_here (y ∷ xs) zero x lt is = ap (λ (z : _). Some z) (sym is)
get_here (y ∷ xs) (suc i) x lt is = get_here xs i x (omega (arith, lt)) is

get_past : {A : Type 0} (xs : List A) (i : ℕ) → length xs ≤ i → slice_get xs i ≡ None
get_past [] i le = refl
get_past (y ∷ xs) zero le = absurd (omega (arith, le))
get_past (y ∷ xs) (suc i) le = get_past xs i (omega (arith, le))

module _ (low : Option (List ℕ)) (b : Bool) (i : ℕ) where
  pub key_here : (rows : List LeafRow) (x : LeafRow) → i < length rows → x ≡ get_or rows i x → IsTrue b ↔ (low ≡ Some x.key) → IsTrue b ↔ (low ≡ key_at rows i)
  key_here rows x lt is e = subst (λ (o : Option (List ℕ)). IsTrue b ↔ (low ≡ o)) (sym (ap (option_map (λ (row : LeafRow). row.key)) (get_here rows i x lt is))) e

  pub key_past : (rows : List LeafRow) → length rows ≤ i → IsTrue b ↔ (low ≡ None) → IsTrue b ↔ (low ≡ key_at rows i)
  key_past rows le e = subst (λ (o : Option (List ℕ)). IsTrue b ↔ (low ≡ o)) (sym (ap (option_map (λ (row : LeafRow). row.key)) (get_past rows i le))) e

  pub low_here : (rows : List BranchRow) (x : BranchRow) → i < length rows → x ≡ get_or rows i x → IsTrue b ↔ (low ≡ x.low) → IsTrue b ↔ (low ≡ low_at rows i)
  low_here rows x lt is e = subst (λ (o : Option (List ℕ)). IsTrue b ↔ (low ≡ o)) (sym (ap (λ (o : Option BranchRow). option_map_or (λ (row : BranchRow). row.low) o None) (get_here rows i x lt is))) e

  pub low_past : (rows : List BranchRow) → length rows ≤ i → IsTrue b ↔ (low ≡ None) → IsTrue b ↔ (low ≡ low_at rows i)
  low_past rows le e = subst (λ (o : Option (List ℕ)). IsTrue b ↔ (low ≡ o)) (sym (ap (λ (o : Option BranchRow). option_map_or (λ (row : BranchRow). row.low) o None) (get_past rows i le))) e

pub crowded_leaf : (s : PageState) (rows : List LeafRow) (b : Bool) → s.rows ≡ Leaf rows → b ≡ list_any is_tombstone rows → IsTrue (not b) ↔ IsCrowded s.rows s
crowded_leaf s rows b is e = subst (λ (r : Rows). IsTrue (not b) ↔ IsCrowded r s) (sym is) (λ t. sym e ∙ not_true b t, λ none. ap not (e ∙ none))
