-- Items one after the other, each read in sight of those before it: the loop that reads them, and that they are a field.
use Rattle.std.proofs.Common.{◌≡◌, ℕ, zero, suc, ◌+◌, ◌-◌, ◌<◌, ◌≤◌, List, [], ◌∷◌, ◌++◌, length, Ok, Err, refl, sym, ap, subst, ◌∙◌, append_assoc, arith}
use Rattle.std.specs.Prelude.{flat_map, Bool}
use Rattle.std.specs.Int.{Width}
use Rattle.std.proofs.lemmas.List.{append-nil}
use Rattle.store_model.specs.Along.{AllFrom, AllAlong}
use Rattle.wal_record.specs.Spelling.{number_bytes, list_bytes}
use Rattle.wal_record.specs.Reading.{Read, ◌>>=◌, number_at, items_at, list_at}
use Rattle.state_codec.specs.declared.fault.FieldFault.{FieldFault}
use Rattle.state_codec.specs.declared.fault.FieldFault.TheVariants.{Memory, Bad}
use Rattle.state_codec.specs.Gives.{Fails}
use Rattle.state_codec.proofs.Fields.{IsField, IsBytes, Takes, Takes-then, Takes-shorter, bind_ok, ok_is, within_bind}

module _ {A : Type 0} (one_at : List A → List ℕ → Read A) where
  -- ---- the loop

  pub goes_on : (before : List A) (count i : ℕ) (bytes : List ℕ) (x : A) (rest : List ℕ) (total : Read (List A)) → i < count → one_at before bytes ≡ Ok (x, rest)
      → items_at one_at (count - i) before bytes ≡ total → items_at one_at (count - (i + 1)) (before ++ x ∷ []) rest ≡ total
  unfolding items_at
  goes_on before count i bytes x rest total lt is so_far =
      let k : count - i ≡ suc (count - (i + 1)) = omega arith in
      let one : items_at one_at (suc (count - (i + 1))) before bytes ≡ items_at one_at (count - (i + 1)) (before ++ x ∷ []) rest =
      ap (λ (r : Read A). r >>= λ y. items_at one_at (count - (i + 1)) (before ++ y.0 ∷ []) y.1) is in
      sym one ∙ sym (ap (λ (n : ℕ). items_at one_at n before bytes) k) ∙ so_far

  pub ends : (e : FieldFault) (before : List A) (count i : ℕ) (bytes : List ℕ) (total : Read (List A)) → i < count → Fails e (one_at before bytes) → items_at one_at (count - i) before bytes ≡ total → Fails e total
  unfolding items_at
  ends Memory before count i bytes total lt is so_far = tt
  ends (Bad left) before count i bytes total lt is so_far =
      let k : count - i ≡ suc (count - (i + 1)) = omega arith in
      let one : items_at one_at (suc (count - (i + 1))) before bytes ≡ Err left = ap (λ (r : Read A). r >>= λ y. items_at one_at (count - (i + 1)) (before ++ y.0 ∷ []) y.1) is in
      sym so_far ∙ ap (λ (n : ℕ). items_at one_at n before bytes) k ∙ one

  pub is_done : (before : List A) (count i : ℕ) (bytes : List ℕ) (total : Read (List A)) → count ≤ i → items_at one_at (count - i) before bytes ≡ total → total ≡ Ok (before, bytes)
  unfolding items_at
  is_done before count i bytes total le so_far = let k : count - i ≡ 0 = omega arith in sym so_far ∙ ap (λ (n : ℕ). items_at one_at n before bytes) k

  -- ---- as a field

  module _ (spell : A → List ℕ) (P : List A → A → Type 0) (one : (before : List A) → IsField (one_at before) spell (P before)) where
    -- what was read behind these items
    record Reads (n : ℕ) (before : List A) (bytes : List ℕ) (y : List A × List ℕ) : Type 0 where
      items : List A
      is : y.0 ≡ before ++ items
      count : length items ≡ n
      takes : Takes bytes (flat_map spell items) y.1
      fits : AllFrom P before items

    items_take : (n : ℕ) (before : List A) (bytes : List ℕ) (y : List A × List ℕ) → IsBytes bytes → items_at one_at n before bytes ≡ Ok y → Reads n before bytes y
    unfolding items_at
    items_take zero before bytes y fits e = record {
      items = [];
      is = ap (λ (z : List A × List ℕ). z.0) (sym (ok_is (before, bytes) y e)) ∙ sym (append-nil before);
      count = refl;
      takes = subst (λ (z : List A × List ℕ). Takes bytes [] z.1) (ok_is (before, bytes) y e) (record { parts = refl; rest_fits = fits });
      fits = tt;
    }
    items_take (suc n) before bytes y fits e =
        let b = bind_ok (one_at before bytes) (λ x. items_at one_at n (before ++ x.0 ∷ []) x.1) y e in
        let t = (one before).takes bytes b.0 fits b.1 in
        let more = items_take n (before ++ b.0.0 ∷ []) b.0.1 y t.0.rest_fits b.2 in
        record {
          items = b.0.0 ∷ more.items;
          is = more.is ∙ append_assoc before (b.0.0 ∷ []) more.items;
          count = ap suc more.count;
          takes = Takes-then bytes (spell b.0.0) b.0.1 (flat_map spell more.items) y.1 t.0 more.takes;
          fits = (t.1, more.fits);
        }

    items_again : (xs before : List A) (rest : List ℕ) → AllFrom P before xs → items_at one_at (length xs) before (flat_map spell xs ++ rest) ≡ Ok (before ++ xs, rest)
    unfolding items_at
    items_again [] before rest fits = ap (λ (ys : List A). let r : Read (List A) = Ok (ys, rest) in r) (sym (append-nil before))
    items_again (x ∷ xs) before rest fits =
        ap (λ (t : List ℕ). one_at before t >>= λ y. items_at one_at (length xs) (before ++ y.0 ∷ []) y.1) (append_assoc (spell x) (flat_map spell xs) rest)
        ∙ ap (λ (r : Read A). r >>= λ y. items_at one_at (length xs) (before ++ y.0 ∷ []) y.1) ((one before).again x (flat_map spell xs ++ rest) fits.0)
        ∙ items_again xs (before ++ x ∷ []) rest fits.1
        ∙ ap (λ (ys : List A). let r : Read (List A) = Ok (ys, rest) in r) (append_assoc before (x ∷ []) xs)

    items_within : (n : ℕ) (before : List A) (bytes : List ℕ) (left : ℕ) → IsBytes bytes → items_at one_at n before bytes ≡ Err left → left ≤ length bytes
    unfolding items_at
    items_within zero before bytes left fits e = absurd cc
    items_within (suc n) before bytes left fits e =
        within_bind (one_at before bytes) (λ x. items_at one_at n (before ++ x.0 ∷ []) x.1) left (length bytes) e
        (λ d h. (one before).within bytes d fits h)
        (λ x h g.
        let t = (one before).takes bytes x fits h in
        let shorter = Takes-shorter bytes (spell x.0) x.1 t.0 in
        let le = items_within n (before ++ x.0 ∷ []) x.1 left t.0.rest_fits g in
        omega arith)

    -- a count and that many items
    pub list_field : (w : Width) (rule : ℕ → Bool) (Counts : ℕ → Type 0) → IsField (number_at w rule) (number_bytes w) Counts → IsField (list_at w rule one_at) (list_bytes w spell) (λ xs. Counts (length xs) × AllAlong P xs)
    unfolding list_at list_bytes number_bytes AllAlong
    list_field w rule Counts counted = record {
      takes = λ bytes y fits e.
          let b = bind_ok (number_at w rule bytes) (λ n. items_at one_at n.0 [] n.1) y e in
          let t = counted.takes bytes b.0 fits b.1 in
          let more = items_take b.0.0 [] b.0.1 y t.0.rest_fits b.2 in
          let made = Takes-then bytes (number_bytes w b.0.0) b.0.1 (flat_map spell more.items) y.1 t.0 more.takes in
          let counts : Takes bytes (number_bytes w (length more.items) ++ flat_map spell more.items) y.1 × Counts (length more.items) =
          subst (λ (n : ℕ). Takes bytes (number_bytes w n ++ flat_map spell more.items) y.1 × Counts n) (sym more.count) (made, t.1) in
          subst (λ (xs : List A). Takes bytes (list_bytes w spell xs) y.1 × (Counts (length xs) × AllAlong P xs)) (sym more.is) (counts.0, (counts.1, more.fits));
      again = λ xs rest fits.
          ap (λ (t : List ℕ). number_at w rule t >>= λ n. items_at one_at n.0 [] n.1) (append_assoc (number_bytes w (length xs)) (flat_map spell xs) rest)
          ∙ ap (λ (r : Read ℕ). r >>= λ n. items_at one_at n.0 [] n.1) (counted.again (length xs) (flat_map spell xs ++ rest) fits.0)
          ∙ items_again xs [] rest fits.1;
      within = λ bytes left fits e.
          within_bind (number_at w rule bytes) (λ n. items_at one_at n.0 [] n.1) left (length bytes) e
          (λ d h. counted.within bytes d fits h)
          (λ x h g.
          let t = counted.takes bytes x fits h in
          let shorter = Takes-shorter bytes (number_bytes w x.0) x.1 t.0 in
          let le = items_within x.0 [] x.1 left t.0.rest_fits g in
          omega arith);
    }
