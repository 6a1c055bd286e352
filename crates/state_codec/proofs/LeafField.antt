-- The rows of a leaf are a field: what is read keeps the rules of rows, and rows that keep them are read again.
use Rattle.std.proofs.Common.{◌≡◌, ℕ, ◌+◌, ◌≤◌, ◌<◌, ◌^◌, zero, suc, Bool, true, false, List, [], ◌∷◌, ◌++◌, length, Ok, Err, refl, sym, subst, ◌∙◌, arith}
use Rattle.std.specs.Prelude.{IsTrue}
use Rattle.std.specs.List.{sum_by}
use Rattle.std.specs.Int.{w16}
use Rattle.std.proofs.lemmas.List.{append-nil}
use Rattle.store_model.specs.Along.{AllAlong}
use Rattle.store_model.specs.Range.{Interval}
use Rattle.wal_record.specs.State.{is_key, is_value, leaf_row_size}
use Rattle.wal_record.specs.Spelling.{number_bytes, text_bytes, value_bytes, list_bytes, flag_of, leaf_row_bytes}
use Rattle.wal_record.specs.Reading.{Read, ◌>>=◌, kept, number_at, key_follows, row_key_at, flag_at, value_suits, row_value_at, in_room, leaf_row_at, is_row_count, list_at}
use Rattle.wal_record.specs.declared.page.LeafRow.{LeafRow}
use Rattle.state_codec.proofs.Fields.{IsField, IsBytes, Takes, ok_is, err_is, step, done, respelled, number_field, wide16}
use Rattle.state_codec.proofs.FieldKinds.{a_key, a_value, kept_field}
use Rattle.state_codec.proofs.Items.{list_field}

-- ---- a rule behind the reading of more than one field

pub kept_bind : {A B : Type 0} (rule : B → Bool) (bytes : List ℕ) (r : Read A) (f : A × List ℕ → Read B) → kept rule bytes (r >>= f) ≡ (r >>= λ x. kept rule bytes (f x))
kept_bind rule bytes (Ok x) f = refl
kept_bind rule bytes (Err left) f = refl

pub moved : {A : Type 0} {at at' : List ℕ → Read A} {spell : A → List ℕ} {Fits : A → Type 0} → ((bytes : List ℕ) → at bytes ≡ at' bytes) → IsField at spell Fits → IsField at' spell Fits
moved same field = record {
  takes = λ bytes x fits e. field.takes bytes x fits (same bytes ∙ e);
  again = λ x rest fits. sym (same _) ∙ field.again x rest fits;
  within = λ bytes left fits e. field.within bytes left fits (same bytes ∙ e);
}

-- ---- a flag

pub a_flag : IsField flag_at (λ b. flag_of b ∷ []) (λ b. Unit {0})
unfolding flag_at
a_flag = record { takes = takes; again = again; within = within }
  where
    takes : (bytes : List ℕ) (x : Bool × List ℕ) → IsBytes bytes → flag_at bytes ≡ Ok x → Takes bytes (flag_of x.0 ∷ []) x.1 × Unit {0}
    takes [] x fits e = absurd cc
    takes (zero ∷ rest) x fits e = (subst (λ (z : Bool × List ℕ). Takes (0 ∷ rest) (flag_of z.0 ∷ []) z.1) (ok_is (false, rest) x e) (record { parts = refl; rest_fits = λ i. fits (suc i) }), tt)
    takes (suc zero ∷ rest) x fits e = (subst (λ (z : Bool × List ℕ). Takes (1 ∷ rest) (flag_of z.0 ∷ []) z.1) (ok_is (true, rest) x e) (record { parts = refl; rest_fits = λ i. fits (suc i) }), tt)
    takes (suc (suc b) ∷ rest) x fits e = absurd cc

    again : (b : Bool) (rest : List ℕ) → Unit {0} → flag_at ((flag_of b ∷ []) ++ rest) ≡ Ok (b, rest)
    again false rest fits = refl
    again true rest fits = refl

    within : (bytes : List ℕ) (left : ℕ) → IsBytes bytes → flag_at bytes ≡ Err left → left ≤ length bytes
    within [] left fits e = let same : 0 ≡ left = err_is {A = Bool × List ℕ} 0 left e in omega arith
    within (zero ∷ rest) left fits e = absurd cc
    within (suc zero ∷ rest) left fits e = absurd cc
    within (suc (suc b) ∷ rest) left fits e = let same : suc (length rest) ≡ left = err_is {A = Bool × List ℕ} (suc (length rest)) left e in omega arith

-- ---- a count of rows

pub a_row_count : (level : ℕ) → IsField (number_at w16 (is_row_count level)) (number_bytes w16) (λ n. IsTrue (is_row_count level n) × (n < 2 ^ 16))
a_row_count level = number_field w16 (2 ^ 16) wide16 (is_row_count level) (λ n. IsTrue (is_row_count level n) × (n < 2 ^ 16)) (λ n lt h. (h, lt)) (λ n h. h)

-- ---- a row

module _ (part : Interval) (used : ℕ) where
  row_key : (before : List LeafRow) → IsField (row_key_at part before) text_bytes (λ k. IsTrue (is_key k) × IsTrue (key_follows part before k))
  unfolding row_key_at
  row_key before = kept_field (key_follows part before) a_key

  row_value : (tombstone : Bool) → IsField (row_value_at tombstone) value_bytes (λ v. IsTrue (is_value v) × IsTrue (value_suits tombstone v))
  unfolding row_value_at
  row_value tombstone = kept_field (value_suits tombstone) a_value

  body : List LeafRow → List ℕ → Read LeafRow
  body before bytes = do
    key ← row_key_at part before bytes
    flag ← flag_at key.1
    value ← row_value_at flag.0 flag.1
    Ok (record { key = key.0; tombstone = flag.0; value = value.0 }, value.1)

  abbrev pub LeafFits : List LeafRow → LeafRow → Type 0
  LeafFits before r = (IsTrue (is_key r.key) × IsTrue (key_follows part before r.key)) × ((IsTrue (is_value r.value) × IsTrue (value_suits r.tombstone r.value)) × IsTrue (in_room (used + sum_by leaf_row_size before) (leaf_row_size r)))

  body_field : (before : List LeafRow) → IsField (body before) leaf_row_bytes (λ r. (IsTrue (is_key r.key) × IsTrue (key_follows part before r.key)) × (IsTrue (is_value r.value) × IsTrue (value_suits r.tombstone r.value)))
  unfolding body
  body_field before = respelled
      (step (row_key before) (λ (r : LeafRow). r.key) (λ r. Unit {0}) (λ r. IsTrue (is_key r.key) × IsTrue (key_follows part before r.key)) _ (λ r _ h. h) (λ r _ h. h) _ _ (λ key _.
      (step a_flag (λ (r : LeafRow). r.tombstone) (λ r. (Unit {0}) × (r.key ≡ key)) (λ r. Unit {0}) _ (λ r _ h. h) (λ r _ h. h) _ _ (λ tombstone _.
      (step (row_value tombstone) (λ (r : LeafRow). r.value) (λ r. ((Unit {0}) × (r.key ≡ key)) × (r.tombstone ≡ tombstone)) (λ r. IsTrue (is_value r.value) × IsTrue (value_suits r.tombstone r.value)) (λ r. Unit {0})
      (λ r c h. subst (λ (b : Bool). IsTrue (is_value r.value) × IsTrue (value_suits b r.value)) (sym c.1) h) (λ r c h. subst (λ (b : Bool). IsTrue (is_value r.value) × IsTrue (value_suits b r.value)) c.1 h) _ _ (λ value _.
      done (record { key = key; tombstone = tombstone; value = value }) (λ r. (((Unit {0}) × (r.key ≡ key)) × (r.tombstone ≡ tombstone)) × (r.value ≡ value)) (((tt, refl), refl), refl) (λ r h. λ i. record { key = sym h.0.0.1 i; tombstone = sym h.0.1 i; value = sym h.1 i })))))))
      (λ r. simp append-nil)
      (λ r h. (h.1.0, h.1.1.1.0))
      (λ r h. (tt, (h.0, (tt, (h.1, tt)))))

  row_is : (before : List LeafRow) (bytes : List ℕ) → kept (λ row. in_room (used + sum_by leaf_row_size before) (leaf_row_size row)) bytes (body before bytes) ≡ leaf_row_at part used before bytes
  unfolding body leaf_row_at
  row_is before bytes =
      let rule : LeafRow → Bool = λ row. in_room (used + sum_by leaf_row_size before) (leaf_row_size row) in
      kept_bind rule bytes (row_key_at part before bytes) _ ∙ (λ i. row_key_at part before bytes >>= λ key.
      (kept_bind rule bytes (flag_at key.1) (λ flag. row_value_at flag.0 flag.1 >>= λ value. Ok (record { key = key.0; tombstone = flag.0; value = value.0 }, value.1)) ∙ (λ j. flag_at key.1 >>= λ flag.
      kept_bind rule bytes (row_value_at flag.0 flag.1) (λ value. Ok (record { key = key.0; tombstone = flag.0; value = value.0 }, value.1)) j)) i)

  leaf_row_item : (before : List LeafRow) → IsField (leaf_row_at part used before) leaf_row_bytes (LeafFits before)
  leaf_row_item before = moved (row_is before)
      (respelled (kept_field (λ row. in_room (used + sum_by leaf_row_size before) (leaf_row_size row)) (body_field before)) (λ r. refl) (λ r h. (h.0.0, (h.0.1, h.1))) (λ r h. ((h.0, h.1.0), h.1.1)))

  pub leaf_rows_field : (level : ℕ) → IsField (list_at w16 (is_row_count level) (leaf_row_at part used)) (list_bytes w16 leaf_row_bytes) (λ rows. (IsTrue (is_row_count level (length rows)) × (length rows < 2 ^ 16)) × AllAlong LeafFits rows)
  leaf_rows_field level = list_field (leaf_row_at part used) leaf_row_bytes LeafFits leaf_row_item w16 (is_row_count level) (λ n. IsTrue (is_row_count level n) × (n < 2 ^ 16)) (a_row_count level)
