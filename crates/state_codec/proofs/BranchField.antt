-- The rows of a branch are a field: what is read keeps the rules of rows, and rows that keep them are read again.
use Rattle.std.proofs.Common.{◌≡◌, ℕ, ◌+◌, ◌<◌, ◌^◌, Bool, List, ◌++◌, length, Option, Some, Ok, Err, refl, sym, ap, subst, ◌∙◌, append_assoc, arith}
use Rattle.std.specs.Prelude.{IsTrue}
use Rattle.std.specs.List.{sum_by}
use Rattle.std.specs.Int.{w16, w32}
use Rattle.store_model.specs.Along.{AllAlong}
use Rattle.store_model.specs.Range.{Interval}
use Rattle.wal_record.specs.State.{is_text, is_child, text_of, branch_row_size}
use Rattle.wal_record.specs.Spelling.{number_bytes, text_bytes, list_bytes, branch_row_bytes}
use Rattle.wal_record.specs.Reading.{Read, ◌>>=◌, kept, number_at, separator_follows, separator_at, in_room, branch_row_at, is_row_count, list_at}
use Rattle.wal_record.specs.declared.page.BranchRow.{BranchRow}
use Rattle.state_codec.proofs.Fields.{IsField, Takes, Takes-then, Takes-shorter, bind_ok, ok_is, within_bind}
use Rattle.state_codec.proofs.FieldKinds.{an_argument, a_child, kept_field}
use Rattle.state_codec.proofs.Items.{list_field}
use Rattle.state_codec.proofs.LeafField.{kept_bind, moved, a_row_count}

module _ (part : Interval) (used : ℕ) where
  separator : (before : List BranchRow) → IsField (separator_at part before) text_bytes (λ k. IsTrue (is_text k) × IsTrue (separator_follows part before k))
  unfolding separator_at
  separator before = kept_field (separator_follows part before) an_argument

  made : List ℕ → ℕ × List ℕ → Read BranchRow
  made key child = Ok (record { low = Some key; child = child.0 }, child.1)

  behind : List ℕ × List ℕ → Read BranchRow
  behind key = number_at w32 is_child key.1 >>= made key.0

  body : List BranchRow → List ℕ → Read BranchRow
  body before bytes = separator_at part before bytes >>= behind

  abbrev BodyFits : List BranchRow → BranchRow → Type 0
  BodyFits before r = (r.low ≡ Some (text_of r.low)) × ((IsTrue (is_text (text_of r.low)) × IsTrue (separator_follows part before (text_of r.low))) × IsTrue (is_child r.child))

  abbrev pub BranchFits : List BranchRow → BranchRow → Type 0
  BranchFits before r = BodyFits before r × IsTrue (in_room (used + sum_by branch_row_size before) (branch_row_size r))

  body_field : (before : List BranchRow) → IsField (body before) branch_row_bytes (BodyFits before)
  unfolding body behind made
  body_field before = record {
    takes = λ bytes x fits e.
        let b = bind_ok (separator_at part before bytes) behind x e in
        let t = (separator before).takes bytes b.0 fits b.1 in
        let c = bind_ok (number_at w32 is_child b.0.1) (made b.0.0) x b.2 in
        let u = a_child.takes b.0.1 c.0 t.0.rest_fits c.1 in
        subst (λ (z : BranchRow × List ℕ). Takes bytes (branch_row_bytes z.0) z.1 × BodyFits before z.0) (ok_is (record { low = Some b.0.0; child = c.0.0 }, c.0.1) x c.2)
        (Takes-then bytes (text_bytes b.0.0) b.0.1 (number_bytes w32 c.0.0) c.0.1 t.0 u.0, (refl, (t.1, u.1)));
    again = λ r rest fits.
        ap (λ (t : List ℕ). separator_at part before t >>= behind) (append_assoc (text_bytes (text_of r.low)) (number_bytes w32 r.child) rest)
        ∙ ap (λ (x : Read (List ℕ)). x >>= behind) ((separator before).again (text_of r.low) (number_bytes w32 r.child ++ rest) fits.1.0)
        ∙ ap (λ (x : Read ℕ). x >>= made (text_of r.low)) (a_child.again r.child rest fits.1.1)
        ∙ ap (λ (low : Option (List ℕ)). let y : Read BranchRow = Ok (record { low = low; child = r.child }, rest) in y) (sym fits.0);
    within = λ bytes left fits e.
        within_bind (separator_at part before bytes) behind left (length bytes) e (λ d h. (separator before).within bytes d fits h) (λ x h g.
        let t = (separator before).takes bytes x fits h in
        let shorter = Takes-shorter bytes (text_bytes x.0) x.1 t.0 in
        within_bind (number_at w32 is_child x.1) (made x.0) left (length bytes) g (λ d k. let le = a_child.within x.1 d t.0.rest_fits k in omega arith) (λ y k f. absurd (never x.0 y left f)));
  }
    where
      never : (key : List ℕ) (y : ℕ × List ℕ) (left : ℕ) → made key y ≡ Err left → ⊥
      never key y left e = absurd cc

  row_is : (before : List BranchRow) (bytes : List ℕ) → kept (λ row. in_room (used + sum_by branch_row_size before) (branch_row_size row)) bytes (body before bytes) ≡ branch_row_at part used before bytes
  unfolding body behind made branch_row_at
  row_is before bytes =
      let rule : BranchRow → Bool = λ row. in_room (used + sum_by branch_row_size before) (branch_row_size row) in
      kept_bind rule bytes (separator_at part before bytes) behind ∙ (λ i. separator_at part before bytes >>= λ key. kept_bind rule bytes (number_at w32 is_child key.1) (made key.0) i)

  branch_row_item : (before : List BranchRow) → IsField (branch_row_at part used before) branch_row_bytes (BranchFits before)
  branch_row_item before = moved (row_is before) (kept_field (λ row. in_room (used + sum_by branch_row_size before) (branch_row_size row)) (body_field before))

  pub branch_rows_field : (level : ℕ) → IsField (list_at w16 (is_row_count level) (branch_row_at part used)) (list_bytes w16 branch_row_bytes) (λ rows. (IsTrue (is_row_count level (length rows)) × (length rows < 2 ^ 16)) × AllAlong BranchFits rows)
  branch_rows_field level = list_field (branch_row_at part used) branch_row_bytes BranchFits branch_row_item w16 (is_row_count level) (λ n. IsTrue (is_row_count level n) × (n < 2 ^ 16)) (a_row_count level)
