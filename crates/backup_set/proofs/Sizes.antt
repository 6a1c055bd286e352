-- How long an image is.
use Rattle.std.proofs.Common.{◌≡◌, ℕ, ◌+◌, ◌-◌, ◌≤◌, List, [], ◌∷◌, ◌++◌, length, Option, Some, None, refl, ◌∙◌, arith}
use Rattle.std.specs.Prelude.{flat_map, replicate}
use Rattle.std.specs.List.{fold}
use Rattle.std.specs.Int.{w8}
use Rattle.std.proofs.lemmas.List.{length-append, length-replicate}
use Rattle.sha2.proofs.Facts256.{length-sha256}
use Rattle.wal_record.specs.State.{KeepsState, text_of, leaf_row_size, branch_row_size, rows_size, high_size, foster_size, state_size}
use Rattle.wal_record.specs.Spelling.{number_bytes, text_bytes, value_bytes, maybe_bytes, list_bytes, foster_bytes, leaf_row_bytes, branch_row_bytes, rows_bytes, state_bytes}
use Rattle.wal_record.specs.declared.page.PageState.{PageState}
use Rattle.wal_record.specs.declared.page.LeafRow.{LeafRow}
use Rattle.wal_record.specs.declared.page.BranchRow.{BranchRow}
use Rattle.wal_record.specs.declared.page.Foster.{Foster}
use Rattle.wal_record.specs.declared.page.Rows.{Rows}
use Rattle.wal_record.specs.declared.page.Rows.TheVariants.{Leaf, Branch}
use Rattle.page_image.specs.Image.{head_bytes, padded, body_bytes, image_bytes}

sizes : {A : Type 0} (f : A → List ℕ) (size : A → ℕ) → ((x : A) → length (f x) ≡ size x) → (a : ℕ) (xs : List A) → fold (λ n y. n + size y) a xs ≡ a + length (flat_map f xs)
sizes f size same a [] = omega arith
sizes f size same a (x ∷ xs) = sizes f size same (a + size x) xs ∙ (let l = length-append (f x) (flat_map f xs) in let s = same x in omega arith)

leaf_row : (row : LeafRow) → length (leaf_row_bytes row) ≡ leaf_row_size row
unfolding text_bytes value_bytes
leaf_row row = simp length-append (omega arith)

branch_row : (row : BranchRow) → length (branch_row_bytes row) ≡ branch_row_size row
unfolding text_bytes number_bytes
branch_row row = simp length-append (omega arith)

rows_length : (rows : Rows) → length (rows_bytes rows) ≡ 2 + rows_size rows
unfolding list_bytes
rows_length (Leaf rows) = let s = sizes leaf_row_bytes leaf_row_size leaf_row 0 rows in simp length-append (omega arith)
rows_length (Branch rows) = let s = sizes branch_row_bytes branch_row_size branch_row 0 rows in simp length-append (omega arith)

high_length : (high : Option (List ℕ)) → length (maybe_bytes text_bytes high) ≡ high_size high
unfolding maybe_bytes text_bytes
high_length None = omega arith
high_length (Some t) = omega arith

foster_length : (foster : Option Foster) → length (maybe_bytes foster_bytes foster) ≡ foster_size foster
unfolding maybe_bytes text_bytes number_bytes
foster_length None = omega arith
foster_length (Some f) = simp length-append (omega arith)

low_length : (t : List ℕ) → length (text_bytes t) ≡ 1 + length t
unfolding text_bytes
low_length t = omega arith

level_length : (n : ℕ) → length (number_bytes w8 n) ≡ 1
unfolding number_bytes
level_length n = refl

pub length-state : (s : PageState) → length (state_bytes s) ≡ state_size s
unfolding state_bytes
length-state s =
    let a = level_length s.level in
    let b = low_length (text_of s.low) in
    let c = high_length s.high in
    let d = foster_length s.foster in
    let e = rows_length s.rows in
    simp length-append (omega arith)

front_length : (page lsn : ℕ) → length (head_bytes page lsn) ≡ 13
unfolding number_bytes
front_length page lsn = simp length-append

pub length-image : (page lsn : ℕ) (s : PageState) → KeepsState s → length (image_bytes page lsn s) ≡ 4096
unfolding body_bytes
length-image page lsn s keeps =
    let front : List ℕ = head_bytes page lsn ++ state_bytes s in
    let a = length-append (head_bytes page lsn) (state_bytes s) in
    let b = front_length page lsn in
    let c = length-state s in
    let room : state_size s ≤ 4051 = keeps.size in
    let d = length-replicate {A = ℕ} (4064 - length front) 0 in
    let body : length (padded front) ≡ 4064 = length-append front (replicate (4064 - length front) 0) ∙ omega arith in
    length-append _ (padded front) ∙ omega (arith, length-sha256 (padded front))
