-- How long the record of a group is: no longer than 8,192 bytes.
use Rattle.std.proofs.Common.{◌≡◌, ℕ, suc, ◌+◌, ◌*◌, ◌≤◌, true, false, List, [], ◌∷◌, ◌++◌, length, Option, Some, None, refl, ap, ◌∙◌, arith, length-append, nat_le}
use Rattle.std.specs.Prelude.{flat_map}
use Rattle.std.specs.List.{sum_by}
use Rattle.std.specs.Int.{w8, w16, w32, w64, to_be_bytes}
use Rattle.std.proofs.lemmas.Bool.{leb-true}
use Rattle.std.proofs.lemmas.List.Sums.{sum_by-cons}
use Rattle.log_manager.specs.Payload.{bytes_of}
use Rattle.page_ops.specs.Groups.{Each}
use Rattle.store_model.proofs.Bools.{both_true}
use Rattle.wal_record.specs.Checkpoints.{is_checkpoint}
use Rattle.wal_record.specs.Rules.{HasSpelling, is_maybe_value}
use Rattle.wal_record.specs.Spelling.{number_bytes, text_bytes, value_bytes, maybe_bytes, list_bytes, flag_of, foster_bytes, leaf_row_bytes, branch_row_bytes, rows_bytes, state_bytes, page_lsn_bytes, spelling}
use Rattle.wal_record.specs.State.{is_key, is_text, text_of, leaf_row_size, branch_row_size, rows_size, high_size, foster_size, state_size, KeepsState}
use Rattle.wal_record.specs.declared.page.Foster.{Foster}
use Rattle.wal_record.specs.declared.page.LeafRow.{LeafRow}
use Rattle.wal_record.specs.declared.page.BranchRow.{BranchRow}
use Rattle.wal_record.specs.declared.page.PageState.{PageState}
use Rattle.wal_record.specs.declared.page.Rows.{Rows}
use Rattle.wal_record.specs.declared.page.Rows.TheVariants.{Leaf, Branch}
use Rattle.wal_record.specs.declared.record.PageLsn.{PageLsn}
use Rattle.wal_record.specs.declared.record.Record.{Record}
use Rattle.wal_record.specs.declared.record.Record.TheVariants as kinds

-- ---- fields

len64 : (n : ℕ) → length (number_bytes w64 n) ≡ 8
unfolding number_bytes
len64 n = refl

len32 : (n : ℕ) → length (number_bytes w32 n) ≡ 4
unfolding number_bytes
len32 n = refl

len8 : (n : ℕ) → length (number_bytes w8 n) ≡ 1
unfolding number_bytes
len8 n = refl

len_text : (xs : List ℕ) → length (text_bytes xs) ≡ suc (length xs)
unfolding text_bytes
len_text xs = refl

len_value : (xs : List ℕ) → length (value_bytes xs) ≡ 2 + length xs
unfolding value_bytes
len_value xs = length-append (to_be_bytes w16 (length xs)) xs

module _ {A : Type 0} (f : A → List ℕ) where
  len_none : length (maybe_bytes f None) ≡ 1
  unfolding maybe_bytes
  len_none = refl

  len_some : (x : A) → length (maybe_bytes f (Some x)) ≡ suc (length (f x))
  unfolding maybe_bytes
  len_some x = refl

  len_list8 : (xs : List A) → length (list_bytes w8 f xs) ≡ 1 + length (flat_map f xs)
  unfolding list_bytes
  len_list8 xs = length-append (to_be_bytes w8 (length xs)) (flat_map f xs)

  len_list16 : (xs : List A) → length (list_bytes w16 f xs) ≡ 2 + length (flat_map f xs)
  unfolding list_bytes
  len_list16 xs = length-append (to_be_bytes w16 (length xs)) (flat_map f xs)

  -- items of these sizes
  flat_size : (size : A → ℕ) → ((x : A) → length (f x) ≡ size x) → (xs : List A) → length (flat_map f xs) ≡ sum_by size xs
  flat_size size is [] = refl
  flat_size size is (x ∷ xs) = let e = length-append (f x) (flat_map f xs) in let o = is x in let r = flat_size size is xs in let s = sum_by-cons size x xs in omega (arith, e, o, r, s)

  flat_each : (k : ℕ) → ((x : A) → length (f x) ≡ k) → (xs : List A) → length (flat_map f xs) ≡ k * length xs
  flat_each k is [] = omega arith
  flat_each k is (x ∷ xs) = let e = length-append (f x) (flat_map f xs) in let o = is x in let r = flat_each k is xs in omega (arith, e, o, r)

joined : (xs ys : List ℕ) (m n : ℕ) → length xs ≤ m → length ys ≤ n → length (xs ++ ys) ≤ m + n
joined xs ys m n h g = let e = length-append xs ys in omega (arith, e, h, g)

most64 : (n : ℕ) → length (number_bytes w64 n) ≤ 8
most64 n = let e = len64 n in omega (arith, e)

most32 : (n : ℕ) → length (number_bytes w32 n) ≤ 4
most32 n = let e = len32 n in omega (arith, e)

most8 : (n : ℕ) → length (number_bytes w8 n) ≤ 1
most8 n = let e = len8 n in omega (arith, e)

most_text : (t : List ℕ) → is_text t ≡ true → length (text_bytes t) ≤ 65
most_text t is = let e = len_text t in let k = leb-true (length t) 64 is in omega (arith, e, k)

most_key : (t : List ℕ) → is_key t ≡ true → length (text_bytes t) ≤ 65
most_key t is = let e = len_text t in let k = leb-true (length t) 64 (both_true (nat_le 1 (length t)) (nat_le (length t) 64) is).1 in omega (arith, e, k)

most_maybe : (v : Option (List ℕ)) → is_maybe_value v ≡ true → length (maybe_bytes value_bytes v) ≤ 259
most_maybe None is = let e = len_none value_bytes in omega (arith, e)
most_maybe (Some t) is = let e = len_some value_bytes t in let o = len_value t in let k = leb-true (length t) 256 is in omega (arith, e, o, k)

-- ---- states

leaf_row_is : (row : LeafRow) → length (leaf_row_bytes row) ≡ leaf_row_size row
leaf_row_is row = let e = length-append (text_bytes row.key) (flag_of row.tombstone ∷ value_bytes row.value) in let t = len_text row.key in let v = len_value row.value in omega (arith, e, t, v)

branch_row_is : (row : BranchRow) → length (branch_row_bytes row) ≡ branch_row_size row
branch_row_is row = let e = length-append (text_bytes (text_of row.low)) (number_bytes w32 row.child) in let t = len_text (text_of row.low) in let n = len32 row.child in omega (arith, e, t, n)

rows_is : (rows : Rows) → length (rows_bytes rows) ≡ 2 + rows_size rows
rows_is (Leaf rows) = len_list16 leaf_row_bytes rows ∙ ap (λ n. 2 + n) (flat_size leaf_row_bytes leaf_row_size leaf_row_is rows)
rows_is (Branch rows) = len_list16 branch_row_bytes rows ∙ ap (λ n. 2 + n) (flat_size branch_row_bytes branch_row_size branch_row_is rows)

high_is : (high : Option (List ℕ)) → length (maybe_bytes text_bytes high) ≡ high_size high
high_is None = len_none text_bytes
high_is (Some t) = let e = len_some text_bytes t in let o = len_text t in omega (arith, e, o)

foster_is : (f : Option Foster) → length (maybe_bytes foster_bytes f) ≡ foster_size f
foster_is None = len_none foster_bytes
foster_is (Some f) = let e = len_some foster_bytes f in let a = length-append (text_bytes f.key) (number_bytes w32 f.child) in let t = len_text f.key in let n = len32 f.child in omega (arith, e, a, t, n)

state_is : (s : PageState) → length (state_bytes s) ≡ state_size s
unfolding state_bytes
state_is s =
    let a = number_bytes w8 s.level ++ text_bytes (text_of s.low) in
    let b = a ++ maybe_bytes text_bytes s.high in
    let c = b ++ maybe_bytes foster_bytes s.foster in
    let n1 = length-append (number_bytes w8 s.level) (text_bytes (text_of s.low)) in
    let n2 = length-append a (maybe_bytes text_bytes s.high) in
    let n3 = length-append b (maybe_bytes foster_bytes s.foster) in
    let n4 = length-append c (rows_bytes s.rows) in
    omega (arith, n1, n2, n3, n4, len8 s.level, len_text (text_of s.low), high_is s.high, foster_is s.foster, rows_is s.rows)

most_state : (s : PageState) → KeepsState s → length (state_bytes s) ≤ 4051
most_state s k = let e = state_is s in let m = k.size in omega (arith, e, m)

page_lsn_is : (p : PageLsn) → length (page_lsn_bytes p) ≡ 12
page_lsn_is p = let e = length-append (number_bytes w32 p.page) (number_bytes w64 p.lsn) in omega (arith, e, len32 p.page, len64 p.lsn)

-- ---- records

pub record_size : (r : Record) → HasSpelling r → is_checkpoint r ≡ false → length (spelling r) ≤ 8192
record_size (kinds.Format r) k plain = let m = most32 r.limit in omega (arith, m)
record_size (kinds.Write w) k plain =
    let a = joined _ _ _ _ (most64 w.tx) (most64 w.prev) in
    let b = joined _ _ _ _ a (most32 w.page) in
    let c = joined _ _ _ _ b (most64 w.page_prev) in
    let d = joined _ _ _ _ c (most_key w.key k.key) in
    let e = joined _ _ _ _ d (most_maybe w.old k.old) in
    let f = joined _ _ _ _ e (most_maybe w.new k.new) in
    omega (arith, f)
record_size (kinds.Apply w) k plain =
    let a = joined _ _ _ _ (most64 w.tx) (most64 w.prev) in
    let b = joined _ _ _ _ a (most32 w.page) in
    let c = joined _ _ _ _ b (most64 w.page_prev) in
    let d = joined _ _ _ _ c (most_key w.key k.key) in
    let e = joined _ _ _ _ d (most8 w.operator) in
    let f = joined _ _ _ _ e (most_text w.argument k.argument) in
    let g = joined _ _ _ _ f (most_maybe w.old k.old) in
    omega (arith, g)
record_size (kinds.Undo w) k plain =
    let a = joined _ _ _ _ (most64 w.tx) (most64 w.prev) in
    let b = joined _ _ _ _ a (most32 w.page) in
    let c = joined _ _ _ _ b (most64 w.page_prev) in
    let d = joined _ _ _ _ c (most_key w.key k.key) in
    let e = joined _ _ _ _ d (most_maybe w.restores k.restores) in
    let f = joined _ _ _ _ e (most64 w.undo_next) in
    omega (arith, f)
record_size (kinds.Commit c) k plain = let a = joined _ _ _ _ (most64 c.tx) (most64 c.prev) in omega (arith, a)
record_size (kinds.End c) k plain = let a = joined _ _ _ _ (most64 c.tx) (most64 c.prev) in omega (arith, a)
record_size (kinds.Split s) k plain =
    let a = joined _ _ _ _ (most32 s.page) (most64 s.page_prev) in
    let b = joined _ _ _ _ a (most32 s.child) in
    let c = joined _ _ _ _ b (most_state s.child_state k.child_state) in
    omega (arith, c)
record_size (kinds.Adopt x) k plain =
    let a = joined _ _ _ _ (most32 x.parent) (most64 x.parent_prev) in
    let b = joined _ _ _ _ a (most32 x.fosterer) in
    let c = joined _ _ _ _ b (most64 x.fosterer_prev) in
    let d = joined _ _ _ _ c (most32 x.child) in
    let e = joined _ _ _ _ d (most_key x.key k.key) in
    omega (arith, e)
record_size (kinds.Grow g) k plain =
    let a = joined _ _ _ _ (most64 g.page_prev) (most32 g.child) in
    let b = joined _ _ _ _ a (most_state g.child_state k.child_state) in
    omega (arith, b)
record_size (kinds.Purge g) k plain = let a = joined _ _ _ _ (most32 g.page) (most64 g.page_prev) in omega (arith, a)
record_size (kinds.Written w) k plain = let a = joined _ _ _ _ (most32 w.page) (most64 w.lsn) in omega (arith, a)
record_size (kinds.Checkpoint c) k plain = absurd (cc plain)
record_size (kinds.BackupDone b) k plain =
    let a = joined _ _ _ _ (most64 b.backup) (most32 b.segment) in
    let items = flat_each page_lsn_bytes 12 page_lsn_is b.pages in
    let list = len_list8 page_lsn_bytes b.pages in
    let few : length b.pages ≤ 16 = leb-true (length b.pages) 16 (both_true (nat_le 1 (length b.pages)) (nat_le (length b.pages) 16) k.pages_count).1 in
    let most : length (list_bytes w8 page_lsn_bytes b.pages) ≤ 193 = omega (arith, items, list, few) in
    let c = joined _ _ _ _ a most in
    omega (arith, c)
record_size (kinds.RunDone d) k plain =
    let a = joined _ _ _ _ (most64 d.run) (most64 d.first) in
    let b = joined _ _ _ _ a (most64 d.last) in
    omega (arith, b)
record_size (kinds.Lost l) k plain = let m = most32 l.pages in omega (arith, m)
record_size (kinds.Restored r) k plain = let m = most32 r.segment in omega (arith, m)

-- two records at most
pub group_size : (recs : List Record) → length recs ≤ 2 → Each HasSpelling recs → Each (λ r. is_checkpoint r ≡ false) recs → length (bytes_of recs) ≤ 4194304
group_size [] few k plain = omega arith
group_size (r ∷ []) few k plain = let e = length-append (spelling r) (bytes_of []) in let a = record_size r k.0 plain.0 in omega (arith, e, a)
group_size (r ∷ q ∷ []) few k plain =
    let e = length-append (spelling r) (bytes_of (q ∷ [])) in
    let f = length-append (spelling q) (bytes_of []) in
    let a = record_size r k.0 plain.0 in
    let b = record_size q k.1.0 plain.1.0 in
    omega (arith, e, f, a, b)
group_size (r ∷ q ∷ x ∷ rs) few k plain = absurd (omega (arith, few))
